use Rattle.vyrd_follow.proofs.Prelude.{◌≡◌, ◌+◌, ◌/◌, ap, ◌∙◌, arith, set-get_or, amount_of}
use Rattle.vyrd_follow.proofs.Prelude.{view_of_words, low_size, node_given}
use Rattle.vyrd_follow.proofs.TreeLaws.{node_turned, tree_small}
use Rattle.vyrd_follow.proofs.nodes.amount_after.Goals as goal

module _ (c : goal.After-given_by-gives) where
  turned : c.args.before + c.given_by-gives.result
      ≡ amount_of (view_of_words c.args.header c.args.words.now) c.args.key
      + c.given_by-gave.result
  turned =
      let h = c.args.header in
      let words = c.args.words.now in
      let node = c.args.word / 12 in
      let gives = c.given_by-gives.ensures.given
      ∙ ap (λ ws. node_given c.args.key ws (c.args.word / 12)) (set-get_or words c.args.word 0) in
      omega (
        arith,
        c.requires.before,
        gives,
        c.given_by-gave.ensures.given,
        node_turned h c.args.word c.args.was words c.args.key c.requires.tree
            (omega (arith, c.requires.within)) c.requires.unlinked c.requires.within c.requires.on,
      )

pub overflow_sub-result : goal.overflow_sub-result
overflow_sub-result c = omega (arith, turned c)

pub overflow_add-result : goal.overflow_add-result
overflow_add-result = grind (arith, turned, tree_small, low_size)

pub returns : goal.returns
returns c = omega (arith, turned c)
