use Rattle.vyrd_view.proofs.Prelude.{◌≡◌, ℕ, ◌+◌, ◌*◌, ◌/◌, ◌<◌, ◌≤◌, true, false, ◌∷◌, List}
use Rattle.vyrd_view.proofs.Prelude.{length, drop, get_or, ap, sym, ◌∙◌, subst, arith, and-false}
use Rattle.vyrd_view.proofs.Prelude.{drop_all, is_stale, differing}
use Rattle.vyrd_view.proofs.DifferingLaws.{one_differs, one_stays}
use Rattle.vyrd_view.proofs.NodeLaws.{AreNodesFresh, fresh_unmarked, fresh_marked, marked_within}
use Rattle.vyrd_view.proofs.tree.entries_changed.Goals as goal
use Rattle.vyrd_view.proofs.tree.entries_changed.Goals.{then-words-word+then-is_marked+in_ok-put_node}
use Rattle.vyrd_view.proofs.tree.entries_changed.Goals.{else-words-word}
use Rattle.vyrd_view.proofs.tree.entries_changed.Goals.{else-words-word-via-then-words-word+else-is_marked}
use Rattle.vyrd_view.proofs.tree.entries_changed.Goals.{else-words-word-via-else-words-word}

pub loop-word-preserved : goal.loop-word-preserved
loop-word-preserved g c =
    let size = length c.args.marks.now in
    let before = c.args.before.now in
    let words = c.args.words.now in
    let marks = c.args.marks.now in
    let changed = c.args.changed.now in
    let index = c.loop-word.word-index in
    let pairs = c.loop-word.parts.pairs in
    let word = get_or changed index 0 in
    let node = word / 12 in
    let left : List ℕ = differing before words (drop index changed) in
    let rest : List ℕ = differing before words (drop (index + 1) changed) in
    elim c.if-words-word.branch [
      | then-words-word+then-is_marked+in_ok-put_node w ↦
          let now = w.put_node.new.parts in
          let put = w.in_ok-put_node.ensures in
          let more : left ≡ word ∷ rest =
          one_differs before words changed index c.loop-word-test.true w.if-words-word.true in
          let marked : get_or marks node false ≡ true = sym w.is_marked.ensures
          ∙ w.if-is_marked.true in
          let within : node < size = omega (arith, marked_within marks node marked) in
          let fresh : AreNodesFresh size words marks now.pairs rest =
          fresh_marked size words marks pairs now.pairs word rest marked put.below
          (λ j low. put.inside j low ∙ w.decoded_node-entries.ensures.entries j low) put.above
          (subst (AreNodesFresh size words marks pairs) more c.loop-word.invariant.others) in
          record {
            sound = cc (w.parts-is, put.sound);
            specified = cc (w.parts-is, put.specified, c.loop-word.invariant.specified);
            places = cc (w.parts-is, put.places, c.loop-word.invariant.places);
            others = λ m low none. cc (w.parts-is, fresh m low none);
            end = cc (
              w.parts-is,
              put.above (4 * size) (omega (arith, within)),
              c.loop-word.invariant.end,
            );
            counted = omega (
              arith,
              c.loop-word.invariant.counted,
              ap length more,
              w.steps-is,
              put.steps,
              w.decoded_node-entries.ensures.steps,
            );
          }
      | else-words-word w ↦
          let kept : AreNodesFresh size words marks pairs rest × (length rest ≤ length left) =
          elim w.else-words-word.branch [
            | else-words-word-via-then-words-word+else-is_marked w' ↦
                let more : left ≡ word ∷ rest =
                one_differs before words changed index c.loop-word-test.true
                w'.if-words-word.true in (
                  fresh_unmarked size words marks pairs word rest
                      (sym w'.is_marked.ensures ∙ w'.if-is_marked.false)
                      (subst (AreNodesFresh size words marks pairs) more
                      c.loop-word.invariant.others),
                  omega (arith, ap length more),
                )
            | else-words-word-via-else-words-word w' ↦
                let same : left ≡ rest =
                one_stays before words changed index c.loop-word-test.true w'.if-words-word.false in (
                  subst (AreNodesFresh size words marks pairs) same c.loop-word.invariant.others,
                  omega (arith, ap length same),
                )
          ] in
          record {
            sound = cc (w.parts-is, c.loop-word.invariant.sound);
            specified = cc (w.parts-is, c.loop-word.invariant.specified);
            places = cc (w.parts-is, c.loop-word.invariant.places);
            others = λ m low none. cc (w.parts-is, kept.0 m low none);
            end = cc (w.parts-is, c.loop-word.invariant.end);
            counted = omega (arith, c.loop-word.invariant.counted, w.steps-is, kept.1);
          }
    ]

pub returns-clause-nodes : goal.returns-clause-nodes
returns-clause-nodes g c = λ m low. c.loop-word.invariant.others m low
    (ap (λ left. is_stale c.args.marks.now (m / 4)
    (differing c.args.before.now c.args.words.now left))
    (drop_all c.loop-word.word-index c.args.changed.now (omega arith))
    ∙ and-false (get_or c.args.marks.now (m / 4) false))
