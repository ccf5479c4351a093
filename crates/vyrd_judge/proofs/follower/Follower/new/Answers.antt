use Rattle.vyrd_judge.proofs.Prelude.{refl, ap, sym, ◌∙◌, arith, rules_by, unwatched}
use Rattle.vyrd_base.proofs.HeaderLaws.{few_words}
use Rattle.vyrd_words.proofs.StartWords.{start_few}
use Rattle.vyrd_judge.proofs.FollowerLaws.{first_taken_in}
use Rattle.vyrd_judge.proofs.CostLaws.{owed_first}
use Rattle.vyrd_judge.proofs.follower.Follower.new.Goals as goal

pub returns-clause-taken_in : goal.returns-clause-taken_in
returns-clause-taken_in g c =
    let r = rules_by (g.S.Spec.charter c.args.spec) in
    let named = sym c.requires.spec_header in
    first_taken_in _ r c.args.start.now
    (cc (c.in_ok-replay.ensures.spec)) refl
    (cc (c.requires.state, c.in_ok-replay.ensures.spec))
    c.in_ok-shape.ensures.followed (c.in_ok-shape.ensures.header ∙ named)
    c.in_ok-words.ensures.words (c.in_ok-words.ensures.header ∙ named)
    (c.in_ok-words.ensures.views_header ∙ named)
    (rw (← named) c.in_ok-queue.ensures.queued)
    (ap g.S.Spec.made c.in_ok-replay.ensures.spec ∙ c.requires.made)
    (cc (c.in_ok-replay.ensures.unwatched))
    c.in_ok-queue.ensures.waiting (cc (c.in_ok-words.ensures.first, c.requires.words))
    c.in_ok-words.ensures.since refl refl refl
    (c.in_ok-words.ensures.specified, c.in_ok-words.ensures.sound)
    c.in_ok-replay.replay.few.kept c.in_ok-words.ensures.begun

pub returns-clause-charter : goal.returns-clause-charter
returns-clause-charter g c = ap g.S.Spec.charter c.in_ok-replay.ensures.spec

pub invariant_of-result : goal.invariant_of-result
invariant_of-result g c =
    let named = sym c.requires.spec_header ∙ ap (λ s. (rules_by (g.S.Spec.charter s)).header)
    (sym c.in_ok-replay.ensures.spec) in (
      c.in_ok-shape.ensures.header ∙ named,
      c.in_ok-words.ensures.header ∙ named,
      c.in_ok-queue.ensures.header ∙ named,
      omega (
        arith,
        start_few c.args.header c.args.start.now c.requires.follows,
        few_words
            c.args.header,
      ),
      omega arith,
      c.in_ok-words.ensures.views_header ∙ named,
      c.in_ok-words.ensures.shows,
    )

pub returns-clause-owed : goal.returns-clause-owed
returns-clause-owed g c =
    owed_first g.S.Compared.Compare.price g.S.Spec.most_touched (g.S.Spec.owes c.args.spec)
    (returns-clause-taken_in g c) c.in_ok-shape.ensures.owed
    c.in_ok-words.ensures.pending c.in_ok-words.ensures.rebuilt
    c.in_ok-replay.ensures.owed c.in_ok-queue.ensures.waiting
    (ap g.S.Spec.owes c.in_ok-replay.ensures.spec)
