use Rattle.vyrd_mover.proofs.Prelude.{◌∙◌, [], map, replicate, ap, sym, subst, step_coded}
use Rattle.vyrd_mover.proofs.Prelude.{words_for, unused, HasTaken}
use Rattle.vyrd_mover.proofs.TakingLaws.{taken_nothing}
use Rattle.vyrd_mover.proofs.checker.BlockChecker.new.Goals as goal

pub invariant_of-result : goal.invariant_of-result
invariant_of-result c =
    let held = c.in_ok-new.ensures.held
    ∙ (λ i. replicate (c.callers.ensures i) (replicate (words_for (c.lock_words.ensures i)) 0)) in
    let cells = c.in_ok-new.ensures.cells ∙ ap (λ n. replicate n unused) c.plain_words.ensures in
    record {
      history = [];
      taken = subst
          (λ steps. HasTaken
          (record { header = c.args.header; uses = c.in_ok-new.field-0; steps = steps }) [])
          (ap (map step_coded) (sym c.new-2.ensures.items))
          (taken_nothing c.args.header c.in_ok-new.field-0 held cells);
    }

pub returns-clause-taken : goal.returns-clause-taken
returns-clause-taken c =
    let held = c.in_ok-new.ensures.held
    ∙ (λ i. replicate (c.callers.ensures i) (replicate (words_for (c.lock_words.ensures i)) 0)) in
    let cells = c.in_ok-new.ensures.cells ∙ ap (λ n. replicate n unused) c.plain_words.ensures in
    rw (← ap (map step_coded) (sym c.new-2.ensures.items))
    (taken_nothing c.args.header c.in_ok-new.field-0 held cells)
