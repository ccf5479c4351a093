use Rattle.vyrd_own_check.proofs.Prelude.{◌≡◌, [], ◌++◌, refl, append_assoc, append-nil, ap, subst}
use Rattle.vyrd_own_check.proofs.Prelude.{sym, ◌∙◌, own_text_verdict_so_far, HasChecked, checker_in}
use Rattle.std.proofs.Common.{take-append-drop}
use Rattle.vyrd_own_check.proofs.CheckedLaws.{so_far_is, checked_all, checked_stands, empty_of}
use Rattle.vyrd_own_check.proofs.CostLaws.{first_part, parts_paid, stands_paid, all_paid}
use Rattle.vyrd_own_check.proofs.checker.OwnChecker.feed_counted.Goals as goal

pub loop-rest-init : goal.loop-rest-init
loop-rest-init g c = record {
  read = [];
  parted = refl;
  checked = λ bytes checked. subst (HasChecked (checker_in c.args.self.now))
      (sym (append-nil bytes)) checked;
  works = c.if-self.false;
  limit = refl;
  paid = λ bytes checked. first_part (checker_in c.args.self.now) bytes c.args.steps.now;
}

pub loop-rest-preserved : goal.loop-rest-preserved
loop-rest-preserved g c =
    let read = c.loop-rest.invariant.read in
    let part = c.split_at.result.0.now in
    let after = c.split_at.result.1.now in
    let rest : c.loop-rest.rest.now ≡ part ++ after =
    sym ((λ i. c.split_at.ensures.front i ++ c.split_at.ensures.back i)
    ∙ take-append-drop c.min.result c.loop-rest.rest.now) in
    record {
      read = read ++ part;
      parted = c.loop-rest.invariant.parted ∙ ap (λ xs. read ++ xs) rest
          ∙ sym (append_assoc read part after);
      checked = λ bytes checked. subst (HasChecked (checker_in c.feed_part.new.self))
          (append_assoc bytes read part)
          (c.in_ok-feed_part.ensures.checked (bytes ++ read)
          (c.loop-rest.invariant.checked bytes checked));
      works = c.in_ok-feed_part.ensures.has_failed;
      limit = c.in_ok-feed_part.ensures.limit ∙ c.loop-rest.invariant.limit;
      paid = λ bytes checked. parts_paid (checker_in c.args.self.now) (checker_in c.loop-rest.self)
          (checker_in c.feed_part.new.self) bytes read part (read ++ part) c.args.steps.now
          c.loop-rest.steps c.feed_part.new.steps c.loop-rest.invariant.limit
          (append_assoc bytes read part) (c.loop-rest.invariant.paid bytes checked)
          (c.in_ok-feed_part.ensures.steps (bytes ++ read)
          (c.loop-rest.invariant.checked bytes checked));
    }

pub returns-in-Some-clause-checked : goal.returns-in-Some-clause-checked
returns-in-Some-clause-checked g c = λ bytes checked.
    checked_stands (checker_in c.loop-rest.self) bytes c.args.piece.now c.loop-rest.invariant.read
    c.loop-rest.rest.now c.in-Some.verdict
    c.loop-rest.self.sound.limit c.in-Some.is
    c.loop-rest.invariant.parted (c.loop-rest.invariant.checked bytes checked)

pub returns-in-Some-clause-answer : goal.returns-in-Some-clause-answer
returns-in-Some-clause-answer g c = λ bytes checked.
    sym c.in-Some.is
    ∙ so_far_is (checker_in c.loop-rest.self) (bytes ++ c.args.piece.now)
    (checked_stands (checker_in c.loop-rest.self) bytes c.args.piece.now c.loop-rest.invariant.read
    c.loop-rest.rest.now c.in-Some.verdict
    c.loop-rest.self.sound.limit c.in-Some.is
    c.loop-rest.invariant.parted (c.loop-rest.invariant.checked bytes checked))
    ∙ ap (λ m. own_text_verdict_so_far m (bytes ++ c.args.piece.now)) c.loop-rest.invariant.limit

pub returns-clause-checked : goal.returns-clause-checked
returns-clause-checked g c = λ bytes checked.
    checked_all (checker_in c.loop-rest.self) bytes c.args.piece.now c.loop-rest.invariant.read
    c.loop-rest.rest.now
    c.loop-rest.invariant.parted c.loop-rest-test.ensures
    (c.loop-rest.invariant.checked bytes checked)

pub returns-clause-answer : goal.returns-clause-answer
returns-clause-answer g c = λ bytes checked.
    so_far_is (checker_in c.loop-rest.self) (bytes ++ c.args.piece.now)
    (checked_all (checker_in c.loop-rest.self) bytes c.args.piece.now c.loop-rest.invariant.read
    c.loop-rest.rest.now
    c.loop-rest.invariant.parted c.loop-rest-test.ensures
    (c.loop-rest.invariant.checked bytes checked))
    ∙ ap (λ m. own_text_verdict_so_far m (bytes ++ c.args.piece.now)) c.loop-rest.invariant.limit

pub returns-in-Some-clause-steps : goal.returns-in-Some-clause-steps
returns-in-Some-clause-steps g c = λ bytes checked.
    stands_paid (checker_in c.args.self.now) (checker_in c.loop-rest.self) c.in-Some.verdict bytes
    c.loop-rest.invariant.read c.loop-rest.rest.now c.args.piece.now c.args.steps.now
    c.loop-rest.steps c.args.self.now.sound.limit c.in-Some.is c.loop-rest.invariant.parted
    (c.loop-rest.invariant.paid bytes checked)

pub returns-clause-steps : goal.returns-clause-steps
returns-clause-steps g c = λ bytes checked.
    all_paid (checker_in c.args.self.now) (checker_in c.loop-rest.self) bytes
    c.loop-rest.invariant.read c.loop-rest.rest.now c.args.piece.now c.args.steps.now
    c.loop-rest.steps c.loop-rest.invariant.parted
    (empty_of c.loop-rest.rest.now c.loop-rest-test.ensures)
    (c.loop-rest.invariant.paid bytes checked)
