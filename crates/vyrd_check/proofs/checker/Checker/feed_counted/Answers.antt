use Rattle.vyrd_check.proofs.Prelude.{◌≡◌, [], ◌++◌, refl, append_assoc, append-nil, ap, subst, sym}
use Rattle.vyrd_check.proofs.Prelude.{◌∙◌, text_verdict_so_far, IsLimit, CheckerState, HasChecked}
use Rattle.std.proofs.Common.{take-append-drop}
use Rattle.vyrd_check.proofs.CostLaws.{first_part, parts_paid, stands_paid, all_paid}
use Rattle.vyrd_check.proofs.CheckedLaws.{so_far_is, checked_all, checked_stands, empty_of}
use Rattle.vyrd_check.proofs.checker.Checker.feed_counted.Goals as goal

pub loop-rest-init : goal.loop-rest-init
loop-rest-init g c = record {
  read = [];
  parted = refl;
  checked = λ bytes checked. subst (HasChecked c.args.self.now) (sym (append-nil bytes)) checked;
  works = ap (λ (k : CheckerState). k.has_failed) (sym c.self.view_is) ∙ c.if-self.false;
  limit = refl;
  paid = λ bytes checked. first_part c.args.self.now bytes c.args.steps.now;
}

pub loop-rest-preserved : goal.loop-rest-preserved
loop-rest-preserved g c =
    let read = c.loop-rest.invariant.read in
    let part = c.split_at.result.0.now in
    let after = c.split_at.result.1.now in
    let rest : c.loop-rest.rest.now ≡ part ++ after =
    sym ((λ i. c.split_at.ensures.front i ++ c.split_at.ensures.back i)
    ∙ take-append-drop c.min.result c.loop-rest.rest.now) in
    record {
      read = read ++ part;
      parted = c.loop-rest.invariant.parted ∙ ap (λ xs. read ++ xs) rest
          ∙ sym (append_assoc read part after);
      checked = λ bytes checked. subst (HasChecked c.feed_part.new.self)
          (append_assoc bytes read part)
          (c.in_ok-feed_part.ensures.checked (bytes ++ read)
          (c.loop-rest.invariant.checked bytes checked));
      works = c.in_ok-feed_part.ensures.has_failed;
      limit = c.in_ok-feed_part.ensures.limit ∙ c.loop-rest.invariant.limit;
      paid = λ bytes checked. parts_paid c.args.self.now c.loop-rest.self c.feed_part.new.self
          bytes read part (read ++ part) c.args.steps.now c.loop-rest.steps c.feed_part.new.steps
          c.loop-rest.invariant.limit (append_assoc bytes read part)
          (c.loop-rest.invariant.paid bytes checked)
          (c.in_ok-feed_part.ensures.steps (bytes ++ read)
          (c.loop-rest.invariant.checked bytes checked));
    }

pub returns-in-Some-clause-checked : goal.returns-in-Some-clause-checked
returns-in-Some-clause-checked g c = λ bytes checked.
    let limit : IsLimit c.loop-rest.self.kept.reader.max_lines =
    subst IsLimit (sym c.loop-rest.invariant.limit)
    (subst (λ (k : CheckerState). IsLimit k.kept.reader.max_lines) c.self.view_is
    c.self.invariant.limit) in
    let there = ap (λ (k : CheckerState). k.so_far) (sym c.self-in-loop-rest.view_is)
    ∙ c.in-Some.is in
    checked_stands c.loop-rest.self bytes c.args.piece.now c.loop-rest.invariant.read
    c.loop-rest.rest.now c.in-Some.verdict limit there
    c.loop-rest.invariant.parted (c.loop-rest.invariant.checked bytes checked)

pub returns-in-Some-clause-answer : goal.returns-in-Some-clause-answer
returns-in-Some-clause-answer g c = λ bytes checked.
    let limit : IsLimit c.loop-rest.self.kept.reader.max_lines =
    subst IsLimit (sym c.loop-rest.invariant.limit)
    (subst (λ (k : CheckerState). IsLimit k.kept.reader.max_lines) c.self.view_is
    c.self.invariant.limit) in
    let there = ap (λ (k : CheckerState). k.so_far) (sym c.self-in-loop-rest.view_is)
    ∙ c.in-Some.is in
    sym there
    ∙ so_far_is c.loop-rest.self (bytes ++ c.args.piece.now)
    (checked_stands c.loop-rest.self bytes c.args.piece.now c.loop-rest.invariant.read
    c.loop-rest.rest.now c.in-Some.verdict limit there
    c.loop-rest.invariant.parted (c.loop-rest.invariant.checked bytes checked))
    ∙ ap (λ m. text_verdict_so_far m (bytes ++ c.args.piece.now)) c.loop-rest.invariant.limit

pub returns-clause-checked : goal.returns-clause-checked
returns-clause-checked g c = λ bytes checked.
    checked_all c.loop-rest.self bytes c.args.piece.now c.loop-rest.invariant.read
    c.loop-rest.rest.now
    c.loop-rest.invariant.parted c.loop-rest-test.ensures
    (c.loop-rest.invariant.checked bytes checked)

pub returns-clause-answer : goal.returns-clause-answer
returns-clause-answer g c = λ bytes checked.
    ap (λ (k : CheckerState). k.so_far) c.self-2.view_is
    ∙ so_far_is c.loop-rest.self (bytes ++ c.args.piece.now)
    (checked_all c.loop-rest.self bytes c.args.piece.now c.loop-rest.invariant.read
    c.loop-rest.rest.now
    c.loop-rest.invariant.parted c.loop-rest-test.ensures
    (c.loop-rest.invariant.checked bytes checked))
    ∙ ap (λ m. text_verdict_so_far m (bytes ++ c.args.piece.now)) c.loop-rest.invariant.limit

pub returns-in-Some-clause-steps : goal.returns-in-Some-clause-steps
returns-in-Some-clause-steps g c = λ bytes checked.
    let limit : IsLimit c.args.self.now.kept.reader.max_lines =
    subst (λ (k : CheckerState). IsLimit k.kept.reader.max_lines) c.self.view_is
    c.self.invariant.limit in
    let there = ap (λ (k : CheckerState). k.so_far) (sym c.self-in-loop-rest.view_is)
    ∙ c.in-Some.is in
    stands_paid c.args.self.now c.loop-rest.self c.in-Some.verdict bytes c.loop-rest.invariant.read
    c.loop-rest.rest.now c.args.piece.now c.args.steps.now c.loop-rest.steps limit.low there
    c.loop-rest.invariant.parted (c.loop-rest.invariant.paid bytes checked)

pub returns-clause-steps : goal.returns-clause-steps
returns-clause-steps g c = λ bytes checked.
    all_paid c.args.self.now c.loop-rest.self bytes c.loop-rest.invariant.read c.loop-rest.rest.now
    c.args.piece.now c.args.steps.now c.loop-rest.steps c.loop-rest.invariant.parted
    (empty_of c.loop-rest.rest.now c.loop-rest-test.ensures)
    (c.loop-rest.invariant.paid bytes checked)
