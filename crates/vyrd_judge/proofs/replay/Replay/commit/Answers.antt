use Rattle.vyrd_judge.proofs.Prelude.{◌≡◌, ℕ, List, Ok, length, ap, sym, subst, ◌∙◌, arith}
use Rattle.vyrd_judge.proofs.Prelude.{option_map, Amounts, first_difference, State, Rules, rules_by}
use Rattle.vyrd_judge.proofs.Prelude.{View, AreCurrent}
use Rattle.vyrd_base.proofs.ListLaws.{is_none}
use Rattle.vyrd_judge.proofs.ReachedFaults.{by_next}
use Rattle.vyrd_judge.proofs.JudgingLaws.{current_closed}
use Rattle.vyrd_spec.specs.Touching.{with_touched}
use Rattle.vyrd_view.specs.Known.{view_by}
use Rattle.vyrd_observers.proofs.SeeingLaws.{still_current}
use Rattle.vyrd_base.proofs.KeptLaws.{method_subject, method_args}
use Rattle.vyrd_words.proofs.FewLaws.{few_answered}
use Rattle.vyrd_judge.proofs.replay.Replay.commit.Goals as goal

-- What the comparison knows goes on to the next state. Rules that are the same have two names:
-- those of the specification before its step and after it.
known_on : (r q : Rules) (keys : List ℕ) (before after : State) (known : Amounts) → q ≡ r
    → known ≡ r.shown before
    → with_touched keys (r.shown after) (r.shown before) ≡ r.shown after
    → with_touched keys (q.shown after) known ≡ q.shown after
known_on r q keys before after known same is makes = grind (arith, after)

pub step-requires-clause-subject : goal.step-requires-clause-subject
step-requires-clause-subject = grind (arith, method_subject)

pub step-requires-clause-args : goal.step-requires-clause-args
step-requires-clause-args = grind (arith, method_args)

pub returns-then-not-branch-clause-leads : goal.returns-then-not-branch-clause-leads
returns-then-not-branch-clause-leads g c = λ part rest is known.
    let r = rules_by (g.S.Spec.charter c.args.self.now.spec) in
    ap (by_next r (r.view c.args.words.now.views.first) c.args.reply)
    (c.in_ok-step.ensures.refused (ap Ok c.if-not-branch.true))

pub returns-in-Some-clause-leads : goal.returns-in-Some-clause-leads
returns-in-Some-clause-leads g c = λ part rest is known.
    let r = rules_by (g.S.Spec.charter c.args.self.now.spec) in
    let after = g.S.Spec.state c.step.new.self in
    let first = c.args.words.now.views.first in
    let makes = known_on r (rules_by (g.S.Spec.charter c.step.new.self))
    (g.S.Spec.touched c.step.new.self) (g.S.Spec.state c.args.self.now.spec) after _
    (ap rules_by c.step.ensures.charter) known
    (c.in_ok-step.ensures.touched (ap Ok c.if-not-branch.false)) in
    ap (by_next r (r.view first) c.args.reply)
    (c.in_ok-step.ensures.allowed (ap Ok c.if-not-branch.false))
    ∙ ap (λ v. option_map View (first_difference v (r.shown after)))
    (ap (λ (view : List ℕ → Amounts). view first) (sym c.requires.shows))
    ∙ ap (λ (p : Rules). option_map View
    (first_difference (view_by c.args.words.now.views.shows first) (p.shown after)))
    (sym (ap rules_by c.step.ensures.charter))
    ∙ ap (option_map View) (sym (c.in_ok-key.ensures.difference part rest is makes) ∙ c.in-Some.is)

pub see_all_counted-requires-clause-current : goal.see_all_counted-requires-clause-current
see_all_counted-requires-clause-current g c = λ d seen here is_open none.
    let r = rules_by (g.S.Spec.charter c.args.self.now.spec) in
    let q = rules_by (g.S.Spec.charter c.step.new.self) in
    still_current (r.answer (g.S.Spec.state c.args.self.now.spec)) (q.answer
    (g.S.Spec.state c.step.new.self)) c.close_counted.new.self.by_caller
    (g.S.Spec.affects c.step.new.self)
    (λ m a apart. ap (λ (p : Rules). p.answer (g.S.Spec.state c.step.new.self) m a)
    (ap rules_by c.step.ensures.charter)
    ∙ c.in_ok-step.ensures.answers (ap Ok c.if-not-branch.false) m a apart)
    (subst (AreCurrent (r.answer (g.S.Spec.state c.args.self.now.spec)))
    (sym c.close_counted.ensures.watches)
    (current_closed r (g.S.Spec.state c.args.self.now.spec) c.args.caller
    c.args.self.now.watches.by_caller
    (omega (arith, c.requires.caller, c.args.self.now.callers)) c.requires.current)) d seen here
    is_open none

pub returns-clause-leads : goal.returns-clause-leads
returns-clause-leads g c = λ part rest is known.
    let r = rules_by (g.S.Spec.charter c.args.self.now.spec) in
    let after = g.S.Spec.state c.step.new.self in
    let first = c.args.words.now.views.first in
    let makes = known_on r (rules_by (g.S.Spec.charter c.step.new.self))
    (g.S.Spec.touched c.step.new.self) (g.S.Spec.state c.args.self.now.spec) after _
    (ap rules_by c.step.ensures.charter) known
    (c.in_ok-step.ensures.touched (ap Ok c.if-not-branch.false)) in
    record {
      next = c.in_ok-step.ensures.allowed (ap Ok c.if-not-branch.false);
      same = cc (
        c.requires.shows,
        c.step.ensures.charter,
        c.in_ok-key.ensures.difference part rest
            is makes,
        is_none _ c.in_default.not-Some,
      );
      count = omega (arith, c.in_ok-step.ensures.counted (ap Ok c.if-not-branch.false));
      seen = rw (← ap rules_by c.step.ensures.charter)
          (rw (← c.close_counted.ensures.watches)
          c.in_ok-see_all_counted.ensures.seen);
      len = c.see_all_counted.ensures.len ∙ ap length c.close_counted.ensures.watches;
      current = rw (← ap rules_by c.step.ensures.charter)
          c.in_ok-see_all_counted.ensures.current;
      words = c.in_ok-key.ensures.first part rest is;
      since = c.in_ok-key.ensures.since part rest is;
    }

pub returns-then-not-branch-clause-few : goal.returns-then-not-branch-clause-few
returns-then-not-branch-clause-few g c = λ part rest parts waits are. are

pub returns-in-Some-clause-few : goal.returns-in-Some-clause-few
returns-in-Some-clause-few g c = λ part rest parts waits are.
    few_answered {T = Unit {0}} {E = Unit {0}} (Ok tt) c.args.words.now.views.begun
    c.difference_counted.new.self.views.begun part rest
    c.args.words.now.views.since c.difference_counted.new.self.views.since parts waits
    (c.in_ok-key.ensures.since part rest waits) (c.in_ok-key.ensures.begun part rest waits) are

pub returns-clause-few : goal.returns-clause-few
returns-clause-few g c = λ part rest parts waits are.
    few_answered {T = Unit {0}} {E = Unit {0}} (Ok tt) c.args.words.now.views.begun
    c.difference_counted.new.self.views.begun part rest
    c.args.words.now.views.since c.difference_counted.new.self.views.since parts waits
    (c.in_ok-key.ensures.since part rest waits) (c.in_ok-key.ensures.begun part rest waits) are

pub returns-clause-known : goal.returns-clause-known
returns-clause-known = grind (arith, known_on)
