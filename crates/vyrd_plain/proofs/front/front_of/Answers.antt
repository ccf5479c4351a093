use Rattle.vyrd_plain.proofs.Prelude
use Prelude.{◌≡◌, Bool, true, false, Result, Ok, Err, take, sym, subst, ap, ◌∙◌, MatchResult}
use Prelude.{is_err, take-length, newest_first, first_break, is_call_open, HasFollowed, kept_next}
use Prelude.{newest_next, front_at, break_at, kept_all, take_past, front_of_all, nothing_broken}
use Rattle.vyrd_plain.proofs.front.front_of.Goals as goal

pub loop-i-init : goal.loop-i-init
loop-i-init c = record {
  header = c.in_ok-shape.ensures.header;
  followed = c.in_ok-shape.ensures.followed;
  kept = nothing_broken c.args.header;
}

pub loop-i-preserved : goal.loop-i-preserved
loop-i-preserved c =
    let earlier = newest_first (take c.loop-i.i c.args.entries.now) in
    let ok = c.in_default.ensures.ok earlier c.loop-i.invariant.followed in
    record {
      header = c.step.ensures.header ∙ c.loop-i.invariant.header;
      followed = subst (HasFollowed c.step.new.self)
          (sym (newest_next c.args.entries.now c.loop-i.i _ c.loop-i-test.true)) ok.1;
      kept = kept_next c.args.header c.loop-i.shape.header c.args.entries.now c.loop-i.i _
          c.loop-i.invariant.header c.loop-i-test.true c.loop-i.invariant.kept ok.0;
    }

pub returns-in-Err-clause-front : goal.returns-in-Err-clause-front
returns-in-Err-clause-front c =
    front_at c.args.header c.loop-i.shape.header c.args.entries.now c.loop-i.i _ c.in-Err.fault.rule
    c.loop-i.invariant.header c.loop-i-test.true
    c.loop-i.invariant.kept
    (c.in-Err.ensures.fault (newest_first (take c.loop-i.i c.args.entries.now))
    c.loop-i.invariant.followed)

pub returns-in-Err-clause-broken : goal.returns-in-Err-clause-broken
returns-in-Err-clause-broken c =
    break_at c.args.header c.loop-i.shape.header c.args.entries.now c.loop-i.i _ c.in-Err.fault.rule
    c.loop-i.invariant.header c.loop-i-test.true
    c.loop-i.invariant.kept
    (c.in-Err.ensures.fault (newest_first (take c.loop-i.i c.args.entries.now))
    c.loop-i.invariant.followed)

pub returns-clause-front : goal.returns-clause-front
returns-clause-front c =
    front_of_all c.args.header c.args.entries.now
    (kept_all c.args.header c.args.entries.now c.loop-i.i c.loop-i.auto.i-end c.loop-i-test.false
    c.loop-i.invariant.kept)

pub returns-clause-broken : goal.returns-clause-broken
returns-clause-broken c =
    sym (kept_all c.args.header c.args.entries.now c.loop-i.i c.loop-i.auto.i-end
    c.loop-i-test.false c.loop-i.invariant.kept)

pub returns-clause-kept : goal.returns-clause-kept
returns-clause-kept c = ap (first_break c.args.header) (take-length c.args.entries.now)
    ∙ kept_all c.args.header c.args.entries.now c.loop-i.i c.loop-i.auto.i-end c.loop-i-test.false
    c.loop-i.invariant.kept

pub returns-clause-at_end : goal.returns-clause-at_end
returns-clause-at_end c = λ _. c.is_err.ensures.value
    ∙ is_open _ c.end.result (c.end.ensures (newest_first c.args.entries.now) followed)
    ∙ ap (λ h. is_call_open h (newest_first c.args.entries.now)) c.loop-i.invariant.header
  where
    followed : HasFollowed c.loop-i.shape (newest_first c.args.entries.now)
    followed = subst (λ es. HasFollowed c.loop-i.shape (newest_first es))
        (take_past c.args.entries.now c.loop-i.i c.loop-i.auto.i-end c.loop-i-test.false)
        c.loop-i.invariant.followed

    is_open : {T E : Type 0} {b : Bool} (P : E → Type 0) (r : Result T E)
        → MatchResult r (λ _. b ≡ false) (λ f. (b ≡ true) × P f) → is_err r ≡ b
    is_open P (Ok x) ok = sym ok
    is_open P (Err x) fault = sym fault.0
