use Rattle.std.proofs.Common.{◌≡◌, ◌≢◌, ◌∙◌, ℕ, None, Ok, ap, sym, subst}
use Rattle.vyrd_judge.proofs.OnlineLaws.{on_error}
use Rattle.vyrd_relay.specs.Numbers.{ReorderKept, held}
use Rattle.vyrd_verifier.proofs.sequencer.follow.Goals as goal

pub loop-more-preserved : goal.loop-more-preserved
loop-more-preserved g c =
    let inv = c.loop-more.invariant in
    let e = c.in_ok-more.ensures in record {
      taking = λ taken t. e.followed taken (inv.taking taken t);
      had = λ n. c.advance.ensures.had n ∙ inv.had n;
      missing = λ p. let m = c.advance.ensures.missing (c.in_ok-more.was ∙ ap Ok p) in
          subst (λ (k : ReorderKept). held k k.next ≡ None) (sym m.0) m.1;
      counted = e.counted;
      fixed = e.fixed ∙ inv.fixed;
    }

pub returns-in_err-place-clause-had : goal.returns-in_err-place-clause-had
returns-in_err-place-clause-had g c = on_error c.from_residual.result c.place.ensures.had

pub returns-in_err-more-clause-had : goal.returns-in_err-more-clause-had
returns-in_err-more-clause-had g c =
    on_error c.from_residual-in_err-more.result
    (λ (n : ℕ) (apart : n ≢ c.args.item.number). c.advance.ensures.had n
    ∙ c.loop-more.invariant.had n ∙ c.place.ensures.had n apart)

pub returns-clause-followed : goal.returns-clause-followed
returns-clause-followed g c = λ taken t. c.loop-more.invariant.taking _
    (c.in_ok-place.ensures.followed taken t)
