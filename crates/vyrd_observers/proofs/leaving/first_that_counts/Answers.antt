use Rattle.vyrd_observers.proofs.Prelude.{◌≡◌, ◌+◌, ◌<◌, ℕ, false, None, Some, slice_get, ⊎_elim}
use Rattle.vyrd_observers.proofs.Prelude.{ap, sym, ◌∙◌, arith, ◌==◌, unwrap_or, slice_get_within}
use Rattle.vyrd_observers.proofs.Prelude.{slice_get-get_or, unwrap_or-slice_get, by_same, apart_of}
use Rattle.vyrd_observers.proofs.leaving.first_that_counts.Goals as goal

pub loop-watch-init : goal.loop-watch-init
loop-watch-init g c = grind arith

pub loop-watch-preserved : goal.loop-watch-preserved
loop-watch-preserved g c = record {
  asks = λ n is. ⊎_elim
      (λ was. c.loop-watch.invariant.asks n was)
      (λ own. (
        c.loop-watch.watch-index,
        slice_get-get_or c.args.watches.now c.loop-watch.watch-index None c.loop-watch-test.true
            ∙ ap Some own,
      ))
      (c.earlier-first.ensures.either n is);
  counts = λ d w low here same. by_same c.loop-watch.watch-index d
      (λ now. c.earlier-first.ensures.counts w
      (sym (unwrap_or-slice_get c.args.watches.now c.loop-watch.watch-index None)
      ∙ ap (λ o. unwrap_or o None) (ap (slice_get c.args.watches.now) now ∙ here))
      same)
      (λ other. let was = c.loop-watch.invariant.counts d w
      (lower c.loop-watch.watch-index d low other) here same in
      let more = c.earlier-first.ensures.before was.0 was.1 in
      (more.0, more.1, omega (arith, more.2, was.2)));
  steps = omega (arith, c.tick.ensures, c.loop-watch.invariant.steps);
}
  where
    lower : (i d : ℕ) → d < i + 1 → (i == d) ≡ false → d < i
    lower i d low other = omega (arith, low, apart_of i d other)

pub returns-clause-asks : goal.returns-clause-asks
returns-clause-asks = grind arith

pub returns-clause-counts : goal.returns-clause-counts
returns-clause-counts g c = λ d w here same.
    c.loop-watch.invariant.counts d w
    (omega (arith, slice_get_within c.args.watches.now d _ here, c.loop-watch-test.false)) here same
