use Rattle.std.proofs.Common.{◌≡◌, ◌+◌, ◌<◌, cond, sym, ap, subst, ◌∙◌, arith}
use Rattle.vyrd_base.specs.Verdicts.{observer_count}
use Rattle.vyrd_plain.proofs.CountLaws.{observers_from, observers_step, committed_step}
use Rattle.vyrd_plain.proofs.CountLaws.{counted_true, counted_false}
use Rattle.vyrd_plain.proofs.counts.observer_count.Goals as goal
use Rattle.vyrd_plain.proofs.counts.observer_count.Goals.{then-observer_returns}
use Rattle.vyrd_plain.proofs.counts.observer_count.Goals.{else-observer_returns}

pub loop-at-preserved : goal.loop-at-preserved
loop-at-preserved c =
    let es = c.args.entries.now in
    let r = c.entry_at-entry.result in
    let so = c.loop-at.invariant.committed in
    let low = c.entry_at-entry.ensures.caller c.args.header c.requires in
    let next = observers_step es c.loop-at.at r c.observer_returns.result c.loop-at-test.true
    (c.entry_at-entry.ensures.entry r)
    (c.observer_returns.ensures.returns _ (so r.caller low)) in
    let rest = observers_from es (c.loop-at.at + 1) in
    let total : c.loop-at.count + (cond c.observer_returns.result 1 0 + rest) ≡ observer_count es =
    ap (λ n. c.loop-at.count + n) (sym next) ∙ c.loop-at.invariant.counted in
    record {
      all = c.observer_returns.ensures.all ∙ c.loop-at.invariant.all;
      committed = committed_step c.args.header es c.loop-at.at r c.loop-at.committed.items
          c.observer_returns.new.committed.items c.loop-at-test.true
          (c.entry_at-entry.ensures.entry r) low so c.observer_returns.ensures.after;
      few = elim c.if-observer_returns.branch [
        | then-observer_returns w ↦ omega (
          arith,
          w.count-is,
        )
        | else-observer_returns w ↦ omega (arith, w.count-is)
      ];
      counted = elim c.if-observer_returns.branch [
        | then-observer_returns w ↦ counted_true c.observer_returns.result c.loop-at.count _ rest _
            w.if-observer_returns.true w.count-is total
        | else-observer_returns w ↦ counted_false c.observer_returns.result c.loop-at.count _ rest _
            w.if-observer_returns.false w.count-is total
      ];
    }

pub observer_returns-requires : goal.observer_returns-requires
observer_returns-requires c =
    subst (λ n. c.entry_at-entry.result.caller < n) (sym c.loop-at.invariant.all)
    (c.entry_at-entry.ensures.caller c.args.header c.requires)
