use Rattle.vyrd_text.proofs.Prelude.{◌+◌, ◌∷◌, length, cond, arith, ap, sym, ◌∙◌, length-append}
use Rattle.vyrd_text.proofs.Prelude.{cut, front_starts}
use Rattle.vyrd_text.proofs.AheadLaws.{front_step, front_last}
use Rattle.vyrd_text.proofs.start.count_starts.Goals as goal

pub loop-line-preserved : goal.loop-line-preserved
loop-line-preserved c =
    let line = c.in-Some.line.now in
    let after = c.in-Some.after.now in
    let one = front_step line after c.in-Some.ensures.0
    ∙ ap (λ b. cond b (1 + front_starts (cut after)) 0) (sym c.if-not-begins_start.ensures) in
    let whole = ap (λ t. front_starts (cut t)) c.in-Some.ensures.1 in
    let len = ap length c.in-Some.ensures.1 in
    record {
      counted = omega (arith, c.loop-line.invariant.counted, one, whole);
      few = omega (arith, c.loop-line.invariant.few, len, length-append line (10 ∷ after));
    }

pub returns-clause-count : goal.returns-clause-count
returns-clause-count = grind (arith, front_last)
