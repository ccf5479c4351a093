use Rattle.vyrd_batch.proofs.Prelude.{◌≡◌, ◌-◌, length, drop, IsCut}
use Rattle.vyrd_batch.proofs.CostLaws.{AreFoundFor}
use Rattle.vyrd_batch.proofs.reader.whole_logs.Given as goal

-- the logs so far, what they cost, and what is left
abbrev pub invariant-loop-rest : goal.invariant-loop-rest
invariant-loop-rest g l = record {
  cut : IsCut l.fn.bytes l.fn.log l.fn.place l.spans.items l.taken;
  rest_is : l.rest ≡ drop l.taken l.fn.bytes;
  found : AreFoundFor l.fn.bytes l.fn.place (length l.spans.items) l.taken l.initial.steps l.steps;
}

abbrev pub decreases-loop-rest : goal.decreases-loop-rest
decreases-loop-rest g l = 10000 - length l.spans.items
