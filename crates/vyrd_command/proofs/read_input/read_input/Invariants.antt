use Rattle.vyrd_command.proofs.Prelude.{AfterReads, IsTaken, longest_read}
use Rattle.std.proofs.Common.{vec_len, ◌≡◌, ◌+◌, ◌-◌, ◌≤◌, take, false}
use Rattle.vyrd_command.proofs.read_input.read_input.Given as goal

abbrev pub invariant-loop-count : goal.invariant-loop-count
invariant-loop-count g l = record {
  within : l.count ≤ vec_len l.bytes;
  few : l.count ≤ l.most;
  high : vec_len l.bytes ≤ l.most;
  short : vec_len l.bytes ≤ l.count + longest_read;
  told : IsTaken (g.S.Source.known l.fn.source).rest (take l.count l.bytes.items)
      (g.S.Source.known l.source).rest;
  unended : (g.S.Source.known l.source).ended ≡ false;
  source : AfterReads false (g.S.Source.known l.fn.source) (g.S.Source.known l.source);
}

abbrev pub decreases-loop-count : goal.decreases-loop-count
decreases-loop-count g l = l.most - l.count
