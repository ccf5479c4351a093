use Rattle.vyrd_plain.proofs.Prelude.{newest_first, observer_count, AreCommitted}
use Rattle.std.proofs.Common.{vec_len, ◌≡◌, ◌≤◌, ◌+◌, take}
use Rattle.vyrd_plain.proofs.CountLaws.{observers_from}
use Rattle.vyrd_plain.proofs.counts.observer_count.Given as goal

abbrev pub invariant-loop-at : goal.invariant-loop-at
invariant-loop-at l = record {
  all : vec_len l.committed ≡ l.fn.header.callers;
  committed : AreCommitted l.fn.header (newest_first (take l.at l.entries)) l.committed.items;
  few : l.count ≤ l.at;
  counted : l.count + observers_from l.entries l.at ≡ observer_count l.entries;
}
