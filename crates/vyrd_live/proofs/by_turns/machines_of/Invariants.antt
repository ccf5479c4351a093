use Rattle.vyrd_live.proofs.Prelude.{◌≡◌, map, length, numbers_below, workload_of, work_script}
use Rattle.std.specs.Prelude.{All}
use Rattle.vyrd_live.proofs.by_turns.machines_of.Given as goal

-- the machines of the callers before this one
abbrev pub invariant-loop-caller : goal.invariant-loop-caller
invariant-loop-caller g l = record {
  count : length l.machines.items ≡ l.caller;
  made : All (λ m. g.M.Machine.header_of m ≡ l.work.header) l.machines.items;
  scripts : map g.M.Machine.script l.machines.items ≡ map (work_script (workload_of l.work))
      (numbers_below l.caller);
}
