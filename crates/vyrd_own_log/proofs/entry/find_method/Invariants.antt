use Rattle.vyrd_own_log.proofs.Prelude.{◌≡◌, true, drop, map, list_all, named_from, method_of}
use Rattle.vyrd_own_log.proofs.Prelude.{is_callable}
use Rattle.vyrd_own_log.proofs.entry.find_method.Given as goal

abbrev pub invariant-loop-i : goal.invariant-loop-i
invariant-loop-i l = record {
  found : named_from l.i (map method_of (drop l.i l.methods)) l.name
      ≡ named_from 0 (map method_of l.methods) l.name;
  callable : list_all is_callable (map method_of (drop l.i l.methods)) ≡ true;
}
