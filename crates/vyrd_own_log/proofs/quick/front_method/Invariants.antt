use Rattle.vyrd_own_log.proofs.Prelude.{◌≡◌, ℕ, List, ◌++◌, true, drop, map, list_all, named_from}
use Rattle.vyrd_own_log.proofs.Prelude.{method_of, is_callable, ends_name}
use Rattle.vyrd_own_log.proofs.quick.front_method.Given as goal

abbrev pub invariant-loop-i : goal.invariant-loop-i
invariant-loop-i l = record {
  found : (name rest : List ℕ) → ends_name rest ≡ true → l.text ≡ name ++ rest
      → named_from l.i (map method_of (drop l.i l.methods)) name
      ≡ named_from 0 (map method_of l.methods) name;
  callable : list_all is_callable (map method_of (drop l.i l.methods)) ≡ true;
}
