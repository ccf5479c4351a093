use Rattle.vyrd_own_text.proofs.Prelude.{◌≡◌, drop, map, is_method, method_of}
use Rattle.vyrd_own_text.proofs.method.has_method.Given as goal

abbrev pub invariant-loop-method : goal.invariant-loop-method
invariant-loop-method l =
    is_method l.name (map method_of (drop l.method-index l.methods)) ≡ is_method l.name
    (map method_of l.methods)
