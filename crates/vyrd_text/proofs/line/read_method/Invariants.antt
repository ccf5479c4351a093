use Rattle.vyrd_text.proofs.Prelude.{◌≡◌, ℕ, List, ◌∷◌, ◌++◌, ◌<◌, Some, slice_get, Method}
use Rattle.vyrd_text.proofs.Prelude.{method_name}
use Rattle.vyrd_text.proofs.line.read_method.Given as goal

-- none of the methods so far has its name there
abbrev pub invariant-loop-method : goal.invariant-loop-method
invariant-loop-method l = (i : ℕ) (method : Method) (rest : List ℕ) → i < l.method-index
    → slice_get l.method-items i ≡ Some method → l.text ≡ method_name method ++ 32 ∷ rest → ⊥
