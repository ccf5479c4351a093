use Rattle.vyrd_own_text.proofs.Prelude.{◌≡◌, drop, Bor, List, ℕ, map, bytes_eq}
use Rattle.std.specs.List.{list_any}
use Rattle.vyrd_own_text.proofs.names.is_one_of.Given as goal

abbrev pub invariant-loop-other : goal.invariant-loop-other
invariant-loop-other l =
    list_any (bytes_eq l.word) (map (λ (w : Bor (List ℕ)). w.now) (drop l.other-index l.words))
    ≡ list_any (bytes_eq l.word) (map (λ (w : Bor (List ℕ)). w.now) l.words)
