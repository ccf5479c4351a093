use Rattle.vyrd_own_text.proofs.Prelude.{◌≡◌, ◌++◌, take, Bor, List, ℕ, map, texts}
use Rattle.vyrd_own_text.proofs.scopes.put_words.Given as goal

abbrev pub invariant-loop-word : goal.invariant-loop-word
invariant-loop-word l =
    texts l.all.items ≡ texts l.fn.all.items ++ map (λ (w : Bor (List ℕ)). w.now)
    (take l.word-index l.words)
