-- The exchange law over the definitions.
use Rattle.vyrd_mover.proofs.Prelude.{◌≡◌, ◌≢◌, ℕ, true, List, ◌∷◌, ◌++◌, Stamped, Cells, is_legal}
use Rattle.vyrd_mover.proofs.Prelude.{is_race_free, is_movable, numbered}
use Rattle.vyrd_mover.proofs.Running.{legal_runs, runs_legal}
use Rattle.vyrd_mover.proofs.FreeCells.{free_of, is_free, free_numbered}
use Rattle.vyrd_mover.proofs.Swaps.{exchange_runs, exchange_frees}

pub exchanged_is_legal : (cells : Cells) (before after : List Stamped) (a b : Stamped)
    → is_legal cells (before ++ a ∷ b ∷ after) ≡ true
    → a.caller ≢ b.caller → is_movable (is_race_free cells (before ++ a ∷ b ∷ after)) a b ≡ true
    → is_legal cells (numbered (before ++ b ∷ a ∷ after)) ≡ true
exchanged_is_legal cells before after a b legal other move = runs_legal _ _
    (exchange_runs _ _ (is_race_free _ _) _ a b _ other move (λ cell e. free_of _ _ _ e)
    (legal_runs _ _ legal))

pub exchanged_is_free : (cells : Cells) (before after : List Stamped) (a b : Stamped)
    → is_legal cells (before ++ a ∷ b ∷ after) ≡ true
    → a.caller ≢ b.caller → is_movable (is_race_free cells (before ++ a ∷ b ∷ after)) a b ≡ true
    → (cell : ℕ) → is_race_free cells (before ++ a ∷ b ∷ after) cell ≡ true
    → is_race_free cells (numbered (before ++ b ∷ a ∷ after)) cell ≡ true
exchanged_is_free cells before after a b legal other move cell e = is_free _ _ _
    (free_numbered _ _ _ _ 0
    (exchange_frees _ _ (is_race_free _ _) _ a b _ other move (λ cell e. free_of _ _ _ e)
    (legal_runs _ _ legal) _ (free_of _ _ _ e)))
