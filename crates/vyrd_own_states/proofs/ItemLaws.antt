-- Items that are put one behind the other.
use Rattle.vyrd_own_states.proofs.Prelude.{map-append, numbers_below, numbers_below-push, Item}
use Rattle.std.proofs.Common.{◌≡◌, ℕ, ◌+◌, List, [], ◌∷◌, ◌++◌, map, ap, ◌∙◌, sym, append_assoc}

-- the item of one number more
pub item_more : (f : ℕ → Item) (n : ℕ) (first before after : List Item) (item : Item)
    → before ≡ first ++ map f (numbers_below n) → item ≡ f n → after ≡ before ++ item ∷ []
    → after ≡ first ++ map f (numbers_below (n + 1))
item_more f n first before after item so is next =
    next ∙ (λ i. so i ++ is i ∷ [])
    ∙ append_assoc first (map f (numbers_below n)) (f n ∷ [])
    ∙ ap (λ xs. first ++ xs) (sym (ap (map f) (numbers_below-push n)
    ∙ map-append f (numbers_below n) (n ∷ [])))
