-- Pairs that set the amounts of keys, one after the other: a later one for a key counts.
use Rattle.std.specs.Prelude.{◌≡◌, ◌≢◌, ℕ, Bool, true, false, ◌==◌, List, [], ◌∷◌, ◌++◌}
use Rattle.std.specs.Prelude.{if◌then◌else◌}
use Rattle.std.specs.List.{list_any}
use Rattle.vyrd_base.specs.Amounts.{Amounts, IsAmounts, amount_of}
use Rattle.vyrd_base.specs.declared.own.effect.Effect.{Effect}
use Rattle.vyrd_base.specs.declared.own.effect.Effect.TheVariants.{SetShown, SetHidden, EmptyShown}

-- the amount of a key, from the one before
abbrev pub amount_after : List (ℕ × ℕ) → ℕ → ℕ → ℕ
amount_after [] key amount = amount
amount_after (pair ∷ pairs) key amount =
    amount_after pairs key (if key == pair.0 then pair.1 else amount)

-- whether a key is set
abbrev pub is_set : List (ℕ × ℕ) → ℕ → Bool
is_set pairs key = list_any (λ pair. key == pair.0) pairs

-- whether a key is among these
abbrev pub is_among : List ℕ → ℕ → Bool
is_among keys key = list_any (λ k. key == k) keys

-- Some keys were added that had no amount. What the pairs make of all amounts is the same as
-- before.
pub record AreAdded (before after : Amounts) (added : List ℕ) (pairs : List (ℕ × ℕ)) : Type 0 where
  pub formed : IsAmounts after
  pub others : (q : ℕ) → is_among added q ≡ false → amount_of after q ≡ amount_of before q
  pub absent : (q : ℕ) → is_among added q ≡ true → amount_of before q ≡ 0
  pub same : (q : ℕ)
      → amount_after pairs q (amount_of after q) ≡ amount_after pairs q (amount_of before q)

-- each key has an amount that is to have one
abbrev pub HasKeys : Amounts → List (ℕ × ℕ) → Type 0
HasKeys amounts pairs = (q : ℕ) → amount_after pairs q 0 ≢ 0 → amount_of amounts q ≢ 0

-- the shown amounts that effects set, after those that were set before: what stands before a
-- `clear` doesn't count
abbrev pub shown_after : List (ℕ × ℕ) → List Effect → List (ℕ × ℕ)
shown_after pairs [] = pairs
shown_after pairs (SetShown key amount ∷ effects) = shown_after (pairs ++ (key, amount) ∷ [])
    effects
shown_after pairs (EmptyShown ∷ effects) = shown_after [] effects
shown_after pairs (_ ∷ effects) = shown_after pairs effects

-- the hidden amounts that effects set, after those that were set before
abbrev pub hidden_after : List (ℕ × ℕ) → List Effect → List (ℕ × ℕ)
hidden_after pairs [] = pairs
hidden_after pairs (SetHidden key amount ∷ effects) =
    hidden_after (pairs ++ (key, amount) ∷ []) effects
hidden_after pairs (_ ∷ effects) = hidden_after pairs effects
