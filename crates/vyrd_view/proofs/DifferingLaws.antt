-- The changed words that hold another value than before.
use Rattle.vyrd_view.proofs.Prelude.{◌≡◌, ℕ, ◌+◌, ◌<◌, Bool, true, false, not, cond, ◌||◌, List, []}
use Rattle.vyrd_view.proofs.Prelude.{◌∷◌, length, drop, get_or, refl, ap, ◌∙◌, sym, ◌==◌, ◌≢◌}
use Rattle.vyrd_view.proofs.Prelude.{list_any, drop_more, same_of, is_same, isnt_same}
use Rattle.vyrd_view.proofs.Prelude.{AgreeElsewhere, differing}

module _ (before words : List ℕ) where
  -- the changed words from a place on, by whether the one there holds the value that it had
  more_by : List ℕ → ℕ → Bool → List ℕ
  more_by changed index same = cond (not same)
      (get_or changed index 0 ∷ differing before words (drop (index + 1) changed))
      (differing before words (drop (index + 1) changed))

  one_more : (changed : List ℕ) (index : ℕ) → index < length changed
      → differing before words (drop index changed)
      ≡ more_by changed index
      (get_or words (get_or changed index 0) 0 == get_or before (get_or changed index 0) 0)
  unfolding more_by
  one_more changed index low = ap (differing before words) (drop_more changed index 0 low)

  -- a word that holds another value than before
  pub one_differs : (changed : List ℕ) (index : ℕ) → index < length changed
      → get_or words (get_or changed index 0) 0 ≢ get_or before (get_or changed index 0) 0
      → differing before words (drop index changed)
      ≡ get_or changed index 0 ∷ differing before words (drop (index + 1) changed)
  unfolding more_by
  one_differs changed index low apart = cc (one_more changed index low, isnt_same _ _ apart)

  -- and one that holds the same
  pub one_stays : (changed : List ℕ) (index : ℕ) → index < length changed
      → get_or words (get_or changed index 0) 0 ≡ get_or before (get_or changed index 0) 0
      → differing before words (drop index changed)
      ≡ differing before words (drop (index + 1) changed)
  unfolding more_by
  one_stays changed index low same = cc (one_more changed index low, is_same _ _ same)

  -- whether a word is among these
  abbrev is_told : ℕ → List ℕ → Bool
  is_told w = list_any (λ x. x == w)

  -- a word that differs is told as changed only among those that differ
  untold : (changed : List ℕ) (w : ℕ) → (get_or words w 0 == get_or before w 0) ≡ false
      → is_told w (differing before words changed) ≡ false → is_told w changed ≡ false
  untold [] w apart none = refl
  untold (x ∷ changed) w apart none = by_tests (x == w) (get_or words x 0 == get_or before x 0) refl
      refl none (untold changed w apart)
    where
      by_tests : (here same : Bool) → (x == w) ≡ here
          → (get_or words x 0 == get_or before x 0) ≡ same
          → is_told w (cond (not same) (x ∷ differing before words changed)
          (differing before words changed)) ≡ false
          → (is_told w (differing before words changed) ≡ false → is_told w changed ≡ false)
          → (here || is_told w changed) ≡ false
      by_tests true true e f rest more = cc (same_of x w e)
      by_tests true false e f rest more = sym (cc) ∙ rest
      by_tests false true e f rest more = more rest
      by_tests false false e f rest more = more (sym (cc) ∙ rest)

  -- the words agree outside those that differ
  pub agree_elsewhere : (changed : List ℕ) → AgreeElsewhere before words changed
      → AgreeElsewhere before words (differing before words changed)
  agree_elsewhere changed elsewhere w none = by_test (get_or words w 0 == get_or before w 0) refl
    where
      by_test : (b : Bool) → (get_or words w 0 == get_or before w 0) ≡ b
          → get_or words w 0 ≡ get_or before w 0
      by_test true e = same_of (get_or words w 0) (get_or before w 0) e
      by_test false e = elsewhere w (untold changed w e none)
