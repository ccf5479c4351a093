-- The changes, effect by effect.
use Rattle.vyrd_witness.proofs.Prelude.{◌≡◌, ℕ, Bool, true, false, cond, List, [], ◌∷◌, ◌++◌, refl}
use Rattle.vyrd_witness.proofs.Prelude.{ap, subst, ◌∙◌, sym, ◌==◌, Rules, same_of, Effect, Change}
use Rattle.vyrd_witness.proofs.Prelude.{amount_shown, words_through, changes_in}
use Rattle.vyrd_witness.specs.Changes.{words_after_effect, change_by, with_change}
use Rattle.vyrd_witness.specs.Leading.{LeadTo}

-- the changes by effects and then by others
pub changes-append : (r : Rules) (key : ℕ) (words : List ℕ) (xs ys : List Effect)
    → changes_in r key words xs ++ changes_in r key (words_through words xs) ys
    ≡ changes_in r key words (xs ++ ys)
changes-append r key words [] ys = refl
changes-append r key words (x ∷ xs) ys =
    by_test (change.before == change.after)
    ∙ ap (with_change change) (changes-append r key (words_after_effect words x) xs ys)
  where
    change : Change
    change = change_by r key words x

    first : List Change
    first = changes_in r key (words_after_effect words x) xs

    rest : List Change
    rest = changes_in r key (words_through words (x ∷ xs)) ys

    by_test : (b : Bool) → cond b first (change ∷ first) ++ rest
        ≡ cond b (first ++ rest) (change ∷ (first ++ rest))
    by_test true = refl
    by_test false = refl

-- the changes lead from what was shown to what is
pub leads : (r : Rules) (key : ℕ) (words : List ℕ) (es : List Effect)
    → LeadTo (amount_shown r words key) (changes_in r key words es)
    (amount_shown r (words_through words es) key)
leads r key words [] = refl
leads r key words (e ∷ es) =
    by_test (amount_shown r words key == amount_shown r next key) refl (leads r key next es)
  where
    next : List ℕ
    next = words_after_effect words e

    rest : List Change
    rest = changes_in r key next es

    end : ℕ
    end = amount_shown r (words_through next es) key

    by_test : (b : Bool) → (amount_shown r words key == amount_shown r next key) ≡ b
        → LeadTo (amount_shown r next key) rest end
        → LeadTo (amount_shown r words key) (cond b rest (change_by r key words e ∷ rest)) end
    by_test true same before = subst (λ n. LeadTo n rest end)
        (sym (same_of (amount_shown r words key) (amount_shown r next key) same)) before
    by_test false apart before = (refl, before)
