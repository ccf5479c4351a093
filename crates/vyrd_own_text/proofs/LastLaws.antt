-- The last of a list, changed.
use Rattle.vyrd_own_text.proofs.Prelude.{◌≡◌, ℕ, List, [], ◌∷◌, ◌++◌, length, Some, refl, ap, ◌∙◌}
use Rattle.vyrd_own_text.proofs.Prelude.{arith, length-append, Taken, Change, Method, Written}
use Rattle.vyrd_own_text.proofs.Prelude.{Inner, inner, holding, with_change, with_line, taken_with}
use Rattle.vyrd_own_text.proofs.Prelude.{last_in, inner_read, within_read, took_as}
use Rattle.std.specs.Prelude.{slice_get}
use Rattle.vyrd_own_text.specs.declared.took.Took.{Took}
use Rattle.vyrd_base.specs.Own.Programs.{Case}
use Rattle.vyrd_base.specs.Own.Lines.{with_inner, change_last}
use Rattle.vyrd_base.specs.Own.Reader.{of_method, method_line_read}

pub holding_last : (n : ℕ) (xs : List (List ℕ)) (x : List ℕ) → holding n (xs ++ x ∷ []) ≡ xs
    ++ (x ++ n ∷ []) ∷ []
holding_last n [] x = refl
holding_last n (y ∷ []) x = refl
holding_last n (y ∷ z ∷ xs) x = ap (λ ls. y ∷ ls) (holding_last n (z ∷ xs) x)

pub with_change_last : (c : Change) (xs : List Case) (x : Case) → with_change c (xs ++ x ∷ []) ≡ xs
    ++ record x { changes = x.changes ++ c ∷ [] } ∷ []
with_change_last c [] x = refl
with_change_last c (y ∷ []) x = refl
with_change_last c (y ∷ z ∷ xs) x = ap (λ ls. y ∷ ls) (with_change_last c (z ∷ xs) x)

change_last_last : (f : Method → Method) (xs : List Method) (x : Method)
    → change_last f (xs ++ x ∷ []) ≡ xs ++ f x ∷ []
change_last_last f [] x = refl
change_last_last f (y ∷ []) x = refl
change_last_last f (y ∷ z ∷ xs) x = ap (λ ls. y ∷ ls) (change_last_last f (z ∷ xs) x)

last_in_last : (xs : List Method) (x : Method) → last_in (xs ++ x ∷ []) ≡ Some x
last_in_last xs x = grind (arith, length-append xs (x ∷ []), at_seam xs)
  where
    at_seam : (xs : List Method) → slice_get (xs ++ x ∷ []) (length xs) ≡ Some x
    at_seam [] = refl
    at_seam (y ∷ xs) = at_seam xs

-- a line of the last method
pub method_line_is : (w : Written) (rest : List Method) (m : Method) (line : List ℕ) → w.methods
    ≡ rest ++ m ∷ []
    → method_line_read w line ≡ taken_with inner (within_read w m line)
unfolding method_line_read
method_line_is w rest m line e = ap (of_method w line) (ap last_in e ∙ last_in_last rest m)

-- it doesn't read the other methods
pub within_same : (w : Written) (methods : List Method) (m : Method) (line : List ℕ)
    → within_read (record w { methods = methods }) m line ≡ within_read w m line
unfolding within_read inner_read
within_same w methods m line = refl

pub line_joined : (w : Written) (rest : List Method) (m new : Method) (took : Took)
    (r : Taken Inner) → w.methods ≡ rest ++ m ∷ []
    → took_as new took ≡ taken_with (with_inner m) r
    → took_as (record w { methods = rest ++ new ∷ [] }) took ≡ taken_with (with_line w)
    (taken_with inner r)
line_joined w rest m new took r ms e = grind (arith, change_last_last)
