-- One caller's items in a longer list.
use Rattle.std.proofs.Common.{◌≡◌, ◌≢◌, ℕ, zero, suc, ◌<◌, ◌≤◌, List, [], ◌∷◌, ◌++◌, Bool, cond}
use Rattle.std.proofs.Common.{eqb, refl, sym, ap, ◌∙◌, arith, eq-eqb, ne_eqb}
use Rattle.std.specs.List.{All}
use Rattle.std.proofs.lemmas.List.Elements.{filter-append}
use mathlib.Core.Logic.{dite}
use native.Mathlib.Decide.{dec_le}
use Rattle.vyrd_base.specs.declared.history.Stamped.{Stamped}
use Rattle.vyrd_base.specs.Parts.{part}

pub part_both : (c : ℕ) (xs ys : List Stamped) → part c (xs ++ ys) ≡ part c xs ++ part c ys
part_both c xs ys = filter-append (λ (x : Stamped). eqb x.caller c) xs ys

first_mine : (c : ℕ) (e : Stamped) → e.caller ≡ c → part c (e ∷ []) ≡ e ∷ []
first_mine c e is = ap (λ (b : Bool). cond b (e ∷ []) []) (eq-eqb e.caller c is)

first_other : (c : ℕ) (e : Stamped) → e.caller ≢ c → part c (e ∷ []) ≡ []
first_other c e apart = ap (λ (b : Bool). cond b (e ∷ []) []) (ne_eqb e.caller c apart)

-- of one caller's events it has all, and another caller none
pub part_mine : (c : ℕ) (es : List Stamped) → All (λ (e : Stamped). e.caller ≡ c) es → part c es
    ≡ es
part_mine c [] own = refl
part_mine c (e ∷ es) own = part_both c (e ∷ []) es ∙ ap (λ (l : List Stamped). l ++ part c es)
    (first_mine c e (own 0 e (omega arith)))
    ∙ ap (λ (l : List Stamped). e ∷ l) (part_mine c es (λ k d l. own (suc k) d (omega arith)))

pub part_other : (c own : ℕ) (es : List Stamped) → All (λ (e : Stamped). e.caller ≡ own) es
    → own ≢ c → part c es ≡ []
part_other c own [] theirs apart = refl
part_other c own (e ∷ es) theirs apart = part_both c (e ∷ []) es
    ∙ ap (λ (l : List Stamped). l ++ part c es)
    (first_other c e (λ q. apart (sym (theirs 0 e (omega arith)) ∙ q)))
    ∙ part_other c own es (λ k d l. theirs (suc k) d (omega arith)) apart

pub nothing_before : (xs ys : List Stamped) → xs ++ ys ≡ [] → (xs ≡ []) × (ys ≡ [])
nothing_before [] ys e = (refl, e)
nothing_before (x ∷ xs) ys e = absurd (cc)

-- items of callers from n on are not there
pub none_from : (n : ℕ) (xs : List Stamped) → ((c : ℕ) → n ≤ c → part c xs ≡ [])
    → All (λ (e : Stamped). e.caller < n) xs
none_from n [] none k d l = absurd (omega arith)
none_from n (x ∷ xs) none zero d l = dite (dec_le n x.caller)
    (λ le. let e = part_both x.caller (x ∷ []) xs in let m = first_mine x.caller x refl in let z =
    none x.caller le in
    let p : (x ∷ []) ++ part x.caller xs ≡ [] = sym (cc) ∙ z in absurd (cc)) (λ no. omega arith)
none_from n (x ∷ xs) none (suc k) d l = none_from n xs
    (λ c le. (nothing_before (part c (x ∷ [])) (part c xs)
    (sym (part_both c (x ∷ []) xs) ∙ none c le)).1) k d (omega arith)
