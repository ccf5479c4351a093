-- The front of a log up to the first entry that breaks a rule.
use Rattle.vyrd_base.proofs.Prelude.{take_more, take-append-drop, take-length, Header, Entry, Rule}
use Rattle.vyrd_base.proofs.Prelude.{newest_first, broken_rule, front, first_break}
use Rattle.std.proofs.Common.{drop-cons, ◌≡◌, ℕ, suc, ◌+◌, ◌<◌, ◌≤◌, List, [], ◌∷◌, ◌++◌, length}
use Rattle.std.proofs.Common.{get_or, take, drop, Some, None, refl, ap, ◌∙◌, sym, arith}
use Rattle.vyrd_base.proofs.PlaceLaws.{newest_first-push}
use Rattle.vyrd_base.proofs.Fronts.{front_after_whole}
use Rattle.vyrd_base.proofs.VerdictLaws.{front-append, first_break-append}

-- one more entry that keeps the rules
pub kept-push : (h : Header) (xs : List Entry) (e : Entry) → first_break h xs ≡ None
    → broken_rule h (newest_first xs) e ≡ None
    → first_break h (xs ++ e ∷ []) ≡ None
kept-push h xs e kept here = grind (arith, kept, here, first_break-append)

-- if no rule is broken, all is front
pub front_whole : (h : Header) (xs : List Entry) → first_break h xs ≡ None → front h xs ≡ xs
unfolding front first_break
front_whole h xs kept = front_after_whole h [] xs kept

-- the front ends before the first entry that breaks a rule
pub front_at_break : (h : Header) (xs rest : List Entry) (e : Entry) (rule : Rule)
    → first_break h xs ≡ None
    → broken_rule h (newest_first xs) e ≡ Some rule → front h (xs ++ e ∷ rest) ≡ xs
front_at_break h xs rest e rule kept here = search (front-append, no_more, front_whole, kept, arith)
  where
    no_more : (ys : List Entry) → ys ++ [] ≡ ys
    no_more [] = refl
    no_more (y ∷ ys) = cc (no_more ys)

pub break_at_break : (h : Header) (xs rest : List Entry) (e : Entry) (rule : Rule)
    → first_break h xs ≡ None
    → broken_rule h (newest_first xs) e ≡ Some rule → first_break h (xs ++ e ∷ rest) ≡ Some rule
break_at_break h xs rest e rule kept here = grind (arith, kept, here, first_break-append)

-- The same, entry by entry from the front of a list on, by a header that is the log's.
pub kept_next : (h g : Header) (es : List Entry) (i : ℕ) (d : Entry) → g ≡ h → i < length es
    → first_break h (take i es) ≡ None
    → broken_rule g (newest_first (take i es)) (get_or es i d) ≡ None
    → first_break h (take (i + 1) es) ≡ None
kept_next h g es i d same within kept here =
    grind (arith, take_more es i d within, within, kept-push, kept, here)

pub newest_next : (es : List Entry) (i : ℕ) (d : Entry) → i < length es
    → newest_first (take (i + 1) es) ≡ get_or es i d ∷ newest_first (take i es)
newest_next es i d within = ap newest_first (take_more es i d within)
    ∙ newest_first-push (take i es) (get_or es i d)

pub split_at_next : (es : List Entry) (i : ℕ) (d : Entry) → i < length es → es ≡ take i es
    ++ get_or es i d ∷ drop (suc i) es
split_at_next es i d within = cc (take-append-drop i es, drop-cons es i d within)

pub front_at : (h g : Header) (es : List Entry) (i : ℕ) (d : Entry) (rule : Rule) → g ≡ h
    → i < length es → first_break h (take i es) ≡ None
    → broken_rule g (newest_first (take i es)) (get_or es i d) ≡ Some rule → take i es ≡ front h es
front_at h g es i d rule same within kept here =
    grind (arith, split_at_next es i d within, within, front_at_break, kept, here)

pub break_at : (h g : Header) (es : List Entry) (i : ℕ) (d : Entry) (rule : Rule) → g ≡ h
    → i < length es → first_break h (take i es) ≡ None
    → broken_rule g (newest_first (take i es)) (get_or es i d) ≡ Some rule → Some rule
    ≡ first_break h es
break_at h g es i d rule same within kept here =
    sym (ap (first_break h) (split_at_next _ i d within) ∙ break_at_break h _ (drop (suc i) es)
    (get_or _ i d) _ kept (cc))

-- at the list's end the part that was gone through is the whole
pub take_past : {A : Type 0} (es : List A) (i : ℕ) → i ≤ length es → length es ≤ i → take i es ≡ es
take_past es i within past = grind (arith, take-length es)

pub kept_all : (h : Header) (es : List Entry) (i : ℕ) → i ≤ length es → length es ≤ i
    → first_break h (take i es) ≡ None → first_break h es ≡ None
kept_all h es i within past kept = ap (first_break h) (sym (take_past es i within past)) ∙ kept

pub front_of_all : (h : Header) (es : List Entry) → first_break h es ≡ None → take (length es) es
    ≡ front h es
front_of_all h es kept = take-length es ∙ sym (front_whole h es kept)

pub nothing_broken : (h : Header) → first_break h [] ≡ None
unfolding first_break
nothing_broken h = refl
