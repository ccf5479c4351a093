-- The break of a block, found from its end on.
use Rattle.vyrd_mover.proofs.Prelude
use Prelude.{◌≡◌, ℕ, Bool, true, false, cond, ◌&&◌, ◌||◌, List, [], ◌∷◌, ◌++◌, Option, Some, None}
use Prelude.{refl, ap, ◌∙◌, sym, option_or, option_map, is_none, list_all, or_left, or-false}
use Prelude.{Stamped, places_after, newest_first, first_answer, is_right_mover, is_left_mover}
use Prelude.{has_cut, uncut_at, break_of, line_of, broken_lines, first_not_left, break_line}
use Rattle.vyrd_mover.proofs.CutLaws.{cuts, has_cut-cuts}
use Rattle.vyrd_mover.proofs.Gathers.{onto_append}
use Rattle.vyrd_mover.proofs.SeenLaws.{list_all-push}

left_is_none : (free : ℕ → Bool) (es : List Stamped) → list_all (is_left_mover free) es
    ≡ is_none (first_not_left free es)
left_is_none free [] = refl
left_is_none free (e ∷ es) = go (is_left_mover free e) (left_is_none free es)
  where
    go : (b : Bool) → list_all (is_left_mover free) es ≡ is_none (first_not_left free es)
        → (b && list_all (is_left_mover free) es)
        ≡ is_none (option_or (cond b None (Some (line_of e))) (first_not_left free es))
    go true h = h
    go false h = refl

left_cuts : (free : ℕ → Bool) (es : List Stamped) → list_all (is_left_mover free) es ≡ true
    → cuts free es ≡ true
left_cuts free [] h = refl
left_cuts free (e ∷ es) h = go (is_left_mover free e) h
  where
    go : (b : Bool) → (b && list_all (is_left_mover free) es) ≡ true
        → (list_all (is_left_mover free) es || (is_right_mover free e && cuts free es)) ≡ true
    go true h = or_left (list_all (is_left_mover free) es) _ h
    go false h = cc

cuts_is_none : (free : ℕ → Bool) (es : List Stamped) → cuts free es ≡ is_none (break_line free es)
cuts_is_none free [] = refl
cuts_is_none free (e ∷ es) = go (is_right_mover free e) (cuts_is_none free es)
  where
    or_rest : (a b : Bool) → (a ≡ true → b ≡ true) → (a || b) ≡ b
    or_rest true b h = sym (h refl)
    or_rest false b h = refl

    go : (b : Bool) → cuts free es ≡ is_none (break_line free es)
        → (list_all (is_left_mover free) es || (b && cuts free es))
        ≡ is_none (cond b (break_line free es) (first_not_left free es))
    go true h = or_rest (list_all (is_left_mover free) es) (cuts free es) (left_cuts free es) ∙ h
    go false h = or-false (list_all (is_left_mover free) es) ∙ left_is_none free es

-- whether a list that goes one event further has a cut
cuts-push : (free : ℕ → Bool) (es : List Stamped) (e : Stamped)
    → cuts free (es ++ e ∷ [])
    ≡ (list_all (is_right_mover free) es || (cuts free es && is_left_mover free e))
cuts-push free [] e = refl
cuts-push free (x ∷ es) e =
    ap (λ b. b || (is_right_mover free x && cuts free (es ++ e ∷ [])))
    (list_all-push (is_left_mover free) es e)
    ∙ ap (λ b. (list_all (is_left_mover free) es && is_left_mover free e)
    || (is_right_mover free x && b)) (cuts-push free es e)
    ∙ spread (list_all (is_left_mover free) es) (is_left_mover free e) (is_right_mover free x)
    (list_all (is_right_mover free) es) (cuts free es)
  where
    spread : (al l r ar c : Bool) → ((al && l) || (r && (ar || (c && l))))
        ≡ ((r && ar) || ((al || (r && c)) && l))
    spread true true true true c = refl
    spread true true true false c = refl
    spread true true false ar c = refl
    spread true false true true c = refl
    spread true false true false true = refl
    spread true false true false false = refl
    spread true false false ar c = refl
    spread false l true true c = refl
    spread false l true false c = refl
    spread false l false ar c = refl

-- the same for the events before a place
has_cut-next : (free : ℕ → Bool) (earlier : List Stamped) (x : Stamped)
    → has_cut free (newest_first (x ∷ earlier))
    ≡ (list_all (is_right_mover free) (newest_first earlier)
    || (has_cut free (newest_first earlier) && is_left_mover free x))
has_cut-next free earlier x =
    ap (has_cut free) (onto_append [] (x ∷ []) earlier)
    ∙ has_cut-cuts free (newest_first earlier ++ x ∷ []) ∙ cuts-push free (newest_first earlier) x
    ∙ ap (λ b. list_all (is_right_mover free) (newest_first earlier) || (b && is_left_mover free x))
    (sym (has_cut-cuts free (newest_first earlier)))

right-next : (free : ℕ → Bool) (earlier : List Stamped) (x : Stamped)
    → list_all (is_right_mover free) (newest_first (x ∷ earlier))
    ≡ (list_all (is_right_mover free) (newest_first earlier) && is_right_mover free x)
right-next free earlier x = ap (list_all (is_right_mover free)) (onto_append [] (x ∷ []) earlier)
    ∙ list_all-push (is_right_mover free) (newest_first earlier) x

-- the line of the first answer of the places that follow
abbrev found : (ℕ → Bool) → List Stamped → List Stamped → Option ℕ
found free earlier xs = option_map line_of (first_answer (uncut_at free) (places_after earlier xs))

behind_the_cut : (free : ℕ → Bool) (earlier xs : List Stamped) → has_cut free (newest_first earlier)
    ≡ true
    → list_all (is_right_mover free) (newest_first earlier) ≡ false → found free earlier xs
    ≡ first_not_left free xs
behind_the_cut free earlier [] cut right = refl
behind_the_cut free earlier (x ∷ xs) cut right = go (is_left_mover free x) refl
    (behind_the_cut free (x ∷ earlier) xs)
  where
    next : has_cut free (newest_first (x ∷ earlier)) ≡ is_left_mover free x
    next = cc (has_cut-next free earlier x)

    still : list_all (is_right_mover free) (newest_first (x ∷ earlier)) ≡ false
    still = cc (right-next free earlier x)

    go : (b : Bool) → is_left_mover free x ≡ b
        → (has_cut free (newest_first (x ∷ earlier)) ≡ true → list_all (is_right_mover free)
        (newest_first (x ∷ earlier)) ≡ false
        → found free (x ∷ earlier) xs ≡ first_not_left free xs)
        → found free earlier (x ∷ xs) ≡ option_or (cond b None (Some (line_of x)))
        (first_not_left free xs)
    go true h rest =
        ap (λ b. option_map line_of
        (option_or (cond b None (Some x))
        (first_answer (uncut_at free) (places_after (x ∷ earlier) xs)))) (next ∙ h)
        ∙ rest (next ∙ h) still
    go false h rest =
        ap (λ b. option_map line_of
        (option_or (cond b None (Some x))
        (first_answer (uncut_at free) (places_after (x ∷ earlier) xs)))) (next ∙ h)

before_the_cut : (free : ℕ → Bool) (earlier xs : List Stamped) → list_all (is_right_mover free)
    (newest_first earlier) ≡ true
    → found free earlier xs ≡ break_line free xs
before_the_cut free earlier [] right = refl
before_the_cut free earlier (x ∷ xs) right =
    ap (λ b. option_map line_of
    (option_or (cond b None (Some x))
    (first_answer (uncut_at free) (places_after (x ∷ earlier) xs)))) cut
    ∙ go (is_right_mover free x) refl (before_the_cut free (x ∷ earlier) xs)
  where
    cut : has_cut free (newest_first (x ∷ earlier)) ≡ true
    cut = cc (has_cut-next free earlier x)

    next : list_all (is_right_mover free) (newest_first (x ∷ earlier)) ≡ is_right_mover free x
    next = cc (right-next free earlier x)

    go : (b : Bool) → is_right_mover free x ≡ b
        → (list_all (is_right_mover free) (newest_first (x ∷ earlier)) ≡ true
        → found free (x ∷ earlier) xs ≡ break_line free xs)
        → found free (x ∷ earlier) xs ≡ cond b (break_line free xs) (first_not_left free xs)
    go true h rest = rest (next ∙ h)
    go false h rest = behind_the_cut free (x ∷ earlier) xs cut (next ∙ h)

line_of_break : (free : ℕ → Bool) (es : List Stamped) → option_map line_of (break_of free es)
    ≡ break_line free es
line_of_break free es = before_the_cut free [] es refl

-- the lines of an open and of a break
abbrev pub lines_from : Stamped → ℕ → ℕ × ℕ
lines_from e line = (line_of e, line)

abbrev lines_of_both : Stamped → Stamped → ℕ × ℕ
lines_of_both e x = (line_of e, line_of x)

line_by_line : (e : Stamped) (o : Option Stamped) → option_map (lines_of_both e) o
    ≡ option_map (lines_from e) (option_map line_of o)
line_by_line e None = refl
line_by_line e (Some x) = refl

kept_line : (e : Stamped) (o : Option ℕ) → cond (is_none o) None (option_map (lines_from e) o)
    ≡ option_map (lines_from e) o
kept_line e None = refl
kept_line e (Some line) = refl

-- the lines of a broken block
pub broken_lines_is : (free : ℕ → Bool) (e : Stamped) (es : List Stamped) → broken_lines free e es
    ≡ option_map (lines_from e) (break_line free es)
broken_lines_is free e es =
    ap (λ b. cond b None (option_map (lines_of_both e) (break_of free es)))
    (has_cut-cuts free es ∙ cuts_is_none free es)
    ∙ ap (λ o. cond (is_none (break_line free es)) None o) (line_by_line e (break_of free es)
    ∙ ap (option_map (lines_from e)) (line_of_break free es))
    ∙ kept_line e (break_line free es)

-- a block is reducible exactly when it has no break
pub has_cut_is_none : (free : ℕ → Bool) (es : List Stamped) → has_cut free es
    ≡ is_none (break_line free es)
has_cut_is_none free es = has_cut-cuts free es ∙ cuts_is_none free es
