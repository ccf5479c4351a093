-- The events of a reducible block brought side by side, one exchange after the other.
use Rattle.vyrd_mover.proofs.Prelude
use Prelude.{◌≡◌, ◌≢◌, ℕ, Bool, true, false, cond, not, ◌&&◌, ◌||◌, ◌⊎◌, inl, inr, List, [], ◌∷◌}
use Prelude.{◌++◌, Option, Some, None, refl, ap, ◌∙◌, sym, subst, ◌==◌, list_all, cons_option}
use Prelude.{or_left, or_right, Did, Stamped, newest_first, newest_first_onto, Cells, value_in}
use Prelude.{first_true, second_true, same_of, apart_of, is_mark, events_of, is_movable, done_by}
use Rattle.std.specs.List.{filter}
use Rattle.vyrd_mover.specs.Movers.{is_free_access, is_take, is_give, is_right_mover, is_left_mover}
use Rattle.vyrd_mover.proofs.TruthLaws.{either_true}
use Rattle.vyrd_mover.proofs.Running.{Runs}
use Rattle.vyrd_mover.proofs.Swaps.{Frees, exchange_runs, exchange_frees}
use Rattle.vyrd_mover.proofs.CutLaws.{cuts}

-- a history that runs, with these cells race-free, and in which each caller does what it does in
-- the history at hand
pub record Good (cells : Cells) (free : ℕ → Bool) (origin es : List Stamped) : Type 0 where
  pub runs : Runs cells (value_in []) es
  pub frees : Frees cells (value_in []) free es
  pub same : (caller : ℕ) → done_by caller es ≡ done_by caller origin

-- what the caller does by one event
abbrev did_of : ℕ → Stamped → Option Did
did_of c e = cond (e.caller == c) (Some e.did) None

swap_options : {A : Type 0} (x y : Option A) (xs : List A) → (x ≡ None) ⊎ (y ≡ None)
    → cons_option x (cons_option y xs) ≡ cons_option y (cons_option x xs)
swap_options x y xs (inl e) = cc
swap_options x y xs (inr e) = cc

one_is_silent : (c : ℕ) (a b : Stamped) → a.caller ≢ b.caller → (did_of c a ≡ None)
    ⊎ (did_of c b ≡ None)
one_is_silent c a b other = go (a.caller == c) (b.caller == c) refl refl
  where
    go : (x y : Bool) → (a.caller == c) ≡ x → (b.caller == c) ≡ y → (did_of c a ≡ None)
        ⊎ (did_of c b ≡ None)
    go false y ex ey = inl (ap (λ t. cond t (Some a.did) None) ex)
    go true false ex ey = inr (ap (λ t. cond t (Some b.did) None) ey)
    go true true ex ey = absurd (other (same_of a.caller c ex ∙ sym (same_of b.caller c ey)))

done_within : (c : ℕ) (before : List Stamped) (a b : Stamped) (after : List Stamped) → a.caller
    ≢ b.caller
    → done_by c (before ++ b ∷ a ∷ after) ≡ done_by c (before ++ a ∷ b ∷ after)
done_within c [] a b after other = swap_options (did_of c b) (did_of c a) (done_by c after)
    (one_is_silent c b a (λ e. other (sym e)))
done_within c (x ∷ before) a b after other = cc (done_within c before a b after other)

exchange : (cells : Cells) (free : ℕ → Bool) (origin before : List Stamped) (a b : Stamped)
    (after : List Stamped) → a.caller ≢ b.caller
    → is_movable free a b ≡ true → Good cells free origin (before ++ a ∷ b ∷ after)
    → Good cells free origin (before ++ b ∷ a ∷ after)
exchange cells free origin before a b after other move good =
    record {
      runs = exchange_runs cells (value_in []) free before a b after other move good.frees
          good.runs;
      frees = λ cell e. exchange_frees cells (value_in []) free before a b after other move
          good.frees good.runs cell (good.frees cell e);
      same = λ c. done_within c before a b after other ∙ good.same c;
    }

pub onto_append : (xs ys p : List Stamped) → newest_first_onto (xs ++ ys) p ≡ newest_first_onto xs p
    ++ ys
onto_append xs ys [] = refl
onto_append xs ys (x ∷ p) = onto_append (x ∷ xs) ys p

-- the events after others, which are given the newest first
abbrev pub behind : List Stamped → List Stamped → List Stamped
behind p es = newest_first_onto es p

pub behind_is : (p es : List Stamped) → behind p es ≡ newest_first p ++ es
behind_is p es = onto_append [] es p

exchange_behind : (cells : Cells) (free : ℕ → Bool) (origin p : List Stamped) (a b : Stamped)
    (after : List Stamped) → a.caller ≢ b.caller
    → is_movable free a b ≡ true → Good cells free origin (behind p (a ∷ b ∷ after))
    → Good cells free origin (behind p (b ∷ a ∷ after))
exchange_behind cells free origin p a b after other move good =
    subst (Good _ _ _) (sym (behind_is p _))
    (exchange _ _ _ _ a b _ other move (subst (Good _ _ _) (behind_is p _) good))

-- an event may pass each of these
abbrev Passes : (ℕ → Bool) → Stamped → List Stamped → Type 0
Passes free x [] = Unit {0}
Passes free x (y ∷ ys) = (x.caller ≢ y.caller) × (is_movable free x y ≡ true) × Passes free x ys

pass : (cells : Cells) (free : ℕ → Bool) (origin p : List Stamped) (x : Stamped)
    (ys after : List Stamped) → Passes free x ys
    → Good cells free origin (behind p (x ∷ ys ++ after))
    → Good cells free origin (behind p (ys ++ x ∷ after))
pass cells free origin p x [] after passes good = good
pass cells free origin p x (y ∷ ys) after passes good = pass cells free origin
    (y ∷ p) x ys after passes.2 (exchange_behind _ _ _ p x y _ passes.0 passes.1 good)

-- the events of a caller, and those of all others
abbrev pub own : ℕ → List Stamped → List Stamped
own c es = filter (λ e. e.caller == c) es

abbrev pub others : ℕ → List Stamped → List Stamped
others c es = filter (λ e. not (e.caller == c)) es

-- no event is the caller's
abbrev pub Foreign : ℕ → List Stamped → Type 0
Foreign c [] = Unit {0}
Foreign c (e ∷ later) = ((e.caller == c) ≡ false) × Foreign c later

others_foreign : (c : ℕ) (es : List Stamped) → Foreign c (others c es)
others_foreign c [] = tt
others_foreign c (e ∷ later) = go (e.caller == c) refl (others_foreign c later)
  where
    go : (b : Bool) → (e.caller == c) ≡ b → Foreign c (others c later)
        → Foreign c (cond (not b) (e ∷ others c later) (others c later))
    go true h rest = rest
    go false h rest = (h, rest)

-- what may be exchanged
mark_passes : (free : ℕ → Bool) (x y : Stamped) → is_mark x.did ≡ true → is_movable free x y ≡ true
mark_passes free x y h =
    or_left (is_take x.did || is_give y.did || is_mark x.did || is_mark y.did
    || is_free_access free x.did) _
    (or_left (is_take x.did || is_give y.did || is_mark x.did || is_mark y.did) _
    (or_left (is_take x.did || is_give y.did || is_mark x.did) _
    (or_right (is_take x.did || is_give y.did) _ h)))

passes_mark : (free : ℕ → Bool) (x y : Stamped) → is_mark y.did ≡ true → is_movable free x y ≡ true
passes_mark free x y h = or_left (is_take x.did || is_give y.did || is_mark x.did || is_mark y.did
    || is_free_access free x.did) _
    (or_left (is_take x.did || is_give y.did || is_mark x.did || is_mark y.did) _
    (or_right (is_take _ || is_give _ || is_mark _) _ h))

right_passes : (free : ℕ → Bool) (x y : Stamped) → is_right_mover free x ≡ true
    → is_movable free x y ≡ true
right_passes free x y h = go (either_true (is_take x.did) (is_free_access free x.did) h)
  where
    go : (is_take x.did ≡ true) ⊎ (is_free_access free x.did ≡ true) → is_movable free x y ≡ true
    go (inl h) =
        or_left (is_take x.did || is_give y.did || is_mark x.did || is_mark y.did
        || is_free_access free x.did) _
        (or_left (is_take x.did || is_give y.did || is_mark x.did || is_mark y.did) _
        (or_left (is_take x.did || is_give y.did || is_mark x.did) _
        (or_left (is_take x.did || is_give y.did) _ (or_left (is_take x.did) _ h))))
    go (inr h) =
        or_left (is_take x.did || is_give y.did || is_mark x.did || is_mark y.did
        || is_free_access free x.did) _
        (or_right (is_take x.did || is_give y.did || is_mark x.did || is_mark y.did) _ h)

passes_left : (free : ℕ → Bool) (x y : Stamped) → is_left_mover free y ≡ true → is_movable free x y
    ≡ true
passes_left free x y h = go (either_true _ _ h)
  where
    go : (is_give y.did ≡ true) ⊎ (is_free_access free y.did ≡ true) → is_movable free x y ≡ true
    go (inl h) =
        or_left (is_take x.did || is_give _ || is_mark _ || is_mark _ || is_free_access _ x.did) _
        (or_left (is_take x.did || is_give y.did || is_mark x.did || is_mark y.did) _
        (or_left (is_take x.did || is_give y.did || is_mark x.did) _
        (or_left (is_take x.did || is_give y.did) _ (or_right (is_take x.did) _ h))))
    go (inr h) = or_right _ _ h

-- a caller's mark or right mover passes what others do
own_passes : (free : ℕ → Bool) (c : ℕ) (x : Stamped) (ys : List Stamped) → (x.caller == c) ≡ true
    → (is_mark x.did ≡ true) ⊎ (is_right_mover free x ≡ true) → Foreign c ys → Passes free x ys
own_passes free c x [] mine why foreign = tt
own_passes free c x (y ∷ ys) mine why foreign =
    (differs, move why, own_passes free c x ys mine why foreign.1)
  where
    differs : x.caller ≢ y.caller
    differs e = apart_of y.caller c foreign.0 (sym e ∙ same_of x.caller c mine)

    move : (is_mark x.did ≡ true) ⊎ (is_right_mover free x ≡ true) → is_movable free x y ≡ true
    move (inl h) = mark_passes free x y h
    move (inr h) = right_passes free x y h

-- what another caller does passes a caller's marks and left movers
passes_own : (free : ℕ → Bool) (c : ℕ) (x : Stamped) (es : List Stamped) → (x.caller == c) ≡ false
    → list_all (is_left_mover free) (events_of c es) ≡ true → Passes free x (own c es)
passes_own free c x [] foreign left = tt
passes_own free c x (e ∷ es) foreign left = go (e.caller == c) (is_mark e.did) refl refl left
    (passes_own free c x es foreign)
  where
    differs : (e.caller == c) ≡ true → x.caller ≢ e.caller
    differs mine h = apart_of x.caller c foreign (h ∙ same_of e.caller c mine)

    go : (a b : Bool) → (e.caller == c) ≡ a → is_mark e.did ≡ b
        → list_all (is_left_mover free) (cond (a && not b) (e ∷ events_of c es) (events_of c es))
        ≡ true
        → (list_all (is_left_mover free) (events_of c es) ≡ true → Passes free x (own c es))
        → Passes free x (cond a (e ∷ own c es) (own c es))
    go false b mine mark left rest = rest left
    go true true mine mark left rest = (differs mine, passes_mark free x e mark, rest left)
    go true false mine mark left rest = (
      differs mine,
      passes_left free x e (first_true (is_left_mover free e) _ left),
      rest
          (second_true (is_left_mover free e) _ left),
    )

-- after its cut, a block's events come first
gather_right : (cells : Cells) (free : ℕ → Bool) (origin : List Stamped) (c : ℕ)
    (p es after : List Stamped)
    → list_all (is_left_mover free) (events_of c es) ≡ true
    → Good cells free origin (behind p (es ++ after))
    → Good cells free origin (behind p (own c es ++ (others c es ++ after)))
gather_right cells free origin c p [] after left good = good
gather_right cells free origin c p (e ∷ es) after left good = go (e.caller == c)
    (is_mark _) refl left (λ l. gather_right cells free origin c (e ∷ p) es after l good)
  where
    go : (a b : Bool) → (e.caller == c) ≡ a → list_all (is_left_mover free)
        (cond (a && not b) (e ∷ events_of c es) (events_of c es)) ≡ true
        → (list_all (is_left_mover free) (events_of c es) ≡ true
        → Good cells free origin (behind p (e ∷ own c es ++ (others c es ++ after))))
        → Good cells free origin
        (behind p (cond a (e ∷ own c es) (own c es)
        ++ (cond (not a) (e ∷ others c es) (others c es) ++ after)))
    go true true mine left rest = rest left
    go true false mine left rest = rest (second_true _ _ left)
    go false b mine left rest = pass _ _ _ p e _ _ (passes_own free c e es mine left) (rest left)

-- a block's events side by side, between what others do
pub record IsApart (cells : Cells) (free : ℕ → Bool) (origin p mine after front back : List Stamped)
    (c : ℕ) : Type 0 where
  pub good : Good cells free origin (behind p (front ++ (mine ++ (back ++ after))))
  pub front_foreign : Foreign c front
  pub back_foreign : Foreign c back

abbrev pub ComesApart : Cells → (ℕ → Bool) → List Stamped → ℕ → List Stamped → List Stamped
    → List Stamped → Type 0
ComesApart cells free origin c p mine after = (front : List Stamped) × (back : List Stamped)
    × IsApart cells free origin p mine after front back c

-- a mark or a right mover of the caller comes to the others
passed : (cells : Cells) (free : ℕ → Bool) (origin : List Stamped) (c : ℕ) (p : List Stamped)
    (e : Stamped) (mine after : List Stamped)
    → (e.caller == c) ≡ true → (is_mark e.did ≡ true) ⊎ (is_right_mover free e ≡ true)
    → ComesApart cells free origin c (e ∷ p) mine after → ComesApart cells free origin c p
    (e ∷ mine) after
passed cells free origin c p e mine after its why found = (
  found.0,
  found.1,
  record {
    good = pass cells free origin p e found.0 (mine ++ (found.1 ++ after))
        (own_passes free c e found.0 its why found.2.front_foreign) found.2.good;
    front_foreign = found.2.front_foreign;
    back_foreign = found.2.back_foreign;
  },
)

-- what another caller does stays in front
stays : (cells : Cells) (free : ℕ → Bool) (origin : List Stamped) (c : ℕ) (p : List Stamped)
    (e : Stamped) (mine after : List Stamped)
    → (e.caller == c) ≡ false → ComesApart cells free origin c (e ∷ p) mine after
    → ComesApart cells free origin c p mine after
stays cells free origin c p e mine after its found = (
  e ∷ found.0,
  found.1,
  record {
    good = found.2.good;
    front_foreign = (its, found.2.front_foreign);
    back_foreign = found.2.back_foreign;
  },
)

-- the event at the cut: what follows is gathered after it
at_cut : (cells : Cells) (free : ℕ → Bool) (origin : List Stamped) (c : ℕ) (p : List Stamped)
    (e : Stamped) (es after : List Stamped)
    → list_all (is_left_mover free) (events_of c es) ≡ true
    → Good cells free origin (behind (e ∷ p) (es ++ after))
    → ComesApart cells free origin c p (e ∷ own c es) after
at_cut cells free origin c p e es after left good = (
  [],
  others c es,
  record {
    good = gather_right cells free origin c (e ∷ p) es after left good;
    front_foreign = tt;
    back_foreign = others_foreign c es;
  },
)

pub gather : (cells : Cells) (free : ℕ → Bool) (origin : List Stamped) (c : ℕ)
    (p es after : List Stamped)
    → cuts free (events_of c es) ≡ true → Good cells free origin (behind p (es ++ after))
    → ComesApart cells free origin c p (own c es) after
gather cells free origin c p [] after cut good =
    ([], [], record { good = good; front_foreign = tt; back_foreign = tt })
gather cells free origin c p (e ∷ es) after cut good =
    go (e.caller == c) (is_mark e.did) refl refl cut
    (λ h. gather cells free origin c (e ∷ p) es after h good)
  where
    by_cut : (e.caller == c) ≡ true
        → (cuts free (events_of c es) ≡ true → ComesApart cells free origin c (e ∷ p)
        (own c es) after)
        → (list_all (is_left_mover free) (events_of c es) ≡ true)
        ⊎ ((is_right_mover free e && cuts free (events_of c es)) ≡ true)
        → ComesApart cells free origin c p (e ∷ own c es) after
    by_cut its rest (inl left) = at_cut cells free origin c p e es after left good
    by_cut its rest (inr h) =
        passed cells free origin c p e (own c es) after its
        (inr (first_true (is_right_mover free e) _ h))
        (rest (second_true (is_right_mover free e) _ h))

    go : (a b : Bool) → (e.caller == c) ≡ a → is_mark e.did ≡ b
        → cuts free (cond (a && not b) (e ∷ events_of c es) (events_of c es)) ≡ true
        → (cuts free (events_of c es) ≡ true → ComesApart cells free origin c (e ∷ p)
        (own c es) after)
        → ComesApart cells free origin c p (cond a (e ∷ own c es) (own c es)) after
    go false b its mark cut rest = stays cells free origin c p e (own c es) after its (rest cut)
    go true true its mark cut rest = passed cells free origin c p e (own c es) after its (inl mark)
        (rest cut)
    go true false its mark cut rest = by_cut its rest
        (either_true (list_all (is_left_mover free) (events_of c es)) _ cut)
