-- Cuts of a list by recursion: the first event is followed by left movers alone, or it is a right
-- mover and the rest has a cut.
use Rattle.vyrd_mover.proofs.Prelude.{◌≡◌, ℕ, zero, suc, ◌+◌, ◌<◌, Bool, true, ◌&&◌, ◌||◌, ◌⊎◌, inl}
use Rattle.vyrd_mover.proofs.Prelude.{inr, List, [], ◌∷◌, length, take, drop, refl, ◌∙◌, sym, arith}
use Rattle.vyrd_mover.proofs.Prelude.{list_all, list_any, or_left, or_right, Stamped, numbers_below}
use Rattle.vyrd_mover.proofs.Prelude.{both_true, first_true, second_true}
use Rattle.vyrd_mover.specs.Movers.{is_cut, is_right_mover, is_left_mover, has_cut}
use Rattle.vyrd_mover.proofs.TruthLaws.{either_true, any_tells, tells_any}

-- whether the list has a cut
abbrev pub cuts : (ℕ → Bool) → List Stamped → Bool
cuts free [] = true
cuts free (e ∷ later) = list_all (is_left_mover free) later
    || (is_right_mover free e && cuts free later)

cut_then : (free : ℕ → Bool) (events : List Stamped) (i : ℕ) → is_cut free events i ≡ true
    → cuts free events ≡ true
cut_then free [] i h = refl
cut_then free (e ∷ later) zero h = or_left _ _ h
cut_then free (e ∷ later) (suc i) h =
    let at : is_cut free (e ∷ later) (suc i)
    ≡ ((is_right_mover free e && list_all (is_right_mover free) (take i later))
    && list_all (is_left_mover free) (drop (i + 1) later)) = cc (move i) in
    let here : ((is_right_mover free e && list_all (is_right_mover free) (take i later))
    && list_all (is_left_mover free) (drop (i + 1) later)) ≡ true = sym at ∙ h in
    or_right (list_all (is_left_mover _) later) _
    (both_true (is_right_mover _ e) _ (first_true _ _ (first_true _ _ here))
    (cut_then free later i (both_true (list_all (is_right_mover free) (take i later)) _
    (second_true (is_right_mover free e) _
    (first_true (is_right_mover free e && list_all (is_right_mover free) (take i later)) _ here))
    (second_true (is_right_mover free e && list_all (is_right_mover free) (take i later)) _ here))))
  where
    move : (i : ℕ) → suc i + 1 ≡ suc (i + 1)
    move i = omega arith

-- a place at which the list is cut
abbrev Cut : (ℕ → Bool) → List Stamped → Type 0
Cut free events = (i : ℕ) × (i < length events + 1) × (is_cut free events i ≡ true)

later_cut : (free : ℕ → Bool) (e : Stamped) (later : List Stamped) → is_right_mover free e ≡ true
    → Cut free later → Cut free (e ∷ later)
later_cut free e later right (i, low, h) =
    let n_is : suc i + 1 ≡ suc (i + 1) = omega arith in
    let bound : suc i < length (e ∷ later) + 1 = omega arith in (
      suc i,
      bound,
      cc (both_true (is_right_mover free e && list_all (is_right_mover free) (take i later)) _
          (both_true (is_right_mover free e) _ right (first_true (list_all (is_right_mover free)
          (take i later)) _ h)) (second_true (list_all (is_right_mover free) (take i later)) _ h)),
    )

then_cut : (free : ℕ → Bool) (events : List Stamped) → cuts free events ≡ true → Cut free events
then_cut free [] h = (0, omega arith, refl)
then_cut free (e ∷ later) h = go (λ k. then_cut free later k) (either_true _ _ h)
  where
    go : (cuts free later ≡ true → Cut free later)
        → (list_all (is_left_mover free) later ≡ true)
        ⊎ ((is_right_mover free e && cuts free later) ≡ true) → Cut free (e ∷ later)
    go rest (inl left) = (0, omega arith, left)
    go rest (inr h) = search (later_cut, free, first_true, second_true, arith)

same_truth : (a b : Bool) → (a ≡ true → b ≡ true) → (b ≡ true → a ≡ true) → a ≡ b
same_truth a b f g = grind arith

pub has_cut-cuts : (free : ℕ → Bool) (events : List Stamped) → has_cut free events
    ≡ cuts free events
unfolding has_cut
has_cut-cuts free events = same_truth _ _ to from
  where
    to : list_any (is_cut free events) (numbers_below (length events + 1)) ≡ true → cuts free events
        ≡ true
    to h = search (any_tells, cut_then, arith)

    from : cuts free events ≡ true → list_any (is_cut free events)
        (numbers_below (length events + 1)) ≡ true
    from h =
        let found = then_cut free events h in
        tells_any (is_cut free events) 0 (length events + 1) found.0 (omega arith)
        (omega (arith, found.1)) found.2
