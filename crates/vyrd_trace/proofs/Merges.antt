-- Lanes that are put together by the events' numbers.
use Rattle.vyrd_trace.proofs.Prelude.{◌≡◌, ◌≢◌, ℕ, zero, suc, ◌+◌, ◌<◌, ◌≤◌, List, [], ◌∷◌, map}
use Rattle.vyrd_trace.proofs.Prelude.{length, set, get_or, take, Some, refl, sym, ap, ◌∙◌, subst}
use Rattle.vyrd_trace.proofs.Prelude.{arith, slice_get, slice_index_or, All, take_all, All-more}
use Rattle.vyrd_trace.proofs.Prelude.{All-take, slice_get_within, Stamped, part, IsMerge}
use mathlib.Core.Logic.{dite}
use native.Mathlib.Decide.{ℕ_discrete}
use Rattle.vyrd_trace.proofs.Parts.{part_in, in_part}

-- lists read by `slice_get`
set_same : (l : List Stamped) (i : ℕ) (a : Stamped) → i < length l → slice_get (set l i a) i
    ≡ Some a
set_same [] i a h = absurd (omega arith)
set_same (x ∷ xs) zero a h = refl
set_same (x ∷ xs) (suc i) a h = set_same xs i a (omega arith)

set_other : (l : List Stamped) (i j : ℕ) (a : Stamped) → j ≢ i → slice_get (set l i a) j
    ≡ slice_get l j
set_other [] i j a apart = refl
set_other (x ∷ xs) zero zero a apart = absurd (apart refl)
set_other (x ∷ xs) zero (suc j) a apart = refl
set_other (x ∷ xs) (suc i) zero a apart = refl
set_other (x ∷ xs) (suc i) (suc j) a apart = set_other xs i j a (λ e. apart (ap suc e))

same_from_get : (xs ys : List Stamped) → length xs ≡ length ys
    → ((i : ℕ) (e : Stamped) → slice_get ys i ≡ Some e → slice_get xs i ≡ Some e) → xs ≡ ys
same_from_get [] [] l f = refl
same_from_get [] (y ∷ ys) l f = absurd (omega arith)
same_from_get (x ∷ xs) [] l f = absurd (omega arith)
same_from_get (x ∷ xs) (y ∷ ys) l f =
    let a = f 0 y refl in
    let head : x ≡ y = cc in
    let tail = same_from_get xs ys (omega arith) (λ i e q. f (suc i) e q) in λ k. head k ∷ tail k

-- the event stands in the history at its number
abbrev pub IsInPlace : List Stamped → Stamped → Type 0
IsInPlace h e = slice_get h e.number ≡ Some e

-- an event that is written at its number leaves every right place right
pub write_keeps : (h hist : List Stamped) (e : Stamped) (i : ℕ) → IsInPlace h e → slice_get hist i
    ≡ slice_get h i
    → slice_get (set hist e.number e) i ≡ slice_get h i
write_keeps h hist e i stands was = dite (ℕ_discrete i _)
    (λ same. let at : IsInPlace hist e = ap (slice_get _) (sym same) ∙ was ∙ ap (slice_get h) same
    ∙ stands in
    ap (slice_get _) same ∙ set_same hist e.number e (slice_get_within _ _ e at) ∙ sym stands
    ∙ ap (slice_get h) (sym same)) (λ apart. set_other _ _ i e apart ∙ was)

-- and one event more of the lane stands in its place
pub write_places : (h hist lane : List Stamped) (k : ℕ) (d : Stamped) → k < length lane
    → All (IsInPlace h) lane
    → (get_or lane k d).number < length hist → All (IsInPlace hist) (take k lane)
    → All (IsInPlace (set hist (get_or lane k d).number (get_or lane k d))) (take (k + 1) lane)
write_places h hist lane k d l stands inside placed =
    let e : Stamped = get_or lane k d in
    All-more (IsInPlace (set hist e.number e)) lane k d l
    (λ j f below. let x : Stamped = slice_index_or (take k lane) j f in let s : IsInPlace h x =
    All-take (IsInPlace h) k lane stands j f below in
    write_keeps h hist e x.number (stands k d l) (placed j f below ∙ sym s) ∙ s)
    (set_same hist e.number e inside)

-- the number of an event that stands in a list of the same length has a place
pub has_place : (h hist lane : List Stamped) (k : ℕ) (d : Stamped) → k < length lane
    → All (IsInPlace h) lane → length h ≡ length hist
    → (get_or lane k d).number < length hist
has_place h hist lane k d l stands long =
    let e : Stamped = get_or lane k d in
    let inside = slice_get_within h e.number e (stands k d l) in
    omega arith

pub all_placed : (hist lane : List Stamped) (k : ℕ) → length lane ≤ k
    → All (IsInPlace hist) (take k lane) → All (IsInPlace hist) lane
all_placed hist lane k le placed = search (take_all, placed, arith)

-- the lane of an item at its place
pub lane_at_item : {A : Type 0} (f : A → List Stamped) (ls : List A) (i : ℕ) (v : A) → i < length ls
    → v ≡ get_or ls i v
    → slice_index_or (map f ls) i [] ≡ f v
lane_at_item f [] i v l e = absurd (omega arith)
lane_at_item f (x ∷ xs) zero v l e = ap f (sym e)
lane_at_item f (x ∷ xs) (suc i) v l e = lane_at_item f xs i v (omega arith) e

module _ (h : List Stamped) (lanes : List (List Stamped)) (m : IsMerge h lanes) where
  -- each lane's events stand in the history at their numbers
  pub lane_in_place : (c : ℕ) (lane : List Stamped) → c < length lanes → slice_index_or lanes c []
      ≡ lane → All (IsInPlace h) lane
  lane_in_place c lane l is k d below =
      let same : part c h ≡ lane = m.parts c l ∙ is in
      let f = part_in c h k d (rw same below) in
      let got : slice_get h f.0 ≡ Some (slice_index_or lane k d) = cc f.1 in
      ap (slice_get h) (m.placed _ (slice_index_or _ k d) got).0 ∙ got

  -- with the lane of caller c written, the events of all callers up to c stand in their places
  pub merge_step : (c : ℕ) (lane old new : List Stamped) → c < length lanes
      → slice_index_or lanes c [] ≡ lane
      → ((i : ℕ) → slice_get old i ≡ slice_get h i → slice_get new i ≡ slice_get h i)
      → All (IsInPlace new) lane
      → ((i : ℕ) (e : Stamped) → slice_get h i ≡ Some e → e.caller < c → slice_get old i ≡ Some e)
      → (i : ℕ) (e : Stamped)
      → slice_get h i ≡ Some e → e.caller < c + 1 → slice_get new i ≡ Some e
  merge_step c lane old new l is kept placed so_far i e at below = dite (ℕ_discrete e.caller c)
      (λ same.
      let f = in_part c h i e at same in let there : part c h ≡ lane = m.parts c l ∙ is in
      let got = placed f.0 e (rw (← there) f.1) in
      let is_e : slice_index_or lane f.0 e ≡ e = cc (f.2 e) in
      ap (slice_get new) (sym (m.placed i e at).0) ∙ subst (IsInPlace new) is_e got)
      (λ apart. kept i (so_far i e at (omega arith) ∙ sym at) ∙ at)

  -- with all lanes written it is the history
  pub merged : (c : ℕ) (hist : List Stamped) → length lanes ≤ c → length h ≡ length hist
      → ((i : ℕ) (e : Stamped) → slice_get h i ≡ Some e → e.caller < c → slice_get hist i ≡ Some e)
      → hist ≡ h
  merged c hist le long so_far = same_from_get hist h (sym long)
      (λ i e at. so_far i e at (let x = (m.placed i e at).1 in omega arith))
