-- Watches that see a state one after the other.
use Rattle.vyrd_observers.proofs.Prelude
use Prelude.{◌≡◌, ℕ, zero, suc, ◌<◌, ◌≤◌, Bool, true, false, ◌||◌, List, [], ◌∷◌, length, Some}
use Prelude.{slice_get, refl, ap, ◌∙◌, sym, arith, slice_get_within, same_Some, same_number, Seen}
use Prelude.{has_answer, SeesAnswer, SeesState, Method, Args, AreCurrent, AllSee}
use Rattle.std.proofs.Math.Bool.{or-true}

-- the watches before this place have seen the state, and those from it on are as they were
pub record SeenBelow (told : Method → Args → ℕ) (i : ℕ) (old new : List Seen) : Type 0 where
  pub below : (k : ℕ) (seen : Seen) → k < i → slice_get old k ≡ Some seen → (next : Seen)
      × (slice_get new k ≡ Some next) × SeesState told seen next
  pub above : (k : ℕ) → i ≤ k → slice_get new k ≡ slice_get old k

-- all have seen it
pub seen_all : (told : Method → Args → ℕ) (i : ℕ) (old new : List Seen) → length old ≤ i
    → SeenBelow told i old new → AllSee told old new
seen_all told i old new past so = λ c seen here.
    so.below c seen (omega (arith, past, slice_get_within old c seen here)) here

-- and know its answer
pub seen_current : (told : Method → Args → ℕ) (i : ℕ) (old new : List Seen) → length old ≤ i
    → length new ≡ length old
    → SeenBelow told i old new → AreCurrent told new
seen_current told i old new past long so = λ c seen here open_now.
    let was = there old c (omega (arith, long, slice_get_within new c seen here)) in
    let more = so.below c was.0 (omega (arith, past, slice_get_within old c was.0 was.1)) was.1 in
    let same : more.0 ≡ seen = same_Some _ _ (sym more.1 ∙ here) in
    let sees = more.2.answers (sym more.2.is_open ∙ ap (λ s. s.is_open) same ∙ open_now) in
    ap (λ s. has_answer s.answers (told s.method s.args)) (sym same)
    ∙ ap (λ m. has_answer more.0.answers (told m more.0.args)) more.2.method
    ∙ ap (λ a. has_answer more.0.answers (told was.0.method a)) more.2.args
    ∙ sees.answers (told was.0.method was.0.args)
    ∙ ap (λ b. has_answer was.0.answers (told was.0.method was.0.args) || b)
    (same_number (told was.0.method was.0.args))
    ∙ or-true (has_answer was.0.answers (told was.0.method was.0.args))
  where
    there : (xs : List Seen) (c : ℕ) → c < length xs → (seen : Seen) × (slice_get xs c ≡ Some seen)
    there [] c low = absurd (omega (arith, low))
    there (x ∷ xs) zero low = (x, refl)
    there (x ∷ xs) (suc c) low = there xs c (omega (arith, low))

-- a watch that knows the answer already needn't be told
pub knows_already : (answer : ℕ) (seen : Seen) → has_answer seen.answers answer ≡ true
    → SeesAnswer answer seen seen
knows_already answer seen knows = grind arith

-- after a step that doesn't affect its answer an observer knows the answer already
pub still_current : (before after : Method → Args → ℕ) (watches : List Seen)
    (affects : Method → Args → Bool)
    → ((m : Method) (a : Args) → affects m a ≡ false → after m a ≡ before m a)
    → AreCurrent before watches → (c : ℕ) (seen : Seen) → slice_get watches c ≡ Some seen
    → seen.is_open ≡ true
    → affects seen.method seen.args ≡ false → has_answer seen.answers (after seen.method seen.args)
    ≡ true
still_current before after watches affects same current c seen here is_open none = search arith
