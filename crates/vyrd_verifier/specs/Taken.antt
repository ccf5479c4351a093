-- The events that a sequencer has taken in, in the order in which they came, and what it keeps of
-- them.
use Rattle.std.specs.Prelude.{◌≡◌, ◌⊎◌, ℕ, zero, suc, ◌<◌, ◌≤◌, ◌^◌, ◌==◌, not, ◌&&◌}
use Rattle.std.specs.Prelude.{Bool, true, false, List, [], ◌∷◌, ◌++◌, Option, Some, None, is_some}
use Rattle.std.specs.Prelude.{if◌then◌else◌}
use Rattle.std.specs.Option.{option_to_list}
use Rattle.vyrd_base.specs.declared.history.Stamped.{Stamped}
use Rattle.vyrd_relay.specs.Numbers.{ReorderKept, held, has}

-- the first event with a number
abbrev pub numbered : ℕ → List Stamped → Option Stamped
numbered n [] = None
numbered n (e ∷ es) = if e.number == n then Some e else numbered n es

-- the events with the numbers below this one, in the order of their numbers
abbrev pub in_order_below : ℕ → List Stamped → List Stamped
in_order_below zero taken = []
in_order_below (suc n) taken = in_order_below n taken ++ option_to_list (numbered n taken)

-- What contracts see of a sequencer: its sink, the events that it holds, and the number of the
-- event that was refused for lack of memory.
pub record SequencerView (S : Type 0) : Type 0 where
  pub sink : S
  pub kept : ReorderKept
  pub refused : Option ℕ

-- memory was refused
abbrev pub has_failed : {S : Type 0} → SequencerView S → Bool
has_failed q = is_some q.refused

-- whether the event with this number was taken in, if the one with the number `refused` wasn't
abbrev pub is_in : ReorderKept → Option ℕ → ℕ → Bool
is_in kept None n = has kept n
is_in kept (Some r) n = has kept n && not (n == r)

-- whether an event with this number was taken in
abbrev pub has_number : {S : Type 0} → SequencerView S → ℕ → Bool
has_number q n = is_in q.kept q.refused n

-- An event with this number may be refused: the number is 2^62 or more, or was taken in before, or
-- there is no memory.
abbrev pub MayRefuse : {S : Type 0} (old new : SequencerView S) → ℕ → Type 0
MayRefuse old new n = (2 ^ 62 ≤ n) ⊎ (has_number old n ≡ true) ⊎ (has_failed new ≡ true)

-- Of the events that came so far those before `next` were handed out, and the others are held.
pub record AreKept (kept : ReorderKept) (taken : List Stamped) : Type 0 where
  pub gone : (n : ℕ) → n < kept.next → is_some (numbered n taken) ≡ true
  pub later : (n : ℕ) → kept.next ≤ n → held kept n ≡ numbered n taken

-- The sink has taken the events that were handed out.
pub record IsTaking {S : Type 0} (has_taken : S → List Stamped → Type 0) (sink : S)
    (kept : ReorderKept)
    (taken : List Stamped) : Type 0 where
  pub in_hand : AreKept kept taken
  pub shown : has_taken sink (in_order_below kept.next taken)

-- `next` is the least number that no event taken in has. The sink has taken the events before it,
-- and the others are held.
pub record IsInOrder {S : Type 0} (has_taken : S → List Stamped → Type 0) (q : SequencerView S)
    (taken : List Stamped) : Type 0 where
  pub taking : IsTaking has_taken q.sink q.kept taken
  pub missing : numbered q.kept.next taken ≡ None

-- The sequencer has taken in these events. Their numbers are known also after memory was refused,
-- and nothing else is then.
pub record HasTakenIn {S : Type 0} (has_taken : S → List Stamped → Type 0) (q : SequencerView S)
    (taken : List Stamped) : Type 0 where
  pub known : (n : ℕ) → has_number q n ≡ is_some (numbered n taken)
  pub in_order : has_failed q ≡ false → IsInOrder has_taken q taken
