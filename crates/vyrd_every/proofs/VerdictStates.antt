-- The states of a verdict, told by the amounts that they show. The rest of this crate speaks of
-- amounts, and a verdict of states.
-- Those of a built-in structure hide nothing, so here the two meet.
use Rattle.vyrd_every.proofs.Prelude
use Prelude.{◌≡◌, ℕ, ◌+◌, Bool, ◌||◌, List, [], ◌∷◌, ◌++◌, map, length, Some, None, refl, ap, ◌∙◌}
use Prelude.{sym, slice_get, take, drop, list_any, append_assoc, take-append-add, Header, Entry}
use Prelude.{Called, entries_before_call, Amounts, State, showing, next_state, Committed}
use Prelude.{state_after, states_from, commit_count, states_since_call, rules_of, slice_get_seam}
use Rattle.std.proofs.lemmas.List.{map-append, length-map, drop-map}

-- the states if these have passed, this is the one now, and these executions are to come
abbrev pub states_with : Header → List Amounts → Amounts → List Committed → List State
states_with h passed state xs = map showing passed ++ states_from (rules_of h) (showing state) xs

-- those after the one now
abbrev pub later_states : Header → Amounts → List Committed → List State
later_states h state [] = []
later_states h state (x ∷ xs) =
    elim (state_after (rules_of h) (showing state) x) [
      | None ↦ []
      | Some next ↦ states_from
          (rules_of h) next xs
    ]

pub states_begin : (h : Header) (passed : List Amounts) (state : Amounts) (xs : List Committed)
    → states_with h passed state xs ≡ map showing passed ++ showing state ∷ later_states h state xs
unfolding later_states
states_begin h passed state [] = refl
states_begin h passed state (x ∷ xs) = refl

-- the state now, at its place
pub state_here : (passed : List Amounts) (later : List State) (state : Amounts) (n : ℕ)
    → length passed ≡ n
    → slice_get (map showing passed ++ showing state ∷ later) n ≡ Some (showing state)
state_here passed later state n e = slice_get_seam (map showing passed) (showing state ∷ later) n
    (length-map passed showing ∙ e)

-- an execution that is allowed leads to the next state
pub state_goes_on : (h : Header) (passed : List Amounts) (state next : Amounts) (x : Committed)
    (xs : List Committed) (called : Called) (reply : ℕ)
    → x.called ≡ Some called → x.reply ≡ Some reply
    → next_state called.method called.args reply state ≡ Some next
    → states_with h passed state (x ∷ xs) ≡ states_with h (passed ++ state ∷ []) next xs
state_goes_on h passed state next x xs called reply call returns allowed =
    simp (passed, after, append_assoc, map-append)
  where
    after : state_after (rules_of h) (showing state) x ≡ Some (showing next)
    after = cc

-- the states since a caller's call, up to the one now
pub states_seen : (passed : List Amounts) (later : List State) (state : Amounts) (c : ℕ)
    (log : List Entry) → length passed ≡ commit_count log
    → states_since_call (map showing passed ++ showing state ∷ later) c log
    ≡ map showing (drop (commit_count (entries_before_call c log)) (passed ++ state ∷ []))
states_seen passed later state c log count =
    ap (λ n. drop first (take (n + 1) (map showing passed ++ showing state ∷ later)))
    (sym count ∙ sym (length-map passed showing))
    ∙ ap (drop first) (take-append-add (map showing passed) (showing state ∷ later) 1
    ∙ sym (map-append showing passed (state ∷ [])))
    ∙ drop-map showing first (passed ++ state ∷ [])
  where
    first : ℕ
    first = commit_count (entries_before_call c log)

-- a test of the states is one of the amounts
pub any_showing : (p : State → Bool) (states : List Amounts) → list_any p (map showing states)
    ≡ list_any (λ state. p (showing state)) states
any_showing p [] = refl
any_showing p (state ∷ states) = ap (λ b. p (showing state) || b) (any_showing p states)
