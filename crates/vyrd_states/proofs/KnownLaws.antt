-- The state at a place of a front, one entry more.
use Rattle.vyrd_states.proofs.Prelude.{option_and_then, Entry, StartWord, place_of, newest_first}
use Rattle.vyrd_states.proofs.Prelude.{Rules, state_at_start, State, state_then, state_past}
use Rattle.std.proofs.Common.{drop-cons, ◌≡◌, ℕ, zero, suc, ◌+◌, ◌-◌, ◌<◌, ◌≤◌, Bool, true, false}
use Rattle.std.proofs.Common.{cond, List, [], ◌∷◌, length, take, drop, Option, Some, None}
use Rattle.std.proofs.Common.{slice_get, refl, ap, subst, ◌∙◌, sym, arith}
use Rattle.std.proofs.lemmas.Option.{slice_get_within, get_or_from_slice_get, slice_get_past}
use Rattle.vyrd_base.specs.Commits.{is_commit, commits, commit_count, commits_after, committed_at}
use Rattle.vyrd_base.specs.Commits.{state_after, states_from, states_of}
use Rattle.vyrd_base.specs.Verdicts.{states_along}
use Rattle.vyrd_base.proofs.FrontLaws.{newest_next}
use Rattle.vyrd_base.proofs.StateLaws.{state_here, going-quiet, going-commit, ending-commit}
use Rattle.vyrd_base.proofs.StateLaws.{count-quiet, count-commit}
use Rattle.vyrd_states.specs.Running.{state_beyond}

-- the states go on from this one, if it is known, and otherwise they have ended
GoesOn : Rules → List State → List Entry → List Entry → Option State → Type 0
GoesOn r states earlier later None = length states ≤ commit_count earlier
GoesOn r states earlier later (Some s) =
    drop (commit_count earlier) states ≡ states_from r s (commits_after earlier later)

-- so this is the state there
state_there : (r : Rules) (states : List State) (earlier later : List Entry) (o : Option State)
    → GoesOn r states earlier later o → slice_get states (commit_count earlier) ≡ o
unfolding GoesOn
state_there r states earlier later None past = slice_get_past states (commit_count earlier) past
state_there r states earlier later (Some s) going = search (state_here, arith)

-- the state after one more entry
abbrev beyond : Rules → Entry → List Entry → List Entry → State → Option State
beyond r e earlier later s =
    cond (is_commit e.kind) (state_after r s (committed_at (place_of e earlier later))) (Some s)

goes_on_first : (r : Rules) (front : List Entry) (o : Option State)
    → GoesOn r (states_of r o front) [] front o
unfolding GoesOn commits
goes_on_first r front o = search arith

ended_next : (r : Rules) (states : List State) (e : Entry) (earlier later : List Entry)
    → GoesOn r states earlier (e ∷ later) None → GoesOn r states (e ∷ earlier) later None
unfolding GoesOn
ended_next r states e earlier later past = by_test (is_commit e.kind) refl
  where
    by_test : (b : Bool) → is_commit e.kind ≡ b → length states ≤ commit_count (e ∷ earlier)
    by_test true is = omega (arith, count-commit e earlier is, past)
    by_test false is = omega (arith, count-quiet e earlier is, past)

commit_next : (r : Rules) (states : List State) (e : Entry) (earlier later : List Entry) (s : State)
    (o : Option State) → is_commit e.kind ≡ true
    → state_after r s (committed_at (place_of e earlier later)) ≡ o
    → GoesOn r states earlier (e ∷ later) (Some s) → GoesOn r states (e ∷ earlier) later o
unfolding GoesOn
commit_next r states e earlier later s None commits after going = search (ending-commit, arith)
commit_next r states e earlier later s (Some next) commits after going = search
    (going-commit, arith)

quiet_next : (r : Rules) (states : List State) (e : Entry) (earlier later : List Entry) (s : State)
    → is_commit e.kind ≡ false
    → GoesOn r states earlier (e ∷ later) (Some s) → GoesOn r states (e ∷ earlier) later (Some s)
unfolding GoesOn
quiet_next r states e earlier later s quiet going = search (going-quiet, arith)

some_next : (r : Rules) (states : List State) (e : Entry) (earlier later : List Entry) (s : State)
    → GoesOn r states earlier (e ∷ later) (Some s)
    → GoesOn r states (e ∷ earlier) later (beyond r e earlier later s)
some_next r states e earlier later s going = grind (arith, commit_next, quiet_next)

goes_on_next : (r : Rules) (states : List State) (e : Entry) (earlier later : List Entry)
    (o : Option State) → GoesOn r states earlier (e ∷ later) o
    → GoesOn r states (e ∷ earlier) later (option_and_then (beyond r e earlier later) o)
goes_on_next r states e earlier later o past = grind (arith, past, ended_next, some_next)

-- the entries from a place on, and those before the next one
pub later_is : (front : List Entry) (n : ℕ) (e : Entry) → slice_get front n ≡ Some e
    → drop n front ≡ e ∷ drop (n + 1) front
later_is front n e here =
    let within = slice_get_within front n e here in
    let more : suc n ≡ n + 1 = omega arith in
    cc (drop-cons front n e within, get_or_from_slice_get front n e e here)

pub earlier_is : (front : List Entry) (n : ℕ) (e : Entry) → slice_get front n ≡ Some e
    → newest_first (take (n + 1) front) ≡ e ∷ newest_first (take n front)
earlier_is front n e here =
    newest_next front n e (slice_get_within front n e here)
    ∙ ap (λ x. x ∷ newest_first (take n front)) (get_or_from_slice_get front n e e here)

goes_on_past : (r : Rules) (states : List State) (front : List Entry) (n : ℕ) (e : Entry)
    (o : Option State) → slice_get front n ≡ Some e
    → GoesOn r states (newest_first (take n front)) (drop n front) o
    → GoesOn r states (newest_first (take (n + 1) front)) (drop (n + 1) front)
    (option_and_then (beyond r e (newest_first (take n front)) (drop (n + 1) front)) o)
goes_on_past r states front n e o here goes = search (earlier_is, goes_on_next, later_is, arith)

-- an entry at each place
pub some_at : (front : List Entry) (n : ℕ) → n < length front
    → (e : Entry) × (slice_get front n ≡ Some e)
some_at [] n within = absurd (omega (arith, within))
some_at (x ∷ xs) zero within = (x, refl)
some_at (x ∷ xs) (suc n) within = some_at xs n (omega (arith, within))

-- at each place the states go on from some state, or have ended
goes_on_at : (r : Rules) (starting : List StartWord) (front : List Entry) (n : ℕ)
    → n ≤ length front → (o : Option State)
    × GoesOn r (states_along r starting front) (newest_first (take n front)) (drop n front) o
goes_on_at r starting front zero within = (state_at_start r _, goes_on_first r _ _)
goes_on_at r starting front (suc n) within =
    let more : n + 1 ≡ suc n = omega arith in
    let e = some_at front n (omega (arith, within)) in
    let before = goes_on_at r starting front n (omega (arith, within)) in
    let earlier = newest_first (take n front) in
    let o = option_and_then (beyond r e.0 earlier (drop (n + 1) front)) before.0 in
    let P : ℕ → Type 0 = λ k. GoesOn r (states_along r starting front) (newest_first (take k front))
    (drop k front) o in (o, subst P more (goes_on_past r _ front n e.0 before.0 e.1 before.1))

-- the state before the first entry
pub state_then-first : (r : Rules) (starting : List StartWord) (front : List Entry)
    → state_then r starting front 0 ≡ state_at_start r starting
state_then-first r starting front = state_there r _ [] front _ (goes_on_first r _ _)

-- the state after one entry more
next_by_entry : (r : Rules) (starting : List StartWord) (front : List Entry) (n : ℕ) (e : Entry)
    → slice_get front n ≡ Some e → state_then r starting front (n + 1)
    ≡ option_and_then (λ s. state_beyond r front n s e) (state_then r starting front n)
next_by_entry r starting front n e here =
    let low = slice_get_within front n e here in
    let goes = goes_on_at r starting front n (omega (arith, low)) in
    let states = states_along r starting front in
    let earlier = newest_first (take n _) in
    let later = drop (n + 1) front in
    let there : state_then r starting front n ≡ goes.0 = state_there r states earlier
    (drop n _) _ goes.1 in
    state_there r states (newest_first (take (n + 1) front)) later _
    (goes_on_past r _ front n e goes.0 here goes.1) ∙ ap (option_and_then _) (sym there)

pub state_then-next : (r : Rules) (starting : List StartWord) (front : List Entry) (n : ℕ)
    → n < length front → state_then r starting front (n + 1)
    ≡ option_and_then (state_past r front n) (state_then r starting front n)
state_then-next r starting front n within =
    let e = some_at _ n within in
    next_by_entry r _ _ n _ e.1 ∙ by_entry e.0 (state_then r _ _ n) (slice_get _ n) e.1
  where
    by_entry : (e : Entry) (o : Option State) (p : Option Entry) → p ≡ Some e
        → option_and_then (λ s. state_beyond r front n s e) o
        ≡ option_and_then (λ s. option_and_then (state_beyond r front n s) p) o
    by_entry e o p is = grind arith

-- a state that isn't known is never known again
unknown_later : (r : Rules) (starting : List StartWord) (front : List Entry) (n k : ℕ)
    → n + k ≤ length front → state_then r starting front n ≡ None
    → state_then r starting front (n + k) ≡ None
unknown_later r starting front n zero within none = grind arith
unknown_later r starting front n (suc k) within none =
    grind (
      arith,
      state_then-next r starting front (n + k) (omega (arith, within)),
      unknown_later r
          starting front n k (omega (arith, within)) none,
    )

pub unknown_past : (r : Rules) (starting : List StartWord) (front : List Entry) (n m : ℕ)
    → n ≤ m → m ≤ length front → state_then r starting front n ≡ None
    → state_then r starting front m ≡ None
unknown_past r starting front n m low within none =
    grind (arith, unknown_later r starting front n (m - n) (omega (arith, low, within)) none)
