-- What the words show at a commit, and what the state after it shows.
use Rattle.vyrd_witness.proofs.Prelude
use Prelude.{◌≡◌, ℕ, ◌+◌, true, List, take, drop, Option, Some, None, slice_get, refl, ap, ◌∙◌, sym}
use Prelude.{◌≢◌, option_map, Kind, Call, Return, Write, Commit, BlockOpen, BlockClose, BlockCommit}
use Prelude.{Entry, StartWord, amount_of, Rules, is_commit, amount_shown, words_then, amount_then}
use Rattle.std.specs.Prelude.{option_and_then}
use Rattle.vyrd_base.specs.declared.verdict.Why.TheVariants.{View}
use Rattle.vyrd_base.specs.Places.{Place, newest_first}
use Rattle.vyrd_base.specs.Callers.{Called}
use Rattle.vyrd_base.specs.Amounts.{Amounts, first_difference}
use Rattle.vyrd_base.specs.States.{State}
use Rattle.vyrd_base.specs.Words.{words_at}
use Rattle.vyrd_base.specs.Entries.{place_of}
use Rattle.vyrd_base.specs.Commits.{committed_at, commit_count, state_after}
use Rattle.vyrd_base.specs.Faults.{commit_fault, fault_of_commit, fault_of_kind, fault_at}
use Rattle.vyrd_base.proofs.DifferenceLaws.{first_difference_none, first_difference_some}
use Rattle.vyrd_witness.proofs.PhaseLaws.{newest_at}

-- the fault of a commit whose state after it is known
fault_after : (r : Rules) (view : Amounts) (s t : State) (called : Option Called)
    (reply : Option ℕ) (caller : ℕ)
    → state_after r s (record { caller = caller; called = called; reply = reply }) ≡ Some t
    → commit_fault r view (record { caller = caller; called = called; reply = reply }) s
    ≡ option_map View (first_difference view (r.shown t))
fault_after r view s t None reply caller after = cc
fault_after r view s t (Some called) None caller after = cc
fault_after r view s t (Some called) (Some reply) caller after = cc

fault_is : (r : Rules) (starting : List StartWord) (states : List State) (place : Place Entry)
    (s t : State) → is_commit place.here.kind ≡ true
    → slice_get states (commit_count place.earlier) ≡ Some s
    → state_after r s (committed_at place) ≡ Some t
    → fault_at r starting states place ≡ option_map View
    (first_difference (r.view (words_at r.header starting place)) (r.shown t))
unfolding fault_at
fault_is r starting states place s t commits before after = by_kind place.here.kind commits
  where
    at_commit : fault_of_commit r starting states place ≡ option_map View
        (first_difference (r.view (words_at r.header starting place)) (r.shown t))
    at_commit =
        let x = committed_at place in
        let view = r.view (words_at r.header starting place) in
        ap (option_and_then (commit_fault r view x)) before
        ∙ fault_after r view s t x.called x.reply x.caller after

    by_kind : (kind : Kind) → is_commit kind ≡ true
        → fault_of_kind r starting states place kind ≡ option_map View
        (first_difference (r.view (words_at r.header starting place)) (r.shown t))
    by_kind (Call method args) is = cc
    by_kind (Return reply) is = cc
    by_kind (Write word value) is = cc
    by_kind Commit is = at_commit
    by_kind BlockOpen is = cc
    by_kind BlockClose is = cc
    by_kind BlockCommit is = at_commit

-- the words at the place of an entry
at_place : (r : Rules) (starting : List StartWord) (front : List Entry) (at : ℕ) (e : Entry)
    → slice_get front at ≡ Some e
    → words_at r.header starting (place_of e (newest_first (take at front)) (drop (at + 1) front))
    ≡ words_then r.header starting front (at + 1)
unfolding words_at
at_place r starting front at e here = cc (newest_at front at e here)

none_of : (o : Option ℕ) → option_map View o ≡ None → o ≡ None
none_of None is = refl
none_of (Some k) is = cc

some_of : (o : Option ℕ) (key : ℕ) → option_map View o ≡ Some (View key) → o ≡ Some key
some_of None key is = cc
some_of (Some k) key is = cc

pub agrees : (r : Rules) (starting : List StartWord) (front : List Entry) (at : ℕ) (e : Entry)
    (states : List State) (s t : State) → slice_get front at ≡ Some e → is_commit e.kind ≡ true
    → slice_get states (commit_count (newest_first (take at front))) ≡ Some s
    → state_after r s (committed_at
    (place_of e (newest_first (take at front)) (drop (at + 1) front))) ≡ Some t
    → fault_at r starting states
    (place_of e (newest_first (take at front)) (drop (at + 1) front)) ≡ None
    → (key : ℕ) → amount_then r starting front (at + 1) key ≡ amount_of (r.shown t) key
agrees r starting front at e states s t here commits before after faultless key =
    let place = place_of e (newest_first (take at front)) (drop (at + 1) front) in
    let view = r.view (words_at r.header starting place) in
    ap (λ ws. amount_shown r ws key) (sym (at_place r starting front at e here))
    ∙ first_difference_none view (r.shown t) (none_of (first_difference view (r.shown t))
    (sym (fault_is r starting states place s t commits before after) ∙ faultless)) key

pub differs : (r : Rules) (starting : List StartWord) (front : List Entry) (at : ℕ) (e : Entry)
    (states : List State) (s t : State) (key : ℕ) → slice_get front at ≡ Some e
    → is_commit e.kind ≡ true
    → slice_get states (commit_count (newest_first (take at front))) ≡ Some s
    → state_after r s (committed_at
    (place_of e (newest_first (take at front)) (drop (at + 1) front))) ≡ Some t
    → fault_at r starting states
    (place_of e (newest_first (take at front)) (drop (at + 1) front)) ≡ Some (View key)
    → amount_then r starting front (at + 1) key ≢ amount_of (r.shown t) key
differs r starting front at e states s t key here commits before after fault =
    let place = place_of e (newest_first (take at front)) (drop (at + 1) front) in
    let view = r.view (words_at r.header starting place) in
    let apart = (first_difference_some view (r.shown t) key
    (some_of _ _ (sym (fault_is r _ _ _ s t commits before after) ∙ fault))).0 in
    λ same. apart (cc (at_place r starting front at e here))
