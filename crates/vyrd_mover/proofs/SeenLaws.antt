-- What is kept of locks and plain cells says what the events so far say.
use Rattle.vyrd_mover.proofs.Prelude
use Prelude.{◌≡◌, ◌≢◌, ℕ, zero, suc, ◌+◌, ◌-◌, ◌/◌, ◌<◌, ◌≤◌, Bool, true, false, cond, not, ◌&&◌}
use Prelude.{◌||◌, List, [], ◌∷◌, ◌++◌, length, map, replicate, get_or, set, Some, None, refl, ap}
use Prelude.{◌∙◌, sym, subst, arith, ◌==◌, nat_le, nat_lt, unwrap_or, list_all, list_any, and-false}
use Prelude.{get_or-set_same, get_or-set_other, get_or-replicate, length-replicate, length-set}
use Prelude.{list_all-append, list_all-map, or_left, Did, Read, Wrote, Took, Gave, Marked, Stamped}
use Prelude.{Place, places_after, newest_first, numbers_from, numbers_below, Cells, is_lock}
use Prelude.{made_of, value_in, may_do, first_true, second_true, same_of, apart_of, same_number}
use Prelude.{below_of, at_most_of, is_below, Users, Nobody, One, Many, is_access_of, is_write_to}
use Prelude.{is_used_by_alone, is_unwritten, is_guarded_at, is_guarded_by, is_race_free, words_for}
use Prelude.{has_lock, with_lock, without_lock, in_both, Use, UsageKept, IsUse, HaveSeen, is_used}
use Prelude.{is_shared, joined, unused, held_by, kept_after}
use Rattle.std.proofs.Math.Bool.{and-true}
use Rattle.vyrd_base.proofs.PlaceLaws.{newest_first-push, with_later, places_after-append}
use Rattle.vyrd_base.proofs.TestLaws.{isnt_same}
use Rattle.vyrd_mover.specs.Usage.{HoldsSo, may_be_alone, used_by, with_use, with_held}
use Rattle.vyrd_mover.proofs.LockLaws.{with_same, with_other, length-with_lock, without_same}
use Rattle.vyrd_mover.proofs.LockLaws.{without_other, length-without_lock, has-in_both}
use Rattle.vyrd_mover.proofs.LockLaws.{has_none_of_zeros}
use Rattle.vyrd_mover.proofs.TruthLaws.{tells_any}

pub list_all-push : {A : Type 0} (test : A → Bool) (xs : List A) (x : A)
    → list_all test (xs ++ x ∷ []) ≡ (list_all test xs && test x)
list_all-push test xs x = cc (list_all-append test xs (x ∷ []), and-true (test x))

-- the place of one more event
abbrev place_of : List Stamped → Stamped → Place Stamped
place_of seen e = record { earlier = newest_first seen; here = e; later = [] }

guarded-push : (seen : List Stamped) (e : Stamped) (cell lock : ℕ)
    → is_guarded_by (seen ++ e ∷ []) cell lock
    ≡ (is_guarded_by seen cell lock && is_guarded_at cell lock (place_of seen e))
guarded-push seen e cell lock =
    ap (list_all (is_guarded_at cell lock)) (places_after-append [] seen (e ∷ []))
    ∙ list_all-append (is_guarded_at cell lock) (map (with_later (e ∷ [])) (places_after [] seen))
    (place_of seen e ∷ [])
    ∙ ap (λ b. b && list_all (is_guarded_at cell lock) (place_of seen e ∷ []))
    (list_all-map (is_guarded_at cell lock) (with_later (e ∷ [])) (places_after [] seen))
    ∙ ap (λ b. is_guarded_by seen cell lock && b)
    (and-true (is_guarded_at cell lock (place_of seen e)))

-- an event that doesn't use the cell
not_used : (cells : Cells) (seen : List Stamped) (cell : ℕ) (kept : Use) (e : Stamped)
    → is_access_of cell e.did ≡ false → is_write_to cell e.did ≡ false
    → IsUse cells seen cell kept → IsUse cells (seen ++ e ∷ []) cell kept
not_used cells seen cell kept e no_access no_write is = search (list_all-push, guarded-push, arith)

joined_alone : (users : Users) (caller c : ℕ) → may_be_alone (joined users caller) c
    ≡ (may_be_alone users c && caller == c)
joined_alone users caller c = grind (arith, apart_of, same_of, isnt_same)

joined_used : (users : Users) (caller : ℕ) → is_used (joined users caller) ≡ true
joined_used users caller = grind arith

joined_below : (users : Users) (caller callers user : ℕ) → ((u : ℕ) → users ≡ One u → u < callers)
    → caller < callers
    → joined users caller ≡ One user → user < callers
joined_below users caller callers user below low e = grind (arith, below)

not_or : (a b : Bool) → (not a && not b) ≡ not (a || b)
not_or a b = search arith

both_after : (t a b : Bool) → ((t && a) && (t && b)) ≡ (t && (a && b))
both_after t a b = search arith

-- an event that uses the cell
used_more : (cells : Cells) (seen : List Stamped) (cell : ℕ) (kept : Use) (held : List ℕ)
    (e : Stamped) (is_write : Bool) → is_access_of cell e.did ≡ true
    → is_write_to cell e.did ≡ is_write → e.caller < cells.callers
    → HoldsSo cells seen e.caller held
    → IsUse cells seen cell kept → IsUse cells (seen ++ e ∷ []) cell
    (used_by held e.caller is_write kept)
used_more cells seen cell kept held e is_write access write low holds is =
    record {
      alone = λ c. cc (
        list_all-push (λ e. not (is_access_of cell e.did) || e.caller == c) seen e,
        is.alone c,
        joined_alone kept.users e.caller c,
      );
      user_below = λ user h. joined_below kept.users e.caller cells.callers user is.user_below low
          h;
      unwritten = cc (
        list_all-push (λ e. not (is_write_to cell e.did)) seen e,
        is.unwritten,
        not_or
            kept.written is_write,
      );
      unseen = λ u lock. absurd (contradiction u);
      guards = λ u lock. by_use lock (is_used kept.users) refl;
    }
  where
    contradiction : is_used (joined kept.users e.caller) ≡ false → ⊥
    contradiction u = let used = joined_used kept.users e.caller in cc

    one_more : (lock : ℕ)
        → (is_guarded_by seen cell lock && value_in (newest_first seen) lock == e.caller + 1)
        ≡ is_guarded_by (seen ++ e ∷ []) cell lock
    one_more lock = cc (guarded-push seen e cell lock)

    by_use : (lock : ℕ) (b : Bool) → is_used kept.users ≡ b
        → has_lock (cond b (in_both kept.guards held) held) lock
        ≡ (nat_lt lock cells.locks && is_guarded_by (seen ++ e ∷ []) cell (cells.plain + lock))
    by_use lock b u = search (has-in_both, held, both_after, one_more, arith)

-- the value that a lock is left with
value_push : (seen : List Stamped) (e : Stamped) (lock : ℕ)
    → value_in (newest_first (seen ++ e ∷ [])) lock ≡ unwrap_or (made_of lock e.caller e.did)
    (value_in (newest_first seen) lock)
value_push seen e lock = grind (arith, newest_first-push seen e)

-- what callers hold after an event that changes no lock
holds_still : (cells : Cells) (seen : List Stamped) (e : Stamped) (caller : ℕ) (held : List ℕ)
    → ((lock : ℕ) → made_of (cells.plain + lock) e.caller e.did ≡ None)
    → HoldsSo cells seen caller held → HoldsSo cells (seen ++ e ∷ []) caller held
holds_still cells seen e caller held still is = search (value_push, arith)

-- the cell of an access, and another cell
use_here : (cells : Cells) (seen : List Stamped) (all : UsageKept) (e : Stamped) (other cell : ℕ)
    (is_write : Bool) → HaveSeen cells seen all
    → ((c : ℕ) → is_access_of c e.did ≡ (other == c))
    → ((c : ℕ) → is_write_to c e.did ≡ ((other == c) && is_write))
    → e.caller < cells.callers → other < cells.plain → cell < cells.plain → (d : Use)
    → IsUse cells (seen ++ e ∷ []) cell (get_or (with_use all other e.caller is_write).cells cell d)
use_here cells seen all e other cell is_write have access write low fits inside d =
    go (other == cell) refl
  where
    go : (b : Bool) → (other == cell) ≡ b → IsUse cells (seen ++ e ∷ []) cell
        (get_or (with_use all other e.caller is_write).cells cell d)
    go true h =
        let at : other ≡ cell = same_of other cell h in
        let within : other < length all.cells = omega (arith, have.all_cells) in
        let got = get_or-set_same all.cells other
        (used_by (held_by all e.caller) e.caller is_write (get_or all.cells other unused)) d
        within in
        rw (← at)
        (subst (IsUse cells (seen ++ e ∷ []) other) (sym got)
        (used_more cells seen other (get_or all.cells other unused) (held_by all e.caller) e
        is_write (access other ∙ same_number other)
        (cc (write other, same_number other)) low (have.held e.caller low [])
        (have.uses other fits unused)))
    go false h =
        let ne : cell ≢ other = λ same. apart_of other cell h (sym same) in
        subst (IsUse cells (seen ++ e ∷ []) cell)
        (sym (get_or-set_other all.cells other cell
        (used_by (held_by all e.caller) e.caller is_write (get_or all.cells other unused)) d ne))
        (not_used cells seen cell (get_or all.cells cell d) e (access cell ∙ h)
        (cc (write cell)) (have.uses cell inside d))

-- an access leaves the locks as they are
with_access : (cells : Cells) (seen : List Stamped) (all : UsageKept) (e : Stamped) (other : ℕ)
    (is_write : Bool) → HaveSeen cells seen all
    → ((c : ℕ) → is_access_of c e.did ≡ (other == c))
    → ((c : ℕ) → is_write_to c e.did ≡ ((other == c) && is_write))
    → ((lock : ℕ) → made_of (cells.plain + lock) e.caller e.did ≡ None)
    → e.caller < cells.callers → other < cells.plain → HaveSeen cells (seen ++ e ∷ [])
    (with_use all other e.caller is_write)
with_access cells seen all e other is_write have access write still low fits =
    record {
      all_held = have.all_held;
      all_cells = length-set _ _ _ ∙ have.all_cells;
      held = λ caller below d. holds_still _ _ e _ _ still (have.held _ below d);
      uses = λ cell inside d. use_here _ _ _ e _ _ _ have access write low fits inside d;
    }

-- an event that makes this value of this lock, and of no other
record Makes (cells : Cells) (e : Stamped) (other value : ℕ) : Type 0 where
  made : (lock : ℕ) → made_of lock e.caller e.did ≡ cond (other == lock) (Some value) None
  least : cells.plain ≤ other
  most : other < cells.plain + cells.locks

value_made : (cells : Cells) (seen : List Stamped) (e : Stamped) (other value lock : ℕ)
    → Makes cells e other value → (other == lock) ≡ true
    → value_in (newest_first (seen ++ e ∷ [])) lock ≡ value
value_made cells seen e other value lock makes h = grind (arith, value_push)

value_kept : (cells : Cells) (seen : List Stamped) (e : Stamped) (other value lock : ℕ)
    → Makes cells e other value → (other == lock) ≡ false
    → value_in (newest_first (seen ++ e ∷ [])) lock ≡ value_in (newest_first seen) lock
value_kept cells seen e other value lock makes h = grind (arith, value_push)

-- what its caller holds then
own_locks : (cells : Cells) (seen : List Stamped) (e : Stamped) (other value : ℕ)
    (held changed : List ℕ) → Makes cells e other value
    → length changed ≡ length held → has_lock changed (other - cells.plain)
    ≡ (value == e.caller + 1)
    → ((lock : ℕ) → other - cells.plain ≢ lock → has_lock changed lock ≡ has_lock held lock)
    → HoldsSo cells seen e.caller held → HoldsSo cells (seen ++ e ∷ []) e.caller changed
own_locks cells seen e other value held changed makes size own others is =
    record { room = size ∙ is.room; holds = λ lock. go lock (other == cells.plain + lock) refl }
  where
    go : (lock : ℕ) (b : Bool) → (other == cells.plain + lock) ≡ b
        → has_lock changed lock
        ≡ (nat_lt lock cells.locks && value_in (newest_first (seen ++ e ∷ [])) (cells.plain + lock)
        == e.caller + 1)
    go lock true h =
        let least = makes.least in
        let most = makes.most in
        let same : other ≡ cells.plain + lock = same_of _ _ h in
        let at : other - cells.plain ≡ lock = omega arith in
        let low : lock < cells.locks = omega arith in
        ap (has_lock changed) (sym at) ∙ own
        ∙ (λ i. sym (is_below lock cells.locks low) i
        && sym (value_made cells seen e other value (cells.plain + lock) makes h) i == e.caller + 1)
    go lock false h =
        let least = makes.least in
        let apart : other ≢ cells.plain + lock = apart_of _ _ h in
        let ne : other - cells.plain ≢ lock = omega arith in
        others lock ne ∙ is.holds lock
        ∙ ap (λ v. nat_lt lock cells.locks && v == e.caller + 1)
        (sym (value_kept cells seen e other value (cells.plain + lock) makes h))

-- and what another holds
others_locks : (cells : Cells) (seen : List Stamped) (e : Stamped) (other value caller : ℕ)
    (held : List ℕ) → Makes cells e other value
    → (value_in (newest_first seen) other == caller + 1) ≡ false → (value == caller + 1) ≡ false
    → HoldsSo cells seen caller held → HoldsSo cells (seen ++ e ∷ []) caller held
others_locks cells seen e other value caller held makes before after is =
    record {
      room = is.room;
      holds = λ lock. is.holds lock
          ∙ go lock (other == cells.plain + lock) refl;
    }
  where
    go : (lock : ℕ) (b : Bool) → (other == cells.plain + lock) ≡ b
        → (nat_lt lock cells.locks && value_in (newest_first seen) (cells.plain + lock) == caller
        + 1)
        ≡ (nat_lt lock cells.locks && value_in (newest_first (seen ++ e ∷ [])) (cells.plain + lock)
        == caller + 1)
    go lock true h =
        cc (same_of _ _ h, value_made cells seen e other value (cells.plain + lock) makes h)
    go lock false h = cc (value_kept cells seen e other value (cells.plain + lock) makes h)

-- a change of a lock leaves the cells as they are
with_locks : (cells : Cells) (seen : List Stamped) (all : UsageKept) (e : Stamped) (other value : ℕ)
    (changed : List ℕ) → HaveSeen cells seen all
    → ((c : ℕ) → is_access_of c e.did ≡ false) → ((c : ℕ) → is_write_to c e.did ≡ false)
    → Makes cells e other value → e.caller < cells.callers
    → ((caller : ℕ) → e.caller ≢ caller → (value_in (newest_first seen) other == caller + 1)
    ≡ false)
    → ((caller : ℕ) → e.caller ≢ caller → (value == caller + 1) ≡ false)
    → length changed ≡ length (held_by all e.caller) → has_lock changed (other - cells.plain)
    ≡ (value == e.caller + 1)
    → ((lock : ℕ) → other - cells.plain ≢ lock → has_lock changed lock
    ≡ has_lock (held_by all e.caller) lock)
    → HaveSeen cells (seen ++ e ∷ []) (with_held all e.caller changed)
with_locks cells seen all e other value changed have no_access no_write makes low before after size
    own others =
    record {
      all_held = length-set all.held e.caller changed ∙ have.all_held;
      all_cells = have.all_cells;
      held = λ caller below d. at caller below d (e.caller == caller) refl;
      uses = λ cell inside d. not_used cells seen cell (get_or all.cells cell d) e (no_access cell)
          (no_write cell) (have.uses cell inside d);
    }
  where
    at : (caller : ℕ) → caller < cells.callers → (d : List ℕ) (b : Bool) → (e.caller == caller) ≡ b
        → HoldsSo cells (seen ++ e ∷ []) caller (get_or (set all.held e.caller changed) caller d)
    at caller below d true h =
        let within : e.caller < length all.held = omega (arith, have.all_held) in
        rw (← same_of _ _ h)
        (subst (HoldsSo cells (seen ++ e ∷ []) e.caller)
        (sym (get_or-set_same all.held e.caller changed d within))
        (own_locks cells seen e other value (held_by all e.caller) changed makes size own others
        (have.held e.caller low [])))
    at caller below d false h =
        let apart : e.caller ≢ caller = apart_of _ _ h in
        let ne : caller ≢ e.caller = λ same. apart (sym same) in
        subst (HoldsSo cells (seen ++ e ∷ []) caller)
        (sym (get_or-set_other all.held e.caller caller changed d ne))
        (others_locks cells seen e other value caller (get_or all.held caller d) makes
        (before caller apart) (after caller apart) (have.held caller below d))

next_isnt : (a b : ℕ) → a ≢ b → (a + 1 == b + 1) ≡ false
next_isnt a b ne = let apart : a + 1 ≢ b + 1 = omega arith in isnt_same (a + 1) (b + 1) apart

none_isnt : (b : ℕ) → (0 == b + 1) ≡ false
none_isnt b = let apart : 0 ≢ b + 1 = omega arith in isnt_same 0 (b + 1) apart

-- a lock has a place in its caller's set
has_place : (cells : Cells) (seen : List Stamped) (all : UsageKept) (caller other : ℕ)
    → HaveSeen cells seen all → caller < cells.callers
    → cells.plain ≤ other → other < cells.plain + cells.locks → (other - cells.plain) / 64 < length
    (held_by all caller)
has_place cells seen all caller other have low least most = grind arith

-- a lock is taken
with_taken : (cells : Cells) (seen : List Stamped) (all : UsageKept) (k c lock : ℕ)
    → HaveSeen cells seen all → c < cells.callers
    → may_do cells (newest_first seen) c (Took lock) ≡ true
    → HaveSeen cells (seen ++ record { number = k; caller = c; did = Took lock } ∷ [])
    (kept_after all c (Took lock))
with_taken cells seen all k c lock have low may =
    let kind = first_true (is_lock cells lock) _ may in
    let free : value_in (newest_first seen) lock ≡ 0 = same_of _ 0
    (second_true (is_lock cells lock) _ may) in
    let least = at_most_of _ _ (first_true _ _ kind) in
    let most = below_of _ _ (second_true (nat_le _ _) _ kind) in
    let place = has_place cells seen all c _ have low least most in
    let makes : Makes cells (record { number = k; caller = c; did = Took lock }) lock (c + 1) =
    record { made = λ l. refl; least = least; most = most } in
    rw have.all_cells
    (with_locks cells seen all (record { number = k; caller = c; did = Took lock }) lock (c + 1)
    (with_lock (held_by all c) (lock - cells.plain)) have (λ x. refl) (λ x. refl) makes low
    (λ caller apart. cc (none_isnt caller)) (λ caller apart. next_isnt c caller apart)
    (length-with_lock (held_by all c) (lock - cells.plain))
    (with_same (held_by all c) (lock - cells.plain) place ∙ sym (same_number (c + 1)))
    (λ l ne. with_other (held_by all c) (lock - cells.plain) l ne place))

-- a lock is given back
with_given : (cells : Cells) (seen : List Stamped) (all : UsageKept) (k c lock : ℕ)
    → HaveSeen cells seen all → c < cells.callers
    → may_do cells (newest_first seen) c (Gave lock) ≡ true
    → HaveSeen cells (seen ++ record { number = k; caller = c; did = Gave lock } ∷ [])
    (kept_after all c (Gave lock))
with_given cells seen all k c lock have low may =
    let kind = first_true (is_lock cells lock) _ may in
    let mine : value_in (newest_first seen) lock ≡ c + 1 = same_of _ _
    (second_true (is_lock cells lock) _ may) in
    let least = at_most_of _ _ (first_true _ _ kind) in
    let most = below_of _ _ (second_true (nat_le _ _) _ kind) in
    let place = has_place cells seen all c _ have low least most in
    let makes : Makes cells (record { number = k; caller = c; did = Gave lock }) lock 0 =
    record { made = λ l. refl; least = least; most = most } in
    rw have.all_cells
    (with_locks cells seen all (record { number = k; caller = c; did = Gave lock }) lock 0
    (without_lock (held_by all c) (lock - cells.plain)) have (λ x. refl) (λ x. refl) makes low
    (λ caller apart. cc (next_isnt c caller apart)) (λ caller apart. none_isnt caller)
    (length-without_lock (held_by all c) (lock - cells.plain))
    (without_same (held_by all c) (lock - cells.plain) place ∙ sym (none_isnt c))
    (λ l ne. without_other (held_by all c) (lock - cells.plain) l ne place))

false_and : (b : Bool) → false ≡ (b && false)
false_and b = sym (and-false b)

-- one more event
step_by : (cells : Cells) (seen : List Stamped) (all : UsageKept) (k c : ℕ) (did : Did)
    → HaveSeen cells seen all → c < cells.callers
    → may_do cells (newest_first seen) c did ≡ true
    → HaveSeen cells (seen ++ record { number = k; caller = c; did = did } ∷ [])
    (kept_after all c did)
step_by cells seen all k c (Read cell value) have low may =
    search (with_access, false_and, below_of, first_true, arith)
step_by cells seen all k c (Wrote cell value) have low may =
    let plain = below_of cell cells.plain (first_true _ _ may) in
    with_access _ _ _ _ _ _ have (λ c. refl) (λ c. sym (and-true _))
    (λ lock. let apart : cell ≢ cells.plain + lock = omega arith in
    cc (isnt_same cell (cells.plain + lock) apart)) low plain
step_by cells seen all k c (Took lock) have low may = search (with_taken, arith)
step_by cells seen all k c (Gave lock) have low may = search (with_given, arith)
step_by cells seen all k c (Marked kind) have low may =
    record {
      all_held = have.all_held;
      all_cells = have.all_cells;
      held = λ caller below d. holds_still _ _ _ _ _ (λ lock. refl) (have.held _ below d);
      uses = λ cell inside d. not_used _ _ _ _ _ refl refl (have.uses _ inside d);
    }

pub have_seen_more : (cells : Cells) (seen : List Stamped) (all : UsageKept) (e : Stamped)
    → HaveSeen cells seen all → e.caller < cells.callers
    → may_do cells (newest_first seen) e.caller e.did ≡ true → HaveSeen cells (seen ++ e ∷ [])
    (kept_after all e.caller e.did)
have_seen_more cells seen all e have low may = step_by _ _ _ _ _ _ have low may

nobody_yet : (cells : Cells) (cell : ℕ) → IsUse cells [] cell unused
nobody_yet cells cell = grind arith

-- before the first event
holds_nothing : (cells : Cells) (caller : ℕ)
    → HoldsSo cells [] caller (replicate (words_for cells.locks) 0)
holds_nothing cells caller = record {
  room = length-replicate (words_for cells.locks) 0;
  holds = λ lock. has_none_of_zeros (words_for cells.locks) lock
      ∙ sym (cc (none_isnt caller, and-false (nat_lt lock cells.locks)));
}

pub have_seen_nothing : (cells : Cells)
    → HaveSeen cells []
    (record {
      held = replicate cells.callers (replicate (words_for cells.locks) 0);
      cells = replicate cells.plain unused;
    })
have_seen_nothing cells = record {
  all_held = length-replicate cells.callers (replicate (words_for cells.locks) 0);
  all_cells = length-replicate cells.plain unused;
  held = λ caller below d. subst (HoldsSo cells [] caller)
      (sym (get_or-replicate cells.callers caller (replicate (words_for cells.locks) 0) d below))
      (holds_nothing cells caller);
  uses = λ cell inside d. subst (IsUse cells [] cell)
      (sym (get_or-replicate cells.plain cell unused d inside)) (nobody_yet cells cell);
}

none_of : (test : ℕ → Bool) (k n : ℕ) → ((i : ℕ) → i < n → test (k + i) ≡ false)
    → list_any test (numbers_from k n) ≡ false
none_of test k zero none = refl
none_of test k (suc n) none =
    let here : k + 0 ≡ k = omega arith in
    (λ i. (sym (ap test here) ∙ none 0 (omega arith)) i || list_any test (numbers_from (k + 1) n))
    ∙ none_of test (k + 1) n (λ i low. let at : k + 1 + i ≡ k + (i + 1) = omega arith in ap test at
    ∙ none (i + 1) (omega arith))

none_at_all : {A : Type 0} (f : A → Bool) (xs : List A) → ((x : A) → f x ≡ false) → list_any f xs
    ≡ false
none_at_all f [] none = refl
none_at_all f (x ∷ xs) none = ap (λ b. b || list_any f xs) (none x) ∙ none_at_all f xs none

-- a cell that one caller alone has used, or that nobody has written, is race-free
pub free_at_once : (cells : Cells) (seen : List Stamped) (cell : ℕ) (kept : Use) → 0 < cells.callers
    → IsUse cells seen cell kept
    → (not (is_shared kept.users) || not kept.written) ≡ true → is_race_free cells seen cell ≡ true
unfolding is_race_free
free_at_once cells seen cell kept some is e = go kept.users refl
  where
    by_caller : (user : ℕ) → user < cells.callers → may_be_alone kept.users user ≡ true
        → ((list_any (is_used_by_alone seen cell) (numbers_below cells.callers)
        || is_unwritten seen cell) || list_any (is_guarded_by seen cell)
        (numbers_from cells.plain cells.locks)) ≡ true
    by_caller user low e = or_left
        (list_any (is_used_by_alone seen cell) (numbers_below cells.callers)
        || is_unwritten seen cell) _
        (or_left (list_any (is_used_by_alone seen cell) (numbers_below cells.callers)) _
        (tells_any (is_used_by_alone seen cell) 0 cells.callers user (omega arith) (omega arith)
        (is.alone user ∙ e)))

    go : (users : Users) → kept.users ≡ users
        → ((list_any (is_used_by_alone seen cell) (numbers_below cells.callers)
        || is_unwritten seen cell) || list_any (is_guarded_by seen cell)
        (numbers_from cells.plain cells.locks)) ≡ true
    go Nobody h = by_caller 0 some (cc)
    go (One user) h = by_caller user (is.user_below user h) (cc (same_number user))
    go Many h = grind arith

-- another is so if some lock is left that may guard it
pub free_by_locks : (cells : Cells) (seen : List Stamped) (cell : ℕ) (kept : Use) (empty : Bool)
    → IsUse cells seen cell kept
    → (not (is_shared kept.users) || not kept.written) ≡ false
    → (empty ≡ true → (lock : ℕ) → has_lock kept.guards lock ≡ false)
    → (((lock : ℕ) → has_lock kept.guards lock ≡ false) → empty ≡ true)
    → not empty ≡ is_race_free cells seen cell
unfolding is_race_free
free_by_locks cells seen cell kept empty is e none all = go kept.users refl
  where
    unguarded : list_any (is_guarded_by seen cell) (numbers_from cells.plain cells.locks) ≡ false
        → (lock : ℕ) (low : Bool) → nat_lt lock cells.locks ≡ low
        → (b : Bool) → is_guarded_by seen cell (cells.plain + lock) ≡ b → (low && b) ≡ false
    unguarded h lock false l b g = refl
    unguarded h lock true l false g = refl
    unguarded h lock true l true g =
        let below = below_of lock cells.locks l in
        let found : list_any (is_guarded_by seen cell) (numbers_from cells.plain cells.locks)
        ≡ true = tells_any (is_guarded_by seen cell) cells.plain cells.locks (cells.plain + lock)
        (omega arith) (omega arith) g in
        cc

    guarded : is_used kept.users ≡ true → (b : Bool) → list_any (is_guarded_by seen cell)
        (numbers_from cells.plain cells.locks) ≡ b
        → (r : Bool) → empty ≡ r → not empty ≡ list_any (is_guarded_by seen cell)
        (numbers_from cells.plain cells.locks)
    guarded u true h false k = ap not k ∙ sym h
    guarded u false h true k = ap not k ∙ sym h
    guarded u true h true k = search (none_of, is_below, arith)
    guarded u false h false k =
        let is_empty : empty
        ≡ true = all (λ lock. is.guards u lock ∙ unguarded h lock (nat_lt lock cells.locks) refl
        (is_guarded_by seen cell (cells.plain + lock)) refl) in
        cc

    go : (users : Users) → kept.users ≡ users
        → not empty ≡ ((list_any (is_used_by_alone seen cell) (numbers_below cells.callers)
        || is_unwritten seen cell) || list_any (is_guarded_by seen cell)
        (numbers_from cells.plain cells.locks))
    go Nobody h = search arith
    go (One user) h = search arith
    go Many h =
        let written : not kept.written ≡ false = cc in
        guarded (ap is_used h) _ refl empty refl
        ∙ ap (λ b. b || list_any (is_guarded_by seen cell) (numbers_from cells.plain cells.locks))
        (sym (is.unwritten ∙ written))
        ∙ ap (λ b. (b || is_unwritten seen cell) || list_any (is_guarded_by seen cell)
        (numbers_from cells.plain cells.locks))
        (sym (none_at_all (is_used_by_alone seen cell) (numbers_below cells.callers)
        (λ c. cc (is.alone c))))
