-- One event of a run by turns, in the plain memory and in the history.
use Rattle.vyrd_memory.proofs.Prelude
use Prelude.{◌≡◌, ℕ, zero, suc, ◌+◌, ◌<◌, ◌^◌, Bool, true, false, cond, ◌&&◌, List, [], ◌∷◌, ◌++◌}
use Prelude.{map, Option, Some, None, refl, ap, ◌∙◌, sym, subst, arith, ◌≢◌, ◌==◌, nat_lt, is_some}
use Prelude.{length, slice_get, slice_index, set, unwrap_or, option_or, nat_tests, same_Some}
use Prelude.{slice_get_within, ∥∥₁_elim, Bool-set, Header, Did, Read, Wrote, Took, Gave, Marked}
use Prelude.{Stamped, newest_first, numbers_from, plain_words, lock_words, made_of}
use Prelude.{newest_first-push, length-newest_first, map_alike_from, first_true, second_true}
use Prelude.{same_number, Act, Load, Store, Take, Give, Mark, Done, Script, step, next_act}
use Prelude.{after_answer, answer_of, left_after, Situation, IsSound, IsSoundSomewhere, may_act}
use Prelude.{part_of, script_of, act_of, event_now, with_event, after_turn, event_in, words_with}
use Prelude.{IsWithin, IsReady, IsPlaying, HasPlayed, scene, memory_after, total}
use Rattle.std.proofs.lemmas.List.{length-set, get_or-set_same, get_or-set_other}
use Rattle.vyrd_memory.proofs.NumberLists.{element_below}

-- the same as `IsWithin`, as a test
within_test : ℕ → Act → Bool
within_test n (Load cell) = nat_lt cell n
within_test n (Store cell value) = nat_lt cell n && nat_lt value (2 ^ 63)
within_test n (Take lock) = nat_lt lock n
within_test n (Give lock) = nat_lt lock n
within_test n (Mark kind) = true
within_test n Done = true

plain_within : (p l cell : ℕ) → nat_lt cell p ≡ true → nat_lt cell (p + l) ≡ true
plain_within p l cell e = grind (arith, nat_tests)

may_within : (h : Header) (s : Situation) (act : Act) → may_act h s act ≡ true
    → within_test (plain_words h + lock_words h) act ≡ true
unfolding within_test
may_within h s act may = search (plain_within, first_true, is_some, second_true, arith)

tested : (n : ℕ) (act : Act) → within_test n act ≡ true → IsWithin n act
unfolding within_test
tested n act e = search (first_true, second_true, arith)

sound_within : (h : Header) (script : Script) → (s : Situation) × IsSound h s script
    → within_test (plain_words h + lock_words h) (next_act script) ≡ true
unfolding within_test
sound_within h script sound = search (step, may_within, arith)

-- what a sound script does next keeps to its memory
pub within : (h : Header) (script : Script) (n : ℕ) → n ≡ plain_words h + lock_words h
    → IsSoundSomewhere h script → IsWithin n (next_act script)
within h script n e sound =
    subst (λ n. IsWithin n (next_act script)) (sym e)
    (tested (plain_words h + lock_words h) (next_act script)
    (∥∥₁_elim sound (Bool-set _ _) (sound_within h script)))

-- an act finds in the memory what it finds in the history
pub same_event : (h : Header) (earlier : List Stamped) (act : Act)
    → IsWithin (plain_words h + lock_words h) act
    → event_in (memory_after h earlier) act ≡ event_now earlier act
same_event h earlier act is = grind (arith, element_below)

-- one element of a list over numbers is changed
set_from : (f g : ℕ → ℕ) (k n i v : ℕ) → i < n → g (k + i) ≡ v → ((j : ℕ) → j ≢ k + i → f j ≡ g j)
    → set (map f (numbers_from k n)) i v ≡ map g (numbers_from k n)
set_from f g k zero i v low is same = absurd (omega (arith, low))
set_from f g k (suc n) zero v low is same = search (map_alike_from, arith)
set_from f g k (suc n) (suc i) v low is same =
    let there : k + 1 + i ≡ k + suc i = omega arith in
    ap (λ x. x ∷ set (map f (numbers_from (k + 1) n)) i v) (same k (omega arith))
    ∙ ap (λ xs. g k ∷ xs)
    (set_from f g (k + 1) n i v (omega arith) (ap g there ∙ is) (λ j apart. same j (omega arith)))

-- the value of a cell after an event that makes it so, and of every other cell
made_here : (n cell value : ℕ) (o : Option ℕ) → n ≡ cell
    → unwrap_or (option_or (cond (cell == n) (Some value) None) o) 0 ≡ value
made_here n cell value o e = cc (same_number cell)

made_there : (n cell value : ℕ) (o : Option ℕ) → n ≢ cell → unwrap_or o 0
    ≡ unwrap_or (option_or (cond (cell == n) (Some value) None) o) 0
made_there n cell value o apart = grind (arith, nat_tests, apart)

changed_memory : (h : Header) (e : Stamped) (earlier : List Stamped) (cell value : ℕ)
    → cell < plain_words h + lock_words h
    → ((n : ℕ) → made_of n e.caller e.did ≡ cond (cell == n) (Some value) None)
    → set (memory_after h earlier) cell value ≡ memory_after h (e ∷ earlier)
changed_memory h e earlier cell value low made = search (set_from, made_here, made_there, arith)

-- what an event has to keep to: that of an act that keeps to the memory
WithinMemory : ℕ → Did → Type 0
WithinMemory n (Read cell value) = cell < n
WithinMemory n (Wrote cell value) = (cell < n) × (value < 2 ^ 63)
WithinMemory n (Took lock) = lock < n
WithinMemory n (Gave lock) = lock < n
WithinMemory n (Marked kind) = Unit {0}

event_within : (n : ℕ) (words : List ℕ) (act : Act) (did : Did) → IsWithin n act
    → event_in words act ≡ Some did → WithinMemory n did
unfolding WithinMemory
event_within n words act did is e = search arith

next_memory : (h : Header) (earlier : List Stamped) (number c : ℕ) (did : Did)
    → WithinMemory (plain_words h + lock_words h) did
    → words_with (memory_after h earlier) c did ≡ memory_after h
    (record { number = number; caller = c; did = did } ∷ earlier)
unfolding WithinMemory
next_memory h earlier number c did is = search (changed_memory, arith)

small_set : (words : List ℕ) (i v : ℕ) → i < length words → v < 2 ^ 63
    → ((cell : ℕ) → slice_index words cell < 2 ^ 63) → (cell : ℕ)
    → slice_index (set words i v) cell < 2 ^ 63
small_set words i v low small all cell = by_place (cell == i) refl
  where
    by_place : (b : Bool) → (cell == i) ≡ b → slice_index (set words i v) cell < 2 ^ 63
    by_place true e = grind (arith, get_or-set_same words i v 0 low)
    by_place false e = let apart : cell ≢ i = grind (arith, nat_tests) in
        rw (get_or-set_other words i cell v 0 apart) (all cell)

next_small : (words : List ℕ) (c : ℕ) (did : Did) → c < 2 ^ 32 → WithinMemory (length words) did
    → ((cell : ℕ) → slice_index words cell < 2 ^ 63)
    → (cell : ℕ) → slice_index (words_with words c did) cell < 2 ^ 63
unfolding WithinMemory
next_small words c did low is all cell = search (small_set, arith)

next_length : (words : List ℕ) (c : ℕ) (did : Did) → length (words_with words c did) ≡ length words
next_length words c did = grind (arith, length-set)

-- what stands in a list where one element was changed
pub slice_get-set : {A : Type 0} (xs : List A) (c i : ℕ) (x : A) → c < length xs
    → slice_get (set xs c x) i ≡ cond (i == c) (Some x) (slice_get xs i)
slice_get-set [] c i x low = absurd (omega (arith, low))
slice_get-set (y ∷ xs) zero zero x low = refl
slice_get-set (y ∷ xs) zero (suc i) x low = grind arith
slice_get-set (y ∷ xs) (suc c) zero x low = grind arith
slice_get-set (y ∷ xs) (suc c) (suc i) x low = grind (arith, slice_get-set xs c i x (omega arith))

total-set : {M : Type 0} (ahead : M → ℕ) (machines : List M) (c : ℕ) (m n : M)
    → slice_get machines c ≡ Some m
    → total ahead (set machines c n) + ahead m ≡ total ahead machines + ahead n
total-set ahead [] c m n is = cc
total-set ahead (x ∷ machines) zero m n is = grind (arith, same_Some x m is)
total-set ahead (x ∷ machines) (suc c) m n is = omega (arith, total-set ahead machines c m n is)

pub total_falls : {M : Type 0} (ahead : M → ℕ) (machines : List M) (c : ℕ) (m n : M)
    → slice_get machines c ≡ Some m → ahead n < ahead m
    → total ahead (set machines c n) < total ahead machines
total_falls ahead machines c m n is falls = omega (arith, total-set ahead machines c m n is, falls)

-- what is known of a turn that makes an event
pub record IsTurn {M : Type 0} (h : Header) (header_of : M → Header) (script : M → Script)
    (machines : List M) (c : ℕ) (m n : M) (words : List ℕ)
    (did : Did) : Type 0 where
  pub ready : IsReady h header_of machines words
  pub caller : c < 2 ^ 32
  pub here : slice_get machines c ≡ Some m
  pub sound : IsSoundSomewhere (header_of m) (script m)
  pub event : event_in words (next_act (script m)) ≡ Some did
  pub header : header_of n ≡ header_of m
  pub script_is : script n ≡ after_answer (script m) (answer_of did)

-- the act keeps to the memory
turn_within : {M : Type 0} (h : Header) (header_of : M → Header) (script : M
    → Script) (machines : List M) (c : ℕ) (m n : M) (words : List ℕ) (did : Did)
    → IsTurn h header_of script machines c m n words did → IsWithin (plain_words h + lock_words h)
    (next_act (script m))
turn_within h header_of script machines c m n words did t = within h (script m)
    (plain_words h + lock_words h) refl (rw (← t.ready.made c m t.here) t.sound)

turn_did_within : {M : Type 0} (h : Header) (header_of : M → Header) (script : M
    → Script) (machines : List M) (c : ℕ) (m n : M) (words : List ℕ) (did : Did)
    → IsTurn h header_of script machines c m n words did
    → WithinMemory (plain_words h + lock_words h) did
turn_did_within h header_of script machines c m n words did t =
    search (event_within, turn_within, arith)

pub next_ready : {M : Type 0} (h : Header) (header_of : M → Header) (script : M
    → Script) (machines : List M) (c : ℕ) (m n : M) (words : List ℕ) (did : Did)
    → IsTurn h header_of script machines c m n words did → IsReady h header_of (set machines c n)
    (words_with words c did)
next_ready h header_of script machines c m n words did t = record {
  made = λ i x is. by_place i x (i == c)
      (sym (slice_get-set machines c i n (slice_get_within machines c m t.here)) ∙ is);
  room = next_length words c did ∙ t.ready.room;
  small =
      next_small words c did t.caller
      (rw t.ready.room
      (turn_did_within h header_of script machines c m n words did t)) t.ready.small;
}
  where
    by_place : (i : ℕ) (x : _) (b : Bool) → cond b (Some n) (slice_get machines i) ≡ Some x
        → header_of x ≡ h
    by_place i x b is = search arith

-- the caller's part has one event more, and the others' are as before
part_here : (c number : ℕ) (did : Did) (earlier : List Stamped)
    → part_of c (record { number = number; caller = c; did = did } ∷ earlier) ≡ did
    ∷ part_of c earlier
part_here c number did earlier = cc (same_number c)

pub part_there : (i c number : ℕ) (did : Did) (earlier : List Stamped) → (c == i) ≡ false
    → part_of i (record { number = number; caller = c; did = did } ∷ earlier) ≡ part_of i earlier
part_there i c number did earlier apart = cc

pub next_playing : {M : Type 0} (h : Header) (header_of : M → Header) (script : M
    → Script) (machines : List M) (c number : ℕ) (m n : M) (words : List ℕ)
    (did : Did) (history : List Stamped)
    → IsTurn h header_of script machines c m n words did → (scripts : List Script)
    → IsPlaying h script scripts machines words history
    → IsPlaying h script scripts (set machines c n) (words_with words c did)
    (history ++ record { number = number; caller = c; did = did } ∷ [])
next_playing h header_of script machines c number m n words did history t scripts playing =
    record {
      count = length-set machines c n ∙ playing.count;
      left = λ i x is. ap_left i
          (newest_first-push history event)
          (by_place i x (i == c) refl
          (sym (slice_get-set machines c i n (slice_get_within machines c m t.here)) ∙ is));
      words_are = cc (
        playing.words_are,
        next_memory h (newest_first history) number c did
            (turn_did_within h header_of script machines c m n words did t),
        newest_first-push history event,
      );
    }
  where
    event : Stamped
    event = record { number = number; caller = c; did = did }

    ap_left : (i : ℕ) {s : Script} {later : List Stamped} → later ≡ event ∷ newest_first history
        → s ≡ left_after (script_of scripts i) (part_of i (event ∷ newest_first history))
        → s ≡ left_after (script_of scripts i) (part_of i later)
    ap_left i e is = cc

    by_place : (i : ℕ) (x : _) (b : Bool) → (i == c) ≡ b → cond b (Some n) (slice_get machines i)
        ≡ Some x
        → script x ≡ left_after (script_of scripts i) (part_of i (event ∷ newest_first history))
    by_place i x true e is = search (part_here, part_of, arith)
    by_place i x false e is = search (part_there, arith)

-- the act of a machine is that of its caller
pub act_is : {M : Type 0} (h : Header) (script : M
    → Script) (scripts : List Script) (machines : List M) (words : List ℕ) (history : List Stamped)
    (c : ℕ) (m : M)
    → IsPlaying h script scripts machines words history → slice_get machines c ≡ Some m
    → act_of scripts c (newest_first history) ≡ next_act (script m)
act_is h script scripts machines words history c m playing here = cc (playing.left c m here)

-- the event of a machine is that of its caller
pub event_is : {M : Type 0} (h : Header) (script : M
    → Script) (scripts : List Script) (machines : List M) (words : List ℕ) (history : List Stamped)
    (c : ℕ) (m : M)
    → IsPlaying h script scripts machines words history → slice_get machines c ≡ Some m
    → IsWithin (plain_words h + lock_words h) (next_act (script m))
    → event_now (newest_first history) (act_of scripts c (newest_first history)) ≡ event_in words
    (next_act (script m))
event_is h script scripts machines words history c m playing here is =
    search (act_is, here, same_event, arith)

-- a turn with an event is the turn of the definition
pub turn_is : {M : Type 0} (h : Header) (header_of : M → Header) (script : M
    → Script) (machines : List M) (c : ℕ) (m n : M) (words : List ℕ) (did : Did)
    (history : List Stamped)
    → IsTurn h header_of script machines c m n words did → (scripts : List Script)
    → IsPlaying h script scripts machines words history
    → newest_first (history ++ record { number = length history; caller = c; did = did } ∷ [])
    ≡ after_turn scripts c (newest_first history)
turn_is h header_of script machines c m n words did history t scripts playing =
    newest_first-push history _
    ∙ ap (λ k. record { number = k; caller = c; did = did } ∷ newest_first history)
    (sym (length-newest_first history)) ∙ ap (with_event c (newest_first history))
    (sym (event_is h script scripts machines words history c m playing t.here
    (turn_within h _ _ _ c m n _ _ t) ∙ t.event))

-- a turn without an event is too
pub no_turn_is : {M : Type 0} (h : Header) (header_of : M → Header) (script : M
    → Script) (machines : List M) (c : ℕ) (m : M) (words : List ℕ) (history : List Stamped)
    → IsReady h header_of machines words → slice_get machines c ≡ Some m
    → IsSoundSomewhere (header_of m) (script m)
    → event_in words (next_act (script m)) ≡ None
    → (scripts : List Script) → IsPlaying h script scripts machines words history
    → newest_first history ≡ after_turn scripts c (newest_first history)
no_turn_is h header_of script machines c m words history ready here sound none scripts playing =
    ap (with_event c (newest_first history))
    (sym (event_is h script scripts machines words history c m playing here
    (within h (script m) (plain_words h + lock_words h) refl
    (subst (λ h. IsSoundSomewhere h (script m)) (ready.made c m here) sound)) ∙ none))

-- the act of a machine that is ready keeps to the memory
pub machine_within : {M : Type 0} (h : Header) (header_of : M → Header) (script : M
    → Script) (machines : List M) (c : ℕ) (m : M) (words : List ℕ) (act : Act)
    → IsReady h header_of machines words → slice_get machines c ≡ Some m
    → IsSoundSomewhere (header_of m) (script m) → act ≡ next_act (script m)
    → IsWithin (length words) act
machine_within h header_of script machines c m words act ready here sound is = subst (IsWithin _)
    (sym is) (within h (script m) (length _) ready.room (rw (← ready.made c m here) sound))

-- the turn that has been played
pub turn_played : {M : Type 0} (h : Header) (header_of : M → Header) (script : M
    → Script) (machines : List M) (c : ℕ) (m n : M) (words later_words : List ℕ) (did : Did)
    (history later_history : List Stamped) → IsTurn h header_of script machines c m n words did
    → later_words ≡ words_with words c did
    → later_history ≡ history ++ record { number = length history; caller = c; did = did } ∷ []
    → HasPlayed h header_of script (c ∷ []) (scene machines words history)
    (scene (set machines c n) later_words later_history)
turn_played h header_of script machines c m n words later_words did history later_history t
    words_are history_is =
    record {
      ready = subst (IsReady h _ _) (sym words_are) (next_ready h _ _ _ c m n _ _ t);
      count = length-set _ c n;
      plays = λ scripts playing. subst
          (λ words. IsPlaying h script scripts (set machines c n) words later_history)
          (sym words_are)
          (subst (IsPlaying h _ scripts _ _) (sym history_is)
          (next_playing h _ _ _ c _ m n _ _ _ t _ playing));
      history = λ scripts playing. ap newest_first history_is
          ∙ turn_is h _ _ _ c m n _ _ history t scripts playing;
    }

-- a turn without an event has been played too
pub no_turn_played : {M : Type 0} (h : Header) (header_of : M → Header) (script : M
    → Script) (machines : List M) (c : ℕ) (m : M) (words later_words : List ℕ)
    (history : List Stamped)
    → IsReady h header_of machines words → slice_get machines c ≡ Some m
    → IsSoundSomewhere (header_of m) (script m)
    → event_in words (next_act (script m)) ≡ None
    → later_words ≡ words
    → HasPlayed h header_of script (c ∷ []) (scene machines words history)
    (scene machines later_words history)
no_turn_played h header_of script machines c m words later_words history e9 e10 e11 e12 e13 = search
    (no_turn_is, arith)
