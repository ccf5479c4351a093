-- A round that leaves out callers that are done is a round over all of them.
use Rattle.vyrd_memory.proofs.Prelude
use Prelude.{◌≡◌, ◌≢◌, ℕ, zero, suc, ◌+◌, ◌<◌, ◌≤◌, Bool, true, false, cond, List, [], ◌∷◌, ◌++◌}
use Prelude.{length, get_or, slice_get, Option, Some, None, refl, ap, ◌∙◌, sym, arith, append-nil}
use Prelude.{filter, Header, Did, Stamped, newest_first, numbers_from, numbers_below, isnt_same}
use Prelude.{Act, Script, act_of, event_now, with_event, after_turn, after_turns, is_done}
use Prelude.{is_unfinished, LeavesOut, IsPlaying, Stage, HasShown}
use Rattle.std.proofs.lemmas.List.Elements.{filter-append}
use Rattle.vyrd_base.proofs.PlaceLaws.{numbers_below-push}
use Rattle.vyrd_memory.proofs.PlayLaws.{part_there}

-- no event where all is done
no_event : (earlier : List Stamped) (act : Act) → is_done act ≡ true → event_now earlier act ≡ None
no_event earlier act e = grind arith

-- what another caller does next stays after a turn
other_act : (scripts : List Script) (caller c : ℕ) (earlier : List Stamped) (event : Option Did)
    → caller ≢ c
    → act_of scripts c (with_event caller earlier event) ≡ act_of scripts c earlier
other_act scripts caller c earlier event apart = grind (arith, apart, part_there, isnt_same)

true_isnt_false : (keep : ℕ → Bool) (a b : ℕ) → keep a ≡ true → keep b ≡ false → a ≢ b
true_isnt_false keep a b kept left same = let at = ap keep same in cc

-- all that are left out are done
abbrev AreDone : List Script → (ℕ → Bool) → ℕ → List Stamped → Type 0
AreDone scripts keep n earlier = (c : ℕ) → c < n → keep c ≡ false
    → is_done (act_of scripts c earlier) ≡ true

-- turns of callers in a row, and of those alone that may have an event
first_left_out : (scripts : List Script) (keep : ℕ → Bool) (n k count : ℕ) (earlier : List Stamped)
    → k < n → AreDone scripts keep n earlier
    → ((later : List Stamped) → AreDone scripts keep n later
    → after_turns scripts (filter keep (numbers_from (k + 1) count)) later ≡ after_turns scripts
    (numbers_from (k + 1) count) later)
    → (b : Bool) → keep k ≡ b
    → after_turns scripts
    (cond b (k ∷ filter keep (numbers_from (k + 1) count))
    (filter keep (numbers_from (k + 1) count))) earlier
    ≡ after_turns scripts (numbers_from (k + 1) count) (after_turn scripts k earlier)
first_left_out scripts keep n k count earlier within done rest b kept = search
    (other_act, true_isnt_false, no_event, arith)

turns_left_out : (scripts : List Script) (keep : ℕ → Bool) (n k count : ℕ) (earlier : List Stamped)
    → k + count ≤ n → AreDone scripts keep n earlier
    → after_turns scripts (filter keep (numbers_from k count)) earlier ≡ after_turns scripts
    (numbers_from k count) earlier
turns_left_out scripts keep n k zero earlier within done = refl
turns_left_out scripts keep n k (suc count) earlier within done =
    first_left_out scripts keep n k count earlier (omega arith) done
    (λ later still. turns_left_out scripts keep n (k + 1) count later (omega arith) still)
    (keep k) refl

none_past : {M : Type 0} (machines : List M) (c : ℕ) → slice_get machines c ≡ None → length machines
    ≤ c
none_past [] c e = omega arith
none_past (m ∷ machines) zero e = absurd (cc)
none_past (m ∷ machines) (suc c) e = let past = none_past machines c e in omega arith

-- a round over the callers that aren't left out
pub round_shown : {M S : Type 0} (h : Header) (header_of : M → Header) (script : M → Script)
    (has_taken : S → List Stamped → Type 0)
    (callers : List ℕ) (a b : Stage M S) → LeavesOut script a.machines callers
    → HasShown h header_of script has_taken callers a b → HasShown h header_of script has_taken
    (numbers_below (length a.machines)) a b
round_shown {M} {S} h header_of script has_taken callers a b left shown = record {
  ready = shown.ready;
  count = shown.count;
  shown = λ history taken.
      let s = shown.shown history taken in
      record {
        later = s.later;
        taken = s.taken;
        played = record {
          ready = s.played.ready;
          count = s.played.count;
          plays = s.played.plays;
          history = λ scripts playing. s.played.history scripts playing
              ∙ ap (λ cs. after_turns scripts cs (newest_first history)) left.kept
              ∙ turns_left_out scripts left.keep (length a.machines) 0 (length a.machines)
              (newest_first history) (omega arith)
              (λ c low left_out. is_done_there scripts history playing c low left_out);
        };
      };
}
  where
    is_done_there : (scripts : List Script) (history : List Stamped)
        → IsPlaying h script scripts a.machines a.words history
        → (c : ℕ) → c < length a.machines → left.keep c ≡ false
        → is_done (act_of scripts c (newest_first history)) ≡ true
    is_done_there scripts history playing c low left_out = at (slice_get a.machines c) refl
      where
        at : (o : Option M) → slice_get a.machines c ≡ o
            → is_done (act_of scripts c (newest_first history)) ≡ true
        at None none = let past = none_past a.machines c none in absurd (omega arith)
        at (Some m) here = cc (playing.left c m here, left.done c m left_out here)

-- the callers of a list are kept, and are below the number of machines
kept_first : (keep : ℕ → Bool) (k : ℕ) (rest : List ℕ)
    → ((i : ℕ) → i < length rest → keep (get_or rest i 0) ≡ true)
    → (b : Bool) → keep k ≡ b → (i : ℕ) → i < length (cond b (k ∷ rest) rest)
    → keep (get_or (cond b (k ∷ rest) rest) i 0) ≡ true
kept_first keep k rest later b kept i low = search arith

kept_at : (keep : ℕ → Bool) (k count i : ℕ) → i < length (filter keep (numbers_from k count))
    → keep (get_or (filter keep (numbers_from k count)) i 0) ≡ true
kept_at keep k zero i low = absurd (omega arith)
kept_at keep k (suc count) i low = kept_first keep k (filter keep (numbers_from (k + 1) count))
    (kept_at keep (k + 1) count) (keep k) refl i low

below_first : (k n : ℕ) (rest : List ℕ) → k < n → ((i : ℕ) → i < length rest → get_or rest i 0 < n)
    → (b : Bool) (i : ℕ) → i < length (cond b (k ∷ rest) rest)
    → get_or (cond b (k ∷ rest) rest) i 0 < n
below_first k n rest here later b i low = grind (arith, here)

below_at : (keep : ℕ → Bool) (n k count i : ℕ) → k + count ≤ n
    → i < length (filter keep (numbers_from k count))
    → get_or (filter keep (numbers_from k count)) i 0 < n
below_at keep n k zero i within low = absurd (omega arith)
below_at keep n k (suc count) i within low = below_first k n (filter keep (numbers_from _ _))
    (omega arith) (λ j l. below_at keep n (k + 1) count j (omega arith) l) (keep k) i low

pub callers_below : {M : Type 0} (script : M → Script) (machines : List M) (callers : List ℕ)
    → LeavesOut script machines callers
    → (i : ℕ) → i < length callers → get_or callers i 0 < length machines
callers_below script machines i left = grind (arith, left, below_at)

-- the machines that are left out stay as they are
pub still_left_out : {M : Type 0} (script : M → Script) (machines later : List M) (callers : List ℕ)
    → LeavesOut script machines callers
    → length later ≡ length machines
    → ((c : ℕ) → ((i : ℕ) → i < length callers → get_or callers i 0 ≢ c) → slice_get later c
    ≡ slice_get machines c)
    → LeavesOut script later callers
still_left_out {M} script machines later callers left count others = record {
  keep = left.keep;
  kept = cc (left.kept);
  done = λ c m left_out here. left.done c m left_out
      (sym (others c (λ i low. true_isnt_false left.keep _ c (kept i low) left_out)) ∙ here);
}
  where
    kept : (i : ℕ) → i < length callers → left.keep (get_or callers i 0) ≡ true
    kept i low = search (kept_at, arith)

-- the callers up to one more
pub one_more_kept : (keep : ℕ → Bool) (n : ℕ) → keep n ≡ true → filter keep (numbers_below (n + 1))
    ≡ filter keep (numbers_below n) ++ n ∷ []
one_more_kept keep n kept = grind (arith, kept, numbers_below-push, filter-append)

pub one_more_left : (keep : ℕ → Bool) (n : ℕ) → keep n ≡ false → filter keep (numbers_below (n + 1))
    ≡ filter keep (numbers_below n)
one_more_left keep n left =
    ap (filter keep) (numbers_below-push n) ∙ filter-append keep (numbers_below n) (n ∷ [])
    ∙ ap (λ b. filter keep (numbers_below n) ++ cond b (n ∷ []) []) left
    ∙ append-nil (filter keep (numbers_below n))

-- those whose machines aren't done
pub unfinished_are : {M : Type 0} (script : M → Script) (machines : List M) (callers : List ℕ)
    → callers ≡ filter (λ c. is_unfinished script (slice_get machines c))
    (numbers_below (length machines)) → LeavesOut script machines callers
unfinished_are script machines callers are = grind arith
