-- The whole run by turns: how it begins, and where it ends.
use Rattle.vyrd_memory.proofs.Prelude
use Prelude.{◌≡◌, ℕ, zero, suc, ◌+◌, ◌<◌, ◌^◌, Bool, true, false, not, ◌&&◌, ◌||◌, List, [], ◌∷◌}
use Prelude.{map, replicate, Some, None, option_map, refl, ap, ◌∙◌, sym, subst, arith, length}
use Prelude.{slice_get, slice_index, list_all, Header, Stamped, newest_first, numbers_from}
use Prelude.{numbers_below, plain_words, lock_words, value_in, both_true, Act, Turn, Script, stop}
use Prelude.{next_act, act_of, event_now, after_turns, after_rounds, turns_of, run_for, is_done}
use Prelude.{are_done, is_held_up, are_stuck, RunsTo, GetsStuck, AreStuckThere, IsReady, IsPlaying}
use Prelude.{HasPlayed, HaveComeToRest, Scene, memory_after, rounds_over}
use Rattle.std.specs.Prelude.{All}
use Rattle.std.proofs.lemmas.List.{length-map, length-replicate}
use Rattle.std.proofs.lemmas.List.Elements.{All-head, All-tail}
use Rattle.std.proofs.lemmas.Option.{slice_get-map, get_or_from_slice_get}
use Rattle.vyrd_memory.proofs.PlayLaws.{act_is}
use Rattle.vyrd_memory.proofs.PlayedLaws.{after_turns-append, turns_grow}

-- rounds as turns
rounds_are : (scripts : List Script) (rounds : ℕ) (earlier : List Stamped)
    → after_turns scripts (rounds_over (length scripts) rounds) earlier
    ≡ after_rounds scripts rounds earlier
rounds_are scripts zero earlier = refl
rounds_are scripts (suc rounds) earlier = after_turns-append scripts
    (numbers_below (length scripts)) (rounds_over (length _) rounds) earlier
    ∙ rounds_are scripts rounds (after_turns scripts (numbers_below (length scripts)) earlier)

-- one test of machines, and one of their numbers
all_by_number : {M : Type 0} (p : M → Bool) (q : ℕ → Bool) (machines : List M) (k : ℕ)
    → ((i : ℕ) (m : M) → slice_get machines i ≡ Some m → p m ≡ q (k + i)) → list_all p machines
    ≡ list_all q (numbers_from k (length machines))
all_by_number p q [] k same = refl
all_by_number p q (m ∷ machines) k same =
    let here : k + 0 ≡ k = omega arith in
    ap (λ b. b && list_all p machines) (same 0 m refl ∙ ap q here)
    ∙ ap (λ b. q k && b)
    (all_by_number p q machines (k + 1)
    (λ i x is. let there : k + suc i ≡ k + 1 + i = omega arith in
    same (suc i) x is ∙ ap q there))

pub done_is : {M : Type 0} (h : Header) (script : M → Script) (scripts : List Script)
    (machines : List M) (words : List ℕ) (history : List Stamped)
    → IsPlaying h script scripts machines words history
    → list_all (λ m. is_done (next_act (script m))) machines ≡ are_done scripts
    (newest_first history)
done_is h script = search (all_by_number, act_is, arith)

-- turns that leave the history as it is have no event
no_event : (scripts : List Script) (c : ℕ) (callers : List ℕ) (earlier : List Stamped)
    → after_turns scripts (c ∷ callers) earlier ≡ earlier
    → event_now earlier (act_of scripts c earlier) ≡ None
no_event scripts c callers earlier same = search (turns_grow, arith)

-- an act without an event is none, or is held up
held_up : (earlier : List Stamped) (act : Act) → event_now earlier act ≡ None
    → (is_done act || is_held_up earlier act) ≡ true
held_up earlier act e = grind arith

all_held_up : (scripts : List Script) (earlier : List Stamped) (k n : ℕ)
    → after_turns scripts (numbers_from k n) earlier ≡ earlier
    → list_all (λ c. is_done (act_of scripts c earlier) || is_held_up earlier
    (act_of scripts c earlier)) (numbers_from k n) ≡ true
all_held_up scripts earlier k zero same = refl
all_held_up scripts earlier k (suc n) same =
    let none = no_event scripts k (numbers_from _ n) earlier same in
    both_true (is_done (act_of _ k _) || is_held_up earlier (act_of _ k _))
    (list_all (λ c. is_done (act_of _ c _) || is_held_up earlier (act_of _ c _)) (numbers_from _ n))
    (held_up earlier (act_of _ k _) none) (all_held_up scripts earlier (k + 1) n (sym (cc) ∙ same))

-- what holds of each element holds of the one at a place
all_at : {A : Type 0} (P : A → Type 0) (xs : List A) → All P xs → (i : ℕ) (x : A) → slice_get xs i
    ≡ Some x → P x
all_at P [] all i x is = cc
all_at P (y ∷ xs) all zero x is = let same : y ≡ x = cc in subst P same (All-head P y xs all)
all_at P (y ∷ xs) all (suc i) x is = all_at P xs (All-tail P y xs all) i x is

-- how the run begins
pub ready_start : {M : Type 0} (h : Header) (header_of : M → Header) (machines : List M)
    (words : List ℕ) → All (λ m. header_of m ≡ h) machines
    → words ≡ replicate (plain_words h + lock_words h) 0 → IsReady h header_of machines words
ready_start h header_of machines words made zeros = record {
  made = λ i m is. all_at (λ m. header_of m ≡ h) machines made i m is;
  room = ap length zeros ∙ length-replicate (plain_words h + lock_words h) 0;
  small = λ cell. subst (λ words. slice_index words cell < 2 ^ 63) (sym zeros)
      (zero_small (plain_words h + lock_words h) cell);
}
  where
    zero_small : (n cell : ℕ) → slice_index (replicate n 0) cell < 2 ^ 63
    zero_small zero cell = omega arith
    zero_small (suc n) zero = omega arith
    zero_small (suc n) (suc cell) = zero_small n cell

zeros_are : (k n : ℕ) → replicate n 0 ≡ map (value_in []) (numbers_from k n)
zeros_are k zero = refl
zeros_are k (suc n) = ap (λ xs. 0 ∷ xs) (zeros_are (k + 1) n)

pub playing_start : {M : Type 0} (h : Header) (script : M → Script) (machines : List M)
    (words : List ℕ) (history : List Stamped) → history ≡ []
    → words ≡ replicate (plain_words h + lock_words h) 0
    → IsPlaying h script (map script machines) machines words history
playing_start h script machines words history none zeros = record {
  count = sym (length-map machines script);
  left = λ i m is. cc (get_or_from_slice_get (map script machines) i (script m) stop (slice_get-map
      script machines i ∙ ap (option_map script) is));
  words_are = cc (zeros_are 0 (plain_words h + lock_words h));
}

-- the history after the turns and the rounds
history_is : {M : Type 0} (h : Header) (header_of : M → Header) (script : M → Script)
    (turns : List Turn) (a b c : Scene M)
    → IsPlaying h script (map script a.machines) a.machines a.words a.history → a.history ≡ []
    → HasPlayed h header_of script (turns_of turns) a b
    → (rest : HaveComeToRest h header_of script b c) → newest_first c.history
    ≡ run_for (map script a.machines) turns rest.rounds
history_is h header_of script turns rest = grind (arith, after_turns, rounds_are)

pub runs_to : {M : Type 0} (h : Header) (header_of : M → Header) (script : M → Script)
    (turns : List Turn) (a b c : Scene M)
    → IsPlaying h script (map script a.machines) a.machines a.words a.history → a.history ≡ []
    → HasPlayed h header_of script (turns_of turns) a b
    → HaveComeToRest h header_of script b c → list_all (λ m. is_done (next_act (script m)))
    c.machines ≡ true
    → RunsTo (map script a.machines) turns c.history
    × (c.words ≡ memory_after h (newest_first c.history))
runs_to h header_of script turns a b c start none first rest done =
    let scripts = map script a.machines in
    let end = rest.played.plays scripts (first.plays scripts start) in (
      record {
        rounds = rest.rounds;
        history_is = history_is h header_of script turns a b c start none first rest;
        done = sym (done_is h script scripts c.machines c.words c.history end) ∙ done;
      },
      end.words_are,
    )

gets_stuck : {M : Type 0} (h : Header) (header_of : M → Header) (script : M → Script)
    (turns : List Turn) (a b c : Scene M)
    → IsPlaying h script (map script a.machines) a.machines a.words a.history → a.history ≡ []
    → HasPlayed h header_of script (turns_of turns) a b
    → HaveComeToRest h header_of script b c → list_all (λ m. is_done (next_act (script m)))
    c.machines ≡ false
    → GetsStuck (map script a.machines) turns
gets_stuck h header_of script turns a b c start none first rest undone =
    let scripts = map script a.machines in
    let end = rest.played.plays scripts (first.plays _ start) in
    let still = ap (λ n. after_turns scripts (numbers_below n) (newest_first c.history))
    (sym (first.count ∙ start.count)) ∙ rest.still scripts (first.plays _ start) in
    record {
      rounds = rest.rounds;
      stuck = ap (are_stuck scripts)
          (sym (history_is h header_of script turns a b c start none first rest))
          ∙ both_true (not (are_done scripts (newest_first c.history)))
          (list_all (λ i. is_done (act_of scripts i (newest_first c.history))
          || is_held_up (newest_first c.history) (act_of scripts i (newest_first c.history)))
          (numbers_below (length scripts)))
          (ap not (sym (done_is h script scripts c.machines c.words c.history end) ∙ undone))
          (all_held_up scripts (newest_first c.history) 0 (length scripts) still);
    }

-- and the machines stand there
pub stuck_there : {M : Type 0} (h : Header) (header_of : M → Header) (script : M → Script)
    (turns : List Turn) (a b c : Scene M)
    → IsPlaying h script (map script a.machines) a.machines a.words a.history → a.history ≡ []
    → HasPlayed h header_of script (turns_of turns) a b
    → HaveComeToRest h header_of script b c → list_all (λ m. is_done (next_act (script m)))
    c.machines ≡ false
    → AreStuckThere script (map script a.machines) turns c.machines
unfolding gets_stuck
stuck_there h header_of script turns a b c start none first rest undone =
    let scripts = map script a.machines in
    let end = rest.played.plays scripts (first.plays _ start) in
    let stuck = gets_stuck h header_of _ _ a b c start none first rest undone in
    record {
      stuck = stuck;
      left = λ i m is. cc
          (end.left i m is, history_is h header_of script turns a b c start none first rest);
    }
