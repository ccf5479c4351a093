-- The run by turns isn't stuck: a caller that waits for a lock has only lower ones, and the caller
-- that holds that lock waits for a higher one.
use Rattle.vyrd_every.proofs.Prelude
use Prelude.{◌≡◌, ℕ, zero, suc, ◌+◌, ◌<◌, ◌≤◌, ◌⊎◌, inl, inr, Bool, true, false, not, ◌&&◌, ◌||◌}
use Prelude.{List, [], ◌∷◌, length, refl, arith, ◌==◌, nat_lt, nat_le, list_all, nat_tests, Header}
use Prelude.{Did, Stamped, numbers_from, Cells, cells_of, is_lock, value_in, may_do, first_true}
use Prelude.{second_true, same_number, below_of, plain_isnt, Act, Take, Turn, Script, step}
use Prelude.{next_act, left_after, Situation, IsSound, holds, part_of, script_of, act_of, is_done}
use Prelude.{are_done, is_held_up, are_stuck, after_turns, GetsStuck, all_pass, situation_after}
use Prelude.{sound_keeps, AreLegal, does, caller_low, value_with, are_answers, held_is, IsRun}
use Prelude.{run_sound, turns_run, rounds_run, never}
use Rattle.vyrd_every.proofs.Keeping.{Keeping}
use Rattle.vyrd_every.proofs.Reached.{Reached, reached}

-- a lock is free, or has the number of a caller plus 1
abbrev Held : Cells → ℕ → Type 0
Held cells value = (value ≡ 0) ⊎ ((d : ℕ) × (d < cells.callers) × (value ≡ d + 1))

event_held : (cells : Cells) (earlier : List Stamped) (lock c : ℕ) (did : Did) → c < cells.callers
    → may_do cells earlier c did ≡ true
    → is_lock cells lock ≡ true → Held cells (value_in earlier lock)
    → Held cells (value_with earlier lock c did)
event_held cells earlier lock c did low may is before = grind (arith, plain_isnt, first_true)

lock_held : (cells : Cells) (earlier : List Stamped) (lock : ℕ) → AreLegal cells earlier
    → is_lock cells lock ≡ true → Held cells (value_in earlier lock)
lock_held cells [] lock legal is = inl refl
lock_held cells (e ∷ earlier) lock legal is =
    event_held cells earlier lock e.caller e.did (caller_low cells earlier e legal.0)
    (does cells earlier e legal.0) is (lock_held cells earlier lock legal.1 is)

-- what is left of a script that takes a lock next
takes_lock : (h : Header) (s : Situation) (script : Script) (lock : ℕ) → IsSound h s script
    → next_act script ≡ Take lock → is_lock (cells_of h) lock ≡ true
takes_lock h s script lock sound e = grind (arith, step, first_true)

-- an act that is held up takes a lock that isn't free
held_up : (earlier : List Stamped) (act : Act) → is_held_up earlier act ≡ true → (lock : ℕ)
    × (act ≡ Take lock) × ((value_in earlier lock == 0) ≡ false)
held_up earlier act e = grind arith

-- each caller is done, or held up
abbrev AllWait : Header → List Script → List Stamped → Type 0
AllWait h scripts earlier = (c : ℕ) → c < h.callers
    → (is_done (act_of scripts c earlier) || is_held_up earlier (act_of scripts c earlier)) ≡ true

-- nobody waits for a lock that is that near the last
none_waits : (h : Header) (scripts : List Script) (keeping : Keeping h scripts)
    (earlier : List Stamped) (n c lock : ℕ) → IsRun h scripts earlier
    → AllWait h scripts earlier → c < h.callers → act_of scripts c earlier ≡ Take lock
    → (value_in earlier lock == 0) ≡ false
    → (cells_of h).plain + (cells_of h).locks ≤ lock + n → ⊥
none_waits h scripts keeping earlier zero c lock run wait low takes taken near =
    let is : is_lock (cells_of h) lock ≡ true = takes_lock h (situation_after (part_of c earlier))
    (left_after (script_of scripts c) (part_of c earlier)) lock
    (run_sound h scripts earlier c keeping.sound run low) takes in
    let below : lock < (cells_of h).plain + (cells_of h).locks = below_of lock
    ((cells_of h).plain + (cells_of h).locks)
    (second_true (nat_le (cells_of h).plain lock)
    (nat_lt lock ((cells_of h).plain + (cells_of h).locks)) is) in
    omega (arith, near, below)
none_waits h scripts keeping earlier (suc n) c lock run wait low takes taken near = by_holder
    (λ d higher low_d takes' taken' near'. none_waits h scripts keeping earlier n d higher run wait
    low_d takes' taken' near') (lock_held (cells_of h) earlier lock run.legal is)
  where
    Again : Type 0
    Again = (d higher : ℕ) → d < h.callers → act_of scripts d earlier ≡ Take higher
        → (value_in earlier higher == 0) ≡ false → (cells_of h).plain + (cells_of h).locks ≤ higher
        + n → ⊥

    is : is_lock (cells_of h) lock ≡ true
    is = takes_lock h (situation_after (part_of c earlier))
        (left_after (script_of scripts c) (part_of c earlier)) lock
        (run_sound h scripts earlier c keeping.sound run low) takes

    here : Reached h scripts keeping earlier
    here = reached h scripts keeping earlier run

    its : (d : ℕ) → d < h.callers → value_in earlier lock ≡ d + 1
        → holds (situation_after (part_of d earlier)) lock ≡ true
    its d low_d e =
        cc (
          held_is h d earlier lock run.legal
              (sound_keeps h (script_of scripts d) (part_of d earlier) (keeping.sound.sound d low_d)
              (run.plays d) (are_answers (cells_of h) earlier d run.legal)) is,
          same_number (d + 1),
        )

    by_wait : Again → (d : ℕ) → d < h.callers → holds (situation_after (part_of d earlier)) lock
        ≡ true → (done waits : Bool)
        → is_done (act_of scripts d earlier) ≡ done → is_held_up earlier (act_of scripts d earlier)
        ≡ waits → (done || waits) ≡ true → ⊥
    by_wait again d low_d holds_it true waits e f g =
        never (keeping.idle earlier here.passed here.state run here.holds_now d low_d e lock)
        holds_it
    by_wait again d low_d holds_it false true e f g =
        let up = held_up earlier (act_of scripts d earlier) f in
        let higher : lock < up.0 = keeping.upward earlier here.passed here.state run here.holds_now
        d low_d up.0 up.1 lock holds_it in
        again d up.0 low_d up.1 up.2 (omega (arith, higher, near))
    by_wait again d low_d holds_it false false e f g = cc

    zero_test : (n : ℕ) → n ≡ 0 → (n == 0) ≡ false → ⊥
    zero_test n e f = grind (arith, nat_tests)

    by_holder : Again → Held (cells_of h) (value_in earlier lock) → ⊥
    by_holder again (inl free) = zero_test (value_in earlier lock) free taken
    by_holder again (inr holder) = by_wait again holder.0 holder.1 (its holder.0 holder.1 holder.2)
        (is_done (act_of scripts holder.0 earlier))
        (is_held_up earlier (act_of scripts holder.0 earlier)) refl refl (wait holder.0 holder.1)

-- if not all are done and each waits, somebody waits
some_wait : (h : Header) (scripts : List Script) (keeping : Keeping h scripts)
    (earlier : List Stamped) → IsRun h scripts earlier → AllWait h scripts earlier
    → (k n : ℕ) → k + n ≤ h.callers → list_all (λ c. is_done (act_of scripts c earlier))
    (numbers_from k n) ≡ false → ⊥
some_wait h scripts keeping earlier run wait k zero fits e = cc
some_wait h scripts keeping earlier run wait k (suc n) fits e =
    by_done (is_done (act_of scripts k earlier)) (is_held_up earlier (act_of scripts k earlier))
    refl refl e
    (wait k (omega (arith, fits)))
    (λ f. some_wait h scripts keeping earlier run wait (k + 1) n (omega (arith, fits)) f)
  where
    by_done : (done waits : Bool) → is_done (act_of scripts k earlier) ≡ done
        → is_held_up earlier (act_of scripts k earlier) ≡ waits
        → (is_done (act_of scripts k earlier) && list_all (λ c. is_done (act_of scripts c earlier))
        (numbers_from (k + 1) n)) ≡ false
        → (is_done (act_of scripts k earlier) || is_held_up earlier (act_of scripts k earlier))
        ≡ true
        → (list_all (λ c. is_done (act_of scripts c earlier)) (numbers_from (k + 1) n) ≡ false → ⊥)
        → ⊥
    by_done true waits f g all either later = search arith
    by_done false true f g all either later =
        let up = held_up earlier (act_of scripts k earlier) g in
        none_waits h scripts keeping earlier ((cells_of h).plain + (cells_of h).locks) k up.0 run
        wait (omega (arith, fits)) up.1 up.2 (omega arith)
    by_done false false f g all either later = grind arith

not_stuck : (h : Header) (scripts : List Script) (keeping : Keeping h scripts)
    (earlier : List Stamped) → IsRun h scripts earlier
    → are_stuck scripts earlier ≡ true → ⊥
not_stuck h scripts keeping earlier run e =
    some_wait h scripts keeping earlier run wait 0 (length scripts)
    (omega (arith, keeping.sound.count))
    (not_true (are_done scripts earlier) (first_true (not (are_done scripts earlier)) _ e))
  where
    not_true : (b : Bool) → not b ≡ true → b ≡ false
    not_true b f = search arith

    wait : AllWait h scripts earlier
    wait c low = all_pass (λ c. is_done (act_of scripts c earlier) || is_held_up earlier
        (act_of scripts c earlier)) 0 (length scripts)
        (second_true (not (are_done scripts earlier)) _ e) c (omega arith)
        (omega (arith, low, keeping.sound.count))

-- the run by turns doesn't get stuck
pub never_stuck : (h : Header) (scripts : List Script) (keeping : Keeping h scripts)
    (turns : List Turn) → GetsStuck scripts turns → ⊥
never_stuck h scripts keeping turns stuck =
    search (keeping, not_stuck, rounds_run, after_turns, turns_run, arith)
