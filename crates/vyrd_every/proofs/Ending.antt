-- A run by turns ends or gets stuck, whatever the scripts are: each event leaves less of one
-- script,
-- and a script is finite.
use Rattle.vyrd_every.proofs.Prelude
use Prelude.{◌≡◌, ℕ, zero, suc, ◌<◌, ◌⊎◌, inl, inr, Bool, true, false, not, ◌&&◌, ◌||◌, List, []}
use Prelude.{◌∷◌, ◌++◌, Option, Some, None, length, refl, ap, ◌∙◌, sym, arith, ◌≢◌, is_some}
use Prelude.{append-nil, list_all, list_any, Did, Stamped, numbers_below, newest_first}
use Prelude.{newest_first_onto, same_of, apart_of, Act, Done, Turn, Script, stop, step, next_act}
use Prelude.{after_answer, answer_of, left_after, part_of, script_of, act_of, after_turns, is_done}
use Prelude.{are_done, is_held_up, are_stuck, RunsTo, GetsStuck}
use Rattle.std.proofs.lemmas.Option.{none-some}
use Rattle.vyrd_memory.specs.Turns.{event_now, with_event, after_rounds, turns_of, run_for}

-- the script in a place, and none past the list
abbrev at : List Script → ℕ → Script
at [] c = stop
at (s ∷ ls) zero = s
at (s ∷ ls) (suc c) = at ls c

-- the scripts with another one in a place
abbrev put : List Script → ℕ → Script → List Script
put [] c x = []
put (s ∷ ls) zero x = x ∷ ls
put (s ∷ ls) (suc c) x = s ∷ put ls c x

by_number : (Q : ℕ → Type 0) → Q zero → ((i : ℕ) → Q (suc i)) → (i : ℕ) → Q i
by_number Q first more zero = first
by_number Q first more (suc i) = more i

-- what holds of scripts as soon as it holds of them with one step less, in any place
abbrev Steps : ℕ → (List Script → Type 0) → List Script → Type 0
Steps n P ls = (c answer : ℕ) → c < n → next_act (at ls c) ≢ Done
    → P (put ls c (after_answer (at ls c) answer))

abbrev Fewer : ℕ → Type 1
Fewer n = (P : List Script → Type 0) → ((ls : List Script) → length ls ≡ n → Steps n P ls → P ls)
    → (ls : List Script) → length ls ≡ n → P ls

-- one script more, which is as finite
first_fewer : (n : ℕ) → Fewer n → (P : List Script → Type 0)
    → ((ls : List Script) → length ls ≡ suc n → Steps (suc n) P ls → P ls)
    → (s : Script) (ls : List Script) → length ls ≡ n → P (s ∷ ls)
first_fewer n others P more stop = others _
    (λ xs f later. more _ (omega (arith, f))
    (λ c answer. by_number (λ d. d < suc n → next_act (at (stop ∷ xs) d) ≢ Done
    → P (put (stop ∷ xs) d (after_answer (at (stop ∷ xs) d) answer)))
    (λ low goes. absurd (goes refl)) (λ d low goes. later d answer (omega (arith, low)) goes) c))
first_fewer n others P more (step act rest) =
    others _ (λ xs f later. more _ (omega (arith, f))
    (λ c answer. by_number (λ d. d < suc n → next_act (at (step act rest ∷ xs) d) ≢ Done
    → P (put (step act rest ∷ xs) d (after_answer (at (step act rest ∷ xs) d) answer)))
    (λ low goes. first_fewer n others P more (rest answer) xs f)
    (λ d low goes. later d answer (omega (arith, low)) goes) c))

-- it holds of all, since a script has no endless steps
fewer : (n : ℕ) → Fewer n
fewer zero P more ls e = more ls e (λ c answer low goes. absurd (omega (arith, low)))
fewer (suc n) P more [] e = absurd (omega (arith, e))
fewer (suc n) P more (s ∷ ls) e = first_fewer n (fewer n) P more s ls (omega (arith, e))

put_here : (ls : List Script) (c : ℕ) (x : Script) → c < length ls → at (put ls c x) c ≡ x
put_here [] c x low = absurd (omega (arith, low))
put_here (s ∷ ls) zero x low = refl
put_here (s ∷ ls) (suc c) x low = put_here ls c x (omega (arith, low))

put_elsewhere : (ls : List Script) (c d : ℕ) (x : Script) → c ≢ d → at (put ls c x) d ≡ at ls d
put_elsewhere [] c d x apart = refl
put_elsewhere (s ∷ ls) zero zero x apart = absurd (apart refl)
put_elsewhere (s ∷ ls) zero (suc d) x apart = refl
put_elsewhere (s ∷ ls) (suc c) zero x apart = refl
put_elsewhere (s ∷ ls) (suc c) (suc d) x apart = put_elsewhere ls c d x
    (λ same. apart (ap suc same))

-- whoever isn't done has a place
has_place : (ls : List Script) (c : ℕ) → next_act (at ls c) ≢ Done → c < length ls
has_place [] c goes = absurd (goes refl)
has_place (s ∷ ls) zero goes = omega arith
has_place (s ∷ ls) (suc c) goes = let later = has_place ls c goes in omega (arith, later)

-- what is left of each script
abbrev AreLeft : List Script → List Stamped → List Script → Type 0
AreLeft scripts earlier ls = (c : ℕ) → left_after (script_of scripts c) (part_of c earlier)
    ≡ at ls c

-- an event of a caller leaves less of its script
less_left : (scripts : List Script) (earlier : List Stamped) (ls : List Script) (n c : ℕ)
    (did : Did) → c < length ls
    → AreLeft scripts earlier ls
    → AreLeft scripts (record { number = n; caller = c; did = did } ∷ earlier)
    (put ls c (after_answer (at ls c) (answer_of did)))
less_left scripts earlier ls n c did low are =
    grind (arith, part_of, same_of, put_here, put_elsewhere, apart_of)

-- after some rounds all are done, or those that aren't wait for locks
abbrev Halts : List Script → List Stamped → Type 0
Halts scripts earlier = (n : ℕ) × ((are_done scripts (after_rounds scripts n earlier) ≡ true)
    ⊎ (are_stuck scripts (after_rounds scripts n earlier) ≡ true))

one_round : (scripts : List Script) (earlier : List Stamped)
    → Halts scripts (after_turns scripts (numbers_below (length scripts)) earlier)
    → Halts scripts earlier
one_round scripts earlier halts = (suc halts.0, halts.1)

-- whether the caller's turn is an event
abbrev acts : List Script → List Stamped → ℕ → Bool
acts scripts earlier c = is_some (event_now earlier (act_of scripts c earlier))

-- it is one if its script isn't done and it doesn't wait
acts_if : (earlier : List Stamped) (act : Act) → is_some (event_now earlier act)
    ≡ not (is_done act || is_held_up earlier act)
acts_if earlier act = grind (arith, is_some)

some_other : {A : Type 0} (f g : A → Bool) → ((a : A) → g a ≡ not (f a)) → (xs : List A)
    → list_any g xs ≡ not (list_all f xs)
some_other f g other [] = refl
some_other f g other (x ∷ xs) = cc (other x, some_other f g other xs, by_test (f x))
  where
    by_test : (b : Bool) → (not b || not (list_all f xs)) ≡ not (b && list_all f xs)
    by_test b = search arith

-- if not all are done, and it isn't so that each waits, somebody acts
somebody_acts : (scripts : List Script) (earlier : List Stamped) → are_done scripts earlier ≡ false
    → are_stuck scripts earlier ≡ false
    → list_any (acts scripts earlier) (numbers_below (length scripts)) ≡ true
somebody_acts scripts earlier going free = grind (arith, free, some_other, acts_if)

-- an event is of a script that isn't done
acts_on : (earlier : List Stamped) (act : Act) (did : Did) → event_now earlier act ≡ Some did
    → act ≢ Done
acts_on earlier act did e = λ is. none-some did (sym (ap (event_now earlier) is) ∙ e)

-- From any events on, after turns of any callers: the run halts, if it does so after each event.
halts_on : (scripts ls : List Script) (earlier : List Stamped) → AreLeft scripts earlier ls
    → ((c : ℕ) (did : Did) (cs : List ℕ) → event_now earlier (act_of scripts c earlier) ≡ Some did
    → Halts scripts (after_turns scripts cs (with_event c earlier (Some did))))
    → (cs : List ℕ) → Halts scripts (after_turns scripts cs earlier)
halts_on scripts ls earlier are later = turns
  where
    by_event : (c : ℕ) (cs : List ℕ) (o : Option Did) → event_now earlier (act_of scripts c earlier)
        ≡ o
        → Halts scripts (after_turns scripts cs earlier)
        → Halts scripts (after_turns scripts cs (with_event c earlier o))
    by_event c cs None e none = none
    by_event c cs (Some did) e none = later c did cs e

    until_one : (cs : List ℕ) → list_any (acts scripts earlier) cs ≡ true
        → Halts scripts (after_turns scripts cs earlier)
    until_one [] some = cc
    until_one (c ∷ cs) some = by_first (event_now earlier (act_of scripts c earlier)) refl some
        (until_one cs)
      where
        by_first : (o : Option Did) → event_now earlier (act_of scripts c earlier) ≡ o
            → (is_some o || list_any (acts scripts earlier) cs) ≡ true
            → (list_any (acts scripts earlier) cs ≡ true
            → Halts scripts (after_turns scripts cs earlier))
            → Halts scripts (after_turns scripts cs (with_event c earlier o))
        by_first None e among rest = rest among
        by_first (Some did) e among rest = later c did cs e

    at_round : (done stuck : Bool) → are_done scripts earlier ≡ done → are_stuck scripts earlier
        ≡ stuck → Halts scripts earlier
    at_round true stuck e f = (0, inl e)
    at_round false true e f = (0, inr f)
    at_round false false e f =
        one_round scripts earlier
        (until_one (numbers_below (length scripts)) (somebody_acts scripts earlier e f))

    turns : (cs : List ℕ) → Halts scripts (after_turns scripts cs earlier)
    turns [] = at_round (are_done scripts earlier) (are_stuck scripts earlier) refl refl
    turns (c ∷ cs) = by_event c cs (event_now earlier (act_of scripts c earlier)) refl (turns cs)

-- so it halts
halts : (scripts ls : List Script) → length ls ≡ length scripts → (earlier : List Stamped)
    → AreLeft scripts earlier ls
    → (cs : List ℕ) → Halts scripts (after_turns scripts cs earlier)
halts scripts = fewer _ _ (λ ls same one earlier are. halts_on _ ls _ are (λ c did cs e.
    let goes : next_act (at ls c) ≢ Done = λ done. acts_on earlier (act_of _ c _) _ e
    (ap next_act (are c) ∙ done) in
    let low : c < length ls = has_place _ c goes in
    one c (answer_of did) (omega (arith, low, same)) goes
    (record { number = length _; caller = c; did = did } ∷ earlier)
    (less_left _ _ _ (length earlier) c _ low are) cs))

-- at the start all of each script is left
all_left : (scripts : List Script) (c : ℕ) → script_of scripts c ≡ at scripts c
all_left [] c = refl
all_left (s ∷ scripts) zero = refl
all_left (s ∷ scripts) (suc c) = all_left scripts c

twice_onto : {A : Type 0} (xs ys later : List A) → newest_first_onto ys (newest_first_onto later xs)
    ≡ newest_first_onto (xs ++ ys) later
twice_onto [] ys later = refl
twice_onto (x ∷ xs) ys later = twice_onto xs ys (x ∷ later)

twice : {A : Type 0} (xs : List A) → newest_first (newest_first xs) ≡ xs
twice xs = twice_onto xs [] [] ∙ append-nil xs

pub run_ends_or_sticks : (scripts : List Script) (turns : List Turn)
    → ((history : List Stamped) × RunsTo scripts turns history) ⊎ GetsStuck scripts turns
run_ends_or_sticks scripts turns = by_end
    (halts scripts scripts refl [] (all_left scripts) (turns_of turns))
  where
    by_end : Halts scripts (after_turns scripts (turns_of turns) [])
        → ((history : List Stamped) × RunsTo scripts turns history) ⊎ GetsStuck scripts turns
    by_end (n, inl done) =
        inl (
          newest_first (run_for scripts turns n),
          record {
            rounds = n;
            history_is = twice (run_for scripts turns n);
            done = ap (are_done scripts) (twice (run_for scripts turns n)) ∙ done;
          },
        )
    by_end (n, inr stuck) = inr (record { rounds = n; stuck = stuck })
