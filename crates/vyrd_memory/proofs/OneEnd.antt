-- A run by turns has one end: once no caller has an event, none has one in any later round.
use Rattle.vyrd_memory.proofs.Prelude
use Prelude.{◌≡◌, ℕ, zero, suc, ◌+◌, ◌-◌, ◌≤◌, Bool, true, not, ◌||◌, List, [], ◌∷◌, ◌++◌, None}
use Prelude.{refl, ap, ◌∙◌, sym, arith, length, list_all, nat_tests, Stamped, newest_first_onto}
use Prelude.{newest_first, numbers_below, both_true, first_true, second_true, Act, Turn, Script}
use Prelude.{act_of, event_now, after_turns, after_rounds, turns_of, run_for, is_done, are_done}
use Prelude.{is_held_up, are_stuck, RunsTo, GetsStuck}

-- whether a caller has no event
abbrev is_still : List Script → List Stamped → ℕ → Bool
is_still scripts earlier c = is_done (act_of scripts c earlier) || is_held_up earlier
    (act_of scripts c earlier)

no_event : (earlier : List Stamped) (act : Act) → (is_done act || is_held_up earlier act) ≡ true
    → event_now earlier act ≡ None
no_event earlier act e = grind arith

-- turns without an event leave the history as it is
still_turns : (scripts : List Script) (callers : List ℕ) (earlier : List Stamped)
    → list_all (is_still scripts earlier) callers ≡ true
    → after_turns scripts callers earlier ≡ earlier
still_turns scripts [] earlier e = refl
still_turns scripts (c ∷ callers) earlier e =
    let none = no_event earlier (act_of scripts c earlier)
    (first_true (is_still scripts earlier c) (list_all (is_still scripts earlier) callers) e) in
    cc (still_turns scripts callers earlier (second_true (is_still scripts earlier c) (list_all
    (is_still scripts earlier) callers) e))

-- callers that are done have no event
done_still : (scripts : List Script) (callers : List ℕ) (earlier : List Stamped)
    → list_all (λ c. is_done (act_of scripts c earlier)) callers ≡ true
    → list_all (is_still scripts earlier) callers ≡ true
done_still scripts [] earlier e = refl
done_still scripts (c ∷ callers) earlier e =
    let done = first_true (is_done (act_of _ c _)) (list_all (λ c. is_done _) callers) e in
    both_true (is_still scripts earlier c) (list_all (is_still _ _) callers) (cc)
    (done_still scripts callers earlier (second_true _ _ e))

-- a round changes nothing
abbrev AtRest : List Script → List Stamped → Type 0
AtRest scripts earlier = after_turns scripts (numbers_below (length scripts)) earlier ≡ earlier

done_rests : (scripts : List Script) (earlier : List Stamped) → are_done scripts earlier ≡ true
    → AtRest scripts earlier
done_rests scripts earlier done = grind (arith, still_turns, done_still)

stuck_rests : (scripts : List Script) (earlier : List Stamped) → are_stuck scripts earlier ≡ true
    → AtRest scripts earlier
stuck_rests scripts earlier stuck = grind (arith, still_turns, second_true)

rounds_at_rest : (scripts : List Script) (n : ℕ) (earlier : List Stamped) → AtRest scripts earlier
    → after_rounds scripts n earlier ≡ earlier
rounds_at_rest scripts zero earlier rest = refl
rounds_at_rest scripts (suc n) earlier rest = cc (rounds_at_rest scripts n earlier rest)

more_rounds : (scripts : List Script) (m n : ℕ) (earlier : List Stamped)
    → after_rounds scripts (m + n) earlier ≡ after_rounds scripts n (after_rounds scripts m earlier)
more_rounds scripts zero n earlier = grind arith
more_rounds scripts (suc m) n earlier =
    let e : suc m + n ≡ suc (m + n) = omega arith in
    cc (more_rounds scripts m n (after_turns scripts (numbers_below (length scripts)) earlier))

later_same : (scripts : List Script) (turns : List Turn) (m n : ℕ) → m ≤ n
    → AtRest scripts (run_for scripts turns m)
    → run_for scripts turns n ≡ run_for scripts turns m
later_same scripts turns m n low rest =
    let e : n ≡ m + (n - m) = omega (arith, low) in
    ap (run_for scripts turns) e ∙ more_rounds scripts m _ (after_turns scripts (turns_of turns) [])
    ∙ rounds_at_rest scripts (n - m) _ rest

-- two runs that are at rest are the same
same_rest : (scripts : List Script) (turns : List Turn) (m n : ℕ)
    → AtRest scripts (run_for scripts turns m)
    → AtRest scripts (run_for scripts turns n)
    → run_for scripts turns m ≡ run_for scripts turns n
same_rest scripts turns m n first second = grind (arith, nat_tests, later_same)

-- a list is what its reverse is the reverse of
twice : (onto earlier xs : List Stamped) → newest_first_onto onto (newest_first_onto earlier xs)
    ≡ newest_first_onto (xs ++ onto) earlier
twice onto earlier [] = refl
twice onto earlier (x ∷ xs) = twice onto (x ∷ earlier) xs

no_more : (xs : List Stamped) → xs ++ [] ≡ xs
no_more [] = refl
no_more (x ∷ xs) = ap (λ ys. x ∷ ys) (no_more xs)

same_histories : (a b : List Stamped) → newest_first a ≡ newest_first b → a ≡ b
same_histories a b e = cc (no_more a, twice [] [] a, twice [] [] b, no_more b)

ended_rests : (scripts : List Script) (turns : List Turn) (history : List Stamped)
    (to : RunsTo scripts turns history)
    → AtRest scripts (run_for scripts turns to.rounds)
ended_rests scripts turns history to = search (done_rests, arith)

pub one_end : (scripts : List Script) (turns : List Turn) (a b : List Stamped)
    → RunsTo scripts turns a → RunsTo scripts turns b → a ≡ b
one_end scripts turns a b first second =
    same_histories a b (first.history_is
    ∙ same_rest scripts turns first.rounds second.rounds (ended_rests scripts turns a first)
    (ended_rests scripts turns b second)
    ∙ sym second.history_is)

pub ended_isnt_stuck : (scripts : List Script) (turns : List Turn) (history : List Stamped)
    → RunsTo scripts turns history
    → GetsStuck scripts turns → ⊥
ended_isnt_stuck scripts turns history to stuck =
    let same = same_rest scripts turns to.rounds stuck.rounds (ended_rests scripts turns history to)
    (stuck_rests scripts _ stuck.stuck) in
    let done : are_done scripts (run_for scripts turns stuck.rounds) ≡ true = ap (are_done _)
    (sym same ∙ sym to.history_is) ∙ to.done in
    not_both (are_done scripts (run_for scripts turns stuck.rounds)) done
    (first_true _ (list_all (is_still scripts (run_for scripts turns stuck.rounds))
    (numbers_below (length scripts))) stuck.stuck)
  where
    not_both : (b : Bool) → b ≡ true → not b ≡ true → ⊥
    not_both b e f = search arith
