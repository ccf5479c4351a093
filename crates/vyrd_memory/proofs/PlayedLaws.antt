-- Turns that have been played, one after the other.
use Rattle.vyrd_memory.proofs.Prelude
use Prelude.{◌≡◌, ℕ, zero, suc, ◌+◌, ◌<◌, ◌≤◌, List, [], ◌∷◌, ◌++◌, replicate, take, Option, Some}
use Prelude.{None, refl, ap, ◌∙◌, sym, arith, append-nil, length, get_or, Header, Stamped}
use Prelude.{newest_first, numbers_below, Did, length-newest_first, Turn, Script, act_of, event_now}
use Prelude.{after_turn, after_turns, turns_of, HasPlayed, HaveComeToRest, Scene, rounds_over}

pub after_turns-append : (scripts : List Script) (xs ys : List ℕ) (earlier : List Stamped)
    → after_turns scripts (xs ++ ys) earlier ≡ after_turns scripts ys
    (after_turns scripts xs earlier)
after_turns-append scripts [] ys earlier = refl
after_turns-append scripts (x ∷ xs) ys earlier = after_turns-append scripts xs ys
    (after_turn scripts x earlier)

-- further turns
pub played_more : {M : Type 0} (h : Header) (header_of : M → Header) (script : M → Script)
    (xs ys zs : List ℕ) (a b c : Scene M)
    → HasPlayed h header_of script xs a b → HasPlayed h header_of script ys b c → zs ≡ xs ++ ys
    → HasPlayed h header_of script zs a c
played_more h header_of script xs ys zs a b c first second e = search
    (after_turns, after_turns-append, arith)

pub one_more : {A : Type 0} (n : ℕ) (x : A) → replicate (n + 1) x ≡ replicate n x ++ x ∷ []
one_more zero x = refl
one_more (suc n) x = grind (arith, one_more n x)

pub turns_more : (turns : List Turn) (i : ℕ) (d : Turn) → i < length turns
    → turns_of (take (i + 1) turns) ≡ turns_of (take i turns) ++ replicate (get_or turns i d).count
    (get_or turns i d).caller
turns_more [] i d low = absurd (omega (arith, low))
turns_more (turn ∷ turns) zero d low = append-nil (replicate turn.count turn.caller)
  where
    append-nil : (xs : List ℕ) → xs ++ [] ≡ xs
    append-nil [] = refl
    append-nil (x ∷ xs) = ap (λ ys. x ∷ ys) (append-nil xs)
turns_more (turn ∷ turns) (suc i) d low =
    let e : suc i + 1 ≡ suc (i + 1) = omega arith in
    ap (λ n. turns_of (take n (turn ∷ turns))) e ∙ ap (λ xs. replicate turn.count turn.caller ++ xs)
    (turns_more turns i d (omega arith))
    ∙ sym (append_assoc (replicate turn.count turn.caller) (turns_of (take i turns))
    (replicate (get_or turns i d).count (get_or turns i d).caller))
  where
    append_assoc : (xs ys zs : List ℕ) → (xs ++ ys) ++ zs ≡ xs ++ (ys ++ zs)
    append_assoc [] ys zs = refl
    append_assoc (x ∷ xs) ys zs = ap (λ rest. x ∷ rest) (append_assoc xs ys zs)

append_assoc : {A : Type 0} (xs ys zs : List A) → (xs ++ ys) ++ zs ≡ xs ++ (ys ++ zs)
append_assoc [] ys zs = refl
append_assoc (x ∷ xs) ys zs = ap (λ rest. x ∷ rest) (append_assoc xs ys zs)

pub rounds_more : (n rounds : ℕ) → rounds_over n (rounds + 1) ≡ rounds_over n rounds
    ++ numbers_below n
rounds_more n zero = append-nil (numbers_below n)
rounds_more n (suc rounds) =
    let e : suc rounds + 1 ≡ suc (rounds + 1) = omega arith in
    ap (rounds_over n) e ∙ ap (λ xs. numbers_below n ++ xs) (rounds_more n rounds)
    ∙ sym (append_assoc (numbers_below n) (rounds_over n rounds) (numbers_below n))

-- one round more
pub one_round_more : {M : Type 0} (h : Header) (header_of : M → Header) (script : M → Script)
    (a b c : Scene M) (rounds : ℕ)
    → HasPlayed h header_of script (rounds_over (length a.machines) rounds) a b
    → HasPlayed h header_of script (numbers_below (length b.machines)) b c
    → HasPlayed h header_of script (rounds_over (length a.machines) (rounds + 1)) a c
one_round_more h header_of script a b c rounds first second =
    played_more h header_of script (rounds_over (length a.machines) rounds)
    (numbers_below (length b.machines))
    (rounds_over (length a.machines) (rounds + 1)) a b c first second
    (cc (rounds_more (length a.machines) rounds, first.count))

-- a history only grows, by one event in a turn at most
turn_grows : (scripts : List Script) (c : ℕ) (earlier : List Stamped) → length earlier
    ≤ length (after_turn scripts c earlier)
turn_grows scripts c earlier = grind arith

pub turns_grow : (scripts : List Script) (callers : List ℕ) (earlier : List Stamped)
    → length earlier ≤ length (after_turns scripts callers earlier)
turns_grow scripts [] earlier = omega arith
turns_grow scripts (c ∷ callers) earlier =
    omega (
      arith,
      turn_grows scripts c earlier,
      turns_grow scripts callers
          (after_turn scripts c earlier),
    )

-- turns after which the history is as long as before have no event
unmoved : (scripts : List Script) (callers : List ℕ) (earlier : List Stamped)
    → length (after_turns scripts callers earlier) ≡ length earlier
    → after_turns scripts callers earlier ≡ earlier
unmoved scripts [] earlier same = refl
unmoved scripts (c ∷ callers) earlier same = by_event (event_now earlier (act_of _ c _)) refl
    (unmoved scripts callers earlier)
  where
    by_event : (o : Option Did) → event_now earlier (act_of scripts c earlier) ≡ o
        → (length (after_turns scripts callers earlier) ≡ length earlier
        → after_turns scripts callers earlier ≡ earlier)
        → after_turns scripts (c ∷ callers) earlier ≡ earlier
    by_event None e others = grind arith
    by_event (Some did) e others = search (turns_grow, arith)

-- a round without an event is the last
pub come_to_rest : {M : Type 0} (h : Header) (header_of : M → Header) (script : M → Script)
    (a b c : Scene M) (rounds : ℕ)
    → HasPlayed h header_of script (rounds_over (length a.machines) rounds) a b
    → HasPlayed h header_of script (numbers_below (length b.machines)) b c
    → length c.history ≡ length b.history → HaveComeToRest h header_of script a c
come_to_rest h header_of script a b c rounds first second same = record {
  rounds = rounds + 1;
  played = one_round_more h header_of script a b c rounds first second;
  still = λ scripts is.
      let callers = numbers_below (length b.machines) in
      let played = second.history scripts (first.plays scripts is) in
      let kept : length (after_turns scripts callers (newest_first b.history))
      ≡ length (newest_first b.history) =
      ap length (sym played) ∙ length-newest_first c.history ∙ same
      ∙ sym (length-newest_first b.history) in
      cc (first.count, unmoved scripts callers (newest_first b.history) kept);
}
