-- What is kept and what observers have seen, as the steps are paid by it.
use Rattle.vyrd_observers.proofs.Prelude
use Prelude.{◌≡◌, ℕ, zero, suc, ◌+◌, ◌*◌, ◌<◌, ◌≤◌, Bool, List, [], ◌∷◌, length, drop, map, set}
use Prelude.{get_or, Option, Some, None, slice_get, refl, arith, length-drop, length-append}
use Prelude.{replicate, sum_by-cons, slice_get-get_or, Header, Method, Args, changed_below, Watch}
use Prelude.{AreInOrder, Closes, Asked, after_state, seen_from, seen_by, kept_by, kept_count, Seen}
use Prelude.{unwatched, answer_count}
use Rattle.vyrd_observers.proofs.AskerLaws.{sum_set}

-- how many answers an observer has seen
abbrev seen_count : Seen → ℕ
seen_count seen = length seen.answers

-- one trail gives way to another
pub kept_set : (trails : List Asked) (i : ℕ) (t u : Asked) → slice_get trails i ≡ Some t
    → kept_count (set trails i u) + kept_by t ≡ kept_count trails + kept_by u
kept_set trails i t u here = sum_set kept_by trails i t u here

pub kept_at : (trails : List Asked) (i : ℕ) (d u : Asked) → i < length trails
    → kept_count (set trails i u) + kept_by (get_or trails i d) ≡ kept_count trails + kept_by u
kept_at trails i d u within = kept_set _ i (get_or _ i d) u (slice_get-get_or _ i d within)

-- the first answers of a trail are dropped
pub kept_dropped : (trails : List Asked) (i n : ℕ) (d u : Asked) → i < length trails
    → u ≡ record (get_or trails i d) { others = drop n (get_or trails i d).others }
    → n ≤ length (get_or trails i d).others
    → kept_count (set trails i u) + n ≡ kept_count trails
kept_dropped trails i n d u within is few = grind (arith, within, few, kept_at, length-drop)

-- one more answer is kept at most
kept_more : (affects : Method → Args → Bool) (told : Method → Args → ℕ) (t : Asked)
    → kept_by (after_state affects told t) ≤ kept_by t + 1
kept_more affects told t = grind (arith, told, length-append)

pub kept_changed : (affects : Method → Args → Bool) (told : Method → Args → ℕ) (n : ℕ)
    (trails : List Asked)
    → kept_count (changed_below (after_state affects told) n trails)
    ≤ kept_count trails + length trails
kept_changed affects told zero trails = omega arith
kept_changed affects told (suc n) [] = omega arith
kept_changed affects told (suc n) (t ∷ ts) =
    let f = after_state affects told in
    let rest = kept_changed affects told n ts in
    let one = kept_more affects told t in
    omega (
      arith,
      rest,
      one,
      sum_by-cons kept_by (f t) (changed_below f n ts),
      sum_by-cons kept_by t
          ts,
    )

-- one more answer is seen at most
seen_more : (affects : Method → Args → Bool) (told : Method → Args → ℕ) (since : ℕ) (t : Asked)
    → seen_count (seen_from since (Some (after_state affects told t)))
    ≤ seen_count (seen_from since (Some t)) + 1
seen_more affects told since t = grind (arith, told, length-append, length-drop)

seen_changed : (affects : Method → Args → Bool) (told : Method → Args → ℕ) (since n : ℕ)
    (trails : List Asked) (i : ℕ)
    → seen_count (seen_from since (slice_get (changed_below (after_state affects told) n trails) i))
    ≤ seen_count (seen_from since (slice_get trails i)) + 1
seen_changed affects told since zero trails i = omega arith
seen_changed affects told since (suc n) [] i = omega arith
seen_changed affects told since (suc n) (t ∷ ts) zero = seen_more affects told since t
seen_changed affects told since (suc n) (t ∷ ts) (suc i) = seen_changed affects told since n ts i

own_changed : (affects : Method → Args → Bool) (told : Method → Args → ℕ) (n : ℕ)
    (trails : List Asked) (o : Option Watch)
    → seen_count (seen_by (changed_below (after_state affects told) n trails) o)
    ≤ seen_count (seen_by trails o) + 1
own_changed affects told n trails o = search (seen_changed, arith)

pub answers_changed : (affects : Method → Args → Bool) (told : Method → Args → ℕ) (n : ℕ)
    (trails : List Asked) (watches : List (Option Watch))
    → answer_count (map (seen_by (changed_below (after_state affects told) n trails)) watches)
    ≤ answer_count (map (seen_by trails) watches) + length watches
answers_changed affects told n trails [] = omega arith
answers_changed affects told n trails (o ∷ os) =
    let new = changed_below (after_state affects told) n trails in
    let rest = answers_changed affects told n trails os in
    let one = own_changed affects told n trails o in
    omega (
      arith,
      rest,
      one,
      sum_by-cons seen_count (seen_by new o) (map (seen_by new) os),
      sum_by-cons seen_count (seen_by trails o) (map (seen_by trails) os),
    )

-- an observer returns, and its answers are no longer counted
pub answers_closed : (watches : List Seen) (c : ℕ) (seen : Seen) → slice_get watches c ≡ Some seen
    → answer_count (set watches c unwatched) + length seen.answers ≡ answer_count watches
answers_closed watches c seen here = grind (arith, watches, here, sum_set)

-- an observer's answers give way to others
pub answers_set : (watches : List Seen) (c : ℕ) (seen : Seen)
    → answer_count (set watches c seen) ≤ answer_count watches + length seen.answers
answers_set [] c seen = omega arith
answers_set (x ∷ xs) zero seen =
    omega (arith, sum_by-cons seen_count seen xs, sum_by-cons seen_count x xs)
answers_set (x ∷ xs) (suc c) seen =
    let rest = answers_set xs c seen in
    omega (arith, rest, sum_by-cons seen_count x (set xs c seen), sum_by-cons seen_count x xs)

-- what is owed for these trails and observers
abbrev pub owed_by : List Asked → List (Option Watch) → ℕ
owed_by trails watches = answer_count (map (seen_by trails) watches) + 2 * kept_count trails

-- a caller's observer is closed
pub owed_closed : (h : Header) (caller : ℕ) (old new : List Asked)
    (watches closed : List (Option Watch)) (far reach s0 s1 : ℕ)
    → Closes caller old new watches closed reach → AreInOrder h far old watches
    → s1 + 2 * kept_count new ≤ s0 + 2 * kept_count old + 2 * length watches + length old
    → s1 + owed_by new closed ≤ s0 + owed_by old watches + 3 * h.callers
owed_closed h caller old new watches closed far reach s0 s1 so was paid =
    grind (arith, watches, closed, paid, answers_set)

-- an observer returns, and all its answers are looked at
pub owed_ended : (h : Header) (caller : ℕ) (old new : List Asked)
    (watches closed : List (Option Watch)) (far reach s0 s1 s2 : ℕ) (seen : Seen)
    → Closes caller old new watches closed reach → AreInOrder h far old watches
    → slice_get (map (seen_by old) watches) caller ≡ Some seen
    → s1 ≤ s0 + length seen.answers
    → s2 + 2 * kept_count new ≤ s1 + 2 * kept_count old + 2 * length watches + length old
    → s2 + owed_by new closed ≤ s0 + owed_by old watches + 3 * h.callers
owed_ended h caller old new watches closed far reach s0 s1 s2 seen so was here looked paid =
    grind (arith, watches, closed, here, looked, paid, answers_closed)

-- at first nothing is owed
none_seen : (n : ℕ) (trails : List Asked)
    → answer_count (map (seen_by trails) (replicate n None)) ≡ 0
none_seen zero trails = refl
none_seen (suc n) trails =
    let rest = none_seen n trails in
    let all = sum_by-cons seen_count unwatched (map (seen_by trails) (replicate n None)) in
    omega (arith, all, rest)

pub nothing_owed : (n : ℕ) (trails : List Asked) (watches : List (Option Watch)) → trails ≡ []
    → watches ≡ replicate n None → owed_by trails watches ≡ 0
nothing_owed n trails watches nothing none = cc (none_seen n trails)
