-- How many trails there are, and how many answers they keep.
use Rattle.vyrd_observers.proofs.Prelude
use Prelude.{◌≡◌, ℕ, zero, suc, ◌+◌, ◌*◌, ◌^◌, ◌<◌, ◌≤◌, Bool, true, false, cond, ◌⊎◌, inl, inr}
use Prelude.{⊎_elim, List, [], ◌∷◌, length, drop, map, set, Option, Some, None, slice_get, refl, ap}
use Prelude.{subst, ◌∙◌, sym, arith, length-drop, sum_by, sum, option_map, sum_by-cons, sum-map}
use Prelude.{count_by-le-length, length-map, length-set, slice_get_within, slice_get-map, same_Some}
use Prelude.{Header, few_callers, slice_get-set_other, Watch, Asked, seen_from, seen_by, IsOn}
use Prelude.{AreAsking, KeepsAsked, AreUsed, AreOldExcept, asked_count, kept_by, kept_count}
use Prelude.{with_asker, AreInOrder, Closes, Seen, KeepsFew, unwatched, open_count, answer_count}
use Rattle.vyrd_observers.proofs.TrailLaws.{some_some, map_after, asking_set, on_set, on_kept}
use Rattle.vyrd_observers.proofs.TrailLaws.{on_recounted, used_begun, used_recounted}
use Rattle.vyrd_observers.proofs.AskerLaws.{sum_set, count_low, counted_asked, counted_begun}
use Rattle.vyrd_observers.proofs.AskerLaws.{free_begun}

-- Numbers at places in a row, where for each that isn't 0 some watch is on that place and has as
-- much:
-- together they are at most what all watches have.
pub matched : {X : Type 0} (f : X → ℕ) (g : Option Watch → ℕ) → g None ≡ 0
    → (k : ℕ) (xs : List X) (watches : List (Option Watch))
    → ((i : ℕ) (x : X) → slice_get xs i ≡ Some x → 1 ≤ f x
    → (c : ℕ) × (w : Watch) × (slice_get watches c ≡ Some (Some w)) × (w.trail ≡ k + i)
    × (f x ≤ g (Some w)))
    → sum_by f xs ≤ sum_by g watches
matched f g none k [] watches all = omega arith
matched {X} f g none k (x ∷ xs) watches all =
    grind (arith, sum_by-cons f x xs, by_size (f x) refl (matched f g none (suc k) xs))
  where
    by_size : (n : ℕ) → f x ≡ n
        → ((others : List (Option Watch)) → ((i : ℕ) (y : X) → slice_get xs i ≡ Some y → 1 ≤ f y
        → (c : ℕ) × (w : Watch) × (slice_get others c ≡ Some (Some w)) × (w.trail ≡ suc k + i)
        × (f y ≤ g (Some w)))
        → sum_by f xs ≤ sum_by g others)
        → f x + sum_by f xs ≤ sum_by g watches
    by_size zero e rest =
        let more : sum_by f xs ≤ sum_by g watches = rest watches
        (λ i y here some. let one = all (suc i) y here some in
        let there : one.1.trail ≡ suc k + i = omega (arith, one.3) in
        (one.0, one.1, one.2, there, one.4)) in
        omega (arith, e, more)
    by_size (suc n) e rest =
        let own = all 0 x refl (omega (arith, e)) in
        let more : sum_by f xs ≤ sum_by g (set watches own.0 None) = rest (set watches own.0 None)
        (λ i y here some.
        let one = all (suc i) y here some in
        let there : one.1.trail ≡ suc k + i = omega (arith, one.3) in (
          one.0,
          one.1,
          slice_get-set_other watches own.0 one.0 None
              (λ same. let apart : own.1.trail ≡ one.1.trail = ap (λ v. v.trail)
              (some_some (sym own.2 ∙ ap (slice_get watches) same ∙ one.2)) in
              omega (arith, apart, own.3, one.3)) ∙ one.2,
          there,
          one.4,
        )) in
        let out : sum_by g (set watches own.0 None) + g (Some own.1) ≡ sum_by g watches + g None =
        sum_set g watches own.0 (Some own.1) None own.2 in
        omega (arith, more, out, none, own.4)

sum_mapped : {A B : Type 0} (f : B → ℕ) (h : A → B) (xs : List A) → sum_by f (map h xs)
    ≡ sum_by (λ x. f (h x)) xs
sum_mapped f h xs = sym (sum-map f (map h xs)) ∙ ap sum (map_after f h xs) ∙ sum-map (λ x. f _) xs

sum_doubled : {A : Type 0} (f : A → ℕ) (xs : List A) → sum_by (λ x. 2 * f x) xs ≡ 2 * sum_by f xs
sum_doubled f [] = refl
sum_doubled f (x ∷ xs) =
    let rest : sum_by (λ y. 2 * f y) xs ≡ 2 * sum_by f xs = sum_doubled f xs in
    let twice : sum_by (λ y. 2 * f y) (x ∷ xs) ≡ 2 * f x + sum_by (λ y. 2 * f y) xs = sum_by-cons
    (λ y. 2 * f y) x xs in
    let once : sum_by f (x ∷ xs) ≡ f x + sum_by f xs = sum_by-cons f x xs in
    omega (arith, rest, twice, once)

-- the trail of an open observer
seen_on : (trails : List Asked) (w : Watch) (t : Asked) (i : ℕ) → slice_get trails i ≡ Some t
    → w.trail ≡ i
    → seen_by trails (Some w) ≡ seen_from w.since (Some t)
seen_on trails w t i there same = cc

-- no more trails are asked than there are open observers
pub asked_few : (trails : List Asked) (watches : List (Option Watch)) → AreUsed trails watches
    → asked_count trails ≤ open_count (map (seen_by trails) watches)
asked_few trails watches used =
    let few : asked_count trails ≤ sum_by (λ o. cond (seen_by trails o).is_open 1 0) watches =
    matched (λ t. cond t.is_asked 1 0) (λ o. cond (seen_by _ o).is_open 1 0) refl 0 trails
    watches (λ i t there some.
    let one = (used i t there).by (is_asked t.is_asked some) in
    let there_now : one.1.trail ≡ 0 + i = omega (arith, one.3) in (
      one.0,
      one.1,
      one.2,
      there_now,
      small t.is_asked (cond (seen_by trails (Some _)).is_open 1 0)
          (cc (seen_on trails one.1 t i there one.3)),
    )) in
    rw (sum_mapped (λ (s : Seen). cond s.is_open 1 0) (seen_by trails) watches) few
  where
    is_asked : (b : Bool) → 1 ≤ cond b 1 0 → b ≡ true
    is_asked b some = search arith

    small : (b : Bool) (n : ℕ) → n ≡ 1 → cond b 1 0 ≤ n
    small b n is = search arith

-- and they keep at most twice what these have
pub kept_few : (trails : List Asked) (watches : List (Option Watch)) → AreUsed trails watches
    → kept_count trails ≤ 2 * answer_count (map (seen_by trails) watches)
kept_few trails watches used =
    let few : kept_count trails ≤ sum_by (λ o. 2 * length (seen_by trails o).answers) watches =
    matched kept_by (λ o. 2 * length (seen_by trails o).answers) refl 0 trails watches
    (λ i t there some. by_asked i t there t.is_asked refl some) in
    rw (← sum_doubled (λ o. length (seen_by trails o).answers) watches
    ∙ ap (λ n. 2 * n) (sym (sum_mapped (λ (s : Seen). length s.answers) (seen_by trails) watches)))
    few
  where
    by_asked : (i : ℕ) (t : Asked) → slice_get trails i ≡ Some t → (b : Bool) → t.is_asked ≡ b
        → 1 ≤ kept_by t
        → (c : ℕ) × (w : Watch) × (slice_get watches c ≡ Some (Some w)) × (w.trail ≡ 0 + i)
        × (kept_by t ≤ 2 * length (seen_by trails (Some w)).answers)
    by_asked i t there true is some =
        let one = (used i t there).by is in
        let own : length (seen_by trails (Some one.1)).answers
        ≡ suc (length (drop one.1.since t.others)) = cc (seen_on trails one.1 t i there one.3) in
        let kept : kept_by t ≡ length t.others + 1 = cc in
        let low : kept_by t ≤ 2 * length (seen_by trails (Some one.1)).answers =
        omega (arith, own, kept, length-drop one.1.since t.others, one.4) in
        let there_now : one.1.trail ≡ 0 + i = omega (arith, one.3) in
        (one.0, one.1, one.2, there_now, low)
    by_asked i t there false is some = grind (arith, (used i t there).nothing is)

-- all in order
pub keeps_few : (h : Header) (reach : ℕ) (trails : List Asked) (watches : List (Option Watch))
    → AreInOrder h reach trails watches
    → KeepsFew (record {
      header = h;
      by_caller = map (seen_by trails) watches;
      trails = length trails;
      asked = asked_count trails;
      kept = kept_count trails;
    })
keeps_few h reach trails watches e4 = search (watches, asked_few, kept_few, arith)

pub order_closed : (h : Header) (caller : ℕ) (old new : List Asked)
    → (watches closed : List (Option Watch)) (far reach : ℕ)
    → Closes caller old new watches closed reach → AreInOrder h far old watches
    → AreInOrder h reach new closed
order_closed h caller old new watches closed far reach so was = record {
  on = so.on;
  asking = so.asking h was.asking;
  used = so.used;
  counted = so.counted;
  callers = long ∙ was.callers;
  few = omega (arith, so.trails, was.few, long);
  within = so.within;
  free = so.free;
}
  where
    long : length closed ≡ length watches
    long = search (length-map, closed, length-set, watches, arith)

-- some trail is free, or all are asked
pub free_or_full : (trails : List Asked)
    → ((i : ℕ) × (t : Asked) × (slice_get trails i ≡ Some t) × (t.is_asked ≡ false))
    ⊎ (asked_count trails ≡ length trails)
free_or_full [] = inr refl
free_or_full (t ∷ ts) = by_asked t.is_asked refl (free_or_full ts)
  where
    by_asked : (b : Bool) → t.is_asked ≡ b
        → ((i : ℕ) × (u : Asked) × (slice_get ts i ≡ Some u) × (u.is_asked ≡ false))
        ⊎ (asked_count ts ≡ length ts)
        → ((i : ℕ) × (u : Asked) × (slice_get (t ∷ ts) i ≡ Some u) × (u.is_asked ≡ false))
        ⊎ (asked_count (t ∷ ts) ≡ length (t ∷ ts))
    by_asked false e rest = inl (0, t, refl, e)
    by_asked true e rest = ⊎_elim
        (λ free. inl (suc free.0, free.1, free.2, free.3))
        (λ full.
        let more : asked_count (t ∷ ts) ≡ 1 + asked_count ts
        = sum_by-cons (λ u. cond u.is_asked 1 0) t ts ∙ ap (λ b. cond b 1 0 + asked_count ts) e in
        let all : asked_count (t ∷ ts) ≡ length (t ∷ ts) = omega (arith, more, full) in inr all)
        rest

-- an observer begins where there was none: there is one more
pub one_more_open : (watches : List Seen) (c : ℕ) (seen : Seen) → slice_get watches c
    ≡ Some unwatched → seen.is_open ≡ true
    → open_count (set watches c seen) ≡ open_count watches + 1
one_more_open watches c seen closed is_open = grind (arith, watches, closed, is_open, sum_set)

-- If one more trail is made only where all are asked, there are no more than before, or no more
-- than open observers.
pub made_few : (old new : List Asked) (watches : List (Option Watch)) (c : ℕ) (seen : Seen)
    → slice_get watches c ≡ Some None → seen.is_open ≡ true
    → AreUsed old watches
    → ((i : ℕ) (t : Asked) → slice_get old i ≡ Some t → t.is_asked ≡ false → length new
    ≡ length old)
    → length new ≤ length old + 1
    → (length new ≡ length old)
    ⊎ (length old + 1 ≤ open_count (set (map (seen_by old) watches) c seen))
made_few old new watches c seen closed is_open used reused one = ⊎_elim
    (λ free. inl (reused free.0 free.1 free.2 free.3)) (λ full.
    let more : open_count (set (map (seen_by old) watches) c seen)
    ≡ open_count (map (seen_by old) watches) + 1 = one_more_open _ c _
    (slice_get-map _ _ c ∙ ap (option_map _) closed) is_open in
    inr (omega (arith, full, more, asked_few old watches used))) (free_or_full old)

-- so there are no more than callers
pub still_few : (n m : ℕ) (watches : List Seen) → (n ≡ m) ⊎ (m + 1 ≤ open_count watches) → n ≤ m + 1
    → m ≤ length watches → n ≤ length watches
still_few n m watches made one few = ⊎_elim
    (λ same. omega (arith, same, few))
    (λ more. omega (arith, more, one, count_by-le-length (λ (s : Seen). s.is_open) watches))
    made

pub few_begun : (h : Header) (reach : ℕ) (old new : List Asked) (watches : List (Option Watch))
    (c : ℕ) (seen : Seen) → AreInOrder h reach old watches
    → slice_get watches c ≡ Some None → seen.is_open ≡ true
    → ((i : ℕ) (t : Asked) → slice_get old i ≡ Some t → t.is_asked ≡ false → length new
    ≡ length old)
    → length new ≤ length old + 1
    → length new ≤ length watches
few_begun h reach old new watches c seen was closed is_open reused one =
    let long : length (set (map (seen_by old) watches) c seen) ≡ length watches = length-set _ c _
    ∙ length-map _ _ in
    let few : length new ≤ length (set (map (seen_by old) watches) c seen) = still_few _
    (length _) _ (made_few _ _ _ c _ closed is_open was.used reused one) one
    (omega (arith, long, was.few)) in
    omega (arith, few, long)

-- a trail has room for one more to count
pub few_askers : (h : Header) (reach : ℕ) (old new : List Asked) (watches : List (Option Watch))
    → (c i : ℕ) (t : Asked) → AreInOrder h reach old watches
    → slice_get watches c ≡ Some None → KeepsAsked old new → AreOldExcept old new i
    → ((u : Asked) → slice_get new i ≡ Some u
    → (slice_get old i ≡ Some u) ⊎ ((u.askers ≡ 0) × (u.others ≡ [])))
    → slice_get new i ≡ Some t → t.askers + 1 < 2 ^ 32
few_askers h reach old new watches c i t was closed keeps only begun there =
    let counted = counted_asked old new watches i was.on keeps only begun was.counted i t there in
    omega (arith, counted, count_low i c watches closed, was.callers, few_callers h)

-- an observer begins, and its trail counts it
pub order_begun : (h : Header) (reach far : ℕ) (old new : List Asked)
    (watches : List (Option Watch))
    → (c i since : ℕ) (t : Asked) → AreInOrder h reach old watches
    → slice_get watches c ≡ Some None → KeepsAsked old new → AreAsking h new
    → AreOldExcept old new i → slice_get new i ≡ Some t → t.is_asked ≡ true
    → since ≡ length t.others
    → ((u : Asked) → slice_get new i ≡ Some u
    → (slice_get old i ≡ Some u) ⊎ ((u.askers ≡ 0) × (u.others ≡ [])))
    → length new ≤ length watches → reach ≤ far → i < far → far ≤ length new
    → AreInOrder h far (set new i (with_asker t))
    (set watches c (Some (record { trail = i; since = since })))
order_begun h reach far old new watches c i since t was closed keeps asking only there is_asked
    at_end begun few more before within = record {
      on = on_recounted new (set watches c own) i (t.askers + 1) t there
          (on_set new watches c own (slice_get_within watches c None closed)
          (λ w same. subst (IsOn new) (same_Some _ _ same) on)
          (on_kept old new watches keeps was.on));
      asking = asking_set h new i (with_asker t) (slice_get_within new i t there)
          (λ asked. asking i t there asked) asking;
      used = used_recounted new (set watches c own) i (t.askers + 1) t there
          (used_begun old new watches c i since t closed was.used only there is_asked at_end begun);
      counted = counted_begun new watches c i since t closed there
          (counted_asked old new watches i was.on keeps only begun was.counted);
      callers = length-set watches c own ∙ was.callers;
      few = omega (arith, few, length-set watches c own, length-set new i (with_asker t));
      within = omega (arith, within, length-set new i (with_asker t));
      free = free_begun reach far old new i (with_asker t) only more before was.free;
    }
  where
    own : Option Watch
    own = Some (record { trail = i; since = since })

    on : IsOn new (record { trail = i; since = since })
    on = record { asked = t; there = there; is_asked = is_asked; within = omega (arith, at_end) }
