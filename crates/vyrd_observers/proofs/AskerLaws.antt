-- How many observers ask a trail.
use Rattle.vyrd_observers.proofs.Prelude
use Prelude.{◌≡◌, ◌≢◌, ℕ, zero, suc, ◌+◌, ◌-◌, ◌<◌, ◌≤◌, Bool, true, false, cond, ◌⊎◌, inl, ⊎_elim}
use Prelude.{List, [], ◌∷◌, length, map, set, get_or, Option, Some, None, slice_get, refl, ap}
use Prelude.{subst, ◌∙◌, sym, arith, ◌==◌, sum_by, sum_by-cons, sum_by-set, count_by-le-length}
use Prelude.{length-set, slice_get_within, unwrap_or-slice_get, slice_get-get_or, same_Some, Header}
use Prelude.{by_same, slice_get-set_same, slice_get-set_other, same_number, same_of, is_same}
use Prelude.{apart_of, isnt_same, Watch, Asked, without_asker, with_asker, seen_by, AreOn}
use Prelude.{AreAsking, KeepsAsked, AreUsed, OthersAreUsed, AreOldExcept, StayOrEnd, IsUsed, moved}
use Prelude.{asks, askers_of, SomeAsks, AreCounted, AreCountedBefore, AreFreeFrom}
use Rattle.vyrd_observers.proofs.TrailLaws.{NoneOn, seen_without, on_without, asking_set, stay_set}
use Rattle.vyrd_observers.proofs.TrailLaws.{others_set, used_except, seen_recounted, on_recounted}

false_true : {b : Bool} → b ≡ false → b ≡ true → ⊥
false_true is_false is_true = cc

-- an element gives way to another
pub sum_set : {A : Type 0} (f : A → ℕ) (xs : List A) (c : ℕ) (x y : A) → slice_get xs c ≡ Some x
    → sum_by f (set xs c y) + f x ≡ sum_by f xs + f y
sum_set f xs c x y here =
    cc (unwrap_or-slice_get xs c x, sum_by-set f xs c y x (slice_get_within xs c x here))

count_set : (i c : ℕ) (watches : List (Option Watch)) (o p : Option Watch)
    → slice_get watches c ≡ Some o
    → askers_of i (set watches c p) + cond (asks i o) 1 0
    ≡ askers_of i watches + cond (asks i p) 1 0
count_set i c watches o p here = sum_set (λ q. cond (asks i q) 1 0) watches c o p here

-- what a test counts for
one_of : {b : Bool} → b ≡ true → ◌≡◌ {A = ℕ} (cond b 1 0) 1
one_of is = ap (λ b. cond b 1 0) is

zero_of : {b : Bool} → b ≡ false → ◌≡◌ {A = ℕ} (cond b 1 0) 0
zero_of is = ap (λ b. cond b 1 0) is

-- an observer that asks is counted
pub counted_one : (i c : ℕ) (watches : List (Option Watch)) (w : Watch)
    → slice_get watches c ≡ Some (Some w) → w.trail ≡ i → 1 ≤ askers_of i watches
counted_one i c watches w here same =
    grind (arith, count_set i c watches (Some w) None here, one_of (is_same w.trail i same))

-- what is counted asks
pub some_asks : (i : ℕ) (watches : List (Option Watch)) → 1 ≤ askers_of i watches
    → SomeAsks i watches
some_asks i [] some = absurd (omega (arith, some))
some_asks i (None ∷ os) some =
    let count : askers_of i (None ∷ os) ≡ 0 + askers_of i os
    = sum_by-cons (λ q. cond (asks i q) 1 0) None os in
    let more = some_asks i os (omega (arith, some, count)) in (suc more.0, more.1, more.2, more.3)
some_asks i (Some w ∷ os) some = by_test (w.trail == i) refl (some_asks i os)
  where
    by_test : (b : Bool) → (w.trail == i) ≡ b → (1 ≤ askers_of i os → SomeAsks i os)
        → SomeAsks i (Some w ∷ os)
    by_test true e rest = (0, w, refl, same_of w.trail i e)
    by_test false e rest =
        let count : askers_of i (Some w ∷ os) ≡ cond (w.trail == i) 1 0 + askers_of i os
        = sum_by-cons (λ q. cond (asks i q) 1 0) (Some w) os in
        let own : ◌≡◌ {A = ℕ} (cond (w.trail == i) 1 0) 0 = zero_of e in
        let more = rest (omega (arith, some, count, own)) in (suc more.0, more.1, more.2, more.3)

-- where a caller has none, fewer ask than there are callers
pub count_low : (i c : ℕ) (watches : List (Option Watch)) → slice_get watches c ≡ Some None
    → askers_of i watches < length watches
count_low i c watches here =
    let out : askers_of i (set watches c own) + 0 ≡ askers_of i watches + cond (i == i) 1 0
    = count_set i c watches None own here in
    let one : ◌≡◌ {A = ℕ} (cond (i == i) 1 0) 1 = one_of (same_number i) in
    let low = count_by-le-length (asks i) (set watches c own) in
    omega (arith, out, one, low, length-set watches c own)
  where
    own : Option Watch
    own = Some (record { trail = i; since = 0 })

-- dropped answers change no count
asks_moved : (i j n : ℕ) (o : Option Watch) → asks i (moved j n o) ≡ asks i o
asks_moved i j n o = grind arith

askers_moved : (i j n : ℕ) (watches : List (Option Watch))
    → askers_of i (map (moved j n) watches) ≡ askers_of i watches
askers_moved i j n [] = refl
askers_moved i j n (o ∷ os) =
    sum_by-cons (λ q. cond (asks i q) 1 0) (moved j n o) (map (moved j n) os)
    ∙ (λ k. cond (asks_moved i j n o k) 1 0 + askers_moved i j n os k)
    ∙ sym (sum_by-cons (λ q. cond (asks i q) 1 0) o os)

-- a trail is changed
pub counted_set : (trails : List Asked) (watches : List (Option Watch)) (i : ℕ) (u : Asked)
    → i < length trails → u.askers ≡ askers_of i watches
    → ((j : ℕ) (t : Asked) → slice_get trails j ≡ Some t → i ≢ j → t.askers ≡ askers_of j watches)
    → AreCounted (set trails i u) watches
counted_set trails watches i u within own others = search
    (by_same, slice_get-set_same, apart_of, slice_get-set_other, arith)

-- answers of a trail are dropped
pub counted_moved : (trails : List Asked) (watches : List (Option Watch)) (i n : ℕ) (t u : Asked)
    → slice_get trails i ≡ Some t → u.askers ≡ t.askers
    → AreCounted trails watches → AreCounted (set trails i u) (map (moved i n) watches)
counted_moved trails watches i n t u here same counted = counted_set _ (map (moved i n) watches) i u
    (slice_get_within _ i t here) (same ∙ counted i t here ∙ sym (askers_moved i i n watches))
    (λ j v there other. counted j v there ∙ sym (askers_moved j i n watches))

-- an observer is closed: the trail that it asked still counts it
pub counted_without : (trails : List Asked) (watches : List (Option Watch)) (c : ℕ) (w : Watch)
    → slice_get watches c ≡ Some (Some w)
    → AreCounted trails watches → AreCountedBefore w.trail trails (set watches c None)
counted_without trails watches c w here counted =
    λ i t there. grind (arith, count_set i c watches (Some w) None here, counted i t there)

-- What is left when an observer has returned, and its trail counts it no more.
pub record HasLeft (i : ℕ) (old new : List Asked) (watches : List (Option Watch))
    (u : Asked) : Type 0 where
  pub seen : map (seen_by new) watches ≡ map (seen_by old) watches
  pub on : AreOn new watches
  pub asking : (h : Header) → AreAsking h old → AreAsking h new
  pub others : OthersAreUsed new watches i
  pub counted : AreCounted new watches
  pub stay : StayOrEnd old new
  pub there : slice_get new i ≡ Some u
  pub nothing : u.is_asked ≡ false → u.others ≡ []
  pub some : u.is_asked ≡ true → SomeAsks i watches

leaves : (trails : List Asked) (watches : List (Option Watch)) (i : ℕ) (t u : Asked)
    → slice_get trails i ≡ Some t → u ≡ without_asker t
    → AreOn trails watches → OthersAreUsed trails watches i → AreCountedBefore i trails watches
    → HasLeft i trails (set trails i u) watches u
leaves trails watches i t u here is on others counted = grind (arith, by_last (t.askers == 1) refl)
  where
    within : i < length trails
    within = slice_get_within trails i t here

    freed : Asked
    freed = record t { is_asked = false; askers = t.askers - 1; others = [] }

    fewer : Asked
    fewer = record t { askers = t.askers - 1 }

    count : t.askers ≡ askers_of i watches + 1
    count = cc (counted i t here, one_of (same_number i))

    rest : (j : ℕ) (v : Asked) → slice_get trails j ≡ Some v → i ≢ j
        → v.askers ≡ askers_of j watches
    rest j v there other = grind (arith, counted j v there, zero_of (isnt_same i j other))

    by_last : (b : Bool) → (t.askers == 1) ≡ b
        → HasLeft i trails (set trails i (cond b freed fewer)) watches (cond b freed fewer)
    by_last true e =
        let one : t.askers ≡ 1 = same_of t.askers 1 e in
        let none : NoneOn i watches = λ c w there same.
        absurd (omega (arith, counted_one i c watches w there same, count, one)) in
        record {
          seen = seen_without trails watches i freed none;
          on = on_without trails watches i freed none on;
          asking = λ h all.
              asking_set h trails i freed within (λ asked. absurd (false_true refl asked)) all;
          others = others_set trails watches i freed others;
          counted = counted_set trails watches i freed within (omega (arith, count, one)) rest;
          stay = stay_set trails i t freed here (λ asked. absurd (false_true refl asked));
          there = slice_get-set_same trails i freed within;
          nothing = λ free. refl;
          some = λ asked. absurd (false_true refl asked);
        }
    by_last false e =
        let one = some_asks i watches (omega (arith, count, apart_of t.askers 1 e)) in
        let was = on one.0 one.1 one.2 in
        let it : t ≡ was.asked
        = same_Some _ _ (sym here ∙ ap (slice_get trails) (sym one.3) ∙ was.there) in
        record {
          seen = seen_recounted trails watches i (t.askers - 1) t here;
          on = on_recounted trails watches i (t.askers - 1) t here on;
          asking = λ h all. asking_set h trails i fewer within (λ asked. all i t here asked) all;
          others = others_set trails watches i fewer others;
          counted = counted_set trails watches i fewer within (omega (arith, count)) rest;
          stay = stay_set trails i t fewer here (λ asked. (asked, refl, refl, refl));
          there = slice_get-set_same trails i fewer within;
          nothing = λ free. absurd (false_true free (ap (λ v. v.is_asked) it ∙ was.is_asked));
          some = λ asked. one;
        }

-- the trail is read at a place
pub leaves_at : (trails : List Asked) (watches : List (Option Watch)) (i : ℕ) (d u : Asked)
    → i < length trails → u ≡ without_asker (get_or trails i d)
    → AreOn trails watches → OthersAreUsed trails watches i → AreCountedBefore i trails watches
    → HasLeft i trails (set trails i u) watches u
leaves_at trails watches i d u within is on others counted =
    leaves _ _ i (get_or _ i d) u (slice_get-get_or _ i d within) is on others counted

-- it counts the one that leaves
pub counts_some : (trails : List Asked) (watches : List (Option Watch)) (i : ℕ) (d : Asked)
    → i < length trails → AreCountedBefore i trails watches
    → 0 < (get_or trails i d).askers
counts_some trails watches i d within counted =
    let one : ◌≡◌ {A = ℕ} (cond (i == i) 1 0) 1 = one_of (same_number i) in
    let it : (get_or trails i d).askers ≡ askers_of i watches + cond (i == i) 1 0
    = counted i (get_or trails i d) (slice_get-get_or trails i d within) in
    omega (arith, it, one)

-- it is used if it keeps nothing before its latest answer
pub used_left : (i : ℕ) (old new : List Asked) (watches : List (Option Watch)) (u : Asked)
    → HasLeft i old new watches u → length u.others ≤ 0
    → AreUsed new watches
used_left i old new watches u so empty =
    used_except new new watches i (λ j t there. inl there) so.others (λ t there.
    subst (λ v. IsUsed v i watches) (same_Some _ _ (sym so.there ∙ there)) (record {
      nothing = λ free. nothing u.others empty;
      by = λ asked.
          let one = so.some asked in
          let was = so.on one.0 one.1 one.2 in
          let it : u ≡ was.asked
          = same_Some _ _ (sym so.there ∙ ap (slice_get new) (sym one.3) ∙ was.there) in (
            one.0,
            one.1,
            one.2,
            one.3,
            omega (arith, was.within, ap (λ v. length v.others) it, empty),
          );
    }))
  where
    nothing : (xs : List ℕ) → length xs ≤ 0 → xs ≡ []
    nothing [] low = refl
    nothing (x ∷ xs) low = absurd (omega (arith, low))

-- and otherwise others ask it
pub some_left : (i : ℕ) (old new : List Asked) (watches : List (Option Watch)) (u : Asked)
    → HasLeft i old new watches u → 0 < length u.others
    → SomeAsks i watches
some_left i old new watches u so some = grind (arith, watches)

-- a question is asked: nobody asks a trail that was free
pub counted_asked : (old new : List Asked) (watches : List (Option Watch)) (i : ℕ)
    → AreOn old watches → KeepsAsked old new → AreOldExcept old new i
    → ((u : Asked) → slice_get new i ≡ Some u
    → (slice_get old i ≡ Some u) ⊎ ((u.askers ≡ 0) × (u.others ≡ [])))
    → AreCounted old watches → AreCounted new watches
counted_asked old new watches i on keeps only own counted = λ j u there. ⊎_elim
    (λ was. counted j u was)
    (λ same. let here : slice_get new i ≡ Some u = ap (slice_get new) (sym same) ∙ there in
    (⊎_elim (λ was. counted i u was) (λ fresh. by_count u here fresh.0 (askers_of i watches) refl)
    (own u here))
    ∙ ap (λ k. askers_of k watches) (sym same))
    (only j u there)
  where
    by_count : (u : Asked) → slice_get new i ≡ Some u → u.askers ≡ 0 → (n : ℕ)
        → askers_of i watches ≡ n → u.askers ≡ askers_of i watches
    by_count u here none zero e = none ∙ sym e
    by_count u here none (suc n) e =
        let one = some_asks i watches (omega (arith, e)) in
        let was = on one.0 one.1 one.2 in
        let now : slice_get new i ≡ Some was.asked = ap (slice_get new) (sym one.3)
        ∙ keeps one.1.trail was.asked was.there was.is_asked in
        let it : was.asked ≡ u = same_Some _ _ (sym now ∙ here) in
        counted i u (ap (slice_get old) (sym one.3) ∙ was.there ∙ ap Some it)

-- an observer begins, and its trail counts it
pub counted_begun : (trails : List Asked) (watches : List (Option Watch)) (c i since : ℕ)
    → (t : Asked) → slice_get watches c ≡ Some None
    → slice_get trails i ≡ Some t → AreCounted trails watches
    → AreCounted (set trails i (with_asker t))
    (set watches c (Some (record { trail = i; since = since })))
counted_begun trails watches c i since t closed here counted = counted_set _ (set _ c _) i _
    (slice_get_within _ i t here) (let more : askers_of i (set watches c own) + 0
    ≡ askers_of i watches + cond (i == i) 1 0 = count_set i c _ None _ closed in
    let one : ◌≡◌ {A = ℕ} (cond (i == i) 1 0) 1 = one_of (same_number i) in
    omega (arith, more, one, counted i t here)) (λ j v there other.
    let more : askers_of j (set watches c own) + 0 ≡ askers_of j watches + cond (i == j) 1 0 =
    count_set j c _ None _ closed in
    let none : ◌≡◌ {A = ℕ} (cond (i == j) 1 0) 0 = zero_of (isnt_same i j other) in
    omega (arith, more, none, counted j v there))
  where
    own : Option Watch
    own = Some (record { trail = i; since = since })

-- trails that stay or end are free from the same place on
pub free_closed : (reach : ℕ) (old new : List Asked) → StayOrEnd old new → length new ≡ length old
    → AreFreeFrom reach old → AreFreeFrom reach new
free_closed reach old new stay long free = λ i u high there.
    let was = element old i (omega (arith, slice_get_within new i u there, long)) in
    let now = stay i was.0 was.1 in
    let it : now.0 ≡ u = same_Some _ _ (sym now.1 ∙ there) in
    by_asked u u.is_asked refl (λ asked. (now.2 (cc)).0) (free i was.0 high was.1)
  where
    element : (xs : List Asked) (i : ℕ) → i < length xs → (x : Asked) × (slice_get xs i ≡ Some x)
    element [] i low = absurd (omega (arith, low))
    element (x ∷ xs) zero low = (x, refl)
    element (x ∷ xs) (suc i) low = element xs i (omega (arith, low))

    by_asked : {a : Bool} (u : Asked) (b : Bool) → u.is_asked ≡ b → (u.is_asked ≡ true → a ≡ true)
        → a ≡ false → u.is_asked ≡ false
    by_asked u true e asked free = absurd (false_true free (asked e))
    by_asked u false e asked free = e

-- one more trail is asked
pub free_begun : (reach far : ℕ) (old new : List Asked) (i : ℕ) (u : Asked) → AreOldExcept old new i
    → reach ≤ far → i < far → AreFreeFrom reach old
    → AreFreeFrom far (set new i u)
free_begun reach far old new i u only more before free = search (slice_get-set_other, arith)
