-- What each caller sees of a state that comes, and of a call.
use Rattle.vyrd_observers.proofs.Prelude
use Prelude.{◌≡◌, ℕ, zero, suc, ◌<◌, ◌≤◌, Bool, true, false, cond, ◌||◌, List, [], ◌∷◌, ◌++◌}
use Prelude.{length, drop, map, set, get_or, Option, Some, None, slice_get, refl, ap, ◌∙◌, sym}
use Prelude.{arith, length-append, ◌==◌, option_map, unwrap_or, replicate, list_any, drop-append-le}
use Prelude.{length-map, map-set, set-get_or, list_any-append, slice_get_past, slice_get-map}
use Prelude.{unwrap_or-slice_get, none-some, same_Some, Method, Args, same_number, same_of, Watch}
use Prelude.{Asked, with_answer, after_state, seen_from, seen_by, AreOn, KeepsAsked, Seen}
use Prelude.{unwatched, has_answer, SeesAnswer, SeesState, slice_get-is}
use Rattle.vyrd_observers.proofs.SeeingLaws.{SeenBelow, knows_already}
use Rattle.vyrd_observers.proofs.TrailLaws.{seen_kept, seen_at_end}

-- what the next state makes of what an observer has seen
or_last : (a b l : Bool) → (a || (b || (l || false))) ≡ ((l || b) || a)
or_last a b l = grind arith

sees_answer : (answer since : ℕ) (t : Asked) → since ≤ length t.others
    → SeesAnswer answer (seen_from since (Some t)) (seen_from since (Some (with_answer answer t)))
sees_answer answer since t within = by_answer (answer == t.latest) refl
  where
    by_answer : (b : Bool) → (answer == t.latest) ≡ b
        → SeesAnswer answer (seen_from since (Some t))
        (seen_from since
        (Some (cond b t (record t { latest = answer; others = t.others ++ t.latest ∷ [] }))))
    by_answer true e = search (knows_already, same_of, same_number, arith)
    by_answer false e = record {
      is_open = refl;
      method = refl;
      args = refl;
      answers = λ reply.
          ap (λ xs. answer == reply || list_any (λ x. x == reply) xs)
          (drop-append-le since t.others (t.latest ∷ []) within)
          ∙ ap (λ b. answer == reply || b)
          (list_any-append (λ x. x == reply) (drop since t.others) (t.latest ∷ []))
          ∙ or_last (answer == reply) (list_any (λ x. x == reply) (drop since t.others))
          (t.latest == reply);
    }

sees_state : (affects : Method → Args → Bool) (told : Method → Args → ℕ) (since : ℕ) (t : Asked)
    → t.is_asked ≡ true → since ≤ length t.others
    → (affects t.method t.args ≡ false → has_answer (t.latest ∷ drop since t.others)
    (told t.method t.args) ≡ true)
    → SeesState told (seen_from since (Some t))
    (seen_from since (Some (after_state affects told t)))
sees_state affects told since t is_asked within current =
    grind (arith, by_touched (affects t.method t.args) refl)
  where
    answer : ℕ
    answer = told t.method t.args

    one_more_there : (b : Bool)
        → length (seen_from since (Some (cond b t
        (record t { latest = answer; others = t.others ++ t.latest ∷ [] })))).answers
        ≤ suc (suc (length (drop since t.others)))
    one_more_there true = omega arith
    one_more_there false = omega (
      arith,
      ap length (drop-append-le since t.others (t.latest ∷ []) within),
      length-append (drop since t.others) (t.latest ∷ []),
    )

    by_touched : (b : Bool) → affects t.method t.args ≡ b
        → SeesState told (seen_from since (Some t))
        (seen_from since (Some (cond b (with_answer answer t) t)))
    by_touched true e = let sees = sees_answer answer since t within in
        record {
          is_open = sees.is_open;
          method = sees.method;
          args = sees.args;
          answers = λ is_open. sees;
          few = one_more_there (answer == t.latest);
        }
    by_touched false e = grind arith

-- all callers see the state that all trails have the answer of
pub callers_see : (affects : Method → Args → Bool) (told : Method → Args → ℕ) (trails : List Asked)
    (watches : List (Option Watch)) → AreOn trails watches
    → ((c : ℕ) (seen : Seen) → slice_get (map (seen_by trails) watches) c ≡ Some seen → seen.is_open
    ≡ true
    → affects seen.method seen.args ≡ false → has_answer seen.answers (told seen.method seen.args)
    ≡ true)
    → SeenBelow told (length watches) (map (seen_by trails) watches)
    (map (seen_by (map (after_state affects told) trails)) watches)
callers_see affects told trails watches on current = record {
  below = λ k seen low here. by_place k seen (slice_get watches k) refl
      (sym (slice_get-map (seen_by trails) watches k) ∙ here);
  above = λ k high.
      slice_get_past (map (seen_by now) watches) k
      (omega (arith, high, length-map watches (seen_by now)))
      ∙ sym (slice_get_past (map (seen_by trails) watches) k
      (omega (arith, high, length-map watches (seen_by trails))));
}
  where
    now : List Asked
    now = map (after_state affects told) trails

    closed : SeesState told unwatched unwatched
    closed = grind arith

    by_place : (k : ℕ) (seen : Seen) (o : Option (Option Watch)) → slice_get watches k ≡ o
        → option_map (seen_by trails) o ≡ Some seen
        → (next : Seen) × (slice_get (map (seen_by now) watches) k ≡ Some next)
        × SeesState told seen next
    by_place k seen None place is = absurd (none-some _ is)
    by_place k seen (Some None) place is =
        grind (
          arith,
          slice_get-map (seen_by now) watches k,
          same_Some _ _ is,
          watches,
          told,
          closed,
        )
    by_place k seen (Some (Some w)) place is =
        let was = on k w place in
        let there : slice_get now w.trail ≡ Some (after_state affects told was.asked) =
        slice_get-map (after_state affects told) trails w.trail
        ∙ ap (option_map (after_state affects told)) was.there in
        let here : slice_get (map (seen_by trails) watches) k
        ≡ Some (seen_from w.since (Some was.asked)) =
        cc (slice_get-map (seen_by trails) watches k, was.there) in (
          seen_from w.since (Some (after_state affects told was.asked)),
          cc (slice_get-map (seen_by now) watches k),
          rw (← ap (seen_from w.since) (sym was.there) ∙ same_Some _ _ is)
              (sees_state affects told w.since was.asked was.is_asked was.within
              (λ untouched. current k (seen_from w.since (Some was.asked)) here refl untouched)),
        )

-- what is read at a place
pub read_is : {A : Type 0} (xs : List A) (i : ℕ) (x d : A) → slice_get xs i ≡ Some x
    → d ≡ get_or xs i d → x ≡ d
read_is xs i x d here is = sym (ap (λ o. unwrap_or o d) here) ∙ unwrap_or-slice_get xs i d ∙ sym is

-- the watch that is read of a caller
pub watch_read : (trails : List Asked) (watches : List (Option Watch)) (seen : List Seen) (c : ℕ)
    (o p : Option Watch) → map (seen_by trails) watches ≡ seen
    → c < length seen → o ≡ get_or watches c o → o ≡ p → slice_get watches c ≡ Some p
watch_read trails watches seen c o p is low read same = search (slice_get-is, length-map, arith)

-- what a caller has seen
pub seen_there : (trails : List Asked) (watches : List (Option Watch)) (c : ℕ) (o : Option Watch)
    → slice_get watches c ≡ Some o
    → slice_get (map (seen_by trails) watches) c ≡ Some (seen_by trails o)
seen_there trails watches c o here = cc (slice_get-map (seen_by trails) watches c)

-- an observer begins, on a trail whose latest answer is this
pub begins_seen : (old new : List Asked) (watches : List (Option Watch)) (c i since : ℕ) (t : Asked)
    (method : Method) (args : Args) (answer : ℕ)
    → KeepsAsked old new → AreOn old watches → slice_get new i ≡ Some t → t.method ≡ method
    → t.args ≡ args → t.latest ≡ answer → since ≡ length t.others
    → map (seen_by new) (set watches c (Some (record { trail = i; since = since })))
    ≡ set (map (seen_by old) watches) c
    (record { is_open = true; method = method; args = args; answers = answer ∷ [] })
begins_seen old new watches c i since t method args answer keeps on there same_method same_args
    same_answer at_end =
    map-set _ _ c _ ∙ ap (λ seen. set seen c (seen_from since (slice_get new i)))
    (seen_kept old new watches keeps on)
    ∙ ap (λ o. set (map (seen_by old) watches) c (seen_from since o)) there
    ∙ ap (λ k. set (map (seen_by old) watches) c (seen_from k (Some t))) at_end
    ∙ ap (set (map (seen_by old) watches) c) (seen_at_end t)
    ∙ (λ j. set (map (seen_by old) watches) c
    (record {
      is_open = true;
      method = same_method j;
      args = same_args j;
      answers = same_answer j
          ∷ [];
    }))

-- no caller has an open observer
pub none_watched : (trails : List Asked) (watches : List (Option Watch)) (n : ℕ)
    → watches ≡ replicate n None → map (seen_by trails) watches ≡ replicate n unwatched
none_watched trails watches n none = ap (map (seen_by trails)) none ∙ mapped n
  where
    mapped : (n : ℕ) → map (seen_by trails) (replicate n None) ≡ replicate n unwatched
    mapped zero = refl
    mapped (suc n) = ap (λ seen. unwatched ∷ seen) (mapped n)

-- a caller that has none is as after its return
pub closed_stays : (trails : List Asked) (watches : List (Option Watch)) (c : ℕ)
    → slice_get watches c ≡ Some None
    → map (seen_by trails) watches ≡ set (map (seen_by trails) watches) c unwatched
closed_stays trails watches c here =
    let seen = map _ _ in
    let there : unwatched ≡ get_or seen c unwatched =
    sym (cc (seen_there trails watches c None here)) ∙ unwrap_or-slice_get seen c unwatched in
    sym (set-get_or _ c _) ∙ ap (set _ c) (sym there)
