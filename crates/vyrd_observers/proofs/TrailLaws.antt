-- Trails of answers that open observers share.
use Rattle.vyrd_observers.proofs.Prelude
use Prelude.{◌≡◌, ℕ, zero, suc, ◌+◌, ◌-◌, ◌*◌, ◌<◌, ◌≤◌, Bool, true, false, cond, ◌&&◌, ◌≢◌, ◌⊎◌}
use Prelude.{inl, inr, ⊎_elim, List, [], ◌∷◌, ◌++◌, length, drop, map, set, Option, Some, None}
use Prelude.{slice_get, refl, ap, subst, ◌∙◌, sym, arith, length-drop, ◌==◌, option_map}
use Prelude.{slice_get_within, slice_get-map, none-some, same_Some, Header, Method, Args}
use Prelude.{must_commit, by_same, same_number, same_of, apart_of, isnt_same, Watch, has_method}
use Prelude.{Asked, after_state, seen_from, seen_by, IsOn, AreOn, AreAsking, KeepsAsked, IsTrailOf}
use Prelude.{IsUsed, AreUsed, OthersAreUsed, AreOldExcept, StayOrEnd, moved, AreCounted}
use Prelude.{AreFreeFrom, AreInOrder, Seen, changed_below, slice_get-set_same, slice_get-set_other}
use Rattle.std.proofs.lemmas.List.{drop-drop}
use Rattle.std.proofs.Math.Seq.{drop-length}
use Rattle.vyrd_observers.specs.Trails.{StaysOrEnds}

pub false_true : {b : Bool} → b ≡ false → b ≡ true → ⊥
false_true is_false is_true = cc

none_some : {A : Type 0} {x : A} → None ≡ Some x → ⊥
none_some e = cc

pub some_some : {A : Type 0} {x y : A} → Some (Some x) ≡ Some (Some y) → x ≡ y
some_some e = cc

-- one more element at the end
pub before_pushed : {A : Type 0} (xs : List A) (y : A) (i : ℕ) (x : A) → slice_get xs i ≡ Some x
    → slice_get (xs ++ y ∷ []) i ≡ Some x
before_pushed [] y i x is = absurd (none-some _ is)
before_pushed (z ∷ xs) y zero x is = is
before_pushed (z ∷ xs) y (suc i) x is = before_pushed xs y i x is

pub pushed_only : {A : Type 0} (xs : List A) (y : A) (i : ℕ) (x : A) → slice_get (xs ++ y ∷ []) i
    ≡ Some x
    → (slice_get xs i ≡ Some x) ⊎ (i ≡ length xs)
pushed_only [] y zero x is = inr refl
pushed_only [] y (suc i) x is = absurd (none-some _ is)
pushed_only (z ∷ xs) y zero x is = inl is
pushed_only (z ∷ xs) y (suc i) x is = ⊎_elim (λ was. inl was) (λ last. inr (ap suc last))
    (pushed_only xs y i x is)

pub all_pushed : {A : Type 0} (P : A → Type 0) (xs : List A) (y : A) → P y
    → ((i : ℕ) (x : A) → slice_get xs i ≡ Some x → P x)
    → (i : ℕ) (x : A) → slice_get (xs ++ y ∷ []) i ≡ Some x → P x
all_pushed P [] y own all zero x is = subst P (same_Some _ _ is) own
all_pushed P [] y own all (suc i) x is = absurd (none-some _ is)
all_pushed P (z ∷ xs) y own all zero x is = all 0 x is
all_pushed P (z ∷ xs) y own all (suc i) x is = all_pushed P xs y own (λ j w. all (suc j) w) i x is

-- lists in which some elements are changed
pub all_changed : {A : Type 0} (P : A → Type 0) (f : A → A) → ((x : A) → P x → P (f x))
    → (n : ℕ) (xs : List A)
    → ((i : ℕ) (x : A) → slice_get xs i ≡ Some x → P x) → (i : ℕ) (y : A)
    → slice_get (changed_below f n xs) i ≡ Some y → P y
all_changed P f step zero xs all i y is = all i y is
all_changed P f step (suc n) [] all i y is = all i y is
all_changed P f step (suc n) (x ∷ xs) all zero y is = subst P (same_Some _ _ is)
    (step x (all 0 x refl))
all_changed P f step (suc n) (x ∷ xs) all (suc i) y is = all_changed P f step n xs
    (λ j w. all (suc j) w) i y is

pub changed_there : {A : Type 0} (Q : A → A → Type 0) (f : A → A) → ((x : A) → Q x x)
    → ((x : A) → Q x (f x)) → (n : ℕ) (xs : List A) (i : ℕ) (x : A)
    → slice_get xs i ≡ Some x → (y : A) × (slice_get (changed_below f n xs) i ≡ Some y) × Q x y
changed_there Q f stays steps zero xs i x is = (x, is, stays x)
changed_there Q f stays steps (suc n) [] i x is = absurd (none-some _ is)
changed_there Q f stays steps (suc n) (z ∷ xs) zero x is = grind (arith, f x, steps x)
changed_there Q f stays steps (suc n) (z ∷ xs) (suc i) x is = changed_there Q f stays steps n xs i x
    is

pub changed_from : {A : Type 0} (Q : A → A → Type 0) (f : A → A) → ((x : A) → Q x x)
    → ((x : A) → Q x (f x)) → (n : ℕ) (xs : List A) (i : ℕ) (y : A)
    → slice_get (changed_below f n xs) i ≡ Some y → (x : A) × (slice_get xs i ≡ Some x) × Q x y
changed_from Q f stays steps zero xs i y is = (y, is, stays y)
changed_from Q f stays steps (suc n) [] i y is = absurd (none-some _ is)
changed_from Q f stays steps (suc n) (z ∷ xs) zero y is = grind (arith, same_Some _ _ is, steps z)
changed_from Q f stays steps (suc n) (z ∷ xs) (suc i) y is = changed_from Q f stays steps n _ i y is

pub map_alike : {A B : Type 0} (f g : A → B) (xs : List A)
    → ((i : ℕ) (x : A) → slice_get xs i ≡ Some x → f x ≡ g x) → map f xs ≡ map g xs
map_alike f g [] same = refl
map_alike f g (x ∷ xs) same = (λ i. same 0 x refl i ∷ map_alike f g xs (λ j y. same (suc j) y) i)

pub map_after : {A B C : Type 0} (f : B → C) (g : A → B) (xs : List A) → map f (map g xs)
    ≡ map (λ x. f (g x)) xs
map_after f g [] = refl
map_after f g (x ∷ xs) = ap (λ ys. f (g x) ∷ ys) (map_after f g xs)

-- a trail that nobody asks is added
pub asking_pushed : (h : Header) (trails : List Asked) (t : Asked) → t.is_asked ≡ false
    → AreAsking h trails → AreAsking h (trails ++ t ∷ [])
asking_pushed h trails t free all = all_pushed _ _ t (λ is. absurd (false_true free is)) all

-- a trail is changed
pub asking_set : (h : Header) (trails : List Asked) (i : ℕ) (t : Asked) → i < length trails
    → (t.is_asked ≡ true → (has_method h t.method t.args ≡ true) × (must_commit t.method ≡ false))
    → AreAsking h trails → AreAsking h (set trails i t)
asking_set h trails i t within own all = λ j u there. by_same i j
    (λ same. let it : t ≡ u = same_Some _ _ (sym (slice_get-set_same _ i t within)
    ∙ ap (slice_get _) same ∙ there) in
    rw (← it) own)
    (λ other. all j u (sym (slice_get-set_other _ i j t (apart_of i j other)) ∙ there))

pub keeps_set : (trails : List Asked) (i : ℕ) (t new : Asked) → slice_get trails i ≡ Some t
    → t.is_asked ≡ false → KeepsAsked trails (set trails i new)
keeps_set trails i t new here free = search
    (by_same, false_true, slice_get-set_other, apart_of, arith)

-- what is asked stays, and so do the observers and what they have seen
pub on_kept : (old new : List Asked) (watches : List (Option Watch)) → KeepsAsked old new
    → AreOn old watches → AreOn new watches
on_kept old new watches keeps on = λ c w here. let was = on c w here in record {
  asked = was.asked;
  there = keeps w.trail was.asked was.there was.is_asked;
  is_asked = was.is_asked;
  within = was.within;
}

pub seen_kept : (old new : List Asked) (watches : List (Option Watch)) → KeepsAsked old new
    → AreOn old watches
    → map (seen_by new) watches ≡ map (seen_by old) watches
seen_kept old new watches keeps on = map_alike _ _ _ (λ c o here. by_watch c o here)
  where
    by_watch : (c : ℕ) (o : Option Watch) → slice_get watches c ≡ Some o → seen_by new o
        ≡ seen_by old o
    by_watch c None here = refl
    by_watch c (Some w) here = let was = on c w here in
        ap (seen_from _) (keeps _ _ was.there was.is_asked ∙ sym was.there)

-- an observer is on a trail, or on none
pub on_set : (trails : List Asked) (watches : List (Option Watch)) (c : ℕ) (o : Option Watch)
    → c < length watches
    → ((w : Watch) → o ≡ Some w → IsOn trails w) → AreOn trails watches
    → AreOn trails (set watches c o)
on_set trails watches c o within own on = search
    (by_same, slice_get-set_same, slice_get-set_other, apart_of, arith)

-- what an observer has seen that begins now
pub seen_at_end : (t : Asked) → seen_from (length t.others) (Some t)
    ≡ record { is_open = true; method = t.method; args = t.args; answers = t.latest ∷ [] }
seen_at_end t = cc (drop-length t.others)

-- the same question, which as many ask, and which has as many answers or more
pub record SameQuestion (t new : Asked) : Type 0 where
  pub is_asked : new.is_asked ≡ t.is_asked
  pub askers : new.askers ≡ t.askers
  pub method : new.method ≡ t.method
  pub args : new.args ≡ t.args
  pub grown : length t.others ≤ length new.others

question_stays : (t : Asked) → SameQuestion t t
question_stays t = grind arith

length-pushed : {A : Type 0} (xs : List A) (y : A) → length (xs ++ y ∷ []) ≡ length xs + 1
length-pushed [] y = refl
length-pushed (x ∷ xs) y = grind (arith, length-pushed xs y)

question_after : (affects : Method → Args → Bool) (told : Method → Args → ℕ) (t : Asked)
    → SameQuestion t (after_state affects told t)
question_after affects told t = grind (arith, told, question_stays, length-pushed)

-- a trail that is asked has as many answers or more, and one that isn't has none if it had none
record UsesAsMany (t new : Asked) : Type 0 where
  pub is_asked : new.is_asked ≡ t.is_asked
  pub askers : new.askers ≡ t.askers
  pub nothing : new.is_asked ≡ false → t.others ≡ [] → new.others ≡ []
  pub grown : length t.others ≤ length new.others

as_many : (t : Asked) → UsesAsMany t t
as_many t = grind arith

as_many_after : (affects : Method → Args → Bool) (told : Method → Args → ℕ) (t : Asked)
    → UsesAsMany t (after_state affects told t)
as_many_after affects told t = grind (arith, told, question_after)

-- some trails have the next state's answer
pub asking_after : (h : Header) (affects : Method → Args → Bool) (told : Method → Args → ℕ) (n : ℕ)
    (trails : List Asked) → AreAsking h trails
    → AreAsking h (changed_below (after_state affects told) n trails)
asking_after h affects told n trails all = all_changed _ _
    (λ t was is_asked. let same = question_after affects told t in let own =
    was (sym same.is_asked ∙ is_asked) in
    (cc (same.method, same.args, own.0), ap must_commit same.method ∙ own.1)) n _ all

pub on_after : (affects : Method → Args → Bool) (told : Method → Args → ℕ) (n : ℕ)
    (trails : List Asked) (watches : List (Option Watch)) → AreOn trails watches
    → AreOn (changed_below (after_state affects told) n trails) watches
on_after affects told n trails watches on = λ c w here.
    let was = on c w here in
    let now = changed_there SameQuestion (after_state affects told) question_stays
    (question_after affects told) n trails w.trail was.asked was.there in
    record {
      asked = now.0;
      there = now.1;
      is_asked = now.2.is_asked ∙ was.is_asked;
      within = omega (arith, was.within, now.2.grown);
    }

pub length-changed : {A : Type 0} (f : A → A) (n : ℕ) (xs : List A) → length (changed_below f n xs)
    ≡ length xs
length-changed f zero xs = refl
length-changed f (suc n) [] = refl
length-changed f (suc n) (x ∷ xs) = ap suc (length-changed f n xs)

pub all_mapped : {A B : Type 0} (P : B → Type 0) (f : A → B) (xs : List A)
    → ((i : ℕ) (x : A) → slice_get xs i ≡ Some x → P (f x))
    → (i : ℕ) (y : B) → slice_get (map f xs) i ≡ Some y → P y
all_mapped P f [] all i y is = absurd (none-some _ is)
all_mapped P f (x ∷ xs) all zero y is = subst P (same_Some _ _ is) (all 0 x refl)
all_mapped P f (x ∷ xs) all (suc i) y is = all_mapped P f xs (λ j z. all (suc j) z) i y is

-- a trail is changed that no observer is on
abbrev pub NoneOn : ℕ → List (Option Watch) → Type 0
NoneOn i watches = (c : ℕ) (w : Watch) → slice_get watches c ≡ Some (Some w) → w.trail ≡ i → ⊥

pub seen_without : (trails : List Asked) (watches : List (Option Watch)) (i : ℕ) (t : Asked)
    → NoneOn i watches
    → map (seen_by (set trails i t)) watches ≡ map (seen_by trails) watches
seen_without trails watches i t none = search (map_alike, seen_by, slice_get-set_other, arith)

pub on_without : (trails : List Asked) (watches : List (Option Watch)) (i : ℕ) (t : Asked)
    → NoneOn i watches → AreOn trails watches
    → AreOn (set trails i t) watches
on_without trails watches i t none on = λ c w here. let was = on c w here in record {
  asked = was.asked;
  there = slice_get-set_other trails i w.trail t (λ same. none c w here (sym same)) ∙ was.there;
  is_asked = was.is_asked;
  within = was.within;
}

-- a trail is changed in nothing except how many observers it counts
pub seen_recounted : (trails : List Asked) (watches : List (Option Watch)) (i n : ℕ) (t : Asked)
    → slice_get trails i ≡ Some t
    → map (seen_by (set trails i (record t { askers = n }))) watches ≡ map (seen_by trails) watches
seen_recounted trails watches i n t here = map_alike _ _ _ (λ c o there. by_watch o)
  where
    new : Asked
    new = record t { askers = n }

    by_watch : (o : Option Watch) → seen_by (set trails i new) o ≡ seen_by trails o
    by_watch None = refl
    by_watch (Some w) = by_same i _
        (λ same. cc (slice_get-set_same trails i new (slice_get_within trails i t here)))
        (λ other. ap (seen_from _) (slice_get-set_other _ i _ _ (apart_of i _ other)))

pub on_recounted : (trails : List Asked) (watches : List (Option Watch)) (i n : ℕ) (t : Asked)
    → slice_get trails i ≡ Some t → AreOn trails watches
    → AreOn (set trails i (record t { askers = n })) watches
on_recounted trails watches i n t here on = λ c w there. let was = on c w there in by_same i w.trail
    (λ same. let it : t ≡ was.asked
    = same_Some _ _ (sym here ∙ ap (slice_get trails) same ∙ was.there) in record {
      asked = new;
      there = ap (slice_get (set trails i new)) (sym same)
          ∙ slice_get-set_same trails i new (slice_get_within trails i t here);
      is_asked = ap (λ u. u.is_asked) it ∙ was.is_asked;
      within = omega (arith, was.within, ap (λ u. length u.others) it);
    })
    (λ other. record {
      asked = was.asked;
      there = slice_get-set_other trails i w.trail new (apart_of i w.trail other) ∙ was.there;
      is_asked = was.is_asked;
      within = was.within;
    })
  where
    new : Asked
    new = record t { askers = n }

pub used_recounted : (trails : List Asked) (watches : List (Option Watch)) (i n : ℕ) (t : Asked)
    → slice_get trails i ≡ Some t → AreUsed trails watches
    → AreUsed (set trails i (record t { askers = n })) watches
used_recounted trails watches i n t here used = λ j u there. by_same i j
    (λ same. let it : new ≡ u = same_Some _ _
    (sym (slice_get-set_same trails i new (slice_get_within trails i t here))
    ∙ ap (slice_get (set trails i new)) same ∙ there) in
    let was = used j t (ap (slice_get trails) (sym same) ∙ here) in
    subst (λ v. IsUsed v j watches) it (record { nothing = was.nothing; by = was.by }))
    (λ other. used j u (sym (slice_get-set_other trails i j new (apart_of i j other)) ∙ there))
  where
    new : Asked
    new = record t { askers = n }

-- the first answers of a trail are dropped, which count for no observer
abbrev pub Uncounted : ℕ → ℕ → List (Option Watch) → Type 0
Uncounted i n watches = (c : ℕ) (w : Watch) → slice_get watches c ≡ Some (Some w) → w.trail ≡ i
    → n ≤ w.since

seen_shorter : (n since : ℕ) (t : Asked) → n ≤ since
    → seen_from (since - n) (Some (record t { others = drop n t.others })) ≡ seen_from since
    (Some t)
seen_shorter n since t low = grind (arith, drop-drop (since - n) n t.others)

pub seen_moved : (trails : List Asked) (watches : List (Option Watch)) (i n : ℕ) (t : Asked)
    → slice_get trails i ≡ Some t → Uncounted i n watches
    → map (seen_by (set trails i (record t { others = drop n t.others }))) (map (moved i n) watches)
    ≡ map (seen_by trails) watches
seen_moved trails watches i n t here low = map_after _ _ _ ∙ map_alike _ _ _ by_watch
  where
    new : Asked
    new = record t { others = drop n t.others }

    by_test : (w : Watch) (b : Bool) → (w.trail == i) ≡ b → (w.trail ≡ i → n ≤ w.since)
        → seen_by (set trails i new)
        (Some (cond b (record { trail = w.trail; since = w.since - n }) w)) ≡ seen_by trails
        (Some w)
    by_test w true e counts =
        cc (
          same_of w.trail i e,
          slice_get-set_same trails i new
              (slice_get_within trails i t here),
          seen_shorter n w.since t (counts (same_of w.trail i e)),
        )
    by_test w false e counts = search (slice_get-set_other, apart_of, arith)

    by_watch : (c : ℕ) (o : Option Watch) → slice_get watches c ≡ Some o
        → seen_by (set trails i new) (moved i n o) ≡ seen_by trails o
    by_watch c None there = refl
    by_watch c (Some w) there = by_test w (w.trail == i) refl (low c w there)

pub on_moved : (trails : List Asked) (watches : List (Option Watch)) (i n : ℕ) (t : Asked)
    → slice_get trails i ≡ Some t → Uncounted i n watches
    → AreOn trails watches → AreOn (set trails i (record t { others = drop n t.others }))
    (map (moved i n) watches)
on_moved trails watches i n t here low on = λ c w there.
    all_mapped (λ o. (v : Watch) → o ≡ Some v → IsOn (set trails i new) v)
    (moved i n) watches by_watch c (Some w) there w refl
  where
    new : Asked
    new = record t { others = drop n t.others }

    by_test : (w : Watch) (b : Bool) → (w.trail == i) ≡ b → (w.trail ≡ i → n ≤ w.since)
        → IsOn trails w
        → IsOn (set trails i new) (cond b (record { trail = w.trail; since = w.since - n }) w)
    by_test w true e counts was =
        let same : w.trail ≡ i = same_of w.trail i e in
        let it : t ≡ was.asked = same_Some _ _ (sym here ∙ ap (slice_get trails) (sym same)
        ∙ was.there) in
        record {
          asked = new;
          there = ap (slice_get (set trails i new)) same ∙ slice_get-set_same trails i new
              (slice_get_within trails i t here);
          is_asked = cc was.is_asked;
          within = omega (
            arith,
            was.within,
            counts same,
            ap (λ u. length u.others) it,
            length-drop n
                t.others,
          );
        }
    by_test w false e counts was = search (slice_get-set_other, apart_of, arith)

    by_watch : (c : ℕ) (o : Option Watch) → slice_get watches c ≡ Some o → (v : Watch) → moved i n o
        ≡ Some v → IsOn (set trails i new) v
    by_watch c None there v is = absurd (none-some _ is)
    by_watch c (Some w) there v is =
        grind (
          arith,
          same_Some _ _ is,
          by_test w (w.trail == i) refl (low c w there)
              (on c w there),
        )

pub trail_of_seen : (trails : List Asked) (watches : List (Option Watch)) (c : ℕ) (seen : Seen)
    (before : List ℕ) (method : Method) (args : Args) (answer : ℕ)
    → AreOn trails watches → slice_get (map (seen_by trails) watches) c ≡ Some seen → seen.is_open
    ≡ true → seen.method ≡ method → seen.args ≡ args
    → seen.answers ≡ answer ∷ before → (i : ℕ) × (t : Asked) × (slice_get trails i ≡ Some t)
    × IsTrailOf method args answer t
trail_of_seen trails watches c seen before method args answer on here is_open same_method same_args
    same_answers = by_place (slice_get _ c) refl (sym (slice_get-map _ _ c) ∙ here)
  where
    by_place : (o : Option (Option Watch)) → slice_get watches c ≡ o → option_map (seen_by trails) o
        ≡ Some seen
        → (i : ℕ) × (t : Asked) × (slice_get trails i ≡ Some t) × IsTrailOf method args answer t
    by_place None place is = absurd (none-some _ is)
    by_place (Some None) place is = cc
    by_place (Some (Some w)) place is =
        grind (
          arith,
          w.trail,
          (on c w place).asked,
          (on c w place).there,
          (on c w place).is_asked,
          same_Some _ _ is,
        )

-- an observer is closed, and all trails except its own are used by others
pub used_without : (trails : List Asked) (watches : List (Option Watch)) (c : ℕ) (w : Watch)
    → slice_get watches c ≡ Some (Some w)
    → AreUsed trails watches → OthersAreUsed trails (set watches c None) w.trail
used_without trails watches c w here used = λ i t there other. let was = used i t there in record {
  nothing = was.nothing;
  by = λ is_asked. let one = was.by is_asked in (
    one.0,
    one.1,
    slice_get-set_other _ c _ None
        (λ same. other
        (cc (one.3, some_some (sym one.2 ∙ ap (slice_get watches) (sym same) ∙ here)))) ∙ one.2,
    one.3,
    one.4,
  );
}

-- one trail is changed, and is used then
pub used_except : (old new : List Asked) (watches : List (Option Watch)) (i : ℕ)
    → AreOldExcept old new i → OthersAreUsed old watches i
    → ((t : Asked) → slice_get new i ≡ Some t → IsUsed t i watches) → AreUsed new watches
used_except old new watches i only others own = λ j t there. by_same j i
    (λ same. rw same (own t (ap (slice_get _) (sym same) ∙ there)))
    (λ apart. ⊎_elim (λ was. others j t was (apart_of j i apart))
    (λ same. absurd (apart_of j i apart same)) (only j t there))

pub others_set : (trails : List Asked) (watches : List (Option Watch)) (i : ℕ) (t : Asked)
    → OthersAreUsed trails watches i → OthersAreUsed (set trails i t) watches i
others_set trails watches i t others = λ j u there other. grind (arith, there, slice_get-set_other)

pub old_except_set : (trails : List Asked) (i : ℕ) (t : Asked)
    → AreOldExcept trails (set trails i t) i
old_except_set trails i t = search (by_same, slice_get-set_other, apart_of, arith)

pub old_except_then : (old trails : List Asked) (i : ℕ) → AreOldExcept old trails i → (t : Asked)
    → AreOldExcept old (set trails i t) i
old_except_then old trails i only t = λ j u there. grind (arith, there, old_except_set)

-- a trail that an observer is on is asked
asked_on : (trails : List Asked) (watches : List (Option Watch)) (i n c : ℕ) (t : Asked)
    → slice_get watches c ≡ Some (Some (record { trail = i; since = n })) → AreOn trails watches
    → slice_get trails i ≡ Some t → t.is_asked ≡ true
asked_on trails watches i n c t here on there =
    let was = on c (record { trail = i; since = n }) here in
    ap (λ u. u.is_asked) (same_Some _ _ (sym there ∙ was.there)) ∙ was.is_asked

moved_other : (i n : ℕ) (w : Watch) → w.trail ≢ i → moved i n (Some w) ≡ Some w
moved_other i n w other = grind (arith, isnt_same)

pub used_moved : (old new : List Asked) (watches : List (Option Watch)) (i n c : ℕ)
    → slice_get watches c ≡ Some (Some (record { trail = i; since = n })) → AreOldExcept old new i
    → AreOn new (map (moved i n) watches)
    → OthersAreUsed old watches i → AreUsed new (map (moved i n) watches)
used_moved old new watches i n c here only on others = used_except old _ _ i only
    (λ j t there other. let was = others j t there other in
    record {
      nothing = was.nothing;
      by = λ is_asked. let one = was.by is_asked in (
        one.0,
        one.1,
        slice_get-map (moved i n) watches one.0 ∙ ap (option_map (moved i n)) one.2
            ∙ ap Some (moved_other i n _ (λ same. other (sym one.3 ∙ same))),
        one.3,
        one.4,
      );
    }) (λ t there.
    record {
      nothing = λ not_asked. absurd
          (false_true not_asked (asked_on new (map _ _) i (n - n) c t now on there));
      by = λ is_asked. (c, record { trail = i; since = n - n }, now, refl, omega arith);
    })
  where
    now : slice_get (map (moved i n) watches) c ≡ Some (Some (record { trail = i; since = n - n }))
    now = cc (slice_get-map (moved i n) watches c, same_number i)

pub used_still : (trails : List Asked) (watches : List (Option Watch)) (i n c : ℕ)
    → slice_get watches c ≡ Some (Some (record { trail = i; since = n }))
    → ((t : Asked) → slice_get trails i ≡ Some t → 2 * n ≤ length t.others) → AreOn trails watches
    → OthersAreUsed trails watches i
    → AreUsed trails watches
used_still trails watches i n c here low on others = used_except trails trails watches i
    (λ j t there. inl there) others (λ t there. record {
      nothing = λ not_asked. absurd
          (false_true not_asked (asked_on trails watches i n c t here on there));
      by = λ is_asked. (c, record { trail = i; since = n }, here, refl, low t there);
    })

-- an observer begins on a trail that is asked already, or that keeps nothing before the latest
-- answer
pub used_begun : (old new : List Asked) (watches : List (Option Watch)) (c i since : ℕ) (t : Asked)
    → slice_get watches c ≡ Some None
    → AreUsed old watches → AreOldExcept old new i → slice_get new i ≡ Some t → t.is_asked ≡ true
    → since ≡ length t.others
    → ((u : Asked) → slice_get new i ≡ Some u → (slice_get old i ≡ Some u)
    ⊎ ((u.askers ≡ 0) × (u.others ≡ [])))
    → AreUsed new (set watches c (Some (record { trail = i; since = since })))
used_begun old new watches c i since t closed used only there is_asked at_end begun =
    used_except old _ _ i only (λ j u was other. stays j u (used j u was))
    (λ u here. ⊎_elim
    (λ was. stays i u (used i u was))
    (λ fresh. let it : t ≡ u = same_Some _ _ (sym there ∙ here) in record {
      nothing = λ not_asked. fresh.1;
      by = λ asked. (
        c,
        record { trail = i; since = since },
        slice_get-set_same watches c own (slice_get_within watches c None closed),
        refl,
        omega (arith, at_end, ap (λ v. length v.others) it, ap length fresh.1),
      );
    })
    (begun u here))
  where
    own : Option Watch
    own = Some (record { trail = i; since = since })

    stays : (j : ℕ) (u : Asked) → IsUsed u j watches → IsUsed u j (set watches c own)
    stays j u was = search (slice_get-set_other, none_some, arith)

-- some trails have the next state's answer
pub used_after : (affects : Method → Args → Bool) (told : Method → Args → ℕ) (n : ℕ)
    (trails : List Asked) (watches : List (Option Watch))
    → AreUsed trails watches → AreUsed (changed_below (after_state affects told) n trails) watches
used_after affects told n trails watches used = λ i u there.
    let was = changed_from UsesAsMany (after_state affects told) as_many
    (as_many_after affects told) n trails i u there in
    let one = used i was.0 was.1 in record {
      nothing = λ not_asked. was.2.nothing not_asked (one.nothing (sym was.2.is_asked ∙ not_asked));
      by = λ is_asked. let by = one.by (sym was.2.is_asked ∙ is_asked) in
          (by.0, by.1, by.2, by.3, omega (arith, by.4, was.2.grown));
    }

counted_after : (affects : Method → Args → Bool) (told : Method → Args → ℕ) (n : ℕ)
    → (trails : List Asked) (watches : List (Option Watch)) → AreCounted trails watches
    → AreCounted (changed_below (after_state affects told) n trails) watches
counted_after affects told n trails watches counted = λ i u there.
    let was = changed_from UsesAsMany (after_state affects told) as_many
    (as_many_after affects told) n trails i u there in
    was.2.askers ∙ counted i was.0 was.1

free_after : (affects : Method → Args → Bool) (told : Method → Args → ℕ) (n reach : ℕ)
    → (trails : List Asked) → AreFreeFrom reach trails
    → AreFreeFrom reach (changed_below (after_state affects told) n trails)
free_after affects told n reach trails free = λ i u high there.
    let was = changed_from UsesAsMany (after_state affects told) as_many
    (as_many_after affects told) n trails i u there in
    was.2.is_asked ∙ free i was.0 high was.1

pub order_after : (h : Header) (reach : ℕ) (affects : Method → Args → Bool)
    (told : Method → Args → ℕ) (n : ℕ) (trails : List Asked)
    (watches : List (Option Watch)) → AreInOrder h reach trails watches
    → AreInOrder h reach (changed_below (after_state affects told) n trails) watches
order_after h reach affects told n trails watches so = record {
  on = on_after affects told n trails watches so.on;
  asking = asking_after h affects told n trails so.asking;
  used = used_after affects told n trails watches so.used;
  counted = counted_after affects told n trails watches so.counted;
  callers = so.callers;
  few = omega (arith, so.few, length-changed (after_state affects told) n trails);
  within = omega (arith, so.within, length-changed (after_state affects told) n trails);
  free = free_after affects told n reach trails so.free;
}

-- where no element from a place on would change, those before it are all that do
pub changed_enough : {A : Type 0} (f : A → A) (n : ℕ) (xs : List A)
    → ((i : ℕ) (x : A) → n ≤ i → slice_get xs i ≡ Some x → f x ≡ x)
    → changed_below f n xs ≡ map f xs
changed_enough f zero [] same = refl
changed_enough f (suc n) [] same = refl
changed_enough f zero (x ∷ xs) same =
    let first : x ≡ f x = sym (same 0 x (omega arith) refl) in
    let rest : xs ≡ map f xs
    = changed_enough f zero xs (λ i y high there. same (suc i) y (omega arith) there) in
    (λ j. first j ∷ rest j)
changed_enough f (suc n) (x ∷ xs) same =
    ap (λ ys. f x ∷ ys)
    (changed_enough f n xs (λ i y high there. same (suc i) y (omega (arith, high)) there))

-- where none before a place would change, none has changed so far
pub changed_none : {A : Type 0} (f : A → A) (n : ℕ) (xs : List A)
    → ((i : ℕ) (x : A) → i < n → slice_get xs i ≡ Some x → f x ≡ x)
    → changed_below f n xs ≡ xs
changed_none f zero xs same = refl
changed_none f (suc n) [] same = refl
changed_none f (suc n) (x ∷ xs) same =
    let first : f x ≡ x = same 0 x (omega arith) refl in
    let rest : changed_below f n xs ≡ xs
    = changed_none f n xs (λ i y low there. same (suc i) y (omega (arith, low)) there) in
    (λ j. first j ∷ rest j)

-- what isn't affected has no next state's answer
pub unaffected_stays : (affects : Method → Args → Bool) (told : Method → Args → ℕ) (t : Asked)
    → (t.is_asked && affects t.method t.args) ≡ false
    → after_state affects told t ≡ t
unaffected_stays affects told t none = cc

-- what isn't asked has no next state's answer
pub free_stays : (affects : Method → Args → Bool) (told : Method → Args → ℕ) (t : Asked)
    → t.is_asked ≡ false → after_state affects told t ≡ t
free_stays affects told t free = cc

-- a trail stays as it is, or ends
pub stay_all : (trails : List Asked) → StayOrEnd trails trails
stay_all trails = λ i t there. (t, there, λ is_asked. (is_asked, refl, refl, refl))

pub stay_then : (old now new : List Asked) → StayOrEnd old now → StayOrEnd now new
    → StayOrEnd old new
stay_then old now new first second = search arith

pub stay_set : (trails : List Asked) (i : ℕ) (t new : Asked) → slice_get trails i ≡ Some t
    → StaysOrEnds t new → StayOrEnd trails (set trails i new)
stay_set trails i t new here own = λ j u there. by_same i j
    (λ same. let it : t ≡ u = same_Some _ _ (sym here ∙ ap (slice_get _) same ∙ there) in (
      new,
      ap (slice_get _) (sym same) ∙ slice_get-set_same _ i _ (slice_get_within _ i t here),
      rw
          (← it) own,
    )) (λ other. (
      u,
      slice_get-set_other _ i j _ (apart_of i j other)
          ∙ there,
      λ is_asked. (is_asked, refl, refl, refl),
    ))

-- a question that stays has its trail, or some trail is free
pub trail_stays : (old new : List Asked) (i : ℕ) (t : Asked) (method : Method) (args : Args)
    (answer : ℕ) → StayOrEnd old new → slice_get old i ≡ Some t
    → IsTrailOf method args answer t
    → (u : Asked) × (slice_get new i ≡ Some u)
    × ((u.is_asked ≡ false) ⊎ IsTrailOf method args answer u)
trail_stays old new i t method args answer stay here is = search (here, arith)

pub counted_within : (trails : List Asked) (watches : List (Option Watch)) (i n c : ℕ)
    → slice_get watches c ≡ Some (Some (record { trail = i; since = n })) → AreOn trails watches
    → (t : Asked) → slice_get trails i ≡ Some t → n ≤ length t.others
counted_within trails watches i n c here on = λ t there.
    let was = on c (record { trail = i; since = n }) here in
    let it : was.asked ≡ t = same_Some _ _ (sym was.there ∙ there) in
    subst (λ (u : Asked). n ≤ length u.others) it was.within
