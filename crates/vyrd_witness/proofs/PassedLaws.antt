-- There is an item where there is a race: of a word that is passed, and of a write that races.
use Rattle.vyrd_witness.proofs.Prelude
use Prelude.{◌≡◌, ◌↔◌, ℕ, zero, suc, ◌+◌, ◌<◌, ◌≤◌, Bool, true, false, not, cond, ◌&&◌, ◌||◌, List}
use Prelude.{[], ◌∷◌, ◌++◌, length, map, filter, take, drop, slice_get, Option, Some, None, is_some}
use Prelude.{refl, ap, ◌∙◌, sym, arith, ◌==◌, unwrap_or, list_any, option_or, option_map_or}
use Prelude.{length-take-le, drop_all, slice_get_within, Header, Kind, Write, Entry, by_caller}
use Prelude.{has_block, commit_or_open, first_answer, newest_first, effects_at, is_lone_commit}
use Prelude.{committed_since_open, length-newest_first, Passed, effect_of, effects_by}
use Prelude.{effects_there, effects_along, plain, is_of_other, last_of}
use Rattle.std.proofs.lemmas.List.{take_all}
use Rattle.std.proofs.lemmas.List.Folds.{list_any-append}
use Rattle.vyrd_base.specs.Samples.{by}
use Rattle.vyrd_base.specs.Shape.{is_raced}
use Rattle.vyrd_base.specs.Words.{effects_of_others, is_passed}
use Rattle.vyrd_witness.specs.Races.{passed_from, passed_items, race_items}
use Rattle.vyrd_witness.proofs.EffectLaws.{plain_effects, along_next, entry_there, here_on}
use Rattle.vyrd_witness.proofs.NumberedLaws.{turned-append}
use Rattle.vyrd_witness.proofs.PhaseLaws.{newest_at}
use Rattle.vyrd_witness.proofs.RaceLaws.{both_none, held_shown}

-- Where a commit stands in the open block, there is a last one.
commit_step : (n : ℕ) (own : Bool) (kind : Kind) (since : Option Bool) (last : Option ℕ)
    → (unwrap_or since false ≡ true → is_some last ≡ true)
    → unwrap_or (option_or (cond own (commit_or_open kind) None) since) false ≡ true
    → is_some (cond (own && is_lone_commit kind) (Some n) last) ≡ true
commit_step n own kind since last so done = grind arith

last_commit : (c : ℕ) (earlier : List Entry) → committed_since_open c earlier ≡ true
    → is_some (last_of c is_lone_commit earlier) ≡ true
last_commit c [] done = cc
last_commit c (e ∷ earlier) done = commit_step (length _) (e.caller == c) e.kind
    (first_answer (by_caller c _) earlier) (last_of c _ _) (last_commit c earlier) done

-- it stands among the entries
last_low : (c : ℕ) (is : Kind → Bool) (earlier : List Entry) (k : ℕ)
    → last_of c is earlier ≡ Some k → k < length earlier
last_low c is [] k found = cc
last_low c is (e ∷ earlier) k found =
    by_test (e.caller == c && is e.kind) found (last_low c is earlier k)
  where
    by_test : (b : Bool) → cond b (Some (length earlier)) (last_of c is earlier) ≡ Some k
        → (last_of c is earlier ≡ Some k → k < length earlier) → k < length (e ∷ earlier)
    by_test b here so = search (here, arith)

-- whether one of some effects is another caller's on the word, seen by their words and values
abbrev gives : ℕ → List (ℕ × ℕ) → Bool
gives w writes = list_any (λ write. write.0 == w) writes

or_swapped : (a b : Bool) → (a || b) ≡ (b || a)
or_swapped a b = grind arith

or_no : (a : Bool) → (a || false) ≡ a
or_no a = search arith

any_turned : {A : Type 0} (test : A → Bool) (xs : List A)
    → list_any test (newest_first xs) ≡ list_any test xs
any_turned test [] = refl
any_turned test (x ∷ xs) = ap (list_any test) (turned-append (x ∷ []) xs)
    ∙ list_any-append test (newest_first xs) (x ∷ [])
    ∙ or_swapped (list_any test (newest_first xs)) (list_any test (x ∷ []))
    ∙ (λ i. or_no (test x) i || any_turned test xs i)

and_yes : (a : Bool) → (a && true) ≡ a
and_yes a = search arith

and_no : (a : Bool) → (a && false) ≡ false
and_no a = search arith

-- the effects by one entry, of another caller and of the caller itself
of_other : (log : List Entry) (at c d w : ℕ) (ws : List (ℕ × ℕ)) → (d == c) ≡ false
    → list_any (is_of_other c w) (map (effect_of log at d) ws)
    ≡ gives w (map plain (map (effect_of log at d) ws))
of_other log at c d w [] other = refl
of_other log at c d w (x ∷ ws) other =
    let one = ap (λ b. x.0 == w && not b) other ∙ and_yes (x.0 == w) in
    let rest = of_other log at c d w ws other in
    λ i. one i || rest i

of_own : (log : List Entry) (at c d w : ℕ) (ws : List (ℕ × ℕ)) → (d == c) ≡ true
    → list_any (is_of_other c w) (map (effect_of log at d) ws) ≡ false
of_own log at c d w [] own = refl
of_own log at c d w (x ∷ ws) own =
    let one = ap (λ b. x.0 == w && not b) own ∙ and_no (x.0 == w) in
    let rest = of_own log at c d w ws own in
    λ i. one i || rest i

here_other : (log : List Entry) (at c w : ℕ) (e : Entry) → slice_get log at ≡ Some e
    → (e.caller == c) ≡ false
    → list_any (is_of_other c w) (effects_there log at)
    ≡ gives w (effects_at (newest_first (take at log)) e.caller e.kind (drop (at + 1) log))
here_other log at c w e here other =
    ap (λ o. list_any (is_of_other c w) (option_map_or (effects_by log at) o [])) here
    ∙ of_other log at c e.caller w _ other
    ∙ sym (any_turned (λ write. write.0 == w) (map plain (effects_by log at e)))
    ∙ ap (gives w) (plain_effects log at e here)

here_own : (log : List Entry) (at c w : ℕ) (e : Entry) → slice_get log at ≡ Some e
    → (e.caller == c) ≡ true → list_any (is_of_other c w) (effects_there log at) ≡ false
here_own log at c w e here own = grind (arith, here, of_own)

-- The effects since the caller's last lone commit, one entry further.
abbrev any_along : List Entry → ℕ → ℕ → ℕ → ℕ → Bool
any_along log c w from to = list_any (is_of_other c w) (effects_along log from to)

abbrev given_since : List Entry → ℕ → ℕ → ℕ → Bool
given_since log c w n = gives w (effects_of_others c (newest_first (take n log)) (drop n log))

abbrev commit_then : List Entry → ℕ → ℕ → Option ℕ
commit_then log c n = last_of c is_lone_commit (newest_first (take n log))

none_along : (log : List Entry) (c w n : ℕ) → any_along log c w n n ≡ false
none_along log c w n = grind arith

more_along : (log : List Entry) (c w from n : ℕ) → from ≤ n
    → any_along log c w from (n + 1)
    ≡ (any_along log c w from n || list_any (is_of_other c w) (effects_there log n))
more_along log c w from n order =
    ap (list_any (is_of_other c w)) (sym (along_next log from n order))
    ∙ list_any-append (is_of_other c w) (effects_along log from n) (effects_there log n)

since_next : (log : List Entry) (c w k n : ℕ) (e : Entry) → slice_get log n ≡ Some e
    → (commit_then log c n ≡ Some k
    → any_along log c w (k + 1) n ≡ given_since log c w n)
    → commit_then log c (n + 1) ≡ Some k
    → any_along log c w (k + 1) (n + 1) ≡ given_since log c w (n + 1)
since_next log c w k n e here so found =
    cc (
      by_test (e.caller == c) (is_lone_commit e.kind) refl
          (sym (ap (last_of c is_lone_commit) (newest_at log n e here)) ∙ found),
      newest_at log n e here,
    )
  where
    earlier : List Entry
    earlier = newest_first (take n log)

    later : List Entry
    later = drop (n + 1) log

    here_writes : List (ℕ × ℕ)
    here_writes = effects_at earlier e.caller e.kind later

    others : List (ℕ × ℕ)
    others = effects_of_others c earlier (e ∷ later)

    long : length earlier ≡ n
    long = let within = slice_get_within log n e here in
        length-newest_first (take n log) ∙ length-take-le n log (omega (arith, within))

    before : commit_then log c n ≡ Some k → any_along log c w (k + 1) n ≡ gives w others
    before last = cc (so last, here_on log n e here)

    order : commit_then log c n ≡ Some k → k + 1 ≤ n
    order last = let low = last_low c is_lone_commit earlier k last in omega (arith, low, long)

    by_test : (own lone : Bool) → (e.caller == c) ≡ own
        → cond (own && lone) (Some (length earlier)) (commit_then log c n) ≡ Some k
        → any_along log c w (k + 1) (n + 1)
        ≡ gives w (cond own (cond lone [] others) (here_writes ++ others))
    by_test true true own last = search (long, none_along, arith)
    by_test true false own last = more_along log c w (k + 1) n (order last)
        ∙ (λ i. before last i || here_own log n c w e here own i) ∙ or_no (gives w others)
    by_test false lone other last = more_along log c w (k + 1) n (order last)
        ∙ (λ i. before last i || here_other log n c w e here other i) ∙ or_swapped (gives w others)
        (gives w here_writes) ∙ sym (list_any-append (λ write. write.0 == w) here_writes others)

same_since : (log : List Entry) (c w k n : ℕ) → n ≤ length log → commit_then log c n ≡ Some k
    → any_along log c w (k + 1) n ≡ given_since log c w n
same_since log c w k zero within found = cc
same_since log c w k (suc n) within found =
    let there = entry_there log n (omega (arith, within)) in
    let one : n + 1 ≡ suc n = omega arith in
    ap (any_along _ c w _) (sym one) ∙ since_next _ c w k n there.0 there.1
    (same_since log c w k n (omega (arith, within))) (ap (commit_then _ c) one ∙ found)
    ∙ ap (given_since _ c w) one

-- there is no item exactly where no effect is such a one
none_kept : {A B : Type 0} (f : A → B) (test : A → Bool) (xs : List A)
    → (map f (filter test xs) ≡ []) ↔ (list_any test xs ≡ false)
none_kept f test [] = (λ e. refl, λ e. refl)
none_kept f test (x ∷ xs) = by_test (test x) (none_kept f test xs)
  where
    by_test : (b : Bool) → (map f (filter test xs) ≡ []) ↔ (list_any test xs ≡ false)
        → (map f (cond b (x ∷ filter test xs) (filter test xs)) ≡ [])
        ↔ ((b || list_any test xs) ≡ false)
    by_test b rest = search arith

pub passed_shown : (front : List Entry) (c w : ℕ)
    → (passed_items front c w ≡ []) ↔ (is_passed c w (newest_first front) ≡ false)
passed_shown front c w = by_test (has_block c earlier) (committed_since_open c earlier)
    (last_of c is_lone_commit earlier) (last_commit c earlier) behind_commit
  where
    earlier : List Entry
    earlier = newest_first front

    given : Bool
    given = gives w (effects_of_others c earlier [])

    all : take (length front) front ≡ front
    all = take_all (length front) front (omega arith)

    nothing : drop (length front) front ≡ []
    nothing = drop_all (length front) front (omega arith)

    behind_commit : (k : ℕ) → last_of c is_lone_commit earlier ≡ Some k
        → (passed_from front c w (k + 1) ≡ []) ↔ (given ≡ false)
    behind_commit k found =
        let kept = none_kept Passed (is_of_other c w)
        (effects_along front (k + 1) (length front)) in
        let same = same_since front c w k (length front) (omega arith)
        (ap (λ es. last_of c is_lone_commit (newest_first es)) all ∙ found)
        ∙ (λ i. gives w (effects_of_others c (newest_first (all i)) (nothing i))) in
        (λ e. sym same ∙ kept.0 e, λ e. kept.1 (same ∙ e))

    by_test : (block done : Bool) (last : Option ℕ) → (done ≡ true → is_some last ≡ true)
        → ((k : ℕ) → last ≡ Some k
        → (passed_from front c w (k + 1) ≡ []) ↔ (given ≡ false))
        → (cond (block && done)
        (option_map_or (λ k. passed_from front c w (k + 1)) last []) [] ≡ [])
        ↔ (((block && done) && given) ≡ false)
    by_test false done last some so = (λ e. refl, λ e. refl)
    by_test true false last some so = (λ e. refl, λ e. refl)
    by_test true true (Some k) some so = so k refl
    by_test true true None some so = grind arith

pub race_shown : (h : Header) (front : List Entry) (c w value : ℕ)
    → (race_items h front (by c (Write w value)) ≡ [])
    ↔ (is_raced h c w (newest_first front) ≡ false)
race_shown h front c w value = grind (arith, both_none, held_shown, passed_shown)
