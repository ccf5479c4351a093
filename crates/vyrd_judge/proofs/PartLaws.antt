-- The effects of a log in parts, as it grows by one entry.
use Rattle.vyrd_judge.proofs.Prelude
use Prelude.{◌≡◌, ℕ, suc, ◌+◌, ◌-◌, ◌<◌, ◌≤◌, Bool, true, false, cond, List, [], ◌∷◌, ◌++◌, length}
use Prelude.{None, refl, ap, ◌∙◌, sym, arith, append-nil, ◌==◌, unwrap_or, option_or, Header, Kind}
use Prelude.{BlockClose, Entry, newest_first_onto, first_answer, by_caller, has_inner_commit}
use Prelude.{broken_rule, effects_at, ended_effects_at, is_commit, commit_count, WellFormed, entry}
use Prelude.{all_kept, never, own_inner, commit_count-cons, is_same, isnt_same, effect_parts}
use Prelude.{with_effects, cut_if, parts_behind, ends_block, is_ended}
use Rattle.vyrd_base.specs.Callers.{commit_or_open}
use Rattle.vyrd_base.specs.Words.{block_writes, is_lone_commit}
use Rattle.vyrd_base.proofs.EffectLaws.{SameEffects, same_after, ends_committed_block, MoreAt}
use Rattle.vyrd_base.proofs.EffectLaws.{at_commit, own, other, MoreAtCommit, more_after}
use Rattle.vyrd_base.proofs.EffectLaws.{committed_since_open, inner_is_committed}
use Rattle.vyrd_base.proofs.TestLaws.{lower_isnt, flipped, first_true, second_true}
use Rattle.vyrd_words.specs.Effects.{number_at, inner_number}

-- The effects at the entries from a place on, in parts as `effect_parts` has them, where these
-- entries stand after them all.
abbrev pub parts_in : List (ℕ × ℕ) → List Entry → List Entry → List Entry → List (List (ℕ × ℕ))
parts_in before earlier [] tail = before ∷ []
parts_in before earlier (e ∷ later) tail =
    cond (is_commit e.kind)
    ((effects_at earlier e.caller e.kind (later ++ tail) ++ before) ∷ parts_in []
    (e ∷ earlier) later tail)
    (parts_in (effects_at earlier e.caller e.kind (later ++ tail) ++ before)
    (e ∷ earlier) later tail)

pub parts_alone : (before : List (ℕ × ℕ)) (earlier later : List Entry)
    → effect_parts before earlier later ≡ parts_in before earlier later []
parts_alone before earlier [] = refl
parts_alone before earlier (e ∷ later) =
    cc (
      parts_alone [] (e ∷ earlier) later,
      parts_alone (effects_at earlier e.caller e.kind later ++
          before) (e ∷ earlier) later,
      append-nil later,
    )

-- how many parts there are
pub parts_count : (before : List (ℕ × ℕ)) (earlier later tail : List Entry)
    → length (parts_in before earlier later tail) + commit_count earlier
    ≡ suc (commit_count (newest_first_onto earlier later))
parts_count before earlier [] tail = omega arith
parts_count before earlier (e ∷ later) tail =
    by_test (is_commit e.kind) refl (parts_count [] (e ∷ earlier) later tail)
    (parts_count (effects_at earlier e.caller e.kind (later ++ tail) ++ before)
    (e ∷ earlier) later tail)
  where
    now : List (ℕ × ℕ)
    now = effects_at earlier e.caller e.kind (later ++ tail) ++ before

    all : ℕ
    all = suc (commit_count (newest_first_onto (e ∷ earlier) later))

    by_test : (b : Bool) → is_commit e.kind ≡ b
        → length (parts_in [] (e ∷ earlier) later tail) + commit_count (e ∷ earlier) ≡ all
        → length (parts_in now (e ∷ earlier) later tail) + commit_count (e ∷ earlier) ≡ all
        → length (cond b (now ∷ parts_in [] (e ∷ earlier) later tail)
        (parts_in now (e ∷ earlier) later tail)) + commit_count earlier ≡ all
    by_test true is apart joined = grind (arith, commit_count-cons e earlier)
    by_test false is apart joined = cc (commit_count-cons e earlier)

-- some part is always there
pub some_parts : (before : List (ℕ × ℕ)) (earlier later tail : List Entry)
    → 0 < length (parts_in before earlier later tail)
some_parts before earlier later tail = search (parts_count, tail, grown, arith)
  where
    grown : (xs ys : List Entry) → commit_count xs ≤ commit_count (newest_first_onto xs ys)
    grown xs [] = omega arith
    grown xs (y ∷ ys) = let one = commit_count-cons y xs in omega (arith, grown (y ∷ xs) ys, one)

-- One more entry: its effects come last, and after a commit a new part begins.
pub parts_push : (before : List (ℕ × ℕ)) (earlier later : List Entry) (e : Entry)
    → effect_parts before earlier (later ++ e ∷ [])
    ≡ cut_if (is_commit e.kind)
    (with_effects 0 (effects_at (newest_first_onto earlier later) e.caller e.kind [])
    (parts_in before earlier later (e ∷ [])))
parts_push before earlier [] e = grind arith
parts_push before earlier (x ∷ later) e =
    by_test (is_commit x.kind) (parts_push [] (x ∷ earlier) later e)
    (parts_push (effects_at earlier x.caller x.kind (later ++ e ∷ []) ++ before)
    (x ∷ earlier) later e)
  where
    now : List (ℕ × ℕ)
    now = effects_at earlier x.caller x.kind (later ++ e ∷ []) ++ before

    last : List (ℕ × ℕ)
    last = effects_at (newest_first_onto (x ∷ earlier) later) e.caller e.kind []

    rest : List (List (ℕ × ℕ))
    rest = parts_in [] (x ∷ earlier) later (e ∷ [])

    behind : (b : Bool) (ps : List (List (ℕ × ℕ))) → now ∷ cut_if b ps ≡ cut_if b (now ∷ ps)
    behind b ps = search arith

    by_test : (b : Bool) → effect_parts [] (x ∷ earlier) (later ++ e ∷ [])
        ≡ cut_if (is_commit e.kind) (with_effects 0 last rest)
        → effect_parts now (x ∷ earlier) (later ++ e ∷ []) ≡ cut_if (is_commit e.kind)
        (with_effects 0 last (parts_in now (x ∷ earlier) later (e ∷ [])))
        → cond b (now ∷ effect_parts [] (x ∷ earlier) (later ++ e ∷ []))
        (effect_parts now (x ∷ earlier) (later ++ e ∷ []))
        ≡ cut_if (is_commit e.kind)
        (with_effects 0 last (cond b (now ∷ rest) (parts_in now (x ∷ earlier) later (e ∷ []))))
    by_test b apart joined = search (apart, joined, behind, flipped, lower_isnt, some_parts, arith)

-- Each entry from the place on has the same effects, with these entries after them all or with
-- those.
abbrev pub SameFrom : List Entry → List Entry → List Entry → List Entry → Type 0
SameFrom earlier [] tail tail' = Unit {0}
SameFrom earlier (x ∷ later) tail tail' =
    (effects_at earlier x.caller x.kind (later ++ tail) ≡ effects_at earlier x.caller x.kind
    (later ++ tail')) × SameFrom (x ∷ earlier) later tail tail'

same_parts : (before : List (ℕ × ℕ)) (earlier later tail tail' : List Entry)
    → SameFrom earlier later tail tail'
    → parts_in before earlier later tail ≡ parts_in before earlier later tail'
same_parts before earlier [] tail tail' same = refl
same_parts before earlier (x ∷ later) tail tail' same =
    cc (
      same_parts [] (x ∷ earlier) later tail tail' same.1,
      same_parts (effects_at earlier x.caller
          x.kind (later ++ tail) ++ before) (x ∷ earlier) later tail tail' same.1,
      same.0,
    )

-- the same told of all entries, newest first
same_from : (earlier later tail tail' : List Entry) → SameEffects (newest_first_onto earlier later)
    tail tail'
    → SameFrom earlier later tail tail' × SameEffects earlier (later ++ tail) (later ++ tail')
same_from earlier [] tail tail' same = (tt, same)
same_from earlier (x ∷ later) tail tail' same =
    let rest = same_from (x ∷ earlier) later tail tail' same in ((rest.1.0, rest.0), rest.1.1)

-- What the two say of the entries from one on: the writes take effect at a commit, before which
-- that many commits stand, with `tail'` behind and not with `tail`, and all else is the same.
pub data MoreHere (m : ℕ) (writes : List (ℕ × ℕ)) (earlier : List Entry) (x : Entry)
    (later tail tail' : List Entry) (rest : Type 0) : Type 0 where
  here : is_commit x.kind ≡ true → m ≡ commit_count earlier
      → effects_at earlier x.caller x.kind (later ++ tail) ≡ [] → effects_at earlier x.caller x.kind
      (later ++ tail') ≡ writes
      → SameFrom (x ∷ earlier) later tail tail' → MoreHere m writes earlier x later tail tail' rest
  next : effects_at earlier x.caller x.kind (later ++ tail) ≡ effects_at earlier x.caller x.kind
      (later ++ tail') → rest
      → MoreHere m writes earlier x later tail tail' rest

abbrev pub MoreFrom : ℕ → List (ℕ × ℕ) → List Entry → List Entry → List Entry → List Entry → Type 0
MoreFrom m writes earlier [] tail tail' = ⊥
MoreFrom m writes earlier (x ∷ later) tail tail' = MoreHere m writes earlier x later tail tail'
    (MoreFrom m writes (x ∷ earlier) later tail tail')

commit_after : (m : ℕ) (writes : List (ℕ × ℕ)) (earlier later tail tail' : List Entry)
    → MoreFrom m writes earlier later tail tail'
    → commit_count earlier ≤ m
commit_after m writes earlier [] tail tail' more = absurd more
commit_after m writes earlier (x ∷ later) tail tail' more = by_more
    (commit_after m writes (x ∷ earlier) later tail tail') more
  where
    by_more : (MoreFrom m writes (x ∷ earlier) later tail tail' → commit_count (x ∷ earlier) ≤ m)
        → MoreHere m writes earlier x later tail tail'
        (MoreFrom m writes (x ∷ earlier) later tail tail') → commit_count earlier ≤ m
    by_more rest (here commits same none all after) = omega (arith, same)
    by_more rest (next same onward) = grind (arith, rest onward, commit_count-cons x earlier)

-- So they come in the part that ends with that commit.
more_parts : (m : ℕ) (writes before : List (ℕ × ℕ)) (earlier later tail tail' : List Entry)
    → MoreFrom m writes earlier later tail tail'
    → parts_in before earlier later tail'
    ≡ with_effects (commit_count (newest_first_onto earlier later) - m) writes
    (parts_in before earlier later tail)
more_parts m writes before earlier [] tail tail' more = absurd more
more_parts m writes before earlier (x ∷ later) tail tail' more =
    by_more (λ b. more_parts m writes b (x ∷ earlier) later tail tail')
    (commit_after m writes (x ∷ earlier) later tail tail') more
  where
    behind : ℕ
    behind = commit_count (newest_first_onto (x ∷ earlier) later) - m

    effects_by : List Entry → List (ℕ × ℕ)
    effects_by t = effects_at earlier x.caller x.kind (later ++ t)

    parts : List (ℕ × ℕ) → List Entry → List (List (ℕ × ℕ))
    parts b t = parts_in b (x ∷ earlier) later t

    count : length (parts [] tail) + commit_count (x ∷ earlier)
        ≡ suc (commit_count (newest_first_onto (x ∷ earlier) later))
    count = parts_count [] (x ∷ earlier) later tail

    one : commit_count (x ∷ earlier) ≡ cond (is_commit x.kind) 1 0 + commit_count earlier
    one = commit_count-cons x earlier

    at : Bool → List (ℕ × ℕ) → List Entry → List (List (ℕ × ℕ))
    at b ws t = cond b ((ws ++ before) ∷ parts [] t) (parts (ws ++ before) t)

    at_here : is_commit x.kind ≡ true → m ≡ commit_count earlier → effects_by tail ≡ []
        → effects_by tail' ≡ writes
        → SameFrom (x ∷ earlier) later tail tail' → at (is_commit x.kind) (effects_by tail') tail'
        ≡ with_effects behind writes (at (is_commit x.kind) (effects_by tail) tail)
    at_here commits first none all after =
        let counted : commit_count (x ∷ earlier) ≡ 1 + commit_count earlier = one
        ∙ ap (λ b. cond b 1 0 + commit_count earlier) commits in
        let there : (length (parts [] tail) == behind) ≡ true = is_same (length (parts [] tail))
        behind (omega (arith, count, counted, first)) in
        (λ i. at (commits i) (all i) tail') ∙ ap (λ ps. (writes ++ before) ∷ ps)
        (sym (same_parts [] (x ∷ earlier) later tail tail' after))
        ∙ ap (λ b. cond b ((writes ++ before) ∷ parts [] tail)
        (before ∷ with_effects behind writes (parts [] tail))) (sym there)
        ∙ ap (with_effects behind writes) (sym (λ i. at (commits i) (none i) tail))

    at_next : (b : Bool) → (b ≡ true → length (parts [] tail) ≡ behind → ⊥) → effects_by tail
        ≡ effects_by tail'
        → parts [] tail' ≡ with_effects behind writes (parts [] tail)
        → parts (effects_by tail ++ before) tail' ≡ with_effects behind writes
        (parts (effects_by tail ++ before) tail)
        → at b (effects_by tail') tail' ≡ with_effects behind writes (at b (effects_by tail) tail)
    at_next true later_on same apart joined = search (tail, apart, parts, behind, isnt_same, arith)
    at_next false later_on same apart joined = cc

    by_more : ((b : List (ℕ × ℕ)) → MoreFrom m writes (x ∷ earlier) later tail tail' → parts b tail'
        ≡ with_effects behind writes (parts b tail))
        → (MoreFrom m writes (x ∷ earlier) later tail tail' → commit_count (x ∷ earlier) ≤ m)
        → MoreHere m writes earlier x later tail tail'
        (MoreFrom m writes (x ∷ earlier) later tail tail')
        → at (is_commit x.kind) (effects_by tail') tail' ≡ with_effects behind writes
        (at (is_commit x.kind) (effects_by tail) tail)
    by_more rest low (here commits first none all after) = at_here commits first none all after
    by_more rest low (next same onward) =
        let after = low onward in
        at_next (is_commit x.kind)
        (λ is there. no
        (omega (arith, count, there, after, some_parts [] (x ∷ earlier) later tail))) same
        (rest [] onward) (rest (effects_by tail ++ before) onward)
      where
        no : ⊥ → ⊥
        no e = e

well_formed_before : (h : Header) (earlier later : List Entry)
    → WellFormed h (newest_first_onto earlier later) → WellFormed h earlier
well_formed_before h earlier [] wf = wf
well_formed_before h earlier (x ∷ later) wf = (well_formed_before h (x ∷ earlier) later wf).1

-- an entry of the caller since the lone commit in its open block
pub record IsInside (c : ℕ) (kind : Kind) (earlier : List Entry) : Type 0 where
  pub inner : has_inner_commit c earlier ≡ true
  pub goes_on : ends_block kind ≡ false
  pub number : (n : ℕ) → number_at kind (commit_count earlier) n ≡ n

is_inside : (h : Header) (c : ℕ) (kind : Kind) (earlier : List Entry) → is_lone_commit kind ≡ false
    → broken_rule h earlier (entry c kind) ≡ None
    → has_inner_commit c (entry c kind ∷ earlier) ≡ true → IsInside c kind earlier
is_inside h c kind earlier alone kept inner = grind (arith, own_inner, never, all_kept, first_true)

-- the same by the entry's own caller
inside_of : (h : Header) (c : ℕ) (x : Entry) (earlier : List Entry) → x.caller ≡ c
    → is_lone_commit x.kind ≡ false → broken_rule h earlier x ≡ None
    → has_inner_commit c (x ∷ earlier) ≡ true → IsInside c x.kind earlier
inside_of h c x earlier same alone e6 e7 = grind (arith, alone, is_inside)

-- The caller's lone commit in its open block stands among the entries from a place on, or before
-- it.
data Found (c : ℕ) (writes : List (ℕ × ℕ)) (earlier later tail tail' : List Entry) : Type 0 where
  from_here : (m : ℕ) → inner_number c (newest_first_onto earlier later) ≡ suc m
      → MoreFrom m writes earlier later tail tail'
      → SameEffects earlier (later ++ tail) (later ++ tail')
      → Found c writes earlier later tail tail'
  before_here : has_inner_commit c earlier ≡ true → is_ended c later ≡ false
      → inner_number c (newest_first_onto earlier later) ≡ inner_number c earlier
      → SameFrom earlier later tail tail'
      → MoreAtCommit c writes earlier (later ++ tail) (later ++ tail')
      → Found c writes earlier later tail tail'

find_commit : (h : Header) (c : ℕ) (writes : List (ℕ × ℕ)) (earlier later tail tail' : List Entry)
    → WellFormed h (newest_first_onto earlier later)
    → has_inner_commit c (newest_first_onto earlier later) ≡ true
    → MoreAtCommit c writes (newest_first_onto earlier later) tail tail'
    → Found c writes earlier later tail tail'
find_commit h c writes earlier [] tail tail' wf inner more = before_here inner refl refl tt more
find_commit h c writes earlier (x ∷ later) tail tail' wf inner more =
    step (well_formed_before h (x ∷ earlier) later wf).0
    (find_commit h c writes (x ∷ earlier) later tail tail' wf inner more)
  where
    at : broken_rule h earlier x ≡ None → has_inner_commit c (x ∷ earlier) ≡ true → is_ended c later
        ≡ false
        → inner_number c (newest_first_onto (x ∷ earlier) later) ≡ inner_number c (x ∷ earlier)
        → SameFrom (x ∷ earlier) later tail tail'
        → MoreAt c writes x earlier (later ++ tail) (later ++ tail')
        (MoreAtCommit c writes earlier (x ∷ later ++ tail) (x ∷ later ++ tail'))
        → Found c writes earlier (x ∷ later) tail tail'
    at kept inside ended number after (at_commit same alone none all first) =
        from_here (commit_count earlier)
        (number ∙ (λ i. cond (is_same x.caller c same i)
        (number_at (alone i) (commit_count earlier) (inner_number c earlier))
        (inner_number c earlier)))
        (here (ap is_commit alone) refl none all after) first
    at kept inside ended number after (own same alone none none' onward) =
        search (inside_of, alone, kept, ended, is_same, after, onward, arith)
    at kept inside ended number after (other apart same onward) = grind arith

    step : broken_rule h earlier x ≡ None → Found c writes (x ∷ earlier) later tail tail'
        → Found c writes earlier (x ∷ later) tail tail'
    step kept (from_here m number more' same) = from_here m number (next same.0 more') same.1
    step kept (before_here inside ended number after onward) = at kept inside ended number after
        onward

-- if no lone commit stands since the open, there is no number
no_number : (c : ℕ) (earlier : List Entry) → committed_since_open c earlier ≡ false
    → inner_number c earlier ≡ 0
no_number c [] none = refl
no_number c (e ∷ earlier) none = by_test (e.caller == c) e.kind (no_number c earlier) none
  where
    by_test : (b : Bool) (kind : Kind)
        → (committed_since_open c earlier ≡ false → inner_number c earlier ≡ 0)
        → unwrap_or (option_or (cond b (commit_or_open kind) None)
        (first_answer (by_caller c commit_or_open) earlier)) false ≡ false
        → cond b (number_at kind (commit_count earlier) (inner_number c earlier))
        (inner_number c earlier) ≡ 0
    by_test b kind rest e' = search arith

-- no further effects
with_nothing : (behind : ℕ) (parts : List (List (ℕ × ℕ))) → with_effects behind [] parts ≡ parts
with_nothing behind [] = refl
with_nothing behind (part ∷ parts) = by_test (length parts == behind) (with_nothing behind parts)
  where
    by_test : (b : Bool) → with_effects behind [] parts ≡ parts
        → cond b (part ∷ parts) (part ∷ with_effects behind [] parts) ≡ part ∷ parts
    by_test b rest = search arith

-- An entry that ends no block with a lone commit in it: its effects are its own, and those before
-- stay.
quiet_effects : (h : Header) (earlier : List Entry) (e : Entry) → broken_rule h earlier e ≡ None
    → ends_committed_block earlier e ≡ false
    → (effects_at earlier e.caller e.kind [] ≡ ended_effects_at earlier e.caller e.kind)
    × (parts_behind earlier e.caller e.kind ≡ 0)
quiet_effects h earlier e kept none = search (all_kept, no_number, arith)

-- the end of a block with a lone commit in it isn't a commit
ends_alone : (h : Header) (earlier : List Entry) (e : Entry) → WellFormed h earlier
    → broken_rule h earlier e ≡ None
    → ends_committed_block earlier e ≡ true → e.kind ≡ BlockClose
ends_alone h earlier e wf kept ends = search (never, all_kept, inner_is_committed, arith)

-- One more entry that keeps the rules. Its effects, as if blocks took effect at their end, come in
-- the part that `parts_behind` tells.
pub parts_more : (h : Header) (before : List (ℕ × ℕ)) (earlier later : List Entry) (e : Entry)
    → WellFormed h (newest_first_onto earlier later)
    → broken_rule h (newest_first_onto earlier later) e ≡ None
    → ((c : ℕ) → has_inner_commit c earlier ≡ true → is_ended c later ≡ true)
    → effect_parts before earlier (later ++ e ∷ [])
    ≡ cut_if (is_commit e.kind)
    (with_effects (parts_behind (newest_first_onto earlier later) e.caller e.kind)
    (ended_effects_at (newest_first_onto earlier later) e.caller e.kind)
    (effect_parts before earlier later))
parts_more h before earlier later e wf kept ended =
    cc (
      parts_push before earlier later e,
      by_end (ends_committed_block all e) refl,
      parts_alone
          before earlier later,
    )
  where
    all : List Entry
    all = newest_first_onto earlier later

    old : List (List (ℕ × ℕ))
    old = parts_in before earlier later []

    new : List (List (ℕ × ℕ))
    new = parts_in before earlier later (e ∷ [])

    at_close : (c : ℕ) → has_inner_commit c all ≡ true → MoreAtCommit c (block_writes c all) all []
        (entry c BlockClose ∷ [])
        → Found c (block_writes c all) earlier later [] (entry c BlockClose ∷ [])
        → cut_if false
        (with_effects 0 (effects_at all c BlockClose [])
        (parts_in before earlier later (entry c BlockClose ∷ [])))
        ≡ cut_if false (with_effects (parts_behind all c BlockClose) (block_writes c all) old)
    at_close c inner more (from_here m number from same) = search (with_nothing, more_parts, arith)
    at_close c inner more (before_here inside unended number same onward) = never unended
        (ended c inside)

    at_end : e.kind ≡ BlockClose → ends_committed_block all e ≡ true
        → cut_if (is_commit e.kind) (with_effects 0 (effects_at all e.caller e.kind []) new)
        ≡ cut_if (is_commit e.kind)
        (with_effects (parts_behind all e.caller e.kind) (ended_effects_at all e.caller e.kind) old)
    at_end closes ends =
        let inner = second_true _ (has_inner_commit e.caller all) ends in
        let more : MoreAtCommit e.caller (block_writes e.caller all) all []
        (entry e.caller BlockClose ∷ []) =
        rw (← closes) (more_after h all e wf ends) in
        rw closes
        (at_close e.caller inner more
        (find_commit h e.caller (block_writes e.caller all) earlier later []
        (entry e.caller BlockClose ∷ []) wf inner more))

    by_end : (b : Bool) → ends_committed_block all e ≡ b
        → cut_if (is_commit e.kind) (with_effects 0 (effects_at all e.caller e.kind []) new)
        ≡ cut_if (is_commit e.kind)
        (with_effects (parts_behind all e.caller e.kind) (ended_effects_at all e.caller e.kind) old)
    by_end true ends = at_end (ends_alone h all e wf kept ends) ends
    by_end false none =
        let quiet = quiet_effects h all e kept none in
        let same = same_from earlier later [] (e ∷ []) (same_after h all e wf none) in
        (λ i. cut_if (is_commit e.kind)
        (with_effects (sym quiet.1 i) (quiet.0 i)
        (sym (same_parts before earlier later [] (e ∷ []) same.0) i)))
