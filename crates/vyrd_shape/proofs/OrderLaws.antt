-- The stamps of commits and words stand in the order of the log, entry by entry.
use Rattle.vyrd_shape.proofs.Prelude
use Prelude.{◌≡◌, ℕ, suc, zero, ◌+◌, ◌<◌, ◌≤◌, max, Bool, true, false, cond, ◌&&◌, ◌||◌, List, []}
use Prelude.{◌∷◌, length, None, refl, ap, ◌∙◌, sym, subst, arith, get_or, set, get_or-set_other}
use Prelude.{get_or-set_same, ◌==◌, nat_lt, replicate, Header, Kind, Call, Return, Write, Commit}
use Prelude.{BlockOpen, BlockClose, BlockCommit, Entry, has_block, has_inner_commit, holds_word}
use Prelude.{plain_words, broken_rule, is_lone_commit, WellFormed, entry, by_same, own_inner}
use Prelude.{other_inner, never, zeros, apart_of, flipped, is_below, isnt_below, AreGiven}
use Prelude.{AreOrdered, AreRaised, CommitStamps, SameOrder, effect_stamp, last_commit, last_effect}
use Prelude.{rank, takes_effect}
use Rattle.std.proofs.lemmas.List.Sums.{sum_by-cons, count_by-le-length}
use Rattle.std.proofs.Math.Bool.{and-false}
use Rattle.vyrd_base.proofs.TestLaws.{below_of, not_below_of}
use Rattle.vyrd_shape.specs.Stamps.{AreRanked, IsAdded}
use Rattle.vyrd_shape.proofs.StampLaws.{raised_if}
use Rattle.vyrd_shape.proofs.EffectStamps.{commit_here, commit_none, commit_other, effect_place}
use Rattle.vyrd_shape.proofs.EffectStamps.{last_commit_low, last_effect_low, stamp_next}

-- what comes before the later of two comes before one of them
lt_max : (k a b : ℕ) → nat_lt k (max a b) ≡ (nat_lt k a || nat_lt k b)
lt_max k a b = grind (arith, below_of, is_below, not_below_of, isnt_below)

-- stamps that are raised stay in the order of places that are raised
raised_alike : (b : Bool) (k k' s s' e e' : ℕ) → nat_lt k s ≡ nat_lt k' s' → nat_lt k e
    ≡ nat_lt k' e'
    → nat_lt k (raised_if b e s) ≡ nat_lt k' (raised_if b e' s')
raised_alike b k k' s s' e e' word now = grind (arith, lt_max)

raised_low : (b : Bool) (s e n : ℕ) → s ≤ n → e ≤ n → raised_if b e s ≤ n
raised_low b s e n low low' = search arith

-- An entry that is no lone commit inside a block gives nobody a commit in the open block.
record Still (d : ℕ) (e : Entry) (earlier : List Entry) : Type 0 where
  inner : has_inner_commit d earlier ≡ true
  place : last_commit d (e ∷ earlier) ≡ last_commit d earlier

abbrev IsStill : ℕ → Entry → List Entry → Type 0
IsStill d e earlier = has_inner_commit d (e ∷ earlier) ≡ true → Still d e earlier

still_other : (d c : ℕ) (kind : Kind) (earlier : List Entry) → (c == d) ≡ false
    → IsStill d (entry c kind) earlier
still_other d c kind earlier other = grind (arith, other_inner, commit_other)

still_own : (c : ℕ) (kind : Kind) (earlier : List Entry)
    → (has_block c earlier && is_lone_commit kind) ≡ false → IsStill c (entry c kind) earlier
still_own c kind earlier none = grind (arith, own_inner, commit_none, never)

still : (d c : ℕ) (kind : Kind) (earlier : List Entry)
    → (has_block c earlier && is_lone_commit kind) ≡ false → IsStill d (entry c kind) earlier
still d c kind earlier none = search (by_same, still_own, still_other, arith)

-- what comes before the effects of an entry
before_effect : (h : Header) (commits : CommitStamps) (words : List ℕ) (earlier : List Entry)
    (d c : ℕ)
    → d < h.callers → c < h.callers → has_inner_commit d earlier ≡ true
    → AreOrdered h commits words earlier
    → nat_lt (get_or commits.by_caller d 0) (effect_stamp commits (has_inner_commit c earlier) c)
    ≡ nat_lt (last_commit d earlier) (effect_place c earlier)
before_effect h commits words earlier d c low_d low_c inner ordered =
    grind (arith, last_commit, last_commit_low, is_below)

effect_low : (commits : CommitStamps) (inner : Bool) (c : ℕ)
    → AreGiven commits.by_caller commits.next
    → effect_stamp commits inner c ≤ commits.next
effect_low commits inner c given = search arith

-- the caller holds the words that its block has written
abbrev pub AreHeld : Header → List ℕ → ℕ → List Entry → Type 0
AreHeld h holders c earlier = (w : ℕ) → w < plain_words h
    → holds_word c w earlier ≡ takes_effect holders true c BlockClose w

-- an entry that is no lone commit inside a block
pub ordered_next : (h : Header) (commits : CommitStamps) (words words' holders : List ℕ) (c : ℕ)
    (kind : Kind) (earlier : List Entry) → c < h.callers → WellFormed h earlier
    → broken_rule h earlier (entry c kind) ≡ None → AreHeld h holders c earlier
    → AreRaised (takes_effect holders (has_block c earlier) c kind)
    (effect_stamp commits (has_inner_commit c earlier) c) words words'
    → (has_block c earlier && is_lone_commit kind) ≡ false
    → AreOrdered h commits words earlier → AreOrdered h commits words' (entry c kind ∷ earlier)
ordered_next h commits words words' holders c kind earlier low wf kept held raised none ordered =
    record {
      commits = λ d f low_d low_f inner_d inner_f.
          let by_d = still d c kind earlier none inner_d in
          let by_f = still f c kind earlier none inner_f in
          ordered.commits d f low_d low_f by_d.inner by_f.inner
          ∙ (λ i. nat_lt (sym by_d.place i) (sym by_f.place i));
      words = λ d w low_d low_w plain inner.
          let by_d = still d c kind earlier none inner in
          let low_w' : w < length words = omega (arith, raised.lengths) in
          let effect = takes_effect holders (has_block c earlier) c kind w in
          let stamp = effect_stamp commits (has_inner_commit c earlier) c in
          let k = get_or commits.by_caller d 0 in
          ap (nat_lt k) (raised.stamps w low_w')
          ∙ raised_alike effect k (last_commit d earlier) (get_or words w 0)
          (last_effect w earlier []) stamp (effect_place c earlier)
          (ordered.words d w low_d low_w' plain by_d.inner)
          (before_effect h commits words earlier d c low_d low by_d.inner ordered)
          ∙ (λ i. nat_lt (sym by_d.place i)
          (sym (stamp_next h holders w c kind earlier wf kept (held w plain)) i));
      given = ordered.given;
      past = λ w low_w.
          let low_w' : w < length words = omega (arith, raised.lengths) in
          let effect = takes_effect holders (has_block c earlier) c kind w in
          let stamp = effect_stamp commits (has_inner_commit c earlier) c in
          subst (λ n. n ≤ commits.next) (sym (raised.stamps w low_w'))
          (raised_low effect (get_or words w 0) stamp commits.next (ordered.past w low_w')
          (effect_low commits (has_inner_commit c earlier) c ordered.given));
    }

-- a lone commit inside a block
ordered_added : (h : Header) (old new : CommitStamps) (words words' words'' holders : List ℕ)
    (c stamp : ℕ) (earlier : List Entry) → c < length old.by_caller → length old.by_caller
    ≡ h.callers
    → WellFormed h earlier → broken_rule h earlier (entry c Commit) ≡ None
    → AreHeld h holders c earlier
    → AreRaised (takes_effect holders (has_block c earlier) c Commit) stamp words words'
    → IsAdded c old words' new words'' → AreOrdered h old words earlier
    → AreOrdered h new words'' (entry c Commit ∷ earlier)
ordered_added h old new words words' words'' holders c stamp earlier low all wf kept held raised
    added ordered = rw added.is (record {
      commits = λ d f low_d low_f inner_d inner_f. by_same c d
          (λ same_d. by_same c f (λ same_f. both d f same_d same_f)
          (λ other_f. first d f (omega (arith, all)) same_d other_f))
          (λ other_d. by_same c f (λ same_f. second d f (omega (arith, all)) other_d same_f)
          (λ other_f. neither d f low_d low_f other_d other_f inner_d inner_f));
      words = λ d w low_d low_w plain inner. by_same c d (λ same. own_word d w low_w plain same)
          (λ other. other_word d w low_d low_w plain other inner);
      given = λ d. by_same c d (λ same. rw (← same) (rw own (omega arith)))
          (λ other. let was = added.same.given d in
          rw (others d other) (omega arith));
      past = λ w low_w. let low_w' = past w low_w in
          omega arith;
    })
  where
    e : Entry
    e = entry c Commit

    before : CommitStamps
    before = added.before

    stamps : ℕ → ℕ
    stamps d = get_or (set before.by_caller c before.next) d 0

    own : stamps c ≡ before.next
    own = get_or-set_same before.by_caller c before.next 0 (omega (arith, added.same.callers))

    others : (d : ℕ) → (c == d) ≡ false → stamps d ≡ get_or before.by_caller d 0
    others d other = search (get_or-set_other, apart_of, flipped, arith)

    here : last_commit c (e ∷ earlier) ≡ length earlier + 1
    here = commit_here c e earlier refl refl

    there : (d : ℕ) → (c == d) ≡ false → last_commit d (e ∷ earlier) ≡ last_commit d earlier
    there d other = commit_other d e earlier other

    past : (w : ℕ) → w < length words'' → get_or words'' w 0 ≤ before.next
    past w low_w = search arith

    both : (d f : ℕ) → c ≡ d → c ≡ f
        → nat_lt (stamps d) (stamps f) ≡ nat_lt (last_commit d (e ∷ earlier))
        (last_commit f (e ∷ earlier))
    both d f same_d same_f = search (isnt_below, last_commit, arith)

    first : (d f : ℕ) → f < length old.by_caller → c ≡ d → (c == f) ≡ false
        → nat_lt (stamps d) (stamps f) ≡ nat_lt (last_commit d (e ∷ earlier))
        (last_commit f (e ∷ earlier))
    first d f low_f same other =
        let given = added.same.given f in
        let low_place = last_commit_low f earlier in
        ap (λ x. nat_lt (stamps x) (stamps f)) (sym same) ∙ (λ i. nat_lt (own i) (others f other i))
        ∙ isnt_below before.next (get_or before.by_caller f 0) (omega arith)
        ∙ sym (isnt_below (length earlier + 1) (last_commit f earlier) (omega arith))
        ∙ (λ i. nat_lt (sym here i) (sym (there f other) i))
        ∙ ap (λ x. nat_lt (last_commit x (e ∷ earlier)) (last_commit f (e ∷ earlier))) same

    second : (d f : ℕ) → d < length old.by_caller → (c == d) ≡ false → c ≡ f
        → nat_lt (stamps d) (stamps f) ≡ nat_lt (last_commit d (e ∷ earlier))
        (last_commit f (e ∷ earlier))
    second d f low_d other same =
        let given = added.same.given d in
        let low_place = last_commit_low d earlier in
        ap (λ x. nat_lt (stamps d) (stamps x)) (sym same) ∙ (λ i. nat_lt (others d other i) (own i))
        ∙ is_below (get_or before.by_caller d 0) before.next given
        ∙ sym (is_below (last_commit d earlier) (length earlier + 1) (omega arith))
        ∙ (λ i. nat_lt (sym (there d other) i) (sym here i))
        ∙ ap (λ x. nat_lt (last_commit d (e ∷ earlier)) (last_commit x (e ∷ earlier))) same

    neither : (d f : ℕ) → d < h.callers → f < h.callers → (c == d) ≡ false → (c == f) ≡ false
        → has_inner_commit d (e ∷ earlier) ≡ true → has_inner_commit f (e ∷ earlier) ≡ true
        → nat_lt (stamps d) (stamps f) ≡ nat_lt (last_commit d (e ∷ earlier))
        (last_commit f (e ∷ earlier))
    neither d f low_d low_f other_d other_f inner_d inner_f =
        (λ i. nat_lt (others d other_d i) (others f other_f i))
        ∙ added.same.commits d f (omega (arith, all)) (omega (arith, all))
        ∙ ordered.commits d f low_d low_f (sym (other_inner d c Commit earlier other_d) ∙ inner_d)
        (sym (other_inner f c Commit earlier other_f) ∙ inner_f)
        ∙ (λ i. nat_lt (sym (there d other_d) i) (sym (there f other_f) i))

    unmoved : (w : ℕ) → w < plain_words h → last_effect w (e ∷ earlier) [] ≡ last_effect w earlier
        []
    unmoved w plain = stamp_next h holders w c Commit earlier wf kept (held w plain)

    own_word : (d w : ℕ) → w < length words'' → w < plain_words h → c ≡ d
        → nat_lt (stamps d) (get_or words'' w 0)
        ≡ nat_lt (last_commit d (e ∷ earlier)) (last_effect w (e ∷ earlier) [])
    own_word d w low_w plain same =
        let low_w' = past w low_w in
        let low_place = last_effect_low w earlier [] in
        ap (λ x. nat_lt (stamps x) (get_or words'' w 0)) (sym same)
        ∙ ap (λ n. nat_lt n (get_or words'' w 0)) own
        ∙ isnt_below before.next (get_or words'' w 0) low_w'
        ∙ sym (isnt_below (length earlier + 1) (last_effect w earlier []) (omega arith))
        ∙ (λ i. nat_lt (sym here i) (sym (unmoved w plain) i))
        ∙ ap (λ x. nat_lt (last_commit x (e ∷ earlier)) (last_effect w (e ∷ earlier) [])) same

    other_word : (d w : ℕ) → d < h.callers → w < length words'' → w < plain_words h → (c == d)
        ≡ false
        → has_inner_commit d (e ∷ earlier) ≡ true
        → nat_lt (stamps d) (get_or words'' w 0)
        ≡ nat_lt (last_commit d (e ∷ earlier)) (last_effect w (e ∷ earlier) [])
    other_word d w low_d low_w plain other inner =
        let low_w' : w < length words' = omega (arith, added.same.lengths) in
        let low_w'' : w < length words = omega (arith, raised.lengths) in
        ap (λ n. nat_lt n (get_or words'' w 0)) (others d other)
        ∙ added.same.words d w (omega (arith, all)) low_w' ∙ ap (nat_lt (get_or old.by_caller d 0))
        (raised.stamps w low_w'') ∙ ordered.words d w low_d low_w'' plain
        (sym (other_inner d c Commit earlier other) ∙ inner)
        ∙ (λ i. nat_lt (sym (there d other) i) (sym (unmoved w plain) i))

-- the same, of an entry that is known to be one by a test
pub added_inside : (h : Header) (old new : CommitStamps) (words words' words'' holders : List ℕ)
    (c stamp : ℕ) (kind : Kind) (earlier : List Entry) → c < h.callers
    → length old.by_caller ≡ h.callers → (has_block c earlier && is_lone_commit kind) ≡ true
    → WellFormed h earlier → broken_rule h earlier (entry c kind) ≡ None
    → AreHeld h holders c earlier
    → AreRaised (takes_effect holders (has_block c earlier) c kind) stamp words words'
    → IsAdded c old words' new words'' → AreOrdered h old words earlier
    → AreOrdered h new words'' (entry c kind ∷ earlier)
added_inside h old new words words' words'' holders c stamp Commit earlier low all inner =
    ordered_added h old new words words' words'' holders c stamp earlier (omega (arith, all)) all
added_inside h old new words words' words'' holders c stamp (Call method args) earlier low all
    inner = search (never, arith)
added_inside h old new words words' words'' holders c stamp (Return reply) earlier low all inner =
    never (and-false (has_block c earlier)) inner
added_inside h old new words words' words'' holders c stamp (Write word value) earlier low all
    inner = search (never, arith)
added_inside h old new words words' words'' holders c stamp BlockOpen earlier low all inner =
    never (and-false (has_block c earlier)) inner
added_inside h old new words words' words'' holders c stamp BlockClose earlier low all inner =
    never (and-false (has_block c earlier)) inner
added_inside h old new words words' words'' holders c stamp BlockCommit earlier low all inner =
    never (and-false (has_block c earlier)) inner

-- nothing has been followed
pub ordered_none : (h : Header) (n m : ℕ)
    → AreOrdered h (record { by_caller = replicate n 0; next = 1 }) (replicate m 0) []
ordered_none h n m = search (never, zeros, arith)

-- how ranks go with what they stand for
abbrev counted : Bool → ℕ
counted b = cond b 1 0

one_more : (m a b : ℕ) → a ≤ b → counted (nat_lt m a) ≤ counted (nat_lt m b)
one_more m a b low = search (below_of, is_below, arith)

rank_cons : (m : ℕ) (ms : List ℕ) (x : ℕ) → rank (m ∷ ms) x ≡ counted (nat_lt m x) + rank ms x
rank_cons m ms x = sum_by-cons (λ commit. cond (nat_lt commit x) 1 0) m ms

rank_more : (commits : List ℕ) (a b : ℕ) → a ≤ b → rank commits a ≤ rank commits b
rank_more [] a b low = omega arith
rank_more (m ∷ ms) a b low =
    let here = one_more m a b low in
    let rest = rank_more ms a b low in
    omega (arith, rank_cons m ms a, rank_cons m ms b)

rank_first : (m : ℕ) (ms : List ℕ) (x : ℕ) → m < x → rank (m ∷ ms) m < rank (m ∷ ms) x
rank_first m ms x less =
    let rest = rank_more ms m x (omega arith) in
    let mine : counted (nat_lt m m) ≡ 0 = ap counted (isnt_below m m (omega arith)) in
    let yours : counted (nat_lt m x) ≡ 1 = ap counted (is_below m x less) in
    omega (arith, rank_cons m ms m, rank_cons m ms x)

rank_rest : (m : ℕ) (ms : List ℕ) (k x : ℕ) → k < x → rank ms k < rank ms x
    → rank (m ∷ ms) k < rank (m ∷ ms) x
rank_rest m ms k x less rest = grind (arith, rank_cons m ms k, rank_cons m ms x)

rank_less : (commits : List ℕ) (c x : ℕ) → c < length commits → get_or commits c 0 < x
    → rank commits (get_or commits c 0) < rank commits x
rank_less [] c x low less = absurd (omega arith)
rank_less (m ∷ ms) zero x low less = rank_first m ms x less
rank_less (m ∷ ms) (suc c) x low less =
    rank_rest m ms (get_or ms c 0) x less (rank_less ms c x (omega arith) less)

rank_order : (commits : List ℕ) (c x : ℕ) → c < length commits
    → nat_lt (rank commits (get_or commits c 0)) (rank commits x) ≡ nat_lt (get_or commits c 0) x
rank_order commits c x low = by_order (nat_lt (get_or commits c 0) x) refl
  where
    by_order : (b : Bool) → nat_lt (get_or commits c 0) x ≡ b
        → nat_lt (rank commits (get_or commits c 0)) (rank commits x)
        ≡ nat_lt (get_or commits c 0) x
    by_order true e = search (is_below, rank_less, below_of, arith)
    by_order false e = search (isnt_below, rank_more, not_below_of, arith)

rank_low : (commits : List ℕ) (x : ℕ) → rank commits x ≤ length commits
rank_low commits x = count_by-le-length (λ commit. nat_lt commit x) commits

-- a stamp that isn't there is 0
past_end : (l : List ℕ) (i : ℕ) → length l ≤ i → get_or l i 0 ≡ 0
past_end [] i past = refl
past_end (x ∷ xs) zero past = absurd (omega arith)
past_end (x ∷ xs) (suc i) past = past_end xs i (omega arith)

-- all ranks are given once the next stamp is the number of commits and 1
ranks_given : (at at' : List ℕ) → AreRanked at at at' → AreGiven at' (length at + 1)
ranks_given at at' ranked c = by_length (nat_lt c _) refl
  where
    by_length : (b : Bool) → nat_lt c (length at) ≡ b → get_or at' c 0 < length at + 1
    by_length true e = search (rank_low, below_of, arith)
    by_length false e = search (not_below_of, past_end, arith)

pub ranked_order : (old new : CommitStamps) (stamps stamps' : List ℕ)
    → AreRanked old.by_caller old.by_caller new.by_caller → new.next ≡ length old.by_caller + 1
    → AreRanked old.by_caller stamps stamps' → SameOrder old stamps new stamps'
ranked_order old new stamps stamps' commits next words = record {
  callers = commits.lengths;
  lengths = words.lengths;
  commits = λ c d low_c low_d. (λ i. nat_lt (commits.ranks c low_c i) (commits.ranks d low_d i))
      ∙ rank_order old.by_caller c (get_or old.by_caller d 0) low_c;
  words = λ c w low_c low_w. (λ i. nat_lt (commits.ranks c low_c i) (words.ranks w low_w i))
      ∙ rank_order old.by_caller c (get_or stamps w 0) low_c;
  given = subst (AreGiven new.by_caller) (sym next)
      (ranks_given old.by_caller new.by_caller commits);
  past = λ was w low_w.
      let low = rank_low old.by_caller (get_or stamps w 0) in
      omega (arith, words.ranks w low_w, next);
}

pub kept_order : (old : CommitStamps) (stamps : List ℕ) → AreGiven old.by_caller old.next
    → SameOrder old stamps old stamps
kept_order old stamps given = grind arith
