-- In version 1 no commit stands inside a block, so the words of a well-formed log are those of
-- version 1's definition.
use Rattle.vyrd_base.proofs.Prelude
use Prelude.{◌≡◌, ℕ, Bool, true, false, ◌&&◌, ◌||◌, List, [], ◌∷◌, ◌++◌, None, refl, ap, subst, ◌∙◌}
use Prelude.{sym, ◌==◌, list_any, Header, Kind, Call, Return, Write, Commit, BlockOpen, BlockClose}
use Prelude.{BlockCommit, Entry, Place, has_block, has_inner_commit, checks_at, broken_rule}
use Prelude.{is_held_by_other, effects_at, effects, effects_of_others, words_with, words_at}
use Prelude.{old_broken_rule, ended_effects_at, ended_effects, WellFormed, is_same}
use Rattle.vyrd_base.specs.BlockEnds.{ended_words}
use Rattle.vyrd_base.proofs.BlockLaws.{entry, by_same}
use Rattle.vyrd_base.proofs.ShadowLaws.{all_kept}
use Rattle.vyrd_base.proofs.EffectLaws.{own_inner, other_inner}

-- a lone commit stands in no block
first_commit_kept : (h : Header) (c : ℕ) (earlier : List Entry) → h.version ≡ 1
    → broken_rule h earlier (entry c Commit) ≡ None
    → has_block c earlier ≡ false
first_commit_kept h c earlier first kept =
    cc (is_same h.version 1 first, (all_kept (checks_at h earlier (entry c Commit)) kept).1.1.1.1.0)

-- so no block has one in it
own_has_none : (h : Header) (c : ℕ) (kind : Kind) (earlier : List Entry) → h.version ≡ 1
    → broken_rule h earlier (entry c kind) ≡ None
    → has_inner_commit c earlier ≡ false → has_inner_commit c (entry c kind ∷ earlier) ≡ false
own_has_none h c (Call method args) earlier first kept none = own_inner c (Call method args) earlier
    ∙ none
own_has_none h c (Return reply) earlier first kept none = own_inner c (Return reply) earlier ∙ none
own_has_none h c (Write word value) earlier first kept none = own_inner c (Write word value) earlier
    ∙ none
own_has_none h c Commit earlier first kept none =
    own_inner c Commit earlier ∙ ap (λ b. b && true) (first_commit_kept h c earlier first kept)
own_has_none h c BlockOpen earlier first kept none = own_inner c BlockOpen earlier
own_has_none h c BlockClose earlier first kept none = own_inner c BlockClose earlier
own_has_none h c BlockCommit earlier first kept none = own_inner c BlockCommit earlier

pub no_inner_commit : (h : Header) (c : ℕ) (earlier : List Entry) → h.version ≡ 1
    → WellFormed h earlier → has_inner_commit c earlier ≡ false
no_inner_commit h c [] first wf = refl
no_inner_commit h c (e ∷ earlier) first wf = step (no_inner_commit h c earlier first wf.1)
  where
    step : has_inner_commit c earlier ≡ false → has_inner_commit c (e ∷ earlier) ≡ false
    step none = by_same e.caller c
        (λ same. subst (λ d. broken_rule h earlier (entry d e.kind) ≡ None
        → has_inner_commit c (entry d e.kind ∷ earlier) ≡ false) (sym same)
        (λ kept. own_has_none h c e.kind earlier first kept none) wf.0)
        (λ other. other_inner c e.caller e.kind earlier other ∙ none)

-- and each entry does what it did
first_effects_at : (h : Header) (c : ℕ) (kind : Kind) (earlier later : List Entry) → h.version ≡ 1
    → WellFormed h (entry c kind ∷ earlier)
    → effects_at earlier c kind later ≡ ended_effects_at earlier c kind
first_effects_at h c (Call method args) earlier later first wf = refl
first_effects_at h c (Return reply) earlier later first wf = refl
first_effects_at h c (Write word value) earlier later first wf = refl
first_effects_at h c Commit earlier later first wf = cc (first_commit_kept h c earlier first wf.0)
first_effects_at h c BlockOpen earlier later first wf = refl
first_effects_at h c BlockClose earlier later first wf = cc (no_inner_commit h c earlier first wf.1)
first_effects_at h c BlockCommit earlier later first wf =
    cc (no_inner_commit h c earlier first wf.1)

pub first_effects : (h : Header) (earlier later : List Entry) → h.version ≡ 1 → WellFormed h earlier
    → effects earlier later ≡ ended_effects earlier
first_effects h [] later first wf = refl
first_effects h (e ∷ earlier) later first wf =
    let here = first_effects_at h e.caller e.kind earlier later first wf in
    let before = first_effects h earlier (e ∷ later) first wf.1 in
    λ i. here i ++ before i

pub first_words_at : (h : Header) (place : Place Entry) → h.version ≡ 1
    → WellFormed h (place.here ∷ place.earlier)
    → words_at h [] place ≡ ended_words h (place.here ∷ place.earlier)
unfolding words_at ended_words
first_words_at h place first wf = ap (words_with h [])
    (first_effects h (place.here ∷ place.earlier) place.later first wf)

or_none : (a b : Bool) → b ≡ false → (a || b) ≡ a
or_none true b e = refl
or_none false b e = e

-- so are the rules
pub broken_rule-old : (h : Header) (earlier : List Entry) (e : Entry) → h.version ≡ 1
    → WellFormed h earlier
    → broken_rule h earlier e ≡ old_broken_rule h earlier e
broken_rule-old h earlier e one wf = by_kind e.kind
  where
    by_kind : (kind : Kind) → broken_rule h earlier (entry e.caller kind)
        ≡ old_broken_rule h earlier (entry e.caller kind)
    by_kind (Call method args) = refl
    by_kind (Return reply) = refl
    by_kind (Write word value) =
        let free = or_none (is_held_by_other h e.caller word earlier)
        (has_inner_commit e.caller earlier && list_any (λ write. write.0 == word)
        (effects_of_others e.caller earlier []))
        (cc (no_inner_commit h e.caller earlier one wf)) in
        cc
    by_kind Commit = cc
    by_kind BlockOpen = refl
    by_kind BlockClose = refl
    by_kind BlockCommit = refl
