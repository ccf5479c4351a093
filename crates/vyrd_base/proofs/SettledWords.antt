-- In a well-formed log a block's writes may as well take effect at its end, once it has ended: no
-- other caller's write has taken effect since the commit in it on a word of the block. So the
-- words after all entries are those by block ends.
use Rattle.vyrd_base.proofs.Prelude
use Prelude.{◌≡◌, ℕ, suc, zero, ◌+◌, ◌<◌, Bool, true, false, cond, ◌&&◌, ◌||◌, List, [], ◌∷◌, ◌++◌}
use Prelude.{map, Option, Some, None, refl, ap, subst, ◌∙◌, sym, ◌==◌, is_some, unwrap_or}
use Prelude.{option_or, list_any, Header, Kind, Call, Return, Write, Commit, BlockOpen, BlockClose}
use Prelude.{BlockCommit, Entry, StartWord, first_answer, numbers_from, numbers_below, by_caller}
use Prelude.{open_or_close, has_block, has_inner_commit, write_or_open, holds_word, plain_words}
use Prelude.{checks_at, broken_rule, is_held_by_other, block_writes, given_to, effects_at, effects}
use Prelude.{words_after, is_lone_commit, effects_of_others, is_passed, ended_effects_at}
use Prelude.{ended_effects, WellFormed, same_number, flipped, first_true, second_true}
use Rattle.vyrd_base.specs.Words.{value_at_start}
use Rattle.vyrd_base.proofs.PlaceLaws.{first_answer-append}
use Rattle.vyrd_base.proofs.BlockLaws.{entry, by_same, own_answer, other_answer, wrote, wrote_is}
use Rattle.vyrd_base.proofs.ShadowLaws.{all_kept, write_kept, close_kept, block_commit_kept}
use Rattle.vyrd_base.proofs.ShadowLaws.{caller_kept, holds_other, other_write, own_edge}
use Rattle.vyrd_base.proofs.ShadowLaws.{or_false_right}
use Rattle.vyrd_base.proofs.EffectLaws.{ends_block, same_effects, same_effects_of_others}
use Rattle.vyrd_base.proofs.EffectLaws.{same_after, same_without_end, ends_committed_block}
use Rattle.vyrd_base.proofs.EffectLaws.{more_after, more_effects, none_of_both, none_of_others}
use Rattle.vyrd_base.proofs.EffectLaws.{never, has_block_of, other_inner, own_inner}

-- a caller with an open block is a caller of the log
pub block_is_a_callers : (h : Header) (c : ℕ) (earlier : List Entry) → WellFormed h earlier
    → has_block c earlier ≡ true → c < h.callers
block_is_a_callers h c [] wf = λ inside. never refl inside
block_is_a_callers h c (e ∷ earlier) wf = step (block_is_a_callers h c earlier wf.1)
  where
    step : (has_block c earlier ≡ true → c < h.callers) → has_block c (e ∷ earlier) ≡ true
        → c < h.callers
    step before inside = by_same _ c (λ same. rw (← same) (caller_kept h earlier e wf.0))
        (λ other. before (sym (cc (other_answer c e.caller open_or_close e.kind earlier other))
        ∙ inside))

-- what a caller holds after its own entry
pub own_holds : (c w : ℕ) (kind : Kind) (earlier : List Entry)
    → holds_word c w (entry c kind ∷ earlier)
    ≡ (unwrap_or (option_or (open_or_close kind) (first_answer (by_caller c open_or_close) earlier))
    false
    && unwrap_or
    (option_or (write_or_open w kind) (first_answer (by_caller c (write_or_open w)) earlier)) false)
own_holds c w kind earlier = simp (own_answer)

-- a word is held by one caller at most
abbrev pub OneHolds : ℕ → List Entry → Type 0
OneHolds w earlier = (c d : ℕ) → holds_word c w earlier ≡ true → holds_word d w earlier ≡ true
    → c ≡ d

-- only a write of the word makes a caller hold it
abbrev HeldBefore : ℕ → ℕ → Kind → List Entry → Type 0
HeldBefore w a kind earlier = (c : ℕ) → holds_word c w (entry a kind ∷ earlier) ≡ true
    → holds_word c w earlier ≡ true

held_by_own : (w a : ℕ) (kind : Kind) (earlier : List Entry)
    → (holds_word a w (entry a kind ∷ earlier) ≡ true → holds_word a w earlier ≡ true)
    → HeldBefore w a kind earlier
held_by_own w a kind earlier own c holding = by_same a c
    (λ same. subst (λ x. holds_word x w (entry a kind ∷ earlier) ≡ true → holds_word x w earlier
    ≡ true) same own holding) (λ other. sym (holds_other c a w _ _ other) ∙ holding)

one_by_before : (w a : ℕ) (kind : Kind) (earlier : List Entry) → HeldBefore w a kind earlier
    → OneHolds w earlier
    → OneHolds w (entry a kind ∷ earlier)
one_by_before w a kind earlier held one c d holds_c holds_d = one c d (held c holds_c)
    (held d holds_d)

one_by_write : (h : Header) (w a value : ℕ) (earlier : List Entry) → WellFormed h earlier
    → broken_rule h earlier (entry a (Write w value)) ≡ None
    → OneHolds w (entry a (Write w value) ∷ earlier)
one_by_write h w a value earlier wf kept c d holds_c holds_d = writer c holds_c
    ∙ sym (writer d holds_d)
  where
    writer : (b : ℕ) → holds_word b w (entry a (Write w value) ∷ earlier) ≡ true → b ≡ a
    writer b holding = by_same a b (λ same. sym same) (λ other.
        let before : holds_word b w earlier
        ≡ true = sym (holds_other b a w (Write w value) earlier other) ∙ holding in
        never ((write_kept h a w value earlier kept).free b
        (block_is_a_callers h b earlier wf
        (first_true (has_block b earlier) (wrote b w earlier) before)) (flipped a b other)) before)

one_step : (h : Header) (w a : ℕ) (kind : Kind) (earlier : List Entry) → WellFormed h earlier
    → broken_rule h earlier (entry a kind) ≡ None
    → OneHolds w earlier → OneHolds w (entry a kind ∷ earlier)
one_step h w a (Call method args) earlier wf kept one = one_by_before w a (Call method args) earlier
    (held_by_own w a (Call method args) _ (λ holding. sym (own_holds a w (Call method args) earlier)
    ∙ holding)) one
one_step h w a (Return reply) earlier wf kept one = one_by_before w a (Return reply) earlier
    (held_by_own w a (Return reply) _ (λ holding. sym (own_holds a w (Return reply) earlier)
    ∙ holding)) one
one_step h w a Commit earlier wf kept one = one_by_before w a Commit earlier
    (held_by_own w a Commit _ (λ holding. sym (own_holds a w Commit earlier) ∙ holding)) one
one_step h w a BlockOpen earlier wf kept one = one_by_before w a BlockOpen earlier
    (held_by_own w a BlockOpen _ (never (own_edge a w BlockOpen earlier true refl (λ _. refl)))) one
one_step h w a BlockClose earlier wf kept one = one_by_before w a BlockClose earlier
    (held_by_own w a BlockClose _
    (never (own_edge a w BlockClose earlier false refl (λ e. never refl e)))) one
one_step h w a BlockCommit earlier wf kept one = one_by_before w a BlockCommit earlier
    (held_by_own w a BlockCommit _
    (never (own_edge a w BlockCommit earlier false refl (λ e. never refl e)))) one
one_step h w a (Write word value) earlier wf kept one = by_same word w
    (λ same. subst (λ x. broken_rule h earlier (entry a (Write x value)) ≡ None
    → OneHolds w (entry a (Write x value) ∷ earlier)) (sym same)
    (λ kept'. one_by_write h w a value earlier wf kept') kept)
    (λ other. one_by_before w a (Write _ value) earlier
    (λ c holding. sym (other_write c a w _ value _ other) ∙ holding) one)

pub one_holds : (h : Header) (w : ℕ) (earlier : List Entry) → WellFormed h earlier
    → OneHolds w earlier
one_holds h w [] wf = λ c d holds_c holds_d. never refl holds_c
one_holds h w (e ∷ earlier) wf = one_step h w _ _ _ wf.1 wf.0 (one_holds h w earlier wf.1)

-- whether a write is to the word
abbrev pub is_to : ℕ → ℕ × ℕ → Bool
is_to w write = write.0 == w

-- a word has a value among writes where one of them is to it
pub some_to : (w : ℕ) (writes : List (ℕ × ℕ)) → is_some (first_answer (given_to w) writes)
    ≡ list_any (is_to w) writes
some_to w [] = refl
some_to w ((q, v) ∷ writes) = by_word (q == w) (some_to w writes)
  where
    by_word : (b : Bool) → is_some (first_answer (given_to w) writes) ≡ list_any (is_to w) writes
        → is_some (option_or (cond b (Some v) None) (first_answer (given_to w) writes))
        ≡ (b || list_any (is_to w) writes)
    by_word true before = refl
    by_word false before = before

pub none_to : (w : ℕ) (writes : List (ℕ × ℕ)) → list_any (is_to w) writes ≡ false
    → first_answer (given_to w) writes ≡ None
none_to w writes none = of_none (first_answer (given_to w) writes) (some_to w writes ∙ none)
  where
    of_none : (o : Option ℕ) → is_some o ≡ false → o ≡ None
    of_none None e = refl
    of_none (Some v) e = cc

-- in an open block the words held are those written
pub holds_is : (c w : ℕ) (earlier : List Entry) → has_block c earlier ≡ true
    → holds_word c w earlier ≡ list_any (is_to w) (block_writes c earlier)
holds_is c w earlier inside = cc (wrote_is c w earlier inside, some_to w (block_writes c earlier))

-- A word that the caller's open block has written isn't among those to which other callers' writes
-- took effect since the commit
-- in it.
abbrev pub HeldIsntPassed : ℕ → ℕ → List Entry → Type 0
HeldIsntPassed c w earlier = has_inner_commit c earlier ≡ true → holds_word c w earlier ≡ true
    → list_any (is_to w) (effects_of_others c earlier []) ≡ false

-- after the caller's own entry
quiet_isnt_passed : (c w : ℕ) (kind : Kind) (earlier : List Entry) → ends_block kind ≡ false
    → is_lone_commit kind ≡ false
    → list_any (is_to w) (effects_of_others c earlier []) ≡ false
    → list_any (is_to w) (effects_of_others c (entry c kind ∷ earlier) []) ≡ false
quiet_isnt_passed c w kind earlier goes_on alone none =
    cc (
      same_number c,
      same_effects_of_others c earlier [] (entry c kind ∷ []) (same_without_end
          earlier c kind [] goes_on),
    )

not_passed : (h : Header) (c word value : ℕ) (earlier : List Entry)
    → broken_rule h earlier (entry c (Write word value)) ≡ None
    → has_inner_commit c earlier ≡ true → list_any (is_to word) (effects_of_others c earlier [])
    ≡ false
not_passed h c word value earlier kept inner =
    cc (or_false_right (is_held_by_other h c word earlier) (is_passed c word earlier) (all_kept
    (checks_at h earlier (entry c (Write word value))) kept).1.1.1.1.0)

own_isnt_passed : (h : Header) (c w : ℕ) (kind : Kind) (earlier : List Entry)
    → broken_rule h earlier (entry c kind) ≡ None
    → HeldIsntPassed c w earlier → HeldIsntPassed c w (entry c kind ∷ earlier)
own_isnt_passed h c w (Call method args) earlier kept before = λ inner holding. quiet_isnt_passed c
    w (Call _ _) earlier refl refl (before (sym (own_inner c (Call method args) earlier) ∙ inner)
    (sym (own_holds c w (Call method args) earlier) ∙ holding))
own_isnt_passed h c w (Return reply) earlier kept before = λ inner holding. quiet_isnt_passed c w
    (Return _) earlier refl refl
    (before (sym (own_inner c (Return reply) earlier) ∙ inner)
    (sym (own_holds c w (Return reply) earlier) ∙ holding))
own_isnt_passed h c w (Write word value) earlier kept before = λ inner holding.
    let inner' : has_inner_commit c earlier ≡ true = sym (own_inner c (Write word value) earlier)
    ∙ inner in
    quiet_isnt_passed c w (Write _ _) earlier refl refl
    (by_same word w (λ same. rw (← same) (not_passed h c word value earlier kept inner'))
    (λ other. before inner' (sym (other_write c c w _ value _ other) ∙ holding)))
own_isnt_passed h c w Commit earlier kept before = λ inner holding. cc (same_number c)
own_isnt_passed h c w BlockOpen earlier kept before = λ inner holding. never
    (own_inner c BlockOpen earlier) inner
own_isnt_passed h c w BlockClose earlier kept before = λ inner holding. never
    (own_inner c BlockClose earlier) inner
own_isnt_passed h c w BlockCommit earlier kept before = λ inner holding. never
    (own_inner c BlockCommit earlier) inner

-- after another caller's: what takes effect there is to words that the caller doesn't hold
block_has_none : (h : Header) (c d w : ℕ) (earlier : List Entry) → WellFormed h earlier → (d == c)
    ≡ false → holds_word c w earlier ≡ true
    → has_block d earlier ≡ true → list_any (is_to w) (block_writes d earlier) ≡ false
block_has_none h c d w earlier wf other holding inside = by_held (holds_word d w _) refl
  where
    by_held : (b : Bool) → holds_word d w earlier ≡ b → list_any (is_to w) (block_writes d earlier)
        ≡ false
    by_held true e = never other (sym (cc (one_holds h w earlier wf d c e holding)) ∙ same_number d)
    by_held false e = sym (holds_is d w _ inside) ∙ e

here_has_none : (h : Header) (c d w : ℕ) (kind : Kind) (earlier : List Entry) → WellFormed h earlier
    → broken_rule h earlier (entry d kind) ≡ None → (d == c) ≡ false → holds_word c w earlier ≡ true
    → list_any (is_to w) (effects_at earlier d kind []) ≡ false
here_has_none h c d w (Call method args) earlier wf kept other holding = refl
here_has_none h c d w (Return reply) earlier wf kept other holding = refl
here_has_none h c d w BlockOpen earlier wf kept other holding = refl
here_has_none h c d w Commit earlier wf kept other holding = by_block (has_block d earlier)
  where
    by_block : (b : Bool) → list_any (is_to w) (cond b [] []) ≡ false
    by_block true = refl
    by_block false = refl
here_has_none h c d w (Write word value) earlier wf kept other holding = by_block
    (has_block d earlier)
  where
    low : c < h.callers
    low = block_is_a_callers h c earlier wf
        (first_true (has_block c earlier) (wrote c w earlier) holding)

    another_word : (word == w) ≡ false
    another_word = by_same word w
        (λ same. never ((write_kept h d word value earlier kept).free c low (flipped d c other))
        (rw same holding)) (λ apart. apart)

    by_block : (b : Bool) → list_any (is_to w) (cond b [] ((word, value) ∷ [])) ≡ false
    by_block true = refl
    by_block false = λ i. another_word i || false
here_has_none h c d w BlockClose earlier wf kept other holding = by_inner
    (has_inner_commit d earlier)
  where
    by_inner : (b : Bool) → list_any (is_to w) (cond b [] (block_writes d earlier)) ≡ false
    by_inner true = refl
    by_inner false = block_has_none h c d w earlier wf other holding (close_kept h d earlier kept)
here_has_none h c d w BlockCommit earlier wf kept other holding = by_inner
    (has_inner_commit d earlier)
  where
    by_inner : (b : Bool) → list_any (is_to w) (cond b [] (block_writes d earlier)) ≡ false
    by_inner true = refl
    by_inner false = block_has_none h c d w earlier wf other holding
        (block_commit_kept h d earlier kept)

before_has_none : (h : Header) (c w : ℕ) (earlier : List Entry) (e : Entry) → WellFormed h earlier
    → (e.caller == c) ≡ false
    → holds_word c w earlier ≡ true → list_any (is_to w) (effects_of_others c earlier []) ≡ false
    → list_any (is_to w) (effects_of_others c earlier (e ∷ [])) ≡ false
before_has_none h c w earlier e wf other holding none = by_end (ends_committed_block earlier e) refl
  where
    by_end : (b : Bool) → ends_committed_block earlier e ≡ b
        → list_any (is_to w) (effects_of_others c earlier (e ∷ [])) ≡ false
    by_end true ends = none_of_others (is_to w) c e.caller (block_writes e.caller earlier) earlier
        [] (e ∷ []) other (more_after h earlier e wf ends)
        (block_has_none h c e.caller w earlier wf other holding
        (has_block_of e.caller earlier
        (second_true (ends_block e.kind) (has_inner_commit e.caller earlier) ends))) none
    by_end false ends =
        cc (same_effects_of_others c earlier [] (e ∷ []) (same_after h earlier e wf ends))

other_isnt_passed : (h : Header) (c d w : ℕ) (kind : Kind) (earlier : List Entry)
    → WellFormed h earlier
    → broken_rule h earlier (entry d kind) ≡ None → (d == c) ≡ false
    → HeldIsntPassed c w earlier → HeldIsntPassed c w (entry d kind ∷ earlier)
other_isnt_passed h c d w kind earlier wf kept other before = λ inner holding.
    let holding' : holds_word c w earlier ≡ true = sym (holds_other c d w kind earlier other)
    ∙ holding in
    let e : Entry = entry d kind in
    cc (none_of_both (is_to w) (effects_at earlier d kind []) (effects_of_others c earlier (e ∷ []))
    (here_has_none h c d w kind earlier wf kept other holding') (before_has_none h c w earlier e
    wf other holding' (before (sym (other_inner c d kind earlier other) ∙ inner) holding')))

pub held_isnt_passed : (h : Header) (c w : ℕ) (earlier : List Entry) → WellFormed h earlier
    → HeldIsntPassed c w earlier
held_isnt_passed h c w [] wf = λ inner holding. never refl inner
held_isnt_passed h c w (e ∷ earlier) wf = step (held_isnt_passed h c w earlier wf.1)
  where
    step : HeldIsntPassed c w earlier → HeldIsntPassed c w (e ∷ earlier)
    step before = by_same e.caller c
        (λ same. subst (λ d. broken_rule h earlier (entry d e.kind) ≡ None
        → HeldIsntPassed c w (entry d e.kind ∷ earlier)) (sym same)
        (λ kept. own_isnt_passed h c w e.kind earlier kept before) wf.0)
        (λ other. other_isnt_passed h c e.caller w e.kind earlier wf.1 wf.0 other before)

-- the last effect on a word is the same, where a block's writes take effect at its end
abbrev pub IsSettled : ℕ → List Entry → Type 0
IsSettled w earlier = first_answer (given_to w) (effects earlier []) ≡ first_answer (given_to w)
    (ended_effects earlier)

-- an entry that does at once what it did in version 1, and leaves the effects before it alone
settled_alone : (w : ℕ) (earlier : List Entry) (e : Entry) → effects_at earlier e.caller e.kind []
    ≡ ended_effects_at earlier e.caller e.kind
    → effects earlier (e ∷ []) ≡ effects earlier [] → IsSettled w earlier
    → IsSettled w (e ∷ earlier)
settled_alone w earlier e here same before =
    (λ i. first_answer (given_to w) (here i ++ same i))
    ∙ first_answer-append (given_to w) (ended_effects_at earlier e.caller e.kind)
    (effects earlier [])
    ∙ ap (option_or (first_answer (given_to w) (ended_effects_at earlier e.caller e.kind))) before
    ∙ sym (first_answer-append (given_to w) (ended_effects_at earlier e.caller e.kind)
    (ended_effects earlier))

end_alone : (b : Bool) (writes : List (ℕ × ℕ)) → b ≡ false → cond b [] writes ≡ writes
end_alone true writes e = never e refl
end_alone false writes e = refl

both_alike : (b : Bool) (writes : List (ℕ × ℕ)) → cond b writes writes ≡ writes
both_alike true writes = refl
both_alike false writes = refl

pub same_here : (earlier : List Entry) (c : ℕ) (kind : Kind)
    → (ends_block kind && has_inner_commit c earlier) ≡ false
    → effects_at earlier c kind [] ≡ ended_effects_at earlier c kind
same_here earlier c (Call method args) none = refl
same_here earlier c (Return reply) none = refl
same_here earlier c (Write word value) none = refl
same_here earlier c Commit none = both_alike (has_block c earlier) []
same_here earlier c BlockOpen none = refl
same_here earlier c BlockClose none = simp (end_alone)
same_here earlier c BlockCommit none = simp (end_alone)

-- an end of a block whose writes took effect at the commit in it
none_here : (earlier : List Entry) (c : ℕ) (kind : Kind)
    → (ends_block kind && has_inner_commit c earlier) ≡ true
    → (effects_at earlier c kind [] ≡ [])
    × (ended_effects_at earlier c kind ≡ block_writes c earlier)
none_here earlier c (Call method args) ends = never refl ends
none_here earlier c (Return reply) ends = never refl ends
none_here earlier c (Write word value) ends = never refl ends
none_here earlier c Commit ends = never refl ends
none_here earlier c BlockOpen ends = never refl ends
none_here earlier c BlockClose ends = (ap (λ b. cond b [] (block_writes c earlier)) ends, refl)
none_here earlier c BlockCommit ends = (ap (λ b. cond b [] (block_writes c earlier)) ends, refl)

-- the one that answers may as well come first
either_first : (a b rest : Option ℕ) → (is_some b ≡ true → a ≡ None)
    → option_or a (option_or b rest) ≡ option_or b (option_or a rest)
either_first a None rest apart = refl
either_first a (Some v) rest apart = ap (λ o. option_or o (Some v)) (apart refl)

settled_committed : (h : Header) (w : ℕ) (earlier : List Entry) (e : Entry) → WellFormed h earlier
    → ends_committed_block earlier e ≡ true
    → IsSettled w earlier → IsSettled w (e ∷ earlier)
settled_committed h w earlier e wf ends before =
    let c : ℕ = e.caller in
    let writes : List (ℕ × ℕ) = block_writes c earlier in
    let others : List (ℕ × ℕ) = effects_of_others c earlier [] in
    let here = none_here earlier c e.kind ends in
    let so = more_effects c writes earlier [] (e ∷ []) (more_after h earlier e wf ends) in
    let inner : has_inner_commit c earlier ≡ true = second_true (ends_block e.kind)
    (has_inner_commit c earlier) ends in
    let apart : is_some (first_answer (given_to w) writes) ≡ true → first_answer (given_to w) others
    ≡ None =
    λ given. none_to w others (held_isnt_passed h c w earlier wf inner
    (holds_is c w earlier (has_block_of c earlier inner) ∙ sym (some_to w writes) ∙ given)) in
    let now : first_answer (given_to w) (effects (e ∷ earlier) [])
    ≡ option_or (first_answer (given_to w) others)
    (option_or (first_answer (given_to w) writes) (first_answer (given_to w) so.rest)) =
    (λ i. first_answer (given_to w) (here.0 i ++ so.more i))
    ∙ first_answer-append (given_to w) others (writes ++ so.rest)
    ∙ ap (option_or (first_answer (given_to w) others))
    (first_answer-append (given_to w) writes so.rest) in
    let rest : option_or (first_answer (given_to w) others) (first_answer (given_to w) so.rest)
    ≡ first_answer (given_to w) (ended_effects earlier) =
    sym (first_answer-append (given_to w) others so.rest) ∙ ap (first_answer (given_to w))
    (sym so.fewer) ∙ before in
    now ∙ either_first (first_answer (given_to w) others) (first_answer (given_to w) writes)
    (first_answer (given_to w) so.rest) apart
    ∙ ap (option_or (first_answer (given_to w) writes)) rest
    ∙ sym (first_answer-append (given_to w) writes (ended_effects earlier))
    ∙ ap (λ ws. first_answer (given_to w) (ws ++ ended_effects earlier)) (sym here.1)

pub settled : (h : Header) (w : ℕ) (earlier : List Entry) → WellFormed h earlier
    → IsSettled w earlier
settled h w [] wf = refl
settled h w (e ∷ earlier) wf = step (ends_committed_block earlier e) refl (settled h w earlier wf.1)
  where
    step : (b : Bool) → ends_committed_block earlier e ≡ b → IsSettled w earlier
        → IsSettled w (e ∷ earlier)
    step true ends before = settled_committed h w earlier e wf.1 ends before
    step false ends before = settled_alone w earlier e (same_here earlier e.caller e.kind ends)
        (sym (same_effects earlier [] (e ∷ []) (same_after h earlier e wf.1 ends))) before

-- a word's value, where each block's writes take effect at its end
abbrev pub settled_value : List StartWord → List Entry → ℕ → ℕ
settled_value starting earlier w = unwrap_or (first_answer (given_to w) (ended_effects earlier))
    (value_at_start starting w)

map_same : (f g : ℕ → ℕ) (k n : ℕ) → ((q : ℕ) → f q ≡ g q) → map f (numbers_from k n)
    ≡ map g (numbers_from k n)
map_same f g k zero same = refl
map_same f g k (suc n) same = let rest = map_same f g (k + 1) n same in λ i. same k i ∷ rest i

abbrev pub settled_words : Header → List StartWord → List Entry → List ℕ
settled_words h starting earlier = map (settled_value starting earlier)
    (numbers_below (plain_words h))

-- So are the words after all entries.
pub words_settled : (h : Header) (starting : List StartWord) (earlier : List Entry)
    → WellFormed h earlier
    → words_after h starting earlier ≡ settled_words h starting earlier
unfolding words_after
words_settled h starting earlier wf = map_same _ _ 0 _ (λ w. cc (settled h w earlier wf))
