-- What the effects of the entries owe to one more entry after them: nothing, but where it ends a
-- block with a lone commit in it. Then the writes of that block take effect at that commit, and all
-- else stays.
use Rattle.vyrd_base.proofs.Prelude
use Prelude.{◌≡◌, ℕ, Bool, true, false, cond, ◌&&◌, ◌||◌, List, [], ◌∷◌, ◌++◌, Option, Some, None}
use Prelude.{refl, ap, subst, ◌∙◌, sym, append_assoc, ◌==◌, unwrap_or, option_or, option_map_or}
use Prelude.{list_any, Header, Kind, Call, Return, Write, Commit, BlockOpen, BlockClose}
use Prelude.{BlockCommit, Entry, first_answer, by_caller, open_or_close, has_block}
use Prelude.{has_inner_commit, commit_or_call, has_committed, checks_at, broken_rule, block_writes}
use Prelude.{ahead_at, writes_ahead, effects_at, effects, is_lone_commit, effects_of_others}
use Prelude.{WellFormed, same_number, is_same, flipped, first_true, second_true, neither_true}
use Rattle.std.proofs.lemmas.List.Folds.{list_any-append}
use Rattle.vyrd_base.specs.Callers.{commit_or_open}
use Rattle.vyrd_base.proofs.BlockLaws.{entry, by_same, own_answer, other_answer, own_writes}
use Rattle.vyrd_base.proofs.BlockLaws.{other_writes}
use Rattle.vyrd_base.proofs.ShadowLaws.{all_kept, open_kept, block_in_call}

-- whether an entry of this kind ends a block
abbrev pub ends_block : Kind → Bool
ends_block BlockClose = true
ends_block BlockCommit = true
ends_block _ = false

-- Each entry has the same effects, with these entries after them or with those.
abbrev pub SameEffects : List Entry → List Entry → List Entry → Type 0
SameEffects [] later later' = Unit {0}
SameEffects (e ∷ earlier) later later' =
    (effects_at earlier e.caller e.kind later ≡ effects_at earlier e.caller e.kind later')
    × SameEffects earlier (e ∷ later) (e ∷ later')

-- so have all of them together, and those of other callers
pub same_effects : (earlier later later' : List Entry) → SameEffects earlier later later'
    → effects earlier later ≡ effects earlier later'
same_effects [] later later' same = refl
same_effects (e ∷ earlier) later later' same =
    let before = same_effects earlier (e ∷ later) (e ∷ later') same.1 in
    λ i. same.0 i ++ before i

pub same_effects_of_others : (c : ℕ) (earlier later later' : List Entry)
    → SameEffects earlier later later'
    → effects_of_others c earlier later ≡ effects_of_others c earlier later'
same_effects_of_others c [] later later' same = refl
same_effects_of_others c (e ∷ earlier) later later' same =
    let before = same_effects_of_others c earlier (e ∷ later) (e ∷ later') same.1 in
    λ i. cond (e.caller == c) (cond (is_lone_commit e.kind) [] (before i)) (same.0 i ++ before i)

-- an entry's effects look at the writes that its caller still makes, and at nothing else after it
pub effects_by_ahead : (earlier : List Entry) (c : ℕ) (kind : Kind) (later later' : List Entry)
    → writes_ahead c later ≡ writes_ahead c later'
    → effects_at earlier c kind later ≡ effects_at earlier c kind later'
effects_by_ahead earlier c (Call method args) later later' same = refl
effects_by_ahead earlier c (Return reply) later later' same = refl
effects_by_ahead earlier c (Write word value) later later' same = refl
effects_by_ahead earlier c Commit later later' same = cc
effects_by_ahead earlier c BlockOpen later later' same = refl
effects_by_ahead earlier c BlockClose later later' same = refl
effects_by_ahead earlier c BlockCommit later later' same = refl

-- Both say the same of the writes still to come.
abbrev pub SameAhead : List Entry → List Entry → Type 0
SameAhead later later' = (d : ℕ) → writes_ahead d later ≡ writes_ahead d later'

pub same_by_ahead : (earlier later later' : List Entry) → SameAhead later later'
    → SameEffects earlier later later'
same_by_ahead [] later later' same = tt
same_by_ahead (e ∷ earlier) later later' same = (
  effects_by_ahead earlier e.caller e.kind later later' (same e.caller),
  same_by_ahead earlier (e ∷ later) (e ∷ later')
      (λ d. ap (λ o. cond (e.caller == d) (ahead_at e.kind o) o) (same d)),
)

-- one more entry says nothing of other callers' writes to come
pub ahead_other : (c d : ℕ) (kind : Kind) (later : List Entry) → (d == c) ≡ false
    → writes_ahead c (later ++ entry d kind ∷ []) ≡ writes_ahead c later
ahead_other c d kind [] other = cc
ahead_other c d kind (x ∷ later) other = cc (ahead_other c d kind later other)

-- of the caller's own entry at the front
pub ahead_own : (c : ℕ) (kind : Kind) (later : List Entry) → writes_ahead c (entry c kind ∷ later)
    ≡ ahead_at kind (writes_ahead c later)
ahead_own c kind later = cc (same_number c)

-- so the effects are the same where it says nothing of its own caller's writes
pub same_ahead_behind : (c : ℕ) (kind : Kind) (later : List Entry)
    → writes_ahead c (later ++ entry c kind ∷ []) ≡ writes_ahead c later
    → SameAhead later (later ++ entry c kind ∷ [])
same_ahead_behind c kind later own d = by_same c d (λ same. rw (← same) (sym own))
    (λ other. sym (ahead_other d c _ _ other))

pub same_behind : (earlier : List Entry) (c : ℕ) (kind : Kind) (later : List Entry)
    → writes_ahead c (later ++ entry c kind ∷ []) ≡ writes_ahead c later → SameEffects earlier later
    (later ++ entry c kind ∷ [])
same_behind earlier c kind later own = same_by_ahead _ _ _ (same_ahead_behind c _ _ own)

-- as does an entry that ends no block
nothing_ahead : (kind : Kind) → ends_block kind ≡ false → ahead_at kind None ≡ None
nothing_ahead (Call method args) none = refl
nothing_ahead (Return reply) none = refl
nothing_ahead (Write word value) none = refl
nothing_ahead Commit none = refl
nothing_ahead BlockOpen none = refl
nothing_ahead BlockClose none = cc
nothing_ahead BlockCommit none = cc

pub ahead_of_no_end : (c d : ℕ) (kind : Kind) (later : List Entry) → ends_block kind ≡ false
    → writes_ahead c (later ++ entry d kind ∷ []) ≡ writes_ahead c later
ahead_of_no_end c d kind [] none = ap (λ o. cond (d == c) o None) (nothing_ahead kind none)
    ∙ elim (d == c) as (λ b. cond b None None ≡ writes_ahead c []) [ true ↦ refl | false ↦ refl ]
ahead_of_no_end c d kind (x ∷ later) none = cc (ahead_of_no_end c d kind later none)

pub same_without_end : (earlier : List Entry) (c : ℕ) (kind : Kind) (later : List Entry)
    → ends_block kind ≡ false
    → SameEffects earlier later (later ++ entry c kind ∷ [])
same_without_end earlier c kind later none = same_behind _ c _ _ (ahead_of_no_end c c _ _ none)

-- whether the caller committed alone since its last open
abbrev pub committed_since_open : ℕ → List Entry → Bool
committed_since_open c earlier = unwrap_or (first_answer (by_caller c commit_or_open) earlier) false

-- the commit inside the open block after the caller's own entry, and after another caller's
pub own_inner : (c : ℕ) (kind : Kind) (earlier : List Entry)
    → has_inner_commit c (entry c kind ∷ earlier)
    ≡ (unwrap_or (option_or (open_or_close kind) (first_answer (by_caller c open_or_close) earlier))
    false
    && unwrap_or
    (option_or (commit_or_open kind) (first_answer (by_caller c commit_or_open) earlier)) false)
own_inner c kind earlier = simp (own_answer)

pub other_inner : (c d : ℕ) (kind : Kind) (earlier : List Entry) → (d == c) ≡ false
    → has_inner_commit c (entry d kind ∷ earlier) ≡ has_inner_commit c earlier
other_inner c d kind earlier other = cc

pub outside_inner : (c : ℕ) (earlier : List Entry) → has_block c earlier ≡ false
    → has_inner_commit c earlier ≡ false
outside_inner c earlier outside = ap (λ b. b && committed_since_open c earlier) outside

and_true : (b : Bool) → (b && true) ≡ false → b ≡ false
and_true true e = e
and_true false e = refl

-- another caller's entry on top
same_on_other : (c : ℕ) (kind : Kind) (d : ℕ) (here : Kind) (earlier later : List Entry) → (d == c)
    ≡ false
    → SameEffects earlier (entry d here ∷ later) (entry d here ∷ later ++ entry c kind ∷ [])
    → SameEffects (entry d here ∷ earlier) later (later ++ entry c kind ∷ [])
same_on_other c kind d here earlier later other before =
    (effects_by_ahead _ d _ _ _ (sym (ahead_other d c _ _ (flipped d c other))), before)

-- after an end of the caller's block nothing more is said of it
same_from_end : (earlier : List Entry) (c : ℕ) (end kind : Kind) (later : List Entry)
    → ((o : Option (List (ℕ × ℕ))) → ahead_at end o ≡ Some [])
    → SameEffects earlier (entry c end ∷ later) (entry c end ∷ later ++ entry c kind ∷ [])
same_from_end earlier c end kind later ends = same_behind _ c _ _
    (ahead_own c _ _ ∙ ends _ ∙ sym (ends _) ∙ sym (ahead_own c _ _))

-- if the caller's open block, if there is one, has no lone commit in it, what is said of its writes
-- changes no effects
abbrev SameBehind : ℕ → Kind → List Entry → Type 0
SameBehind c kind earlier = (later : List Entry) → has_inner_commit c earlier ≡ false
    → SameEffects earlier later (later ++ entry c kind ∷ [])

same_on_own : (h : Header) (c : ℕ) (kind here : Kind) (earlier : List Entry)
    → broken_rule h earlier (entry c here) ≡ None
    → SameBehind c kind earlier → SameBehind c kind (entry c here ∷ earlier)
same_on_own h c kind (Call method args) earlier kept before later none =
    (refl, before _ (sym (own_inner c (Call method args) earlier) ∙ none))
same_on_own h c kind (Return reply) earlier kept before later none =
    (refl, before _ (sym (own_inner c (Return reply) earlier) ∙ none))
same_on_own h c kind (Write word value) earlier kept before later none =
    (refl, before _ (sym (own_inner c (Write word value) earlier) ∙ none))
same_on_own h c kind Commit earlier kept before later none =
    let outside : has_block c earlier ≡ false = and_true _ (sym (own_inner c Commit earlier)
    ∙ none) in (cc, before _ (outside_inner c _ outside))
same_on_own h c kind BlockOpen earlier kept before later none =
    (refl, before _ (outside_inner c _ (open_kept h c _ kept)))
same_on_own h c kind BlockClose earlier kept before later none =
    (refl, same_from_end _ c _ _ _ (λ o. refl))
same_on_own h c kind BlockCommit earlier kept before later none =
    (refl, same_from_end _ c _ _ _ (λ o. refl))

pub same_without_inner : (h : Header) (c : ℕ) (kind : Kind) (earlier : List Entry)
    → WellFormed h earlier → SameBehind c kind earlier
same_without_inner h c kind [] wf = λ later none. tt
same_without_inner h c kind (e ∷ earlier) wf = step (same_without_inner h c kind earlier wf.1)
  where
    step : SameBehind c kind earlier → SameBehind c kind (e ∷ earlier)
    step before = by_same e.caller c
        (λ same. subst (λ d. broken_rule h earlier (entry d e.kind) ≡ None
        → SameBehind c kind (entry d e.kind ∷ earlier)) (sym same)
        (λ kept. same_on_own h c kind e.kind earlier kept before) wf.0)
        (λ other. λ later none. same_on_other c kind e.caller e.kind earlier later other
        (before (e ∷ later) (sym (other_inner c e.caller e.kind earlier other) ∙ none)))

-- whether the entry ends a block with a lone commit in it
abbrev pub ends_committed_block : List Entry → Entry → Bool
ends_committed_block earlier e = ends_block e.kind && has_inner_commit e.caller earlier

-- Any other entry after the entries leaves their effects alone.
pub same_after : (h : Header) (earlier : List Entry) (e : Entry) → WellFormed h earlier
    → ends_committed_block earlier e ≡ false
    → SameEffects earlier [] (e ∷ [])
same_after h earlier e wf none = by_end (ends_block e.kind) refl none
  where
    by_end : (b : Bool) → ends_block e.kind ≡ b → (b && has_inner_commit e.caller earlier) ≡ false
        → SameEffects earlier [] (e ∷ [])
    by_end true ends outside = same_without_inner h e.caller e.kind earlier wf [] outside
    by_end false ends outside = same_without_end earlier e.caller e.kind [] ends

-- What the two say of one entry, where the writes take effect at the caller's last lone commit with
-- `later'` behind, none of
-- them do with `later`, and all else is the same: that commit itself, an entry of the caller since,
-- or another caller's.
pub data MoreAt (c : ℕ) (writes : List (ℕ × ℕ)) (e : Entry) (earlier later later' : List Entry)
    (before : Type 0) : Type 0 where
  at_commit : e.caller ≡ c → e.kind ≡ Commit → effects_at earlier e.caller e.kind later ≡ []
      → effects_at earlier e.caller e.kind later' ≡ writes → SameEffects earlier (e ∷ later)
      (e ∷ later')
      → MoreAt c writes e earlier later later' before
  own : e.caller ≡ c → is_lone_commit e.kind ≡ false → effects_at earlier e.caller e.kind later ≡ []
      → effects_at earlier e.caller e.kind later' ≡ [] → before
      → MoreAt c writes e earlier later later' before
  other : (e.caller == c) ≡ false → effects_at earlier e.caller e.kind later
      ≡ effects_at earlier e.caller e.kind later' → before
      → MoreAt c writes e earlier later later' before

-- So it is of all entries back to that commit.
abbrev pub MoreAtCommit : ℕ → List (ℕ × ℕ) → List Entry → List Entry → List Entry → Type 0
MoreAtCommit c writes [] later later' = ⊥
MoreAtCommit c writes (e ∷ earlier) later later' =
    MoreAt c writes e earlier later later' (MoreAtCommit c writes earlier (e ∷ later) (e ∷ later'))

pub never : {P : Type 0} {b : Bool} → b ≡ false → b ≡ true → P
never e f = absurd (no e f)
  where
    no : {b : Bool} → b ≡ false → b ≡ true → ⊥
    no p q = cc

pub has_block_of : (c : ℕ) (earlier : List Entry) → has_inner_commit c earlier ≡ true
    → has_block c earlier ≡ true
has_block_of c earlier inner = first_true _ (committed_since_open c _) inner

-- a lone commit in an open block is one of the open execution
abbrev InnerIsCommitted : ℕ → List Entry → Type 0
InnerIsCommitted c earlier = has_inner_commit c earlier ≡ true → has_committed c earlier ≡ true

pub own_committed : (c : ℕ) (kind : Kind) (earlier : List Entry)
    → has_committed c (entry c kind ∷ earlier)
    ≡ unwrap_or (option_or (commit_or_call kind)
    (first_answer (by_caller c commit_or_call) earlier)) false
own_committed c kind earlier = cc (own_answer c commit_or_call kind earlier)

own_inner_committed : (h : Header) (c : ℕ) (kind : Kind) (earlier : List Entry)
    → WellFormed h earlier
    → broken_rule h earlier (entry c kind) ≡ None → InnerIsCommitted c earlier
    → InnerIsCommitted c (entry c kind ∷ earlier)
own_inner_committed h c (Call method args) earlier wf kept so inner =
    let before = sym (own_inner c (Call method args) earlier) ∙ inner in
    never (all_kept (checks_at h earlier (entry c (Call method args))) kept).1.1.1.0
    (block_in_call h c earlier wf (has_block_of c earlier before))
own_inner_committed h c (Return reply) earlier wf kept so inner =
    let before = sym (own_inner c (Return reply) earlier) ∙ inner in
    never (all_kept (checks_at h earlier (entry c (Return reply))) kept).1.1.0
    (has_block_of c earlier before)
own_inner_committed h c (Write word value) earlier wf kept so inner =
    own_committed c (Write word value) earlier
    ∙ so (sym (own_inner c (Write word value) earlier) ∙ inner)
own_inner_committed h c Commit earlier wf kept so inner = own_committed c Commit earlier
own_inner_committed h c BlockOpen earlier wf kept so inner = never (own_inner c BlockOpen earlier)
    inner
own_inner_committed h c BlockClose earlier wf kept so inner = never (own_inner c BlockClose earlier)
    inner
own_inner_committed h c BlockCommit earlier wf kept so inner =
    never (own_inner c BlockCommit earlier) inner

pub inner_is_committed : (h : Header) (c : ℕ) (earlier : List Entry) → WellFormed h earlier
    → InnerIsCommitted c earlier
inner_is_committed h c [] wf = λ inner. cc
inner_is_committed h c (e ∷ earlier) wf = step (inner_is_committed h c earlier wf.1)
  where
    step : InnerIsCommitted c earlier → InnerIsCommitted c (e ∷ earlier)
    step so = by_same e.caller c
        (λ same. subst (λ d. broken_rule h earlier (entry d e.kind) ≡ None
        → InnerIsCommitted c (entry d e.kind ∷ earlier)) (sym same)
        (λ kept. own_inner_committed h c e.kind earlier wf.1 kept so) wf.0)
        (λ other. λ inner. ap (λ o. unwrap_or o false)
        (other_answer c e.caller commit_or_call e.kind earlier other)
        ∙ so (sym (other_inner c e.caller e.kind earlier other) ∙ inner))

-- what the end of a block with a lone commit in it changes
abbrev MoreBehind : ℕ → Kind → List Entry → Type 0
MoreBehind c kind earlier = (later : List Entry) (ahead : List (ℕ × ℕ)) → has_inner_commit c earlier
    ≡ true → writes_ahead c later ≡ None
    → writes_ahead c (later ++ entry c kind ∷ []) ≡ Some ahead
    → MoreAtCommit c (ahead ++ block_writes c earlier) earlier later (later ++ entry c kind ∷ [])

-- an entry of the caller that neither writes nor begins, ends or commits anything
more_on_quiet : (c : ℕ) (kind here : Kind) (earlier : List Entry)
    → has_inner_commit c (entry c here ∷ earlier) ≡ has_inner_commit c earlier
    → block_writes c (entry c here ∷ earlier) ≡ block_writes c earlier
    → ((o : Option (List (ℕ × ℕ))) → o ≡ ahead_at here o) → is_lone_commit here ≡ false
    → ((later : List Entry) → effects_at earlier c here later ≡ [])
    → MoreBehind c kind earlier → MoreBehind c kind (entry c here ∷ earlier)
more_on_quiet c kind here earlier same_inner same_writes same_ahead alone no_effects before later
    ahead inner none some = own refl alone (no_effects _) (no_effects _)
    (subst (λ ws. MoreAtCommit c (ahead ++ ws) earlier (entry c here ∷ later)
    (entry c here ∷ later ++ entry c kind ∷ [])) (sym same_writes)
    (before (entry c _ ∷ later) ahead (sym same_inner ∙ inner) (ahead_own c _ _ ∙ sym (same_ahead _)
    ∙ none) (ahead_own c _ _ ∙ sym (same_ahead _) ∙ some)))

more_on_own : (h : Header) (c : ℕ) (kind here : Kind) (earlier : List Entry) → WellFormed h earlier
    → broken_rule h earlier (entry c here) ≡ None → MoreBehind c kind earlier
    → MoreBehind c kind (entry c here ∷ earlier)
more_on_own h c kind (Call method args) earlier wf kept before = more_on_quiet c kind
    (Call method args) earlier (own_inner c (Call method args) earlier)
    (own_writes c (Call method args) earlier) (λ o. refl) refl (λ later. refl) before
more_on_own h c kind (Return reply) earlier wf kept before = λ later ahead inner none some. never
    (all_kept (checks_at h earlier (entry c (Return reply))) kept).1.1.0
    (has_block_of c earlier (sym (own_inner c (Return reply) earlier) ∙ inner))
more_on_own h c kind (Write word value) earlier wf kept before = λ later ahead inner none some.
    let here : Entry = entry c (Write word value) in
    let inner' : has_inner_commit c earlier ≡ true = sym (own_inner c (Write word value) earlier)
    ∙ inner in
    let no_effect : cond (has_block c earlier) [] ((word, value) ∷ [])
    ≡ [] = cc (has_block_of c earlier inner') in
    own refl refl no_effect no_effect
    (subst (λ ws. MoreAtCommit c ws earlier (here ∷ later) (here ∷ later ++ entry c kind ∷ []))
    (cc (
      append_assoc ahead ((word, value) ∷ []) (block_writes c earlier),
      own_writes c
          (Write word value) earlier,
    )) (before (here ∷ later) (ahead ++ (word, value) ∷ []) inner'
    (ahead_own c (Write word value) later ∙ ap (ahead_at (Write word value)) none)
    (ahead_own c (Write word value) (later ++ entry c kind ∷ [])
    ∙ ap (ahead_at (Write word value)) some)))
more_on_own h c kind Commit earlier wf kept before = λ later ahead inner none some.
    let inside : has_block c earlier ≡ true = first_true (has_block c earlier) true
    (sym (own_inner c Commit earlier) ∙ inner) in
    let at_once : (l : List Entry) → effects_at earlier c Commit l
    ≡ option_map_or (λ writes. writes ++ block_writes c earlier) (writes_ahead c l) [] = λ l. cc in
    at_commit refl refl (cc (at_once later))
    (cc (at_once (later ++ entry c kind ∷ []), own_writes c Commit earlier))
    (same_without_inner h c kind earlier wf (entry c Commit ∷ later)
    (first_commit (has_inner_commit c earlier) refl))
  where
    first_commit : (b : Bool) → has_inner_commit c earlier ≡ b → has_inner_commit c earlier ≡ false
    first_commit true e = never (all_kept (checks_at h earlier (entry c Commit)) kept).1.1.1.0
        (inner_is_committed h c earlier wf e)
    first_commit false e = e
more_on_own h c kind BlockOpen earlier wf kept before = λ later ahead inner none some. never
    (own_inner c BlockOpen earlier) inner
more_on_own h c kind BlockClose earlier wf kept before = λ later ahead inner none some. never
    (own_inner c BlockClose earlier) inner
more_on_own h c kind BlockCommit earlier wf kept before = λ later ahead inner none some. never
    (own_inner c BlockCommit earlier) inner

pub more_behind : (h : Header) (c : ℕ) (kind : Kind) (earlier : List Entry) → WellFormed h earlier
    → MoreBehind c kind earlier
more_behind h c kind [] wf = λ later ahead inner none some. never refl inner
more_behind h c kind (e ∷ earlier) wf = step (more_behind h c kind earlier wf.1)
  where
    on_other : MoreBehind c kind earlier → (e.caller == c) ≡ false → MoreBehind c kind (e ∷ earlier)
    on_other before apart later ahead inner none some =
        let skip : (l : List Entry) → writes_ahead c (e ∷ l) ≡ writes_ahead c l = λ l. cc in
        other apart (effects_by_ahead earlier e.caller e.kind later (later ++ entry c kind ∷ [])
        (sym (ahead_other e.caller c kind later (flipped e.caller c apart))))
        (subst (λ ws. MoreAtCommit c (ahead ++ ws) earlier (e ∷ later)
        (e ∷ later ++ entry c kind ∷ [])) (sym (other_writes c e.caller e.kind earlier apart))
        (before (e ∷ later) ahead (sym (other_inner c e.caller e.kind earlier apart) ∙ inner)
        (skip later ∙ none) (skip (later ++ entry c kind ∷ []) ∙ some)))

    step : MoreBehind c kind earlier → MoreBehind c kind (e ∷ earlier)
    step before = by_same e.caller c
        (λ same. subst (λ d. broken_rule h earlier (entry d e.kind) ≡ None
        → MoreBehind c kind (entry d e.kind ∷ earlier)) (sym same)
        (λ kept. more_on_own h c kind e.kind earlier wf.1 kept before) wf.0)
        (λ apart. on_other before apart)

ahead_at_end : (kind : Kind) → ends_block kind ≡ true → (o : Option (List (ℕ × ℕ)))
    → ahead_at kind o ≡ Some []
ahead_at_end BlockClose ends o = refl
ahead_at_end BlockCommit ends o = refl
ahead_at_end (Call method args) ends o = never refl ends
ahead_at_end (Return reply) ends o = never refl ends
ahead_at_end (Write word value) ends o = never refl ends
ahead_at_end Commit ends o = never refl ends
ahead_at_end BlockOpen ends o = never refl ends

-- The end of a block with a lone commit in it lets the block's writes take effect at that commit,
-- and changes nothing else.
pub more_after : (h : Header) (earlier : List Entry) (e : Entry) → WellFormed h earlier
    → ends_committed_block earlier e ≡ true
    → MoreAtCommit e.caller (block_writes e.caller earlier) earlier [] (e ∷ [])
more_after h earlier e wf ends = more_behind h _ _ _ wf [] [] (second_true (ends_block _) _ ends)
    refl (ahead_own _ _ []
    ∙ ahead_at_end e.kind (first_true _ (has_inner_commit e.caller earlier) ends) None)

-- all effects together: the writes come right before those of other callers since the commit
pub record MoreEffects (c : ℕ) (writes : List (ℕ × ℕ)) (earlier later later' : List Entry) : Type 0
  where
    pub rest : List (ℕ × ℕ)
    pub fewer : effects earlier later ≡ effects_of_others c earlier later ++ rest
    pub more : effects earlier later' ≡ effects_of_others c earlier later ++ (writes ++ rest)

pub more_effects : (c : ℕ) (writes : List (ℕ × ℕ)) (earlier later later' : List Entry)
    → MoreAtCommit c writes earlier later later'
    → MoreEffects c writes earlier later later'
more_effects c writes [] later later' = λ none. absurd none
more_effects c writes (e ∷ earlier) later later' = by_entry
    (more_effects c writes earlier (e ∷ later) (e ∷ later'))
  where
    others : List (ℕ × ℕ)
    others = effects_of_others c earlier (e ∷ later)

    by_entry : (MoreAtCommit c writes earlier (e ∷ later) (e ∷ later')
        → MoreEffects c writes earlier (e ∷ later) (e ∷ later'))
        → MoreAtCommit c writes (e ∷ earlier) later later'
        → MoreEffects c writes (e ∷ earlier) later later'
    by_entry before (at_commit same alone none all same_before) =
        let owned : (e.caller == c) ≡ true = is_same e.caller c same in
        let lone : is_lone_commit e.kind ≡ true = ap is_lone_commit alone in
        let last : effects_of_others c (e ∷ earlier) later ≡ [] = λ i. cond (owned i)
        (cond (lone i) [] others) (effects_at earlier e.caller e.kind later ++ others) in
        let before' = same_effects earlier (e ∷ later) (e ∷ later') same_before in
        record { rest = effects earlier (e ∷ later); fewer = cc; more = cc }
    by_entry before (own same alone none none' more) =
        let owned : (e.caller == c) ≡ true = is_same e.caller c same in
        let skipped : effects_of_others c (e ∷ earlier) later ≡ others = λ i. cond (owned i)
        (cond (alone i) [] others) (effects_at earlier e.caller e.kind later ++ others) in
        let so = before more in
        record { rest = so.rest; fewer = cc (so.fewer); more = cc (so.more) }
    by_entry before (other apart same more) =
        let taken : effects_of_others c (e ∷ earlier) later ≡ effects_at earlier e.caller e.kind
        later ++ others = cc in
        let so = before more in
        record {
          rest = so.rest;
          fewer =
              cc (so.fewer, append_assoc (effects_at earlier e.caller e.kind later) others so.rest);
          more = cc (append_assoc (effects_at earlier e.caller e.kind later) others
              (writes ++ so.rest));
        }

-- what other callers' effects owe to it: a test that none of them passed, and none of the writes
-- passes, still passes on none
abbrev NoneOfOthers : (ℕ × ℕ → Bool) → ℕ → ℕ → List (ℕ × ℕ) → List Entry → List Entry → List Entry
    → Type 0
NoneOfOthers p c d writes earlier later later' = MoreAtCommit d writes earlier later later'
    → list_any p writes ≡ false
    → list_any p (effects_of_others c earlier later) ≡ false
    → list_any p (effects_of_others c earlier later') ≡ false

none_in : (p : ℕ × ℕ → Bool) (xs ys : List (ℕ × ℕ)) → list_any p (xs ++ ys) ≡ false
    → (list_any p xs ≡ false) × (list_any p ys ≡ false)
none_in p xs ys none = neither_true _ _ (sym (list_any-append p _ _) ∙ none)

pub none_of_both : (p : ℕ × ℕ → Bool) (xs ys : List (ℕ × ℕ)) → list_any p xs ≡ false → list_any p ys
    ≡ false → list_any p (xs ++ ys) ≡ false
none_of_both p xs ys none none' = list_any-append p xs ys ∙ (λ i. none i || none' i)

pub none_of_others : (p : ℕ × ℕ → Bool) (c d : ℕ) (writes : List (ℕ × ℕ))
    (earlier later later' : List Entry) → (d == c) ≡ false
    → NoneOfOthers p c d writes earlier later later'
none_of_others p c d writes [] later later' apart = λ more. absurd more
none_of_others p c d writes (e ∷ earlier) later later' apart =
    by_caller_of (none_of_others p c d writes earlier (e ∷ later) (e ∷ later') apart)
  where
    here : List Entry → List (ℕ × ℕ)
    here l = effects_at earlier e.caller e.kind l

    before_own : NoneOfOthers p c d writes earlier (e ∷ later) (e ∷ later') → (e.caller == c) ≡ true
        → MoreAt d writes e earlier later later'
        (MoreAtCommit d writes earlier (e ∷ later) (e ∷ later'))
        → list_any p writes ≡ false → (b : Bool)
        → list_any p (cond b [] (effects_of_others c earlier (e ∷ later))) ≡ false
        → list_any p (cond b [] (effects_of_others c earlier (e ∷ later'))) ≡ false
    before_own before is more free true none = refl
    before_own before is (at_commit same alone no_effects all same_before) free false none = cc
    before_own before is (own same alone no_effects no_effects' more) free false none = cc
    before_own before is (other other_caller same more) free false none = before more free none

    before_other : NoneOfOthers p c d writes earlier (e ∷ later) (e ∷ later')
        → MoreAt d writes e earlier later later'
        (MoreAtCommit d writes earlier (e ∷ later) (e ∷ later'))
        → list_any p writes ≡ false
        → list_any p (here later ++ effects_of_others c earlier (e ∷ later)) ≡ false
        → list_any p (here later' ++ effects_of_others c earlier (e ∷ later')) ≡ false
    before_other before (at_commit same alone no_effects all same_before) free none =
        none_of_both p (here later') (effects_of_others c earlier (e ∷ later'))
        (ap (list_any p) all ∙ free)
        (ap (list_any p)
        (sym (same_effects_of_others c earlier (e ∷ later) (e ∷ later') same_before))
        ∙ (none_in p (here later) (effects_of_others c earlier (e ∷ later)) none).1)
    before_other before (own same alone no_effects no_effects' more) free none =
        cc (before more free (none_in p (here later) (effects_of_others c earlier (e ∷ later))
        none).1)
    before_other before (other other_caller same more) free none =
        let parts = none_in p (here later) (effects_of_others c earlier (e ∷ later)) none in
        none_of_both p (here later') (effects_of_others c earlier (e ∷ later'))
        (ap (list_any p) (sym same) ∙ parts.0) (before more free parts.1)

    by_caller_of : NoneOfOthers p c d writes earlier (e ∷ later) (e ∷ later')
        → NoneOfOthers p c d writes (e ∷ earlier) later later'
    by_caller_of before more free none = by_test (e.caller == c) refl none
      where
        others_by : Bool → List Entry → List (ℕ × ℕ)
        others_by b l = cond b
            (cond (is_lone_commit e.kind) [] (effects_of_others c earlier (e ∷ l)))
            (here l ++ effects_of_others c earlier (e ∷ l))

        by_test : (b : Bool) → (e.caller == c) ≡ b → list_any p (others_by b later) ≡ false
            → list_any p (others_by b later') ≡ false
        by_test true is free' = before_own before is more free (is_lone_commit e.kind) free'
        by_test false is free' = before_other before more free free'
