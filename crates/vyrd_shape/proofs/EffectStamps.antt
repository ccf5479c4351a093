-- Where a write last took effect on a word: what one more entry changes, and which words are
-- passed.
use Rattle.vyrd_shape.proofs.Prelude
use Prelude.{◌≡◌, ℕ, ◌+◌, ◌≤◌, Bool, true, false, cond, not, ◌&&◌, ◌||◌, List, [], ◌∷◌, ◌++◌}
use Prelude.{length, Some, None, refl, ap, ◌∙◌, sym, arith, ◌==◌, nat_lt, is_some, option_or}
use Prelude.{Header, Kind, Call, Return, Write, Commit, BlockOpen, BlockClose, BlockCommit, Entry}
use Prelude.{has_block, has_inner_commit, holds_word, broken_rule, is_lone_commit, WellFormed}
use Prelude.{entry, by_same, is_below, isnt_below, last_effect, last_commit, takes_effect}
use Rattle.std.proofs.lemmas.List.Folds.{list_any-append}
use Rattle.vyrd_base.specs.Places.{first_answer}
use Rattle.vyrd_base.specs.Words.{block_writes, effects_at, effects_of_others, given_to}
use Rattle.vyrd_base.proofs.BlockLaws.{wrote_is}
use Rattle.vyrd_base.proofs.EffectLaws.{SameEffects, MoreAtCommit, ends_block, same_after}
use Rattle.vyrd_base.proofs.EffectLaws.{more_after, own_inner, other_inner, never}
use Rattle.vyrd_base.proofs.EffectLaws.MoreAt.{at_commit, own, other}
use Rattle.vyrd_base.proofs.ShadowLaws.{close_kept, block_commit_kept}
use Rattle.vyrd_base.proofs.TestLaws.{same_number, is_same, first_true}
use Rattle.vyrd_shape.specs.Stamps.{has_write}
use Rattle.vyrd_shape.proofs.StampLaws.{raised_if}

-- stamps go up to how many entries there are
pub last_effect_low : (w : ℕ) (earlier later : List Entry)
    → last_effect w earlier later ≤ length earlier
last_effect_low w [] later = omega arith
last_effect_low w (e ∷ earlier) later =
    let before = last_effect_low w earlier (e ∷ later) in
    elim (has_write w _) as (λ b. cond b (length earlier + 1) (last_effect w earlier (e ∷ later))
    ≤ length (e ∷ earlier)) [ true ↦ omega arith | false ↦ omega arith ]

pub last_commit_low : (c : ℕ) (earlier : List Entry) → last_commit c earlier ≤ length earlier
last_commit_low c [] = omega arith
last_commit_low c (e ∷ earlier) =
    let before = last_commit_low c earlier in
    elim ((e.caller == c) && is_lone_commit _) as (λ b. cond b (length earlier + 1)
    (last_commit c earlier) ≤ length (e ∷ earlier)) [ true ↦ omega arith | false ↦ omega arith ]

-- the same effects, the same stamps
pub same_stamp : (w : ℕ) (earlier later later' : List Entry) → SameEffects earlier later later'
    → last_effect w earlier later ≡ last_effect w earlier later'
same_stamp w [] later later' same = refl
same_stamp w (e ∷ earlier) later later' same =
    let before = same_stamp w earlier (e ∷ later) (e ∷ later') same.1 in
    λ i. cond (has_write w (same.0 i)) (length earlier + 1) (before i)

-- the last lone commit of the caller, after another's entry, after one that is no such commit, and
-- at one
pub commit_other : (c : ℕ) (e : Entry) (earlier : List Entry) → (e.caller == c) ≡ false
    → last_commit c (e ∷ earlier) ≡ last_commit c earlier
commit_other c e earlier apart = cc

pub commit_none : (c : ℕ) (e : Entry) (earlier : List Entry) → is_lone_commit e.kind ≡ false
    → last_commit c (e ∷ earlier) ≡ last_commit c earlier
commit_none c e earlier alone = grind (arith, alone, last_commit)

pub commit_here : (c : ℕ) (e : Entry) (earlier : List Entry) → e.caller ≡ c
    → is_lone_commit e.kind ≡ true → last_commit c (e ∷ earlier) ≡ length earlier + 1
commit_here c e earlier same alone = grind (arith, alone, is_same, last_commit)

-- raising a stamp does nothing if it is greater already
kept_high : (b : Bool) (stamp old : ℕ) → stamp ≤ old → old ≡ raised_if b stamp old
kept_high b stamp old high = search arith

-- If the writes take effect at the caller's last lone commit too, the stamps of their words are
-- raised to its stamp.
abbrev RaisedAtCommit : ℕ → ℕ → List (ℕ × ℕ) → List Entry → List Entry → List Entry → Type 0
RaisedAtCommit w c writes earlier later later' = last_effect w earlier later'
    ≡ raised_if (has_write w writes) (last_commit c earlier) (last_effect w earlier later)

pub more_stamp : (w c : ℕ) (writes : List (ℕ × ℕ)) (earlier later later' : List Entry)
    → MoreAtCommit c writes earlier later later' → RaisedAtCommit w c writes earlier later later'
more_stamp w c writes [] later later' = λ none. absurd none
more_stamp w c writes (e ∷ earlier) later later' =
    by_entry (more_stamp w c writes earlier (e ∷ later) (e ∷ later'))
  where
    old : ℕ
    old = last_effect w earlier (e ∷ later)

    next : ℕ
    next = length earlier + 1

    raises : Bool
    raises = has_write w writes

    by_entry : (MoreAtCommit c writes earlier (e ∷ later) (e ∷ later')
        → RaisedAtCommit w c writes earlier (e ∷ later) (e ∷ later'))
        → MoreAtCommit c writes (e ∷ earlier) later later'
        → RaisedAtCommit w c writes (e ∷ earlier) later later'
    by_entry before (at_commit same alone none all same_before) =
        search (last_effect_low, same_stamp, commit_here, arith)
    by_entry before (own same alone none none' more) = grind arith
    by_entry before (other apart same more) =
        grind (
          arith,
          by_write
              (has_write w (effects_at earlier e.caller e.kind later)),
          commit_other c e earlier apart,
        )
      where
        by_write : (b : Bool) → cond b next (raised_if raises (last_commit c earlier) old)
            ≡ raised_if raises (last_commit c earlier) (cond b next old)
        by_write true = search (last_commit_low, kept_high, last_commit, arith)
        by_write false = refl

-- what an entry lets take effect at once
written_once : (earlier : List Entry) (c word value w : ℕ)
    → has_write w (effects_at earlier c (Write word value) [])
    ≡ (not (has_block c earlier) && (word == w))
written_once earlier c word value w = grind arith

no_effect_yet : (earlier : List Entry) (c : ℕ) → effects_at earlier c Commit [] ≡ []
no_effect_yet earlier c = grind arith

-- the words that the caller holds are those of the writes of its block
answered : (w : ℕ) (writes : List (ℕ × ℕ))
    → is_some (first_answer (given_to w) writes) ≡ has_write w writes
answered w [] = refl
answered w (write ∷ writes) = elim (write.0 == w)
    as (λ b. is_some (option_or (cond b (Some write.1) None) (first_answer (given_to w) writes))
    ≡ (b || has_write w writes)) [ true ↦ refl | false ↦ answered w writes ]

held_is : (c w : ℕ) (earlier : List Entry) → has_block c earlier ≡ true
    → holds_word c w earlier ≡ has_write w (block_writes c earlier)
held_is c w earlier inside = cc (wrote_is c w earlier inside, answered w (block_writes c earlier))

-- where the writes take effect that do so once an entry of the caller stands
abbrev effect_place_by : Bool → ℕ → List Entry → ℕ
effect_place_by inner c earlier = cond inner (last_commit c earlier) (length earlier + 1)

abbrev pub effect_place : ℕ → List Entry → ℕ
effect_place c earlier = effect_place_by (has_inner_commit c earlier) c earlier

-- One more entry raises the stamps of the words on which it lets writes take effect.
abbrev pub Raises : List ℕ → ℕ → ℕ → Kind → List Entry → Type 0
Raises holders w c kind earlier = last_effect w (entry c kind ∷ earlier) []
    ≡ raised_if (takes_effect holders (has_block c earlier) c kind w) (effect_place c earlier)
    (last_effect w earlier [])

-- an entry that ends no block
raises_now : (h : Header) (holders : List ℕ) (w c : ℕ) (kind : Kind) (earlier : List Entry)
    → WellFormed h earlier → ends_block kind ≡ false → (taking : Bool)
    → takes_effect holders (has_block c earlier) c kind w ≡ taking
    → has_write w (effects_at earlier c kind []) ≡ taking
    → (taking ≡ true → has_inner_commit c earlier ≡ false) → Raises holders w c kind earlier
raises_now h holders w c kind earlier wf quiet taking takes written outside =
    grind (arith, quiet, takes, written, last_effect_low, same_after, same_stamp)

-- the end of a block, with a lone commit in it and without one
raises_end : (h : Header) (holders : List ℕ) (w c : ℕ) (kind : Kind) (earlier : List Entry)
    → WellFormed h earlier → ends_block kind ≡ true
    → takes_effect holders (has_block c earlier) c kind w ≡ has_write w (block_writes c earlier)
    → effects_at earlier c kind [] ≡ cond (has_inner_commit c earlier) [] (block_writes c earlier)
    → (inner : Bool) → has_inner_commit c earlier ≡ inner → Raises holders w c kind earlier
raises_end h holders w c kind earlier wf ends takes effect inner is =
    grind (arith, by_inner inner is)
  where
    old : ℕ
    old = last_effect w earlier []

    behind : ℕ
    behind = last_effect w earlier (entry c kind ∷ [])

    next : ℕ
    next = length earlier + 1

    writes : List (ℕ × ℕ)
    writes = block_writes c earlier

    at_end : (b : Bool) → behind ≡ old → cond b next behind ≡ raised_if b next old
    at_end true same = let low = last_effect_low w earlier [] in omega arith
    at_end false same = same

    by_inner : (b : Bool) → has_inner_commit c earlier ≡ b
        → cond (has_write w (cond b [] writes)) next behind
        ≡ raised_if (has_write w writes) (effect_place_by b c earlier) old
    by_inner true is' = more_stamp w c _ earlier [] _ (more_after h _ _ wf (λ i. ends i && is' i))
    by_inner false is' = search (at_end, same_stamp, same_after, ends, arith)

-- any entry that keeps the rules
pub stamp_next : (h : Header) (holders : List ℕ) (w c : ℕ) (kind : Kind) (earlier : List Entry)
    → WellFormed h earlier → broken_rule h earlier (entry c kind) ≡ None
    → holds_word c w earlier ≡ takes_effect holders true c BlockClose w
    → Raises holders w c kind earlier
stamp_next h holders w c (Call method args) earlier wf kept held = raises_now h holders w c
    (Call _ _) earlier wf refl false refl refl (λ e. never refl e)
stamp_next h holders w c (Return reply) earlier wf kept held = raises_now h holders w c
    (Return _) earlier wf refl false refl refl (λ e. never refl e)
stamp_next h holders w c Commit earlier wf kept held = raises_now h holders w c Commit earlier wf
    refl false refl (ap (has_write w) (no_effect_yet _ c)) (λ e. never refl e)
stamp_next h holders w c BlockOpen earlier wf kept held = raises_now h holders w c BlockOpen earlier
    wf refl false refl refl (λ e. never refl e)
stamp_next h holders w c BlockClose earlier wf kept held = raises_end h holders w c BlockClose
    earlier wf refl (sym held ∙ held_is c w _ (close_kept h c _ kept)) refl (has_inner_commit c _)
    refl
stamp_next h holders w c BlockCommit earlier wf kept held = raises_end h holders w c BlockCommit
    earlier wf refl (sym held ∙ held_is c w _ (block_commit_kept h c _ kept)) refl
    (has_inner_commit c _) refl
stamp_next h holders w c (Write word value) earlier wf kept held = raises_now h holders w c
    (Write _ _) earlier wf refl (not _ && (word == w)) refl (written_once _ c _ _ w)
    (λ e. cc (not_true (has_block c earlier)
    (first_true (not (has_block c earlier)) (word == w) e)))
  where
    not_true : (b : Bool) → not b ≡ true → b ≡ false
    not_true b e = search arith

-- A word is passed for a caller with a lone commit in its open block where a write to it took
-- effect
-- after that commit. The caller's own entries since then are of its block, and its writes take
-- effect at the commit.
abbrev PassedAt : ℕ → ℕ → List Entry → List Entry → Type 0
PassedAt c w earlier later = has_write w (effects_of_others c earlier later)
    ≡ nat_lt (last_commit c earlier) (last_effect w earlier later)

abbrev PassedIs : ℕ → ℕ → List Entry → Type 0
PassedIs c w earlier =
    (later : List Entry) → has_inner_commit c earlier ≡ true → PassedAt c w earlier later

-- an entry of the caller without effects that isn't a commit
passed_quiet : (c w : ℕ) (kind : Kind) (earlier later : List Entry) → is_lone_commit kind ≡ false
    → effects_at earlier c kind later ≡ [] → has_inner_commit c earlier ≡ true
    → PassedIs c w earlier → PassedAt c w (entry c kind ∷ earlier) later
passed_quiet c w kind earlier later alone none inner so = search (same_number, commit_none, arith)

passed_own : (c w : ℕ) (kind : Kind) (earlier : List Entry) → PassedIs c w earlier
    → PassedIs c w (entry c kind ∷ earlier)
passed_own c w (Call method args) earlier so later inner = search (own_inner, passed_quiet, arith)
passed_own c w (Return reply) earlier so later inner = search (own_inner, passed_quiet, arith)
passed_own c w (Write word value) earlier so later inner =
    grind (arith, own_inner, first_true, passed_quiet)
passed_own c w Commit earlier so later inner =
    search (same_number, last_effect_low, commit_here, isnt_below, last_commit, arith)
passed_own c w BlockOpen earlier so later inner = never (own_inner c BlockOpen earlier) inner
passed_own c w BlockClose earlier so later inner = never (own_inner c BlockClose earlier) inner
passed_own c w BlockCommit earlier so later inner = never (own_inner c BlockCommit earlier) inner

passed_other : (c w : ℕ) (e : Entry) (earlier : List Entry) → (e.caller == c) ≡ false
    → PassedIs c w earlier → PassedIs c w (e ∷ earlier)
passed_other c w e earlier apart so later inner =
    ap (λ b. has_write w (cond b (cond (is_lone_commit e.kind) [] others) (here ++ others))) apart
    ∙ list_any-append (λ (write : ℕ × ℕ). write.0 == w) here others ∙ by_write (has_write w here)
    (so _ (sym (other_inner c _ _ _ apart) ∙ inner))
    ∙ ap (λ n. nat_lt n (last_effect w (e ∷ earlier) later)) (sym (commit_other c e _ apart))
  where
    here : List (ℕ × ℕ)
    here = effects_at earlier e.caller e.kind later

    others : List (ℕ × ℕ)
    others = effects_of_others c earlier (e ∷ later)

    by_write : (b : Bool) → PassedAt c w earlier (e ∷ later) → (b || has_write w others)
        ≡ nat_lt (last_commit c earlier)
        (cond b (length earlier + 1) (last_effect w earlier (e ∷ later)))
    by_write true before = search (last_commit_low, is_below, last_commit, arith)
    by_write false before = before

pub passed_by_stamp : (c w : ℕ) (earlier : List Entry) → PassedIs c w earlier
passed_by_stamp c w [] = λ later inner. never refl inner
passed_by_stamp c w (e ∷ earlier) = step (passed_by_stamp c w earlier)
  where
    step : PassedIs c w earlier → PassedIs c w (e ∷ earlier)
    step so = by_same _ c (λ same. rw same (passed_own c w e.kind earlier so))
        (λ other. passed_other c w e _ other so)
