-- What one more event makes of what the log says.
use Rattle.vyrd_every.proofs.Prelude
use Prelude.{◌≡◌, ℕ, ◌<◌, Bool, true, false, cond, List, [], ◌∷◌, ◌++◌, Some, None, refl, arith}
use Prelude.{◌==◌, cons_option, nat_tests, Header, Kind, Call, Return, Write, Commit, BlockOpen}
use Prelude.{BlockClose, BlockCommit, Entry, Did, Read, Wrote, Took, Gave, Marked, BlockRaced}
use Prelude.{open_call, has_block, holds_word, block_writes, ended_effects, ended_value, logged}
use Prelude.{WellFormed, entry, own_answer, other_answer, own_writes, other_writes, holds_other}
use Prelude.{no_inner_commit, with_cell, Situation, act_of_event, OnlyRaced, none_any, Structure}
use Prelude.{shown_by, Locals, written, shown_after, pending_after, called_after, Reaches, never}
use Rattle.vyrd_base.specs.Shape.{Check, first_broken, broken_rule, is_held_by_other}

-- one more effect
pub one_more : (word value : ℕ) (writes : List (ℕ × ℕ)) (w : ℕ)
    → ended_value ((word, value) ∷ writes) w ≡ with_cell (λ q. ended_value writes q) word
    value w
one_more word value writes w = grind (arith, nat_tests)

pub more : (writes others : List (ℕ × ℕ)) → (λ w. ended_value (writes ++ others) w)
    ≡ written writes (λ w. ended_value others w)
more [] others = refl
more ((word, value) ∷ writes) others = grind (arith, more writes others)

-- what the log shows after one more event of the caller
pub shown_step : (S : Structure) (c : ℕ) (did : Did) (s : Situation) (k : Locals) (log : List Entry)
    → has_block c log ≡ s.in_block
    → k.pending ≡ block_writes c log → Reaches S s (act_of_event did)
    → shown_by (cons_option (logged c did) log) ≡ shown_after s k (shown_by log) (act_of_event did)
shown_step S c (Read cell value) s k log block pending reaches = refl
shown_step S c (Took lock) s k log block pending reaches = refl
shown_step S c (Gave lock) s k log block pending reaches = refl
shown_step S c (Wrote cell value) s k log block pending reaches = cc (by_block s.in_block)
  where
    by_block : (b : Bool)
        → (λ w. ended_value (cond b [] ((cell, value) ∷ []) ++ ended_effects log) w)
        ≡ cond b (shown_by log) (with_cell (shown_by log) cell value)
    by_block b = search (one_more, arith)
shown_step S c (Marked (Call method args)) s k log block pending reaches = refl
shown_step S c (Marked (Return reply)) s k log block pending reaches = refl
shown_step S c (Marked (Write word value)) s k log block pending reaches = absurd reaches
shown_step S c (Marked Commit) s k log block pending reaches = refl
shown_step S c (Marked BlockOpen) s k log block pending reaches = refl
shown_step S c (Marked BlockClose) s k log block pending reaches = search (more, arith)
shown_step S c (Marked BlockCommit) s k log block pending reaches = search (more, arith)

-- the writes since the last open
pub pending_step : (c : ℕ) (did : Did) (log : List Entry)
    → block_writes c (cons_option (logged c did) log) ≡ pending_after (act_of_event did)
    (block_writes c log)
pending_step c did log = grind (arith, own_writes)

pub pending_other : (c d : ℕ) (did : Did) (log : List Entry) → (d == c) ≡ false
    → block_writes c (cons_option (logged d did) log) ≡ block_writes c log
pending_other c d did log apart = grind (arith, apart, other_writes)

-- the open call
pub called_step : (c : ℕ) (did : Did) (log : List Entry)
    → open_call c (cons_option (logged c did) log) ≡ called_after (act_of_event did)
    (open_call c log)
called_step c did log = grind (arith, own_answer)

pub called_other : (c d : ℕ) (did : Did) (log : List Entry) → (d == c) ≡ false
    → open_call c (cons_option (logged d did) log) ≡ open_call c log
called_other c d did log apart = grind (arith, apart, other_answer)

-- what another caller's block has written
pub word_other : (c d w : ℕ) (did : Did) (log : List Entry) → (d == c) ≡ false
    → holds_word c w (cons_option (logged d did) log) ≡ holds_word c w log
word_other c d w did log apart = grind (arith, apart, holds_other)

-- a word that no other caller's block has written is held by none
pub held_by_none : (h : Header) (c w : ℕ) (log : List Entry)
    → ((d : ℕ) → d < h.callers → (d == c) ≡ false → holds_word d w log ≡ false)
    → is_held_by_other h c w log ≡ false
held_by_none h c w log free = grind (arith, free, none_any)

-- no check is broken, where none is that of raced blocks and broken
abbrev pub AreUnraced : List Check → Type 0
AreUnraced [] = Unit {0}
AreUnraced (check ∷ checks) = (check.broken ≡ true → check.rule ≡ BlockRaced → ⊥)
    × AreUnraced checks

none_raced : (checks : List Check) → AreUnraced checks → OnlyRaced (first_broken checks)
    → first_broken checks ≡ None
none_raced [] un only = refl
none_raced (check ∷ checks) un only = by_test check.broken refl (none_raced checks un.1) only
  where
    by_test : (b : Bool) → check.broken ≡ b
        → (OnlyRaced (first_broken checks) → first_broken checks ≡ None)
        → OnlyRaced (cond b (Some check.rule) (first_broken checks)) → cond b (Some check.rule)
        (first_broken checks) ≡ None
    by_test b e rest only = search arith

-- in version 1 a word that nobody else's block has written may be written
pub write_unraced : (h : Header) (c word value : ℕ) (log : List Entry) → h.version ≡ 1
    → WellFormed h log → is_held_by_other h c word log ≡ false
    → OnlyRaced (broken_rule h log (entry c (Write word value)))
    → broken_rule h log (entry c (Write word value)) ≡ None
write_unraced h c word value log one wf free only =
    grind (arith, free, no_inner_commit, none_raced, never)

-- a mark that isn't a write
abbrev pub IsNoWrite : Kind → Type 0
IsNoWrite (Write word value) = ⊥
IsNoWrite _ = Unit {0}

pub mark_unraced : (h : Header) (c : ℕ) (kind : Kind) (log : List Entry) → IsNoWrite kind
    → OnlyRaced (broken_rule h log (entry c kind)) → broken_rule h log (entry c kind) ≡ None
mark_unraced h c kind log none only = grind (arith, none_raced)
