-- The rules of shape, for an entry and the entries before it, the nearest first. An entry is well
-- formed if it breaks none of them, and its broken rule is the first that it breaks, in the order
-- in which they stand here.
use Rattle.std.specs.Prelude.{ℕ, Bool, false, not, cond, ◌&&◌, ◌||◌, ◌==◌, ◌^◌, nat_le, List, []}
use Rattle.std.specs.Prelude.{◌∷◌, Option, Some, None, is_some, is_none}
use Rattle.std.specs.Option.{option_map_or}
use Rattle.std.specs.List.{list_any}
use Rattle.vyrd_base.specs.declared.header.Header.{Header}
use Rattle.vyrd_base.specs.declared.log.Kind.{Kind}
use Rattle.vyrd_base.specs.declared.log.Kind.TheVariants.{Call, Return, Write, Commit, BlockOpen}
use Rattle.vyrd_base.specs.declared.log.Kind.TheVariants.{BlockClose, BlockCommit}
use Rattle.vyrd_base.specs.declared.log.Entry.{Entry}
use Rattle.vyrd_base.specs.declared.verdict.Rule.{Rule}
use Rattle.vyrd_base.specs.declared.verdict.Rule.TheVariants.{CallerRange, MethodOther}
use Rattle.vyrd_base.specs.declared.verdict.Rule.TheVariants.{ArgumentRange, CallInCall, NoCall}
use Rattle.vyrd_base.specs.declared.verdict.Rule.TheVariants.{ReturnInBlock, NoCommit, WordRange}
use Rattle.vyrd_base.specs.declared.verdict.Rule.TheVariants.{ValueRange, BlockRaced}
use Rattle.vyrd_base.specs.declared.verdict.Rule.TheVariants.{ObserverCommit, SecondCommit}
use Rattle.vyrd_base.specs.declared.verdict.Rule.TheVariants.{CommitInBlock, BlockInBlock, NoBlock}
use Rattle.vyrd_base.specs.Places.{numbers_below}
use Rattle.vyrd_base.specs.Callers.{open_call, has_block, has_committed, holds_word}
use Rattle.vyrd_base.specs.Layout.{plain_words}
use Rattle.vyrd_base.specs.Words.{is_passed}
use Rattle.vyrd_base.specs.Subjects.{is_observer, must_commit, same_subject, subject_of, are_args}

-- a rule with whether it is broken
pub record Check : Type 0 where
  pub broken : Bool
  pub rule : Rule

infix 30 ◌breaks◌
abbrev pub ◌breaks◌ : Bool → Rule → Check
broken breaks rule = record { broken = broken; rule = rule }

-- the first rule of the list that is broken
abbrev pub first_broken : List Check → Option Rule
first_broken [] = None
first_broken (check ∷ checks) = cond check.broken (Some check.rule) (first_broken checks)

-- whether the caller's open execution is an observer's
abbrev pub is_observing : ℕ → List Entry → Bool
is_observing c earlier =
    option_map_or (λ called. is_observer called.method) (open_call c earlier) false

-- whether the caller's open execution has to commit
abbrev pub owes_commit : ℕ → List Entry → Bool
owes_commit c earlier =
    option_map_or (λ called. must_commit called.method) (open_call c earlier) false

-- whether another caller's open block has written the word
abbrev pub is_held_by_other : Header → ℕ → ℕ → List Entry → Bool
is_held_by_other h c w earlier =
    list_any (λ d. not (d == c) && holds_word d w earlier) (numbers_below h.callers)

-- whether the caller may not write the word: another caller's open block has written it, or it is
-- passed
abbrev pub is_raced : Header → ℕ → ℕ → List Entry → Bool
is_raced h c w earlier = is_held_by_other h c w earlier || is_passed c w earlier

-- The rules for an entry of the caller, in their order. A lone commit may stand inside a block from
-- version 2 on.
abbrev pub checks_of : Header → List Entry → ℕ → Kind → List Check
checks_of h earlier c (Call method args) =
    (not (same_subject (subject_of method) h.subject) breaks MethodOther)
    ∷ (not (are_args h.size method args) breaks ArgumentRange)
    ∷ (is_some (open_call c earlier) breaks CallInCall) ∷ []
checks_of h earlier c (Return reply) =
    (is_none (open_call c earlier) breaks NoCall)
    ∷ (has_block c earlier breaks ReturnInBlock)
    ∷ (owes_commit c earlier && not (has_committed c earlier) breaks NoCommit) ∷ []
checks_of h earlier c (Write word value) =
    (is_none (open_call c earlier) breaks NoCall)
    ∷ (nat_le (plain_words h) word breaks WordRange)
    ∷ (nat_le (2 ^ 63) value breaks ValueRange)
    ∷ (is_raced h c word earlier breaks BlockRaced) ∷ []
checks_of h earlier c Commit =
    (is_none (open_call c earlier) breaks NoCall)
    ∷ (is_observing c earlier breaks ObserverCommit)
    ∷ (has_committed c earlier breaks SecondCommit)
    ∷ (h.version == 1 && has_block c earlier breaks CommitInBlock) ∷ []
checks_of h earlier c BlockOpen =
    (is_none (open_call c earlier) breaks NoCall)
    ∷ (has_block c earlier breaks BlockInBlock) ∷ []
checks_of h earlier c BlockClose =
    (is_none (open_call c earlier) breaks NoCall)
    ∷ (not (has_block c earlier) breaks NoBlock) ∷ []
checks_of h earlier c BlockCommit =
    (is_none (open_call c earlier) breaks NoCall)
    ∷ (not (has_block c earlier) breaks NoBlock)
    ∷ (is_observing c earlier breaks ObserverCommit)
    ∷ (has_committed c earlier breaks SecondCommit) ∷ []

-- the rules for an entry, in their order
abbrev pub checks_at : Header → List Entry → Entry → List Check
checks_at h earlier e =
    (nat_le h.callers e.caller breaks CallerRange) ∷ checks_of h earlier e.caller e.kind

-- the first rule that the entry breaks
abbrev pub broken_rule : Header → List Entry → Entry → Option Rule
broken_rule h earlier e = first_broken (checks_at h earlier e)
