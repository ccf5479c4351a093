-- What is kept of bytes, and what is answered about them.
use Rattle.std.proofs.Common.{◌≡◌, ℕ, ◌<◌, ◌≤◌, ◌^◌, Bool, true, false, List, [], ◌++◌, length}
use Rattle.std.proofs.Common.{Option, Some, refl, ap, ◌∙◌, sym, subst, arith}
use Rattle.std.specs.Prelude.{◌&&◌, is_some}
use Rattle.std.proofs.Math.Logic.{∥∥₁_elim}
use Rattle.std.proofs.Math.Bool.{Bool-set}
use Rattle.vyrd_base.specs.declared.header.Header.{Header}
use Rattle.vyrd_base.specs.declared.subject.Subject.{Subject}
use Rattle.vyrd_base.specs.declared.subject.Subject.TheVariants.{Own}
use Rattle.vyrd_base.specs.declared.verdict.Verdict.{Verdict}
use Rattle.vyrd_base.specs.LogVerdicts.{log_verdict, log_verdict_so_far}
use Rattle.vyrd_base.specs.Own.Log.{own_reading}
use Rattle.vyrd_base.specs.Reading.{reading}
use Rattle.vyrd_base.specs.Starts.{may_start}
use Rattle.vyrd_base.specs.Subjects.{is_built_in}
use Rattle.vyrd_base.proofs.ReadingGrows.{input_of}
use Rattle.vyrd_base.proofs.ReadingSound.{reading_writable}
use Rattle.vyrd_base.proofs.TestLaws.{at_most_of, is_at_most}
use Rattle.vyrd_base.specs.Limits.{most_lines}
use Rattle.vyrd_check.proofs.BuiltInLaws.{reading_built_in}
use Rattle.vyrd_check.proofs.ReadingFacts.{entries_few}
use Rattle.vyrd_text.specs.Readers.{HasRead}
use Rattle.vyrd_own_log.specs.Grown.{IsFormed}
use Rattle.vyrd_own_log.specs.Readers as own_readers
use Rattle.vyrd_own_log.specs.ReaderView.{state_in}
use Rattle.vyrd_own_log.specs.States.{header_at}
use Rattle.vyrd_own_log.proofs.GrownLaws.{reading_formed}
use Rattle.vyrd_log_check.specs.Checking.{HasChecked}
use Rattle.vyrd_explain.specs.declared.about.About.{About}
use Rattle.vyrd_explain.specs.Explained.{read_as, own_read_as, explanation, explained, is_settled}
use Rattle.vyrd_explain.specs.Explaining.{ExplainerState, HasTaken, own_limit}

-- no entry was read of no bytes
pub nothing_read : (max : ℕ) → (read_as max []).entries ≡ []
unfolding reading
nothing_read max = refl

pub nothing_own_read : (max : ℕ) → (own_read_as max []).entries ≡ []
unfolding own_reading
nothing_own_read max = refl

pub nothing_numbered : (max : ℕ) → (own_read_as max []).numbers ≡ []
unfolding own_reading
nothing_numbered max = refl

regrouped : (a b c : Bool) → (a && (b && c)) ≡ (a && b && c)
regrouped a b c = search arith

-- whether the answer is settled, by what the checker and the readers say
pub settled_is : (max first other : ℕ) (bytes : List ℕ) (v : Option Verdict)
    (stops own_stops : Bool)
    → first ≡ max → other ≡ max → v ≡ log_verdict_so_far max bytes
    → stops ≡ is_some (read_as first bytes).fault
    → own_stops ≡ is_some (own_read_as other bytes).fault
    → (is_some v && (stops && own_stops)) ≡ is_settled max bytes
unfolding is_settled
settled_is max first other bytes v stops own_stops limit own_limit is faulty own_faulty =
    cc (regrouped (is_some v) stops own_stops)

-- the answer, by what was read and what the verdict is
pub explained_is : (about : About) (max first other : ℕ) (bytes : List ℕ) (v : Verdict)
    → first ≡ max
    → other ≡ max → v ≡ log_verdict max bytes
    → explanation about (read_as first bytes) (own_read_as other bytes) v
    ≡ explained about max bytes
unfolding explained
explained_is about max first other bytes v limit own_limit is = search arith

-- the header that the reader keeps is that of a built-in subject
pub kept_built_in : (e : ExplainerState) → ∥ ((bytes : List ℕ) × HasTaken e bytes) ∥₁
    → (h : Header) → e.reader.header ≡ Some h → is_built_in h.subject ≡ true
kept_built_in e somewhere h has = ∥∥₁_elim somewhere (Bool-set _ _) (λ s.
    reading_built_in (input_of e.reader.max_lines false) s.0 h (sym s.1.read.header ∙ has))

-- a log may begin with the starting words that the reader keeps
pub kept_may_start : (e : ExplainerState) → ∥ ((bytes : List ℕ) × HasTaken e bytes) ∥₁
    → (h : Header) → e.reader.header ≡ Some h → may_start h e.reader.start ≡ true
kept_may_start e somewhere h has = ∥∥₁_elim somewhere (Bool-set _ _) (λ s.
    ap (may_start h) s.1.read.start
    ∙ (reading_writable (input_of e.reader.max_lines false) s.0 h (sym s.1.read.header ∙ has)).may)

-- there are no more entries than lines
pub kept_few : (e : ExplainerState) → ∥ ((bytes : List ℕ) × HasTaken e bytes) ∥₁
    → 1 ≤ e.reader.max_lines → e.reader.max_lines ≤ most_lines → length e.entries < 2 ^ 62
kept_few e somewhere low high =
    let few : length e.entries ≤ e.reader.max_lines = at_most_of _ _
    (∥∥₁_elim somewhere (Bool-set _ _)
    (λ s. is_at_most _ _ (rw s.1.entries (entries_few _ s.0 low)))) in
    omega (arith, few, high)

own_of : (s : Subject) → is_built_in s ≡ false → s ≡ Own
own_of s e = grind arith

module _ (e : ExplainerState) (somewhere : ∥ ((bytes : List ℕ) × HasTaken e bytes) ∥₁)
    (low : 1 ≤ own_limit e.own) (high : own_limit e.own ≤ most_lines) where
  -- what was read of the bytes that were taken in
  formed : (bytes : List ℕ) → IsFormed (own_limit e.own) (own_read_as (own_limit e.own) bytes)
  formed bytes = reading_formed (own_limit e.own) bytes low high

  -- the header that the other reader keeps is that of a subject of the user's own
  pub kept_own : (h : Header) → header_at (state_in e.own).kept.lines.stage ≡ Some h
      → h.subject ≡ Own
  kept_own h has = own_of h.subject (∥∥₁_elim somewhere (Bool-set _ _) (λ s.
      ap is_built_in ((formed s.0).header h (sym s.1.own_read.header ∙ has)).0))

  -- it has no more entries than lines
  pub kept_own_few : length e.own_entries < 2 ^ 62
  kept_own_few =
      let few : length e.own_entries ≤ own_limit e.own =
      at_most_of _ _ (∥∥₁_elim somewhere (Bool-set _ _) (λ s. is_at_most _ _
      (subst (λ entries. length entries ≤ own_limit e.own) (sym s.1.own_entries)
      (omega (arith, (formed s.0).numbered, (formed s.0).few))))) in
      omega (arith, few, high)

-- what a piece makes of what is kept
pub record Fed (old new : ExplainerState) (piece : List ℕ) : Type 0 where
  pub limit : new.reader.max_lines ≡ old.reader.max_lines
  pub own : own_limit new.own ≡ own_limit old.own
  pub checked : (bytes : List ℕ) → HasChecked old.checker bytes
      → HasChecked new.checker (bytes ++ piece)
  pub read : (bytes : List ℕ) → HasRead old.reader bytes → HasRead new.reader (bytes ++ piece)
  pub entries : (bytes : List ℕ) → HasRead old.reader bytes
      → old.entries ≡ (read_as old.reader.max_lines bytes).entries
      → new.entries ≡ (read_as old.reader.max_lines (bytes ++ piece)).entries
  pub own_read : (bytes : List ℕ) → own_readers.HasRead (state_in old.own) bytes
      → own_readers.HasRead (state_in new.own) (bytes ++ piece)
  pub own_entries : (bytes : List ℕ) → own_readers.HasRead (state_in old.own) bytes
      → old.own_entries ≡ (own_read_as (own_limit old.own) bytes).entries
      → new.own_entries ≡ (own_read_as (own_limit old.own) (bytes ++ piece)).entries
  pub numbers : (bytes : List ℕ) → own_readers.HasRead (state_in old.own) bytes
      → old.numbers ≡ (own_read_as (own_limit old.own) bytes).numbers
      → new.numbers ≡ (own_read_as (own_limit old.own) (bytes ++ piece)).numbers

pub fed_taken : (old new : ExplainerState) (piece : List ℕ) → Fed old new piece
    → (bytes : List ℕ) → HasTaken old bytes → HasTaken new (bytes ++ piece)
fed_taken old new piece fed bytes t = record {
  checked = fed.checked _ t.checked;
  read = fed.read _ t.read;
  entries = cc (fed.entries bytes t.read t.entries, fed.limit);
  own_read = fed.own_read _ t.own_read;
  own_entries = cc (fed.own_entries bytes t.own_read t.own_entries, fed.own);
  numbers = cc (fed.numbers bytes t.own_read t.numbers, fed.own);
}
