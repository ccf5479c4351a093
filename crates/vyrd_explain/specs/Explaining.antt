-- What is kept of the bytes of a log so that they can be explained, and the bytes that it stands
-- for.
use Rattle.std.specs.Prelude.{◌≡◌, ◌≤◌, ℕ, Bool, false, List}
use Rattle.vyrd_base.specs.declared.log.Entry.{Entry}
use Rattle.vyrd_base.specs.Limits.{most_lines}
use Rattle.vyrd_text.specs.Readers.{ReaderState, HasRead}
use Rattle.vyrd_own_log.specs.declared.reader.OwnLogReader.{OwnLogReader}
use Rattle.vyrd_own_log.specs.Readers as own_readers
use Rattle.vyrd_own_log.specs.ReaderView.{state_in}
use Rattle.vyrd_log_check.specs.Checking.{LogCheckerState, HasChecked}
use Rattle.vyrd_explain.specs.Explained.{read_as, own_read_as}

-- The checker that knows the verdict; the reader of a log of versions 1 and 2, and the entries that
-- it read; the reader of a log of version 3, the entries that it read, and the lines that it
-- numbered; and whether memory was refused.
pub record ExplainerState : Type 0 where
  pub checker : LogCheckerState
  pub reader : ReaderState
  pub entries : List Entry
  pub own : OwnLogReader
  pub own_entries : List Entry
  pub numbers : List ℕ
  pub has_failed : Bool

-- how many lines a log may have
abbrev pub limit_of : ExplainerState → ℕ
limit_of e = e.checker.max_lines

-- how many lines a reader of a log of version 3 reads
abbrev pub own_limit : OwnLogReader → ℕ
own_limit reader = (state_in reader).kept.lines.max_lines

-- These bytes have been taken in.
pub record HasTaken (e : ExplainerState) (bytes : List ℕ) : Type 0 where
  pub checked : HasChecked e.checker bytes
  pub read : HasRead e.reader bytes
  pub entries : e.entries ≡ (read_as e.reader.max_lines bytes).entries
  pub own_read : own_readers.HasRead (state_in e.own) bytes
  pub own_entries : e.own_entries ≡ (own_read_as (own_limit e.own) bytes).entries
  pub numbers : e.numbers ≡ (own_read_as (own_limit e.own) bytes).numbers

-- What holds of every explainer: all have one limit, and if memory was never refused, what is kept
-- stands for some bytes.
pub record IsSound (e : ExplainerState) : Type 0 where
  pub limit : e.reader.max_lines ≡ e.checker.max_lines
  pub own : own_limit e.own ≡ e.checker.max_lines
  pub low : 1 ≤ e.checker.max_lines
  pub high : e.checker.max_lines ≤ most_lines
  pub somewhere : e.has_failed ≡ false → ∥ ((bytes : List ℕ) × HasTaken e bytes) ∥₁
