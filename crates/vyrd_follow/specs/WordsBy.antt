-- The words of a built-in structure by its header, and what is kept of them.
use Rattle.std.specs.Prelude.{◌≡◌, ℕ, true, List, length, Option, IfSome}
use Rattle.vyrd_base.specs.declared.header.Header.{Header}
use Rattle.vyrd_base.specs.Amounts.{Amounts}
use Rattle.vyrd_base.specs.Layout.{plain_words}
use Rattle.vyrd_base.specs.Subjects.{is_built_in}
use Rattle.vyrd_base.specs.Views.{view_of_words}

-- a header, and the words
pub record WordsBy : Type 0 where
  pub header : Header
  pub words : List ℕ

-- they are those of a structure that is built in, and the amounts that are kept are what they show
pub record AreShown (header : Header) (words : List ℕ) (kept : Option Amounts) : Type 0 where
  pub built_in : is_built_in header.subject ≡ true
  pub count : length words ≡ plain_words header
  pub shown : IfSome kept (λ amounts. amounts ≡ view_of_words header words)
