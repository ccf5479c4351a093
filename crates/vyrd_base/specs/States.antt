-- The states of a specification.
use Rattle.std.specs.Prelude.{ℕ, List, []}
use Rattle.vyrd_base.specs.Amounts.{Amounts}

-- A state: amounts by key that the words can show, and what is hidden from the words, which is
-- amounts by key, registers and lists.
pub record State : Type 0 where
  pub shown : Amounts
  pub hidden : Amounts
  pub registers : List ℕ
  pub lists : List (List ℕ)

-- the state that shows these amounts and hides nothing
abbrev pub showing : Amounts → State
showing amounts = record { shown = amounts; hidden = []; registers = []; lists = [] }
