-- What effects do to the registers alone, and to the lists alone.
use Rattle.std.specs.Prelude.{ℕ, List, [], ◌∷◌, ◌++◌, slice_set, slice_index_or}
use Rattle.vyrd_base.specs.declared.own.effect.Effect.{Effect}
use Rattle.vyrd_base.specs.declared.own.effect.Effect.TheVariants.{SetRegister, PutLast, PutFirst}
use Rattle.vyrd_base.specs.declared.own.effect.Effect.TheVariants.{TakeFirst, TakeLast, Empty}
use Rattle.vyrd_base.specs.Own.Steps.{without_first, without_last}

abbrev pub registers_with : List ℕ → Effect → List ℕ
registers_with registers (SetRegister i new) = slice_set registers i new
registers_with registers _ = registers

abbrev pub registers_after : List ℕ → List Effect → List ℕ
registers_after registers [] = registers
registers_after registers (effect ∷ effects) =
    registers_after (registers_with registers effect) effects

-- the list of that number; one that isn't there is empty
abbrev pub listed : List (List ℕ) → ℕ → List ℕ
listed lists i = slice_index_or lists i []

abbrev pub lists_with : List (List ℕ) → Effect → List (List ℕ)
lists_with lists (PutLast i new) = slice_set lists i (listed lists i ++ new ∷ [])
lists_with lists (PutFirst i new) = slice_set lists i (new ∷ listed lists i)
lists_with lists (TakeFirst i) = slice_set lists i (without_first (listed lists i))
lists_with lists (TakeLast i) = slice_set lists i (without_last (listed lists i))
lists_with lists (Empty i) = slice_set lists i []
lists_with lists _ = lists

abbrev pub lists_after : List (List ℕ) → List Effect → List (List ℕ)
lists_after lists [] = lists
lists_after lists (effect ∷ effects) = lists_after (lists_with lists effect) effects
