-- Lists with two ends, and how many more each has room for.
use Rattle.std.specs.Prelude.{◌≡◌, ℕ, Bool, true, false, ◌==◌, ◌<◌, ◌≤◌, List, [], length}
use Rattle.std.specs.Prelude.{slice_index_or}
use Rattle.std.specs.List.{list_any}
use Rattle.vyrd_base.specs.declared.own.effect.Effect.{Effect}
use Rattle.vyrd_base.specs.declared.own.effect.Effect.TheVariants.{PutLast, PutFirst}

pub record Queued : Type 0 where
  pub items : List ℕ
  pub room : ℕ

-- the list of that number; one that isn't there is empty
abbrev pub no_queue : Queued
no_queue = record { items = []; room = 0 }

abbrev pub queue_at : List Queued → ℕ → Queued
queue_at lists i = slice_index_or lists i no_queue

-- whether the list of that number gets something
abbrev pub puts_in : ℕ → Effect → Bool
puts_in i (PutLast j new) = i == j
puts_in i (PutFirst j new) = i == j
puts_in i _ = false

-- the lists that get something have room for so many
abbrev pub HaveRoom : List Queued → List Effect → ℕ → Type 0
HaveRoom lists effects n = (i : ℕ) → list_any (puts_in i) effects ≡ true → i < length lists
    → n ≤ (queue_at lists i).room
