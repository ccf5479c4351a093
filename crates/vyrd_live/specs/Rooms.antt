-- Room for operations. A caller's events are limited in all, so an operation begins only if all
-- events up to its bound have room.
use Rattle.std.specs.Prelude.{ℕ, ◌+◌, ◌<◌, ◌≤◌, ⊤, List, [], ◌∷◌, length}
use Rattle.vyrd_base.specs.declared.header.Header.{Header}
use Rattle.vyrd_base.specs.declared.log.Kind.TheVariants.{Call}
use Rattle.vyrd_base.specs.declared.history.Did.{Did}
use Rattle.vyrd_base.specs.declared.history.Did.TheVariants.{Marked}
use Rattle.vyrd_memory.specs.declared.act.Act.{Act}
use Rattle.vyrd_memory.specs.declared.act.Act.TheVariants.{Mark}
use Rattle.vyrd_memory.specs.Scripts.{Script, next_act, left_after, Plays}
use Rattle.vyrd_memory.specs.Bounds.{bound_of}

-- An event that begins an operation, after this many events of its caller, leaves room for the
-- operation's bound. Any other event asks for nothing.
abbrev pub BeginsWithRoom : Header → ℕ → ℕ → Did → Type 0
BeginsWithRoom h limit before (Marked (Call method args)) = before + bound_of h method ≤ limit
BeginsWithRoom h limit before _ = ⊤

-- each operation of a caller began with room; the newest event stands first
abbrev pub HadRoom : Header → ℕ → List Did → Type 0
HadRoom h limit [] = ⊤
HadRoom h limit (did ∷ earlier) =
    BeginsWithRoom h limit (length earlier) did × HadRoom h limit earlier

-- the act begins an operation whose bound has no room after this many events of its caller
abbrev pub HasNoRoom : Header → ℕ → ℕ → Act → Type 0
HasNoRoom h limit before (Mark (Call method args)) = limit < before + bound_of h method
HasNoRoom h limit before _ = ⊥

-- The caller stopped between two operations: its events, the newest first, are what the script
-- wants, and the operation that comes next has no room.
pub record StopsForRoom (h : Header) (limit : ℕ) (script : Script)
    (events : List Did) : Type 0 where
  pub plays : Plays script events
  pub no_room : HasNoRoom h limit (length events) (next_act (left_after script events))
