-- Sound scripts: those that keep to the cells of their header, store values below 2^63, give back
-- only the locks that they hold, and leave marks that break no rule of shape. At the beginning and
-- at the end they hold no lock and no execution is open.
use Rattle.std.specs.Prelude.{◌≡◌, ℕ, ◌^◌, Bool, true, false, not, ◌&&◌, ◌||◌, ◌==◌, nat_lt, List}
use Rattle.std.specs.Prelude.{[], ◌∷◌, filter, Option, Some, None, is_some, is_none}
use Rattle.std.specs.List.{list_any}
use Rattle.std.specs.Option.{option_map_or}
use Rattle.vyrd_base.specs.declared.header.Header.{Header}
use Rattle.vyrd_base.specs.declared.subject.Method.{Method}
use Rattle.vyrd_base.specs.declared.log.Kind.{Kind}
use Rattle.vyrd_base.specs.declared.log.Kind.TheVariants.{Call, Return, Write, Commit, BlockOpen}
use Rattle.vyrd_base.specs.declared.log.Kind.TheVariants.{BlockClose, BlockCommit}
use Rattle.vyrd_base.specs.Histories.{cells_of, is_plain, is_lock}
use Rattle.vyrd_base.specs.Subjects.{is_observer, same_subject, subject_of, are_args}
use Rattle.vyrd_memory.specs.declared.act.Act.{Act}
use Rattle.vyrd_memory.specs.declared.act.Act.TheVariants.{Load, Store, Take, Give, Mark, Done}
use Rattle.vyrd_memory.specs.Scripts.{Script, stop, step, IsAnswer}

-- A caller's situation, which is what it is in the middle of: the locks that it holds, the method
-- of its open execution, whether that has committed, and whether a block is open.
pub record Situation : Type 0 where
  pub locks : List ℕ
  pub called : Option Method
  pub committed : Bool
  pub in_block : Bool

-- it is in the middle of nothing
abbrev pub at_rest : Situation
at_rest = record { locks = []; called = None; committed = false; in_block = false }

-- a method was called, and nothing was done yet
abbrev pub just_called : Method → Situation
just_called method =
    record { locks = []; called = Some method; committed = false; in_block = false }

-- whether a list has nothing in it
abbrev pub is_nil : {A : Type 0} → List A → Bool
is_nil [] = true
is_nil (x ∷ xs) = false

-- whether the lock is held
abbrev pub holds : Situation → ℕ → Bool
holds s lock = list_any (λ held. held == lock) s.locks

-- whether an observer's execution is open
abbrev pub observes : Situation → Bool
observes s = option_map_or is_observer s.called false

-- whether no lock is held
abbrev pub holds_none : Situation → Bool
holds_none s = is_nil s.locks

-- whether it is in the middle of nothing
abbrev pub is_at_rest : Situation → Bool
is_at_rest s = holds_none s && is_none s.called && not s.committed && not s.in_block

-- whether a mark may be left
abbrev pub may_mark : Header → Situation → Kind → Bool
may_mark h s (Call method args) =
    same_subject (subject_of method) h.subject && are_args h.size method args && is_at_rest s
may_mark h s (Return reply) =
    is_some s.called && not s.in_block && (observes s || s.committed) && holds_none s
may_mark h s (Write word value) = false
may_mark h s Commit = is_some s.called && not (observes s) && not s.committed && not s.in_block
may_mark h s BlockOpen = is_some s.called && not s.in_block
may_mark h s BlockClose = is_some s.called && s.in_block
may_mark h s BlockCommit = is_some s.called && s.in_block && not (observes s) && not s.committed

-- whether an act may come next
abbrev pub may_act : Header → Situation → Act → Bool
may_act h s (Load cell) = is_plain (cells_of h) cell
may_act h s (Store cell value) =
    is_plain (cells_of h) cell && nat_lt value (2 ^ 63) && is_some s.called
may_act h s (Take lock) = is_lock (cells_of h) lock && not (holds s lock)
may_act h s (Give lock) = is_lock (cells_of h) lock && holds s lock
may_act h s (Mark kind) = may_mark h s kind
may_act h s Done = false

-- what a mark makes of a situation
abbrev pub after_mark : Situation → Kind → Situation
after_mark s (Call method args) = just_called method
after_mark s (Return reply) = at_rest
after_mark s (Write word value) = s
after_mark s Commit =
    record { locks = s.locks; called = s.called; committed = true; in_block = s.in_block }
after_mark s BlockOpen =
    record { locks = s.locks; called = s.called; committed = s.committed; in_block = true }
after_mark s BlockClose =
    record { locks = s.locks; called = s.called; committed = s.committed; in_block = false }
after_mark s BlockCommit =
    record { locks = s.locks; called = s.called; committed = true; in_block = false }

-- what an act makes of a situation
abbrev pub after_act : Situation → Act → Situation
after_act s (Take lock) = record {
  locks = lock ∷ s.locks;
  called = s.called;
  committed = s.committed;
  in_block = s.in_block;
}
after_act s (Give lock) = record {
  locks = filter (λ held. not (held == lock)) s.locks;
  called = s.called;
  committed = s.committed;
  in_block = s.in_block;
}
after_act s (Mark kind) = after_mark s kind
after_act s _ = s

-- Whatever is loaded, each act may come where it comes, a call begins at rest, and the caller is at
-- rest at the end.
abbrev pub IsSound : Header → Situation → Script → Type 0
IsSound h s stop = s ≡ at_rest
IsSound h s (step act rest) = (may_act h s act ≡ true)
    × ((answer : ℕ) → IsAnswer act answer → IsSound h (after_act s act) (rest answer))

-- the script is sound in some situation
abbrev pub IsSoundSomewhere : Header → Script → Type 0
IsSoundSomewhere h script = ∥ ((s : Situation) × IsSound h s script) ∥₁
