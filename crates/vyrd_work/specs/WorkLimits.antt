-- The limits of a workload: its operations fit the header, and neither they nor the turns are too
-- many.
use Rattle.std.specs.Prelude.{◌≡◌, ◌≤◌, Bool, true, ◌&&◌, nat_lt, nat_le, length}
use Rattle.std.specs.List.{AllByRecursion}
use Rattle.vyrd_base.specs.declared.header.Header.{Header}
use Rattle.vyrd_base.specs.Subjects.{subject_of, same_subject, are_args}
use Rattle.vyrd_memory.specs.declared.op.Turn.{Turn}
use Rattle.vyrd_work.specs.declared.work.WorkOp.{WorkOp}
use Rattle.vyrd_work.specs.Workloads.{Workload, most_turn_lines, most_turns}
use Rattle.vyrd_memory.specs.Arguments.{are_small}
use Rattle.vyrd_memory.specs.Bounds.{most_ops}
use Rattle.vyrd_work.specs.WorkReading.{turns_in}

-- whether the caller is below the header's callers, the method is of its subject, and the arguments
-- are the method's and in range
abbrev pub is_op_of : Header → WorkOp → Bool
is_op_of h o = nat_lt o.caller h.callers
    && (same_subject (subject_of o.op.method) h.subject && are_args h.size o.op.method o.op.args)

-- whether the caller is below the header's callers, and there are from 1 to 4,000,000 turns
abbrev pub is_turn_of : Header → Turn → Bool
is_turn_of h t = nat_lt t.caller h.callers && (nat_le 1 t.count && nat_le t.count most_turns)

-- the workload keeps the limits: its runs leave logs of version 1, and so its structure is built in
pub record KeepsLimits (w : Workload) : Type 0 where
  pub version : w.header.version ≡ 1
  pub ops : AllByRecursion (λ o. is_op_of w.header o ≡ true) w.ops
  pub args : AllByRecursion (λ o. are_small o.op.args ≡ true) w.ops
  pub turns : AllByRecursion (λ t. is_turn_of w.header t ≡ true) w.turns
  pub op_count : length w.ops ≤ most_ops
  pub turn_count : length w.turns ≤ most_turn_lines
  pub turn_sum : turns_in w.turns ≤ most_turns
