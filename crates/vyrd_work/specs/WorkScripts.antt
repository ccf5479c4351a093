-- The scripts of a workload: each caller does its operations in their order, by the procedures of
-- the structure.
use Rattle.std.specs.Prelude.{ℕ, ◌==◌, List, map, filter_map, Option, Some, None, if◌then◌else◌}
use Rattle.vyrd_base.specs.declared.header.Header.{Header}
use Rattle.vyrd_base.specs.declared.subject.Subject.{Subject}
use Rattle.vyrd_base.specs.declared.subject.Subject.TheVariants.{Multiset, Cache, Tree, Buffers}
use Rattle.vyrd_base.specs.declared.subject.Subject.TheVariants.{Own}
use Rattle.vyrd_base.specs.Places.{numbers_below}
use Rattle.vyrd_memory.specs.declared.op.Op.{Op}
use Rattle.vyrd_memory.specs.declared.op.Variant.{Variant}
use Rattle.vyrd_memory.specs.Scripts.{Script, stop, operations}
use Rattle.vyrd_multiset.specs.Procedures.{multiset_procedure}
use Rattle.vyrd_cache.specs.Procedures.{cache_procedure}
use Rattle.vyrd_tree.specs.Procedures.{tree_procedure}
use Rattle.vyrd_buffers.specs.Procedures.{buffers_procedure}
use Rattle.vyrd_work.specs.declared.work.WorkOp.{WorkOp}
use Rattle.vyrd_work.specs.Workloads.{Workload}

-- the operation, if it is the caller's
abbrev pub op_by : ℕ → WorkOp → Option Op
op_by c o = if o.caller == c then Some o.op else None

-- the operations of a caller, in their order
abbrev pub ops_of : ℕ → List WorkOp → List Op
ops_of c ops = filter_map (op_by c) ops

-- the procedure of an operation, by the structure; the user's own has none here
abbrev pub procedure_in : Subject → Header → Variant → Op → Script
procedure_in Multiset h variant op = multiset_procedure h variant op
procedure_in Cache h variant op = cache_procedure h variant op
procedure_in Tree h variant op = tree_procedure h variant op
procedure_in Buffers h variant op = buffers_procedure h variant op
procedure_in Own h variant op = stop

-- the script of a caller
abbrev pub work_script : Workload → ℕ → Script
work_script w c = operations (procedure_in w.header.subject w.header w.variant) (ops_of c w.ops)

-- the scripts of all callers
abbrev pub work_scripts : Workload → List Script
work_scripts w = map (work_script w) (numbers_below w.header.callers)
