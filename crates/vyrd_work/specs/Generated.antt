-- The workload of this many operations, for each of which a number is drawn, one after the other.
use Rattle.std.specs.Prelude.{ℕ, zero, suc, ◌+◌, ◌*◌, ◌/◌, ◌%◌, ◌==◌, nat_lt, List, [], ◌∷◌, refl}
use Rattle.std.specs.Prelude.{if◌then◌else◌}
use Rattle.vyrd_base.specs.declared.header.Header.{Header}
use Rattle.vyrd_base.specs.declared.subject.Subject.TheVariants.{Multiset}
use Rattle.vyrd_base.specs.declared.subject.Method.TheVariants.{Multiset as OfMultiset}
use Rattle.vyrd_base.specs.declared.multiset.MultisetMethod.TheVariants.{Insert, InsertPair, Delete}
use Rattle.vyrd_base.specs.declared.multiset.MultisetMethod.TheVariants.{Lookup}
use Rattle.vyrd_memory.specs.declared.op.Op.{Op}
use Rattle.vyrd_memory.specs.declared.op.Variant.TheVariants.{Correct}
use Rattle.vyrd_work.specs.declared.work.WorkOp.{WorkOp}
use Rattle.vyrd_work.specs.Workloads.{Workload}

-- the number after x
abbrev pub next_draw : ℕ → ℕ
next_draw x = (x * 1103515245 + 12345) % 2147483648

-- the upper bits of a number, from which the operation is taken
abbrev pub upper : ℕ → ℕ
upper x = x / 65536

-- Of eight operations three insert a value, one inserts a pair, two delete and two look up. A
-- remainder by 8 says which.
abbrev pub op_for : ℕ → ℕ → ℕ → Op
op_for kind v w =
    if nat_lt kind 3 then record {
      method = OfMultiset Insert;
      args = record { a = v; b = 0; c = 0 };
    }
    else (if kind == 3 then record {
      method = OfMultiset InsertPair;
      args =
          record { a = v; b = w; c = 0 };
    }
    else (if nat_lt kind 6 then record {
      method = OfMultiset Delete;
      args =
          record { a = v; b = 0; c = 0 };
    }
    else record { method = OfMultiset Lookup; args = record { a = v; b = 0; c = 0 } }))

-- the operation for the upper bits
abbrev pub op_from : ℕ → Op
op_from a = op_for (a % 8) ((a / 8) % 256) (a / 2048)

-- operation i, for its number
abbrev pub work_op_from : ℕ → ℕ → WorkOp
work_op_from i x = record { caller = i % 4; op = op_from (upper x) }

-- this many operations from operation i on, after the number x
abbrev pub ops_from : ℕ → ℕ → ℕ → List WorkOp
ops_from zero i x = []
ops_from (suc left) i x = work_op_from i (next_draw x) ∷ ops_from left (i + 1) (next_draw x)

-- a multiset of 64 buckets with 4 callers
abbrev pub generated_header : Header
generated_header = record { version = 1; subject = Multiset; size = 64; callers = 4; within = refl }

-- the workload of n operations; the first number is that after n
unfoldable pub generated : ℕ → Workload
generated n =
    record { header = generated_header; variant = Correct; ops = ops_from n 0 n; turns = [] }
