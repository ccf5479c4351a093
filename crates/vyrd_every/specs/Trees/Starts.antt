-- Where the callers of the correct tree start.
use Rattle.std.specs.Prelude.{◌≡◌, ◌==◌}
use Rattle.vyrd_base.specs.declared.subject.Subject.TheVariants.{Tree}
use Rattle.vyrd_memory.specs.declared.op.Variant.TheVariants.{Correct}
use Rattle.vyrd_work.specs.Workloads.{Workload}
use Rattle.vyrd_every.specs.Trees.Shapes.{Shape}

-- the structure is a B-link tree, in its correct variant
pub record IsCorrectTree (w : Workload) : Type 0 where
  pub subject : w.header.subject ≡ Tree
  pub variant : w.variant ≡ Correct

-- Node 0 alone is linked. It is a leaf, and the root.
abbrev pub first_shape : Shape
first_shape = record { linked = λ n. n == 0; low = λ n. 0; top = 0 }
