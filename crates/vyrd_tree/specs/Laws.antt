-- What is proved of the procedures of the tree: each is sound, each ends in time, and each
-- correct one that is played alone does what the specification says. The impl in src/progress.rt
-- names these laws. Here and in Laws/ stand proofs alone: no contract says what they define.
pub mod Sound
pub mod Ends
pub mod Alone
use Rattle.std.specs.Prelude.{◌≡◌, ◌-◌, true}
use Rattle.vyrd_base.specs.declared.header.Header.{Header}
use Rattle.vyrd_base.specs.declared.subject.Subject.TheVariants.{Tree}
use Rattle.vyrd_base.specs.Subjects.{subject_of, are_args}
use Rattle.vyrd_memory.specs.declared.op.Op.{Op}
use Rattle.vyrd_memory.specs.declared.op.Variant.{Variant}
use Rattle.vyrd_memory.specs.declared.op.Variant.TheVariants.{Correct}
use Rattle.vyrd_memory.specs.Arguments.{are_small}
use Rattle.vyrd_memory.specs.Soundness.{IsSound, just_called}
use Rattle.vyrd_memory.specs.Bounds.{bound_of, EndsByReturn}
use Rattle.vyrd_memory.specs.Alone.{IsRightAlone}
use Rattle.vyrd_tree.specs.Procedures.{tree_procedure}
use Rattle.vyrd_tree.specs.Laws.Sound.{procedure_sound}
use Rattle.vyrd_tree.specs.Laws.Ends.{procedure_ends}
use Rattle.vyrd_tree.specs.Laws.Alone.{procedure_right_alone}

-- each is sound
pub tree_is_sound : (h : Header) (variant : Variant) (op : Op)
    → h.subject ≡ Tree → subject_of op.method ≡ Tree
    → are_args h.size op.method op.args ≡ true → are_small op.args ≡ true
    → IsSound h (just_called op.method) (tree_procedure h variant op)
tree_is_sound h variant op is of fit small =
    procedure_sound h variant op.method op.args is of small

-- each comes to its return in time
pub tree_ends_in_time : (h : Header) (variant : Variant) (op : Op)
    → h.subject ≡ Tree → subject_of op.method ≡ Tree
    → are_args h.size op.method op.args ≡ true → are_small op.args ≡ true
    → EndsByReturn (bound_of h op.method - 1) (tree_procedure h variant op)
tree_ends_in_time h variant op is of fit small =
    procedure_ends h variant op.method op.args is of

-- each correct one, played alone, does what the specification says
pub tree_is_right_alone : (h : Header) (op : Op)
    → h.subject ≡ Tree → subject_of op.method ≡ Tree
    → are_args h.size op.method op.args ≡ true → are_small op.args ≡ true
    → IsRightAlone h op (tree_procedure h Correct op)
tree_is_right_alone h op is of fit small =
    procedure_right_alone h op.method op.args is of small
