-- What is proved of the procedures of string buffers: each is sound, each ends in time, and each
-- correct one that is played alone does what the specification says. The impl in src/progress.rt
-- names these laws. Here and in Laws/ stand proofs alone: no contract says what they define.
pub mod Sound
pub mod Ends
pub mod Alone
use Rattle.std.specs.Prelude.{◌≡◌, ◌-◌, true}
use Rattle.vyrd_base.specs.declared.header.Header.{Header}
use Rattle.vyrd_base.specs.declared.subject.Subject.TheVariants.{Buffers}
use Rattle.vyrd_base.specs.Subjects.{subject_of, are_args}
use Rattle.vyrd_memory.specs.declared.op.Op.{Op}
use Rattle.vyrd_memory.specs.declared.op.Variant.{Variant}
use Rattle.vyrd_memory.specs.declared.op.Variant.TheVariants.{Correct}
use Rattle.vyrd_memory.specs.Arguments.{are_small}
use Rattle.vyrd_memory.specs.Soundness.{IsSound, just_called}
use Rattle.vyrd_memory.specs.Bounds.{bound_of, EndsByReturn}
use Rattle.vyrd_memory.specs.Alone.{IsRightAlone}
use Rattle.vyrd_buffers.specs.Procedures.{buffers_procedure}
use Rattle.vyrd_buffers.specs.Laws.Sound.{procedure_sound}
use Rattle.vyrd_buffers.specs.Laws.Ends.{procedure_ends}
use Rattle.vyrd_buffers.specs.Laws.Alone.{procedure_right_alone}

-- each is sound
pub buffers_are_sound : (h : Header) (variant : Variant) (op : Op)
    → h.subject ≡ Buffers → subject_of op.method ≡ Buffers
    → are_args h.size op.method op.args ≡ true → are_small op.args ≡ true
    → IsSound h (just_called op.method) (buffers_procedure h variant op)
buffers_are_sound h variant op is of fit small =
    procedure_sound h variant op.method op.args is of fit small

-- each comes to its return in time
pub buffers_end_in_time : (h : Header) (variant : Variant) (op : Op)
    → h.subject ≡ Buffers → subject_of op.method ≡ Buffers
    → are_args h.size op.method op.args ≡ true → are_small op.args ≡ true
    → EndsByReturn (bound_of h op.method - 1) (buffers_procedure h variant op)
buffers_end_in_time h variant op is of fit small =
    procedure_ends h variant op.method op.args is of

-- each correct one, played alone, does what the specification says
pub buffers_are_right_alone : (h : Header) (op : Op)
    → h.subject ≡ Buffers → subject_of op.method ≡ Buffers
    → are_args h.size op.method op.args ≡ true → are_small op.args ≡ true
    → IsRightAlone h op (buffers_procedure h Correct op)
buffers_are_right_alone h op is of fit small =
    procedure_right_alone h op.method op.args is of fit small
