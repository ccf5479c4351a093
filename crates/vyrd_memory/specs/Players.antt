-- What a player has before it: the operations that it hasn't begun.
use Rattle.std.specs.Prelude.{ℕ, Bool, ◌&&◌, List, [], ◌∷◌}
use Rattle.std.specs.List.{list_all}
use Rattle.vyrd_base.specs.declared.header.Header.{Header}
use Rattle.vyrd_base.specs.Subjects.{same_subject, subject_of, are_args}
use Rattle.vyrd_memory.specs.declared.op.Op.{Op}
use Rattle.vyrd_memory.specs.Arguments.{are_small}
use Rattle.vyrd_memory.specs.Bounds.{bound_of}

-- whether an operation may be called: the method is of the header's subject, and its arguments are
-- in range
abbrev pub is_callable : Header → Op → Bool
is_callable h op = same_subject (subject_of op.method) h.subject
    && are_args h.size op.method op.args && are_small op.args

-- whether all may be called
abbrev pub are_callable : Header → List Op → Bool
are_callable h ops = list_all (is_callable h) ops

-- the bound of the next operation, and 0 if there is none
abbrev pub first_bound : Header → List Op → ℕ
first_bound h [] = 0
first_bound h (op ∷ ops) = bound_of h op.method
