-- Specifications whose methods the entries of a log can call. Each that is read from a text is one.
use Rattle.std.specs.Prelude.{◌==◌, Bool, not, ◌&&◌, nat_le, List, length}
use Rattle.std.specs.List.{list_all}
use Rattle.vyrd_base.specs.Own.Programs.{Method}

-- whether a method has at most 3 parameters and a name of at most 32 bytes, none of them a space or
-- a line feed
abbrev pub is_callable : Method → Bool
is_callable m = nat_le m.arity 3 && nat_le (length m.name) 32
    && list_all (λ b. not (b == 32)) m.name && list_all (λ b. not (b == 10)) m.name

-- whether all of at most 64 methods are such
abbrev pub are_callable : List Method → Bool
are_callable methods = nat_le (length methods) 64 && list_all is_callable methods
