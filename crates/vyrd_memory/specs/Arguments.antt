-- The arguments of a call are numbers of 32 bits.
use Rattle.std.specs.Prelude.{◌^◌, Bool, ◌&&◌, nat_lt}
use Rattle.vyrd_base.specs.declared.subject.Args.{Args}

-- whether each argument is below 2^32
abbrev pub are_small : Args → Bool
are_small args = nat_lt args.a (2 ^ 32) && nat_lt args.b (2 ^ 32) && nat_lt args.c (2 ^ 32)
