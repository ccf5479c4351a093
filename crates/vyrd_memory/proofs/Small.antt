-- Arguments of 32 bits, one by one.
use Rattle.vyrd_memory.proofs.Prelude.{◌≡◌, ◌<◌, ◌^◌, true, arith, nat_tests, Args}
use Rattle.vyrd_memory.specs.Arguments.{are_small}

pub small_a : (args : Args) → are_small args ≡ true → args.a < 2 ^ 32
small_a args small = grind (arith, nat_tests)

pub small_b : (args : Args) → are_small args ≡ true → args.b < 2 ^ 32
small_b args small = grind (arith, nat_tests)

pub small_c : (args : Args) → are_small args ≡ true → args.c < 2 ^ 32
small_c args small = grind (arith, nat_tests)
