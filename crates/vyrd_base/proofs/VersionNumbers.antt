-- Which versions there are, as tests of numbers.
use Rattle.vyrd_base.proofs.Prelude.{◌≡◌, ℕ, ◌||◌, ◌==◌, nat_tests, arith, is_known_version}

pub known_versions : (version : ℕ) → is_known_version version ≡ (version == 1 || version == 2)
known_versions version = grind (arith, nat_tests)
