pub mod Inputs
pub mod Outputs
pub mod Checks
pub mod Inside
-- what the clauses of public calls cite of crates below
pub use Rattle.vyrd_base.specs.Devices
pub use Rattle.vyrd_log_check.specs.Checking
pub use Rattle.vyrd_log_check.specs.Costs
