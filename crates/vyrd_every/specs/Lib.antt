-- What is claimed:
pub mod Schedules
-- Samples of it:
pub mod Interleaved
-- How it is proved, in the order in which it reads best:
pub mod Structures
pub mod Guarded
pub mod Locals
pub mod Others
pub mod RightScripts
pub mod Between
-- The tree, with definitions of its own on the same plan:
pub mod Trees
