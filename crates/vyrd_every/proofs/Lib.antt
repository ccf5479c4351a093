mod Prelude
-- single acts do right, and scripts one after the other
mod Relies
mod Acts
mod Followed
-- and some steps don't
mod Refused
-- the procedures of the three structures that locks guard do right
mod Multisets
mod Caches
mod Buffers
-- one more event keeps the invariant
mod Logs
mod Raw
mod Ones
mod Answered
mod NextEvent
-- which is all that the rest asks for
mod Keeping
mod Kept
-- the same for the tree
mod Trees
-- so it holds after every event, and no entry of the log is a fault
mod Coming
mod Reached
mod VerdictStates
mod Judged
mod Accepted
-- nobody waits in a circle
mod Unstuck
-- the laws
pub mod Workloads
-- a run by turns ends or gets stuck, and one that ends is a schedule
mod Ending
mod Interleaved
