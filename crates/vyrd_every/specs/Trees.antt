-- The B-link tree, and what its callers leave to one another. Nodes outlive locks: a caller that
-- walks holds one lock at a time, or none, and goes by what it read. So the proof says of nodes
-- what stays true for good.
--
-- In the order in which it reads best: the tree in the memory (Shapes), what it shows (States),
-- what a caller's locals say and which words it may reach (Locals), the memory that callers see
-- (Seen), what they leave to one another (Others), scripts that do right, whatever the others do
-- (RightScripts), and what holds between any two events (Between). Where they start stands in
-- Starts.
pub mod Shapes
pub mod States
pub mod Locals
pub mod Seen
pub mod Others
pub mod RightScripts
pub mod Between
pub mod Starts
