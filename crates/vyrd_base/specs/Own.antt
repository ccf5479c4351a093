-- Specifications of a user's own, as a text in front of a log: what such a text spells, and what
-- that says of calls, of states and of words.
--
-- In the order in which it reads best: expressions and their values (Expressions), a specification
-- as it is written (Programs), what it says of a call, of the start and of words (Steps), and the
-- rules that it gives (OwnRules). Then its text: how an expression is spelled (Spelling) and read
-- (Reading), what a line says and adds (Lines), names (Names), the pieces of a line (Pieces), lines
-- outside methods (Outer), of a method (Methods) and of a case (Changes), and all lines of a text,
-- one after the other (Reader). A sample is in Samples. What is known of such a subject without its
-- specification is in Subject.
pub mod Expressions
pub mod Programs
pub mod Steps
pub mod OwnRules
pub mod Spelling
pub mod Reading
pub mod Lines
pub mod Names
pub mod Pieces
pub mod Outer
pub mod Methods
pub mod Changes
pub mod Reader
pub mod Samples
pub mod Subject
pub mod Entries
pub mod Log
pub mod LogVerdicts
