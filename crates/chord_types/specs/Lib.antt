-- ## What callers read
-- What is answered of a program.
pub mod Answer
-- Chains in memory that are as long as they can be.
pub mod Flat
-- ## What only the code's own contracts use
-- Variables, arguments and what calls name, as they lie in memory.
pub mod Views
-- Where an expression stands, as it lies in memory.
pub mod Sites
-- What a call breaks and gives, by what it names.
pub mod CallKeys
-- What is said of an expression that was looked at.
pub mod Checked
-- What is said of a statement, an item or a block that was looked at.
pub mod StmtChecked
-- What is said of a member that was looked at, and of the parameters that were declared.
pub mod MemberChecked
