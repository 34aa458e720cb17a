-- The top call, in the order in which it is to be read: first what each status says, then the words that it is said in.

-- ## What callers read

-- the statuses one by one
pub mod Rows
-- the headline
pub mod Answers
-- what is due for a source: a status and a text
pub mod Due
-- the closed table of a run that workers made
pub mod Tables
-- what one call reads and writes
pub mod Written
-- what the arguments of the command line request
pub mod Command
-- what some lists of words request
pub mod Examples
-- the source that `load` makes from a number
pub mod Load
-- which sources are accepted, and what the join machine of each is
pub mod Sources
-- why a source is refused, and the line that says so
pub mod Refusals
-- the line and the column of a byte
pub mod Positions
-- how a body of a join machine begins, how its asks may be answered, and when it has come to its end
pub mod BodyEnds
-- what holds of each source, of its join machine, of the journal of each report, and of what programs spell
pub mod Laws
-- ## What only the code's own contracts use

-- what is found of a program: its code, or its first break
pub mod Compiled
-- what the private functions of the top call report
pub mod Reports
