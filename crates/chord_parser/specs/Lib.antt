-- ## What callers read

-- what a refusal of tokens says
pub mod Exact
-- what `parse` answers
pub mod Answers
-- what holds of each list of kinds
pub mod Laws
-- how deep programs are nested as trees
pub mod Nesting
-- ## What only the code's own contracts use

-- a reader of tokens that looks one token ahead, and what it reads
pub mod Runs
-- a kind of token of each terminal
pub mod Samples
-- what each function of the parser promises
pub mod Reading
-- precedence climbing: what is read after an operand
pub mod Climbing
-- what the parser of classes keeps of lists and members
pub mod Lists
