-- What the roll gives its callers, in the order in which it is to be read.

-- ## What callers read

-- a card as clauses see it
pub mod Cards
-- the rule of the roll, and what each step makes of a card
pub mod Roll
-- what the rule says of who is at work
pub mod Laws
