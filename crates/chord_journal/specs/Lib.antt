-- The text of a journal, in the order in which it is to be read.

-- ## What callers read

-- the text of a journal: a header, and a line for each entry
pub mod Text
-- how many entries of each kind a journal has
pub mod Counts
-- what the types of an entry's parts hold of them
pub mod Typed
-- the least line of bytes that keeps them from being the text of a journal
pub mod Wrong
-- entries in any order that are those of a journal
pub mod Gathered
-- ## What only the code's own contracts use

-- reading on lists of bytes, part by part
pub mod Reading
