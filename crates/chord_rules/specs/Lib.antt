-- ## What callers read
-- The groups of a class, computed: each method has a label.
pub mod Groups
-- Where a class overrides a group in part, as a list.
pub mod Splits
-- The rules that a layout rests on, and why a program has none.
pub mod Family
-- What a class breaks, each break as one number.
pub mod ClassKeys
-- ## What only the code's own contracts use
-- The rule on constructors, member by member.
pub mod Constructors
-- The names of parameters.
pub mod FormalNames
-- The rule on modifiers, modifier by modifier.
pub mod Bearers
-- The headers of a class that lie in memory.
pub mod FirstHeaders
-- The limits, header by header.
pub mod Limits
-- The methods that are new in a class, header by header.
pub mod Growing
-- The labels of all methods as a list.
pub mod Labels
-- The rule on groups, header by header.
pub mod SplitHeaders
-- The plan of a class, part by part.
pub mod Planning
-- The rule on `Main`, header by header.
pub mod Mains
-- The one pass over the classes: one more class.
pub mod Passing
