-- ## What callers read
-- The classes of a program: their bases, their methods with the inherited ones, and their constructors.
pub mod Table
-- Written types and what they stand for; the signatures of a program's methods and constructors.
pub mod Types
-- Where a text stands: the classes, the body that it is of, and what is in scope.
pub mod Site
-- An expression with the static types of its parts.
pub mod TypedTerms
-- The rules on names at an expression.
pub mod NameRules
-- The rule on types at an expression.
pub mod TypeRules
-- The static type of an expression: none where a rule on names or types is broken in it.
pub mod Typed
-- The rules on names and types at a statement and at a member.
pub mod ItemRules
-- The rules on headers of one name.
pub mod OverrideRules
-- The bodies of a program with all names resolved.
pub mod Resolve
-- The plan of a program.
pub mod Plan
-- The rules on chords, constructors, `Main` and limits.
pub mod ChordRules
-- The rules on declarations, modifiers and groups.
pub mod DeclarationRules
-- When a program breaks a rule at a token.
pub mod Rules
-- The break of a program: the least token at which a rule is broken, then the least rule.
pub mod Breaks
-- Breaks as numbers, and the least of those that are noted.
pub mod Least
-- All rules on names and types, noted on one walk.
pub mod AllNotes
-- What holds of programs that break none of the rules.
pub mod Laws
-- What methods and constructors in memory stand for.
pub mod MethodViews
-- ## What only the code's own contracts use
-- The first places of names.
pub mod NamePlaces
-- What the table in memory keeps of the shapes of classes.
pub mod Entries
-- Versions of a map from numbers to numbers, by their forks.
pub mod Forks
-- In which class a method is new, and what the table in memory keeps to find it.
pub mod Owned
