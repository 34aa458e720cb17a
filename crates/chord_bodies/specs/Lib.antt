-- ## What callers read
-- Resolved programs as values: expressions, statements, bodies, and the plan.
pub mod Resolved
-- What expressions, statements and plans in memory stand for.
pub mod View
-- What a body in memory stands for.
pub mod BodyView
-- When expressions, statements and bodies keep to their static types.
pub mod Types
-- What sound code needs of a plan.
pub mod Planned
-- What an expression shows of its type, and which scopes are those of a body.
pub mod Laws
-- ## What only the code's own contracts use
-- What the last operator and the last call of a chain give.
pub mod Chains
