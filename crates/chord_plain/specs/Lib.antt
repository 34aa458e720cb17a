-- ## What only the code's own contracts use

-- values that are popped, and the slots that are filled with them
pub mod Stacks
-- what one instruction comes to, and where a body stands
pub mod Effects
