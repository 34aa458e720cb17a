-- ## What callers read
-- what frames stand for, what they ask, and what room they have
pub mod Frames
