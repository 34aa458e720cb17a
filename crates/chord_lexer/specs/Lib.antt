-- ## What callers read

-- blanks, digits, the letters of names, and runs of bytes
pub mod Letters
-- identifiers: reserved words, and names
pub mod Identifiers
-- numbers
pub mod Numbers
-- text literals, and the bytes that they stand for
pub mod Literals
-- comments
pub mod Comments
-- the bytes of each mark
pub mod Marks
-- tokens, blanks and comments, each as long as it can be
pub mod Pieces
-- what a source reads as, and where it is refused
pub mod Reading
-- which copies of kinds never fail
pub mod Copies
-- ## What only the code's own contracts use

-- what the functions of the scanner say of their answers
pub mod Scanning
