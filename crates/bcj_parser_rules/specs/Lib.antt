-- what must be believed: tokens, the grammar, the constructs that are left out, and what an answer says of a text
pub mod Lexemes
pub mod Levels
pub mod Limits
pub mod Grammar
pub mod Marks
pub mod LeftOut
pub mod Texts
-- the parser as a function, which laws tie to these
pub mod function
