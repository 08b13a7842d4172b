-- Laws on this crate's definitions, made for other crates too.
-- one piece appended after another, and the prefix of a piece that was put
pub mod Pieces
-- the same of streams that gather what is put
pub mod Puts
