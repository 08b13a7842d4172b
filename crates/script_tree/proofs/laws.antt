-- Laws on this crate's definitions, made for other crates too.
-- a sound script's threads ask only for what its deal has
pub mod Naming
-- parts of conjunctions of tests that hold together
pub mod Conjunctions
-- lines of bytes that are shown are the lines of their text
pub mod PlainLines
-- how a line's pieces begin where it begins with a letter or a digit
pub mod WordPieces
-- what a statement and a block of the code are seen as, by their parts
pub mod SeenParts
-- the canonical layout of a script spells it
pub mod Layouts
