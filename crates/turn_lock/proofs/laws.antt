-- Laws on this crate's definitions, made for other crates too.
-- how what several have seen of one book stands to each other
pub mod SeenBooks
-- who owes a post, by what a lawful book knows
pub mod Standings
-- which threads a seat serves, after a cut and after a join
pub mod Serving
-- whether a thread is among the first ones
pub mod FirstThreads
-- a thread that a seat serves is one of the book's
pub mod SeatedThreads
-- what a post and a turn do to a book, and so to the seat that made them
pub mod Growth
-- what may cross threads
pub mod Crossing
