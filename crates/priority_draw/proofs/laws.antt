-- Laws on this crate's definitions, made for other crates too.
-- places in bounds give an order, and each order has one list of places
pub mod Orders
-- the places that a seed draws are in bounds
pub mod Draws
