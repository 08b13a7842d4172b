-- Laws on this crate's definitions, made for other crates too.
-- the greatest number that passes a test, and ranks by indices that agree
pub mod Positions
-- each index is given at one step at most, by change points and by moments
pub mod GivenOnce
-- a thread that was lowered has a lower rank than each that wasn't
pub mod LoweredBelow
-- a list with a wrong place is no order, and each thread's place is one of the order's
pub mod Orders
-- a list of numbers below its length, none twice, is an order
pub mod WholeOrders
-- a list that is known to be an order is one
pub mod KnownOrders
