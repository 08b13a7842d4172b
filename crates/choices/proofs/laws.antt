-- Laws on the lists of choices and on moments, made for other crates too: each speaks of
-- definitions alone.
-- each listed order is an order, and each order is listed
pub mod OrderLists
-- where every order that places a thread last is led to a verdict, so many choices lead to it
pub mod Counts
-- each order, and each list of points, stands at one place of its list
pub mod ListedOnce
-- how many orders there are, and that more threads have no fewer
pub mod Factorials
-- a run has no more moments than points
pub mod FewMoments
