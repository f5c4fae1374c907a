-- The laws of the orders of `Collation` and of the tests of `Name`, which the traits of the code and the crates above cite.
--     Total      each order is total
--     Ties       in each order only equal values tie
--     Tests      each test of `Name` says what the fact beside it says
pub mod Tests
pub mod Total
pub mod Ties
