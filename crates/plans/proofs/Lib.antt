-- What is proved of best plans. The main results stand at the end of their files; docs/PROVED.md lists them by name.
pub mod Sums
pub mod Order
pub mod Counting
pub mod BestCounts
pub mod Covers
pub mod FailedSearch
pub mod Pick
pub mod Cut
pub mod Beside
pub mod OneMore
pub mod Laws
pub mod SameTables
pub mod Ways
pub mod Rows
pub mod LooksGood
