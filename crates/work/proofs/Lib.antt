-- Why a store changes one number alone (Area), and what of the table (Input, Ranks) and of lists and mates (State) is carried over
-- where regions are unchanged.
pub mod Area
pub mod Input
pub mod Ranks
pub mod State
