-- The work area: its regions and what a store does (Work), the table in it (Input), which table that is (Ranks), and what holds
-- of the area while a table is placed (State).
pub mod Work
pub mod Input
pub mod Ranks
pub mod State
