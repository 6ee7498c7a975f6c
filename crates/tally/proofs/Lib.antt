-- Why tallying keeps its promise: a pair's rank is found (Finding) and makes a place (PlaceRank), one
-- signal is tallied (Recording), then all (Tallies). Which plans can be tallied (Placeable), and what a caller reads (Regions).
pub mod Finding
pub mod PlaceRank
pub mod Recording
pub mod Tallies
pub mod Placeable
pub mod Regions
