-- Why growing keeps its promise: searching (Tree, Reaching), flipping and clearing (Flips), and all roots (Grown).
pub mod Tree
pub mod Reaching
pub mod Flips
pub mod Grown
