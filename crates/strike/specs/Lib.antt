-- What striking promises (Striking), and its parts (Inside).
pub mod Striking
pub mod Inside
