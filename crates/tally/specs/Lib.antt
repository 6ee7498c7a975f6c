-- What tallying promises (Tallying), and its parts (Inside).
pub mod Tallying
pub mod Inside
