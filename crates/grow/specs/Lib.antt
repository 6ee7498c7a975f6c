-- What growing promises (Growing), and its parts (Inside).
pub mod Growing
pub mod Inside
