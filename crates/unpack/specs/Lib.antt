-- What unpacking promises (Unpacking), and its parts (Inside).
pub mod Unpacking
pub mod Inside
