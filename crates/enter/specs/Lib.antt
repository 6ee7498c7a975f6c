-- What preparing and entering promise (Entering), and what becomes of one pair (Inside).
pub mod Entering
pub mod Inside
