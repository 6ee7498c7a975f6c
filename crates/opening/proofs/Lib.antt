-- Reading a header: digits (Digits), and what each answer means (Reading). How a block must end (Ending).
pub mod Digits
pub mod Reading
pub mod Ending
