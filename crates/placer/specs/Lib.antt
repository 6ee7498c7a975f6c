-- What placing promises (Placing).
pub mod Placing
