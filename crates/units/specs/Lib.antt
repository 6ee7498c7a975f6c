-- Counts of bytes and entries (Units), how large a table may be (Limits), and every refusal (Refusals).
pub mod Units
pub mod Limits
pub mod Refusals
