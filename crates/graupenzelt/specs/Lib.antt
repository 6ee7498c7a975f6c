-- What the C functions give.
pub mod Exports
pub mod Tightness
