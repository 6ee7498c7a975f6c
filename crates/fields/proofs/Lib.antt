pub mod Numbers
pub mod Bits
pub mod Reading
pub mod Writing
pub mod Packing
