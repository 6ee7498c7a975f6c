pub mod Answer
pub mod Writing
