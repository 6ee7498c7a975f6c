-- The two forms of a block.
pub mod Forms
