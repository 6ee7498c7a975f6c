-- What the first bytes of an input say (Header), and what opening a block finds by how a block must end (Opening).
pub mod Header
pub mod Opening
