-- Why preparing (Ready) and entering keep their promise: the room that is left (Waiting), one pair (Joined), a rank's chain (Chain).
pub mod Ready
pub mod Waiting
pub mod Joined
pub mod Chain
