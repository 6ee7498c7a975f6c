-- What framing a payload answers and leaves in the lent area.
pub mod Framing
