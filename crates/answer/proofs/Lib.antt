-- Why the answer's bytes are those of the plan: the bytes of small groups of fields (Bytes), writing them one after the other
-- (Splicing, Written), reading them back (Reading), and what the counts and places of a plan make (Answered). Example is document 01's own.
pub mod Bytes
pub mod Twos
pub mod Splicing
pub mod Written
pub mod Reading
pub mod Answered
pub mod Example
