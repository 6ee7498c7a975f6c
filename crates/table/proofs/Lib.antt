-- Why checking answers as it should: the tests of one entry (Tests), each way through a check (Rows), the entries in turn (Judging),
-- what acceptance means (Acceptance), and that no other answer meets the promise (Tight).
pub mod Tests
pub mod Rows
pub mod Acceptance
pub mod Judging
pub mod Tight
