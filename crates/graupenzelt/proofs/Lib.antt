-- From the steps' own answers to the replies in C.
pub mod Replies
-- What C may go by in the reply to a whole command: its number.
pub mod Told
