-- What the box promises of a whole command: which payloads answer a payload (Answers), what every input comes to (Handling), and
-- in what two results that keep the promise agree (Tightness). Inside has what only proofs use.
pub mod Answers
pub mod Handling
pub mod Tightness
pub mod Inside
