-- Why a whole command is answered as it must be: parts of the work area (Held), what is known of answers (Answers), a payload's table
-- solved and its answer written (Solving), and the rows in their order (Deciding). Tight and FixedPlan say what the promise fixes and
-- which programs it rules out, Laws how the counts in the answers stand to each other.
pub mod Held
pub mod Answers
pub mod Solving
pub mod Deciding
pub mod Tight
pub mod FixedPlan
pub mod Laws
