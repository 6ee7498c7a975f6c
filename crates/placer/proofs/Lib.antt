-- Why placing keeps its promise: what the rank loop knows (Standing) and what each step gives it (StandingEntered, StandingGrown,
-- StandingStruck, StandingQuiet), the plan and its certificate (PlanOfMates, PlacedAtEnd), the loop (Loop), and best (Best).
pub mod Standing
pub mod StandingEntered
pub mod StandingGrown
pub mod PlanOfMates
pub mod StandingStruck
pub mod StandingQuiet
pub mod PlacedAtEnd
pub mod Loop
pub mod Best
