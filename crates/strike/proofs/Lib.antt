-- Why striking keeps its promise: one list (Thinning), then all signals and channels (Strikes).
pub mod Thinning
pub mod Strikes
