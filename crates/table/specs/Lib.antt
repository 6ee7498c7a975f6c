-- What checking answers (Checking); and inside, what judging one entry answers (Judging).
pub mod Checking
pub mod Judging
