-- What comparing two lines of counts answers.
pub mod Comparing
