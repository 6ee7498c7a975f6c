-- What every refusal's number has in common.
pub mod Numbers
