-- Opening and the forms (Forms), framing and opening again (RoundTrip), and how tight the promises are (Tight).
pub mod Forms
pub mod RoundTrip
pub mod Tight
