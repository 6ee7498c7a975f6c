-- Why comparing meets its promise (Compared), and how tight that promise is (Tight).
pub mod Compared
pub mod Tight
