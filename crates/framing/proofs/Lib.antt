-- A header written (Written), and a payload framed (Framed).
pub mod Written
pub mod Framed
