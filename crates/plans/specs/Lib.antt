-- What the box promises, in the terms of document 01. Read in this order.
pub mod Numbers
pub mod Order
pub mod Plan
pub mod Tables
pub mod Covers
pub mod Rows
pub mod LooksGood
