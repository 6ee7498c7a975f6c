-- Which table a payload holds (Payload) and which payloads are a table's (Sound); lists of entries and tables made from others
-- (Making); the entries of a table (Listing).
pub mod Payload
pub mod Sound
pub mod Making
pub mod Listing
