-- Which table a payload holds: what is read from it (Parts), its entries (Ascending, Entries), that it is the table of one payload
-- only (OnePayload for lists of entries, Listing and OneTable for tables), and tables made from others (Cutting, Joining, Making).
pub mod Parts
pub mod Ascending
pub mod Entries
pub mod OnePayload
pub mod Listing
pub mod OneTable
pub mod Cutting
pub mod Joining
pub mod Making
