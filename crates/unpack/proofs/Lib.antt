-- Why unpacking keeps its promise: chains (Links), starts (Starts), both together (Unpacks); and which table that is (Holding).
pub mod Links
pub mod Starts
pub mod Unpacks
pub mod Holding
