pub mod Listing
pub mod Mixing
pub mod Laying
