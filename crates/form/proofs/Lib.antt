pub mod Digits
pub mod Back
pub mod Canon
pub mod Room
pub mod Cases
pub mod Packed
pub mod Answers
