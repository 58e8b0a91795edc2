pub mod Answers
pub mod Arms
pub mod States
pub mod Weights
pub mod Kept
pub mod Tied
pub mod Together
