-- the outcomes of the code, by their cases
pub mod Outcomes
