-- THE STEPS of the definitions, one law for each case.
pub mod Move
pub mod Plain
pub mod Remember
pub mod Refusal
-- THE MATHEMATICS: common endings, one window, the potential, and the whole scan.
pub mod Run
pub mod Ending
pub mod Free
pub mod Visits
-- every occurrence is reported, and nothing else
pub mod Occurrences
-- those at multiples of a step: how many, and the first
pub mod Steps
-- each window tells the true number of equal bytes; the closest window
pub mod Closeness
-- THE CODE'S LOOPS: what they keep while they run.
pub mod Hits
pub mod Going
pub mod Slots
pub mod Passes
pub mod Loops
-- from what a search gives to what its call promises
pub mod Search
-- equal inputs, equal outcomes
pub mod Determined
