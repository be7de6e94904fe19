pub mod Ballots
pub mod Counts
pub mod Starts
pub mod Votes
pub mod Verdicts
