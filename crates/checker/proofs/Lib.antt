mod Steps
mod Walks
mod Odds
mod Entries
mod Verdicts
mod Openings
