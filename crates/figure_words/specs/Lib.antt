pub mod FigureWords
pub mod Runs
