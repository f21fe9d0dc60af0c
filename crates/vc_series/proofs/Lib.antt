mod Pairs
mod Summing
mod Work
mod Parts
mod StarSteps
mod Loops
mod Arms
mod TermOf
