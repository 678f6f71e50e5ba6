mod Histories
mod Moves
