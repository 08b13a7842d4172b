mod Rounds
mod Rows
mod Lasts
mod Fewer
