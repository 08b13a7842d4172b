-- What is so of choices and of what a sweep answers, by their definitions alone.
pub use Rattle.choices.proofs.laws.Factorials.{some-orders}
pub use Rattle.sweep.proofs.Places.{some-power, listed-choice}
pub use Rattle.sweep.proofs.Rows.{length-choices}
pub use Rattle.sweep.proofs.Counts.{sweeps_counted}
