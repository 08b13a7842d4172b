-- A moment as numbers (this project's coding).
use Rattle.rank_now.specs.declared.moment.Moment.{Moment}
use Rattle.c_values.specs.declared.moment.PctMoment.{PctMoment}

-- the moment that the numbers say
abbrev pub moment_said : PctMoment → Moment
moment_said n = record { thread = n.thread; number = n.number }

-- the numbers of a moment
abbrev pub moment_numbers : Moment → PctMoment
moment_numbers moment = record { thread = moment.thread; number = moment.number }
