mod KnownBlocked
mod KnownPlaces
mod MomentArrays
mod SaidRows
mod SaidVerdicts
mod SameNames
