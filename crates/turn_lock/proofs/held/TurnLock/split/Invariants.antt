use Rattle.turn_lock.proofs.held.TurnLock.split.Given as goal

abbrev pub ghosts-split_as : goal.ghosts-split_as
ghosts-split_as g a = record { thread = a.thread }
