use Rattle.shm_watch.proofs.telling.tell.Given as goal

abbrev pub ghosts-tell_by : goal.ghosts-tell_by
ghosts-tell_by g a = record { trace = a.trace.now }
