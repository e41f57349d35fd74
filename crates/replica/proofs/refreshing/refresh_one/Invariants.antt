use Rattle.replica.proofs.refreshing.refresh_one.Given as goal

abbrev pub ghosts-put : goal.ghosts-put
ghosts-put g a = record { name = a.blank.name; parts = a.blank.parts }
