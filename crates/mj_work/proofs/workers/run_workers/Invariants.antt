use Rattle.mj_work.proofs.workers.run_workers.Given as goal

abbrev pub ghosts-together-J-Work : goal.ghosts-together-J-Work
ghosts-together-J-Work g a = record { image = a.image.now; before = a.system.claimed; events = a.image.now.bounds.events }

abbrev pub ghosts-together-J-Ledger : goal.ghosts-together-J-Ledger
ghosts-together-J-Ledger g a = record { name = a.blank.name; parts = a.blank.parts }
