use Rattle.master_work.proofs.tags.end_tags.Given as goal

abbrev pub ghosts-end_in : goal.ghosts-end_in
ghosts-end_in a = record { name = a.blank.name; parts = a.blank.parts }
