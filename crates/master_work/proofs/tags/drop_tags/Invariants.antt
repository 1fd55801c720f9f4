use Rattle.master_work.proofs.tags.drop_tags.Given as goal

abbrev pub ghosts-drop_in : goal.ghosts-drop_in
ghosts-drop_in a = record { name = a.blank.name; parts = a.blank.parts }
