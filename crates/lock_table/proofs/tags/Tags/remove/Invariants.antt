use Rattle.lock_table.proofs.tags.Tags.remove.Given as goal

abbrev pub ghosts-withdraw : goal.ghosts-withdraw
ghosts-withdraw a = record { name = a.blank.name; parts = a.blank.parts }
