use Rattle.lock_table.proofs.nodes.Nodes.move_node.Given as goal

abbrev pub ghosts-withdraw : goal.ghosts-withdraw
ghosts-withdraw a = record { name = a.blank.name; parts = a.blank.parts }
