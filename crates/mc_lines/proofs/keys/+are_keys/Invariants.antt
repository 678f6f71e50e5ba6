use Rattle.mc_lines.proofs.keys.+are_keys.Given as goal

abbrev pub decreases-are_keys : goal.decreases-are_keys
decreases-are_keys l = l.most
