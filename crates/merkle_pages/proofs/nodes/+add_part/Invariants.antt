use Rattle.merkle_pages.proofs.nodes.+add_part.Given as goal

abbrev pub decreases-add_part : goal.decreases-add_part
decreases-add_part g l = l.level
