use Rattle.c_mentions.proofs.declarators.+declarator_at.Given as goal

abbrev pub decreases-declarator_at : goal.decreases-declarator_at
decreases-declarator_at l = l.node
