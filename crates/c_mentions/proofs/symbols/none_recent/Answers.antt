use Rattle.c_mentions.proofs.symbols.none_recent.Goals as goal

pub returns : goal.returns
returns c = simp (c.new-recent.ensures.items, c.new-recent.ensures.len) at c.in_ok-resize.ensures.items
