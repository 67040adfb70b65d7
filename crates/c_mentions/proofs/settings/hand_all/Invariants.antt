use Rattle.std.proofs.Common.{take}
use Rattle.c_mentions.specs.Settings.{Hands}
use Rattle.c_mentions.proofs.settings.hand_all.Given as goal

abbrev pub invariant-loop-child : goal.invariant-loop-child
invariant-loop-child l = Hands (take l.child-index l.children) l.node l.place l.fn.places.items l.places.items
