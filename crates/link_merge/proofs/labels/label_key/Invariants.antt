use Rattle.std.proofs.Common.{◌≡◌, ◌∷◌, cond, take}
use Rattle.link_merge.proofs.labels.label_key.Given as goal

abbrev pub invariant-loop-byte : goal.invariant-loop-byte
invariant-loop-byte l = l.list.items ≡ cond l.union 1 0 ∷ take l.byte-index l.byte-items
