use Rattle.std.proofs.Common.{◌≡◌, ◌∷◌, map, take, get_or}
use Rattle.link_merge.proofs.split.node_key.Given as goal

abbrev pub invariant-loop-kid : goal.invariant-loop-kid
invariant-loop-kid l = l.key.items ≡ get_or l.class l.node 0 ∷ map (λ c. get_or l.class c 0) (take l.kid-index l.kids)
