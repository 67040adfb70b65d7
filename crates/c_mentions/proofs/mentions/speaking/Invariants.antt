use Rattle.std.proofs.Common.{◌≡◌, filter}
use Rattle.std.specs.List.{range_with_len}
use Rattle.c_mentions.specs.Mentions.{speaks}
use Rattle.c_mentions.specs.Syntax.{nodes_of}
use Rattle.c_mentions.proofs.mentions.speaking.Given as goal

abbrev pub invariant-loop-node : goal.invariant-loop-node
invariant-loop-node l = l.list.items ≡ filter (speaks l.tokens (nodes_of l.nodes)) (range_with_len 0 l.node)
