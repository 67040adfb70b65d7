use Rattle.std.proofs.Common.{map}
use Rattle.c_grammar.specs.Reads.{node_of}
use Rattle.c_parser.specs.Lone.{levels, IsGrown}
use Rattle.c_parser.proofs.lone.add_lone.Given as goal

-- the primary expression and so many levels stand
abbrev pub invariant-loop-inner : goal.invariant-loop-inner
invariant-loop-inner l = IsGrown (levels l.inner l.token (map node_of l.fn.nodes.items)) (map node_of l.nodes.items) l.last
