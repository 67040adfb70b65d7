use Rattle.std.proofs.Common.{◌-◌, map}
use Rattle.c_grammar.specs.Reads.{node_of}
use Rattle.c_parser.specs.declared.levels.Part.{Part}
use Rattle.c_parser.specs.Leads.{IsRaised}
use Rattle.c_parser.proofs.levels.add_levels.Given as goal

-- so many levels have been ended
abbrev pub invariant-loop-inner : goal.invariant-loop-inner
invariant-loop-inner l =
    let now : Part = record { level = l.from.level - l.inner; depth = l.depth; number = l.number } in
    IsRaised l.outermost l.token l.first l.from (map node_of l.fn.nodes.items) now (map node_of l.nodes.items)
