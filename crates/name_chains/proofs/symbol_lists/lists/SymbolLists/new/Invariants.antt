use Rattle.std.proofs.Common.{take}
use Rattle.name_chains.specs.symbol_lists.Symbols.{Say}
use Rattle.name_chains.proofs.symbol_lists.lists.SymbolLists.new.Given as goal

-- the maps have the declarations so far
abbrev pub invariant-loop-declared : goal.invariant-loop-declared
invariant-loop-declared l = Say (take l.declared-index l.declarations) l.counts l.leaves
