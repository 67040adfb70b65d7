-- The lists of some declarations.
use Rattle.std.specs.Prelude.{List}
use Rattle.c_scope.specs.declared.kinds.Declared.{Declared}
use Rattle.name_chains.specs.declared.symbol_lists.lists.SymbolLists.{SymbolLists}
use Rattle.name_chains.specs.symbol_lists.Symbols.{Say}

abbrev pub AreOf : List Declared → SymbolLists → Type 0
AreOf ds lists = Say ds lists.counts lists.leaves
