use Rattle.std.proofs.Common.{◌<◌, ℕ, All, take}
use Rattle.c_scope.specs.declared.kinds.Declared.{Declared}
use Rattle.name_chains.specs.Symbols.{Last}
use Rattle.name_chains.proofs.symbols.symbol_chains.Given as goal

-- the declarations so far are taken in
abbrev pub invariant-loop-declared : goal.invariant-loop-declared
invariant-loop-declared l = (n : ℕ) → All (λ (d : Declared). d.node < n) l.names → Last n (take l.declared-index l.names) l.links.items l.symbols
