-- Two values in their common type.
use Rattle.std.proofs.Common.{Ok, Err}
use Rattle.core_tree.specs.declared.node.Unit.{Unit}
use Rattle.c_consts.specs.Core.{Core}
use Rattle.c_senses.specs.Given.{Given, Fits}
use Rattle.c_senses.specs.World.{World}
use Rattle.c_senses.specs.Operators.{Both, in_common}
use Rattle.core_nodes.specs.Sorts.{PairMade}
use Rattle.core_nodes.specs.declared.fault.CheckFault.{CheckFault}
use Rattle.core_nodes.specs.declared.fault.CheckFault.TheVariants.{BadOperand, Unsupported, OutOfMemory}
use Rattle.core_nodes.specs.declared.integers.Pair.{Pair}
use Rattle.core_nodes.proofs.Growing.{builds_on, knows_on}
use Rattle.c_operators.specs.Seen.{BothGiven}

pub pair_given : (w : World) (u : Unit) (p : Pair) (a b : Core) → PairMade w u (Ok p) a b → BothGiven u (Ok (p.left, p.right)) (Fits (record { left = in_common w a b a; right = in_common w a b b }))
pair_given w u p a b h = cc (h.0, h.1)

pub pair_fails : (w : World) (u v : Unit) (e : CheckFault) (a b : Core) (g : Given Both) → PairMade w u (Err e) a b → BothGiven v (Err e) g
pair_fails w u v (BadOperand n) a b g h = absurd h
pair_fails w u v (Unsupported k n) a b g h = absurd h
pair_fails w u v OutOfMemory a b g h = tt

pub ruleset choices = (builds_on, knows_on, pair_given, pair_fails)
