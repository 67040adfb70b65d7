-- The limit that a linked program passes is a fault of its units.
use Rattle.std.proofs.Common.{ℕ, List}
use Rattle.core_tree.specs.declared.node.Unit.{Unit}
use Rattle.core_tree.specs.declared.node.Program.{Program}
use Rattle.unit_report.specs.declared.unit_system.fault.UnitFault.{UnitFault}
use Rattle.unit_report.specs.declared.unit_system.fault.UnitFault.TheVariants.{Link, Nodes, Words, OutOfMemory}
use Rattle.unit_report.specs.unit_system.Of.{IsProgramOf}
use Rattle.unit_report.specs.unit_system.Faults.{IsProgramFault, IsFaultOf}

pub program_refused : (entered : List (List ℕ)) (units : List Unit) (p : Program) (fault : UnitFault) → IsProgramOf entered units p → IsProgramFault p fault → IsFaultOf entered units fault
program_refused entered units p (Link fault) own h = absurd h
program_refused entered units p (Nodes nodes) own h = (p, own, h)
program_refused entered units p (Words words) own h = (p, own, h)
program_refused entered units p OutOfMemory own h = tt
