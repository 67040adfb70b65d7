-- No unit is refused as what isn't built.
use Rattle.std.proofs.Common.{ℕ, List, Result, Ok, Err, MatchResult, IfErr}
use Rattle.core_tree.specs.declared.node.Unit.{Unit}
use Rattle.core_nodes.specs.declared.fault.CheckFault.{CheckFault}
use Rattle.core_nodes.specs.declared.fault.CheckFault.TheVariants.{BadOperand, Unsupported, OutOfMemory}
use Rattle.c_senses.specs.Tree.{Source}
use Rattle.c_lower.specs.unit_lowering.PassedOn.{RefusedIn}
use Rattle.c_lower.specs.unit_lowering.Lowered.{IsLowered}
use Rattle.refusal_laws.specs.Refusals.{IsOtherFault}
use Rattle.refusal_laws.proofs.Rows.{rows_built}

other_fault : (s : Source) (fault : CheckFault) → RefusedIn s fault → IsOtherFault fault
other_fault s (Unsupported kind node) h = rows_built.never _ kind node h.2
other_fault s (BadOperand node) h = tt
other_fault s OutOfMemory h = tt

pub none_unbuilt : (s : Source) (name : List ℕ) (r : Result Unit CheckFault) → MatchResult r (IsLowered s name) (RefusedIn s) → IfErr r IsOtherFault
none_unbuilt s name (Ok u) h = tt
none_unbuilt s name (Err fault) h = other_fault s fault h
