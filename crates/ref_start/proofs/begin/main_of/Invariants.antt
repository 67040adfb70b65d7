use Rattle.std.proofs.Common.{◌≡◌, drop}
use Rattle.std.specs.Prelude.{find}
use Rattle.std.specs.List.{enumerate_from}
use Rattle.row_numbers.specs.declared.functions.Role.TheVariants.{Main}
use Rattle.row_numbers.specs.Functions.{plays}
use Rattle.ref_start.specs.Begin.{number_of, main_in}
use Rattle.ref_start.proofs.begin.main_of.Given as goal

abbrev pub invariant-loop-e : goal.invariant-loop-e
invariant-loop-e l = number_of (find (λ entry. plays Main entry.1) (enumerate_from l.e (drop l.e l.entities))) ≡ main_in l.entities
