-- The parts of a for, and what has been made for them.
use Rattle.std.specs.Prelude.{ℕ, ◌≡◌, ⊤, List, [], ◌∷◌, map, Option, Some, None, Result, Ok, Err, slice_get}
use Rattle.pta_base.specs.declared.kind.Kind.TheVariants.{Operand}
use Rattle.core_tree.specs.declared.node.Unit.{Unit}
use Rattle.c_consts.specs.Core.{Core}
use Rattle.c_senses.specs.Given.{Given, Fits, Refuses}
use Rattle.c_senses.specs.Statements as spec
use Rattle.core_nodes.specs.declared.fault.CheckFault.{CheckFault}
use Rattle.core_nodes.specs.declared.fault.CheckFault.TheVariants.{BadOperand, Unsupported, OutOfMemory}
use Rattle.core_nodes.specs.Standing.{core_at}
use Rattle.c_results.specs.declared.made.Made.{Made}
use Rattle.c_results.specs.declared.made.Made.TheVariants as made
use Rattle.c_statements.specs.declared.fors.ForParts.{ForParts}

abbrev pub parts_seen : ForParts → spec.ForParts
parts_seen p = record { first = p.first; condition = p.condition; after = p.after }

-- what a declaration runs: nothing, where no list has been made
abbrev pub run_of_made : Option Made → List ℕ
run_of_made (Some (made.Run nodes)) = nodes.items
run_of_made m = []

abbrev pub run_made : List Made → ℕ → List ℕ
run_made results part = run_of_made (slice_get results part)

abbrev pub some_nodes : Option ℕ → List ℕ
some_nodes None = []
some_nodes (Some i) = i ∷ []

-- what a call answers of a list of trees
abbrev pub RunMade : Unit → Result (List ℕ) CheckFault → Given (List Core) → Type 0
RunMade u (Ok list) g = g ≡ Fits (map (core_at u) list)
RunMade u (Err (BadOperand node)) g = g ≡ Refuses Operand node
RunMade u (Err (Unsupported kind node)) g = g ≡ Refuses kind node
RunMade u (Err OutOfMemory) g = ⊤
