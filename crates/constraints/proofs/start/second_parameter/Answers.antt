use Rattle.std.proofs.Common.{◌≡◌, ◌∙◌, List, Some, ap, sym}
use Rattle.std.specs.List.{slice_get}
use Rattle.c_types.specs.declared.key.ObjectKey.{ObjectKey}
use Rattle.core_tree.specs.Typed.{trees_in}
use Rattle.row_numbers.specs.declared.functions.Role.TheVariants.{Main}
use Rattle.row_numbers.specs.Functions.{keys_in}
use Rattle.constraints.specs.System.{first_entity}
use Rattle.constraints.proofs.start.second_parameter.Goals as goal

pub returns-in-Some : goal.returns-in-Some
returns-in-Some c =
    let u = trees_in c.args.program.now in
    let mains = c.as_slice-2.ensures.value ∙ (c.in_ok-mains.ensures ∙ ap (keys_in Main) c.as_slice.ensures.value) in
    let first : Some c.in-Some.main ≡ first_entity (keys_in Main u.entities) = sym c.in-Some.is ∙ (c.first_entity.ensures ∙ ap first_entity mains) in
    rw (← first) (c.second_of.ensures ∙ ap (λ (xs : List ObjectKey). slice_get xs 1) c.of.ensures)
