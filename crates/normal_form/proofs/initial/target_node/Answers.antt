use Rattle.std.proofs.Common.{◌≡◌, ◌∙◌, ℕ, ◌<◌, ◌^◌, Option, unwrap_or, ap, sym, subst}
use Rattle.std.specs.Option.{option_map}
use Rattle.c_types.specs.declared.term.TypeId.{TypeId}
use Rattle.c_types.specs.Table.{type_of}
use Rattle.core_tree.specs.Typed.{trees_in}
use Rattle.obj_space.specs.Spots.{node_along}
use Rattle.normal_form.specs.Assignments.{path_node, target_node}
use Rattle.normal_form.proofs.SpotLemmas.{small_kept}
use Rattle.normal_form.proofs.initial.target_node.Goals as goal

pub returns-in-Some : goal.returns-in-Some
returns-in-Some c =
    let table = c.args.frame.now.program.now.types in
    let along : Option ℕ = node_along table (type_of table c.in-Some.id.0) c.args.path.now in
    let is : unwrap_or along 0 ≡ target_node (trees_in c.args.frame.now.program.now) c.args.e c.args.path.now =
    ap (λ (o : Option TypeId). path_node table (option_map (λ (id : TypeId). type_of table id.0) o) c.args.path.now) c.in-Some.ensures.value in
    c.unwrap_or.ensures
    ∙ (ap (λ (o : Option ℕ). unwrap_or o 0) c.node_along.ensures ∙ (small_kept along (subst (λ (n : ℕ). n < 2 ^ 32) (sym is) c.requires.small) ∙ is))
