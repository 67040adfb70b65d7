use Rattle.std.proofs.Common.{ap, sym, ◌∙◌, is_some}
use Rattle.c_types.specs.Trees.{grow}
use Rattle.c_types.specs.Table.{types_of}
use Rattle.c_inits.specs.Made.{shape_of}
use Rattle.c_inits.specs.Tables.{fillable}
use Rattle.c_initialise.proofs.c_braces.Shaped.{structure_shape, union_shape}
use Rattle.c_initialise.proofs.c_braces.shapes.is_complete.Goals as goal

pub returns-in-Structure : goal.returns-in-Structure
returns-in-Structure c =
    let table = c.args.types.now in
    c.has_members.ensures ∙ sym (structure_shape table c.type_count-count.ensures.made c.in-Structure.tag)
    ∙ ap (λ t. is_some (shape_of (fillable table) t)) (sym (c.term.ensures.tree ∙ ap (grow (types_of table)) c.in-Structure.is))
    ∙ c.inward.invariant.same

pub returns-in-Union : goal.returns-in-Union
returns-in-Union c =
    let table = c.args.types.now in
    c.has_members-in-Union.ensures ∙ sym (union_shape table c.type_count-count.ensures.made c.in-Union.tag)
    ∙ ap (λ t. is_some (shape_of (fillable table) t)) (sym (c.term.ensures.tree ∙ ap (grow (types_of table)) c.in-Union.is))
    ∙ c.inward.invariant.same
