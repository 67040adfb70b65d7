use Rattle.std.proofs.Common.{sym, subst, Some, Bool}
use Rattle.c_types.specs.declared.term.PathStep.TheVariants.{Member}
use Rattle.c_types.specs.Table.{type_of}
use Rattle.c_types.specs.Parts.{field_in}
use Rattle.obj_space.specs.Spots.{step_by}
use Rattle.row_covers.specs.Parts.{Follows}
use Rattle.row_covers.specs.declared.parts.Part.{Part}
use Rattle.row_covers.proofs.Walked.{inside_follows, outside_follows, placed_near}
use Rattle.row_covers.proofs.parts.into_member.Goals as goal

pub returns-then-whole : goal.returns-then-whole
returns-then-whole c n at =
    inside_follows c.args.types.now (type_of c.args.types.now c.args.whole.ty.0) c.args.k n c.args.whole c.in_ok-ty.ty c.if-whole.true c.in_ok-ty.ensures.known c.in_ok-ty.ensures.part at

pub returns : goal.returns
returns c n at =
    let t = type_of c.args.types.now c.args.whole.ty.0 in
    let part : Part = record { ty = c.in_ok-ty.ty; node = c.saturating_add.result; inside = c.is_union.result } in
    subst (λ (b : Bool). Follows c.args.types.now (Some part) (step_by c.args.types.now t n b (Member c.args.k))) (sym c.if-whole.false)
    (outside_follows c.args.types.now t c.args.k n c.args.whole.node c.unwrap_or-place.result part c.in_ok-ty.ensures.known c.in_ok-ty.ensures.part at
    (λ p f. placed_near (field_in c.args.types.now t c.args.k) c.field_node.result c.unwrap_or-place.result p c.field_node.ensures c.unwrap_or-place.ensures f) c.saturating_add.ensures c.is_union.ensures)
