use Rattle.std.proofs.Common.{◌∷◌, Some, false, ap, sym, subst, ◌∙◌}
use Rattle.c_types.specs.declared.term.PathStep.{PathStep}
use Rattle.c_types.specs.Trees.{ArrayOf}
use Rattle.c_types.specs.Table.{type_of}
use Rattle.obj_space.specs.Spots.{reached, part_at}
use Rattle.row_covers.specs.Parts.{IsEnd}
use Rattle.row_covers.proofs.Walked.{no_member}
use Rattle.row_covers.proofs.parts.element_end.Goals as goal

pub returns-in-Index : goal.returns-in-Index
returns-in-Index c n =
    subst (λ (s : PathStep). IsEnd (part_at c.args.types.now (Some (reached (ArrayOf (type_of c.args.types.now c.args.of.0) n) 0 false)) (s ∷ c.args.rest.now)) c.end_along.result) (sym c.in-Index.is) c.end_along.ensures

pub returns-in-Member : goal.returns-in-Member
returns-in-Member c n =
    ap (λ (s : PathStep). part_at c.args.types.now (Some (reached (ArrayOf (type_of c.args.types.now c.args.of.0) n) 0 false)) (s ∷ c.args.rest.now)) c.in-Member.is
    ∙ no_member c.args.types.now (type_of c.args.types.now c.args.of.0) n c.in-Member.field-0 c.args.rest.now
