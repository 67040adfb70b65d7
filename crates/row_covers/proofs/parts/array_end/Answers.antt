use Rattle.std.proofs.Common.{List, Some, false}
use Rattle.c_types.specs.declared.term.PathStep.{PathStep}
use Rattle.c_types.specs.Trees.{ArrayOf}
use Rattle.c_types.specs.Table.{type_of}
use Rattle.obj_space.specs.Spots.{reached, part_at}
use Rattle.row_covers.specs.Parts.{IsEnd}
use Rattle.row_covers.proofs.Walked.{array_whole, first_step}
use Rattle.row_covers.proofs.parts.array_end.Goals as goal

pub returns-in-empty : goal.returns-in-empty
returns-in-empty c n = array_whole c.args.types.now (type_of c.args.types.now c.args.of.0) n c.args.path.now c.in-empty.len_below

pub returns-in-len1-up : goal.returns-in-len1-up
returns-in-len1-up c n =
    first_step (λ (q : List PathStep). IsEnd (part_at c.args.types.now (Some (reached (ArrayOf (type_of c.args.types.now c.args.of.0) n) 0 false)) q) c.element_end.result) c.args.path.now _ c.in-len1-up.len_at_least (c.element_end.ensures n)
