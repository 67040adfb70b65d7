use Rattle.std.proofs.Common.{ap, ◌∙◌, Bool, ◌||◌, not}
use Rattle.c_types.specs.Table.{type_of}
use Rattle.c_senses.specs.Limits.{ends_flexible}
use Rattle.c_structures.proofs.members.may_be_unnamed.Goals as goal

pub returns-then-is_in_union : goal.returns-then-is_in_union
returns-then-is_in_union c = λ w sense k f.
    c.if-is_in_union.true ∙ ap (λ (x : Bool). x || not (ends_flexible w (type_of c.args.unit.now.types c.args.ty.0))) (c.if-is_in_union.ensures w sense)

pub returns-else-is_in_union : goal.returns-else-is_in_union
returns-else-is_in_union c = λ w sense k f.
    ap not (c.ends_flexible.ensures w k f) ∙ ap (λ (x : Bool). x || not (ends_flexible w (type_of c.args.unit.now.types c.args.ty.0))) (c.if-is_in_union.ensures w sense)
