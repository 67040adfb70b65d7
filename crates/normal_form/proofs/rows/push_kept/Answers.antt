use Rattle.std.proofs.Common.{refl, ◌∙◌}
use Rattle.c_types.specs.Table.{type_of}
use Rattle.row_numbers.specs.Kept.{nodes_of}
use Rattle.normal_form.proofs.EachLemmas.{each_is}
use Rattle.normal_form.proofs.rows.push_kept.Goals as goal

pub returns : goal.returns
returns c =
    c.in_ok-push_each.ensures
    ∙ rw (c.as_slice.ensures.value, c.in_ok-kept.ensures.list, each_is c.args.each (nodes_of c.args.types.now (type_of c.args.types.now c.args.ty.0))) refl
