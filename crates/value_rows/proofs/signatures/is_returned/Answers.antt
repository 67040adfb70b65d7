use Rattle.std.proofs.Common.{◌≡◌, sym, ◌∙◌, subst}
use Rattle.c_types.specs.Trees.{Ctype}
use Rattle.c_types.specs.Table.{types_of}
use Rattle.c_senses.specs.World.{has_size}
use Rattle.c_senses.specs.Objects.{is_returned}
use Rattle.value_rows.proofs.Parameters.{returned_sized}
use Rattle.value_rows.proofs.signatures.is_returned.Goals as goal

pub returns-in_default : goal.returns-in_default
returns-in_default c = λ w k.
    c.has_size.ensures w k ∙ sym (subst (λ (t : Ctype). is_returned w t ≡ has_size w t) (sym c.term.ensures.tree) (returned_sized w (types_of c.args.unit.now.types) c.term.result.now c.in_default.not-Void))
