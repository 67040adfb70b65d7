use Rattle.std.proofs.Common.{ap, sym, subst, ◌∙◌, IsTrue, ◌↔◌, Bool}
use Rattle.c_types.specs.declared.term.Class.{Class}
use Rattle.c_types.specs.Table.{type_of}
use Rattle.row_covers.specs.Objects.{is_class_of, IsScalarOf}
use Rattle.row_covers.proofs.Decided.{class_tells}
use Rattle.row_covers.proofs.objects.is_scalar_of.Goals as goal

pub returns : goal.returns
returns c =
    subst (λ (b : Bool). IsTrue b ↔ IsScalarOf c.args.number (type_of c.args.types.now c.args.id.0)) (sym (c.is_class_of.ensures ∙ ap (is_class_of c.args.number) c.class_of.ensures))
    (class_tells c.args.number (type_of c.args.types.now c.args.id.0))
