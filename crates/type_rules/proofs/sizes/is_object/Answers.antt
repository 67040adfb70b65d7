use Rattle.std.proofs.Common.{◌↔◌, IsTrue, subst, sym, Bool}
use Rattle.c_types.specs.declared.term.TypeId.{TypeId}
use Rattle.c_types.specs.Table.{look_in, extent_in, type_of}
use Rattle.type_rules.specs.Sizes.{IsObject}
use Rattle.type_rules.proofs.Objects.{has_first, object_iff}
use Rattle.type_rules.proofs.sizes.is_object.Goals as goal

pub returns : goal.returns
returns c =
    let table = c.args.types.now in
    let t = type_of table c.args.id.0 in
    subst (λ (b : Bool). IsTrue b ↔ IsObject table t) (sym c.is_some.ensures) (object_iff (extent_in table t) (has_first (look_in table) t) c.sub_node.result (λ (part : TypeId). type_of table part.0) c.sub_node.ensures.node)
