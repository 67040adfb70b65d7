use Rattle.std.proofs.Common.{◌≡◌, Option, Some, None, get_or, sym, ap, ◌∙◌, arith}
use Rattle.core_tree.specs.declared.node.Entity.{Entity}
use Rattle.link_names.specs.Firsts.{known}
use Rattle.link_names.specs.Scene.{joined_of}
use Rattle.unit_link.specs.Linked.{IsMovedEntity, IsLinkedName}
use Rattle.link_units.specs.link_entities.Row.{numbers_of}
use Rattle.link_units.proofs.link_entities.Naming.{no_declaration, first_there, found, said_read, typed_some, typed_none, name_is, ok_then}
use Rattle.link_units.proofs.link_entities.entities.linked_name.Goals as goal

none_some : {X : Type 0} → {x : X} → ◌≡◌ {A = Option X} None (Some x) → ⊥
none_some h = cc

pub unreachable-requires : goal.unreachable-requires
unreachable-requires c =
    let k = c.args.linking.now in
    let f = first_there k.scene.now.units.now k.scene.now.declared.now c.args.unit c.args.number c.args.entity.now c.requires.linking.scene.declared c.requires.there c.requires.external in
    let is = c.find_name.ensures ∙ (ap (known k.names.now.by_name) c.as_str.ensures ∙ c.requires.linking.names.by_name c.args.entity.now.name) in
    none_some (sym c.in_default.is ∙ (is ∙ f.1))

pub bounds-linking-first : goal.bounds-linking-first
bounds-linking-first c =
    let f = found c.args.linking.now c.args.unit c.args.number c.args.entity.now c.find_name.result c.as_str.result.now c.in-Some.first c.requires.linking c.requires.there c.requires.external c.find_name.ensures c.as_str.ensures c.in-Some.is in
    let within = f.named.within in
    let all = c.requires.linking.makers.all in
    omega arith

pub index-requires : goal.index-requires
index-requires c =
    let f = found c.args.linking.now c.args.unit c.args.number c.args.entity.now c.find_name.result c.as_str.result.now c.in-Some.first c.requires.linking c.requires.there c.requires.external c.find_name.ensures c.as_str.ensures c.in-Some.is in
    let within = f.named.within in
    let all = c.requires.linking.names.said.all in
    omega arith

pub unreachable-requires-in_default-ty : goal.unreachable-requires-in_default-ty
unreachable-requires-in_default-ty c =
    let k = c.args.linking.now in
    let f = found c.args.linking.now c.args.unit c.args.number c.args.entity.now c.find_name.result c.as_str.result.now c.in-Some.first c.requires.linking c.requires.there c.requires.external c.find_name.ensures c.as_str.ensures c.in-Some.is in
    let says = said_read k c.args.entity.now.name c.in-Some.first c.index.result.now c.requires.linking f c.index.ensures in
    typed_none (joined_of k.scene.now) k.scene.now.declared.now c.args.entity.now.name c.index.result.now says c.in_default-ty.is f.named.some

pub entity_of-made-requires : goal.entity_of-made-requires
entity_of-made-requires c =
    let f = found c.args.linking.now c.args.unit c.args.number c.args.entity.now c.find_name.result c.as_str.result.now c.in-Some.first c.requires.linking c.requires.there c.requires.external c.find_name.ensures c.as_str.ensures c.in-Some.is in
    f.named.maker

pub declared_type-own-requires-clause-declaration : goal.declared_type-own-requires-clause-declaration
declared_type-own-requires-clause-declaration c =
    let f = found c.args.linking.now c.args.unit c.args.number c.args.entity.now c.find_name.result c.as_str.result.now c.in-Some.first c.requires.linking c.requires.there c.requires.external c.find_name.ensures c.as_str.ensures c.in-Some.is in
    f.named.maker

pub linked_type-requires-clause-together : goal.linked_type-requires-clause-together
linked_type-requires-clause-together c =
    let k = c.args.linking.now in
    let f = found c.args.linking.now c.args.unit c.args.number c.args.entity.now c.find_name.result c.as_str.result.now c.in-Some.first c.requires.linking c.requires.there c.requires.external c.find_name.ensures c.as_str.ensures c.in-Some.is in
    let says = said_read k c.args.entity.now.name c.in-Some.first c.index.result.now c.requires.linking f c.index.ensures in
    (typed_some (joined_of k.scene.now) k.scene.now.declared.now c.args.entity.now.name c.index.result.now c.in-Some-ty.together says c.in-Some-ty.is).within

pub bounds-linking-first-2 : goal.bounds-linking-first-2
bounds-linking-first-2 c =
    let f = found c.args.linking.now c.args.unit c.args.number c.args.entity.now c.find_name.result c.as_str.result.now c.in-Some.first c.requires.linking c.requires.there c.requires.external c.find_name.ensures c.as_str.ensures c.in-Some.is in
    let within = f.named.within in
    let all = c.requires.linking.uses.all in
    omega arith

pub returns-clause-name : goal.returns-clause-name
returns-clause-name c =
    let k = c.args.linking.now in
    let f = found c.args.linking.now c.args.unit c.args.number c.args.entity.now c.find_name.result c.as_str.result.now c.in-Some.first c.requires.linking c.requires.there c.requires.external c.find_name.ensures c.as_str.ensures c.in-Some.is in
    let says = said_read k c.args.entity.now.name c.in-Some.first c.index.result.now c.requires.linking f c.index.ensures in
    let d = get_or k.makers.now c.in-Some.first no_declaration in
    ok_then (IsMovedEntity k.scene.now.units.now (numbers_of k.numbers.now) d.unit c.entity_of-made.result.now) (λ (e : Entity). e.ty ≡ c.in_ok-ty.ty)
    (λ (e : Entity). e.used ≡ get_or k.uses.now c.in-Some.first None)
    (IsLinkedName (joined_of k.scene.now) k.scene.now.declared.now (numbers_of k.numbers.now) c.args.entity.now.name) c.moved.result c.moved.ensures.moved c.moved.ensures.ty c.moved.ensures.used
    (λ e moved ty used. name_is k (numbers_of k.numbers.now) c.args.entity.now.name c.in-Some.first c.entity_of-made.result.now e c.in_ok-ty.ty c.declared_type-own.result c.in-Some-ty.together
    c.is_some-body.result c.is_placed-defined.result c.requires.linking f c.index.result.now says c.in-Some-ty.is c.entity_of-made.ensures c.declared_type-own.ensures.type_is c.is_some-body.ensures
    c.is_placed-defined.ensures c.in_ok-ty.ensures.type_is moved ty used)
