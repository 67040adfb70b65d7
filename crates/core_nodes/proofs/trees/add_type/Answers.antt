use Rattle.std.proofs.Common.{arith, refl, ap, ◌∷◌, [], length, length-append, Option, subst}
use Rattle.std.specs.Prelude.{MatchOption}
use Rattle.c_types.specs.declared.term.TypeId.{TypeId}
use Rattle.c_types.specs.Trees.{Ctype, grow}
use Rattle.c_types.specs.Table.{Table, types_of, members_in, IsFirstOf, IsNowhere}
use Rattle.core_tree.specs.declared.node.Unit.{Unit}
use Rattle.core_nodes.proofs.Growing.{type_builds}
use Rattle.core_nodes.proofs.Once.{once_added}
use Rattle.core_nodes.proofs.trees.add_type.Goals as goal

pub returns-in_ok-ty-in-None-clause-once : goal.returns-in_ok-ty-in-None-clause-once
returns-in_ok-ty-in-None-clause-once c =
    let old = c.args.unit.now in
    let t : Ctype = grow (types_of old.types) c.args.term in
    let told = c.in_ok-ty-in-None.ensures in
    let terms = ap (λ (x : Table). length x.terms) told.ok in
    let nowhere : IsNowhere old.types t = subst (λ (o : Option TypeId). MatchOption o (IsNowhere old.types t) (λ (id : TypeId). IsFirstOf old.types t id.0)) c.in-None.is c.in_ok-found.ensures in
    once_added old.types c.add.new.self t c.in_ok-ty-in-None.ty.0 told.id (omega (arith, terms, length-append old.types.terms (c.args.term ∷ []))) told.kept told.tree nowhere

pub returns-in_ok-ty-in-None-clause-builds : goal.returns-in_ok-ty-in-None-clause-builds
returns-in_ok-ty-in-None-clause-builds c =
    let old = c.args.unit.now in
    let new : Unit = record old { types = c.add.new.self } in
    let t : Ctype = grow (types_of old.types) c.args.term in
    let told = c.in_ok-ty-in-None.ensures in
    let terms = ap (λ (x : Table). length x.terms) told.ok in
    let nowhere : IsNowhere old.types t = subst (λ (o : Option TypeId). MatchOption o (IsNowhere old.types t) (λ (id : TypeId). IsFirstOf old.types t id.0)) c.in-None.is c.in_ok-found.ensures in
    type_builds old new c.requires.ready refl told.kept (omega (arith, terms, length-append old.types.terms (c.args.term ∷ [])))
    (ap (λ (x : Table). x.tags) told.ok) c.type_count-count.ensures.made (λ tag. ap (λ (x : Table). members_in x tag) told.ok) told.extents refl
    (once_added old.types c.add.new.self t c.in_ok-ty-in-None.ty.0 told.id (omega (arith, terms, length-append old.types.terms (c.args.term ∷ []))) told.kept told.tree nowhere)
