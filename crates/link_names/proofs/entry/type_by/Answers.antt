use Rattle.std.proofs.Common.{◌≡◌, ◌∙◌, true, [], ap, sym, subst}
use Rattle.std.specs.Option.{MatchOption, is_some}
use Rattle.std.proofs.lemmas.Bool.{false≢true}
use Rattle.c_types.specs.declared.term.TypeId.{TypeId}
use Rattle.c_types.specs.Table.{type_of}
use Rattle.link_names.specs.Scene.{joined_of}
use Rattle.link_names.specs.Externals.{declared_type}
use Rattle.link_names.specs.Together.{of_name, kept_type}
use Rattle.link_names.specs.Said.{IsTogether}
use Rattle.link_names.proofs.entry.type_by.Goals as goal

pub returns-in-None-clause-type_is : goal.returns-in-None-clause-type_is
returns-in-None-clause-type_is c = absurd (false≢true (ap is_some (sym c.in-None.is) ∙ c.requires.some))

pub returns-in-Some-clause-type_is : goal.returns-in-Some-clause-type_is
returns-in-Some-clause-type_is c =
    let j = joined_of c.args.scene.now in
    let ds = c.args.scene.now.declared.now in
    let own = declared_type j c.args.d in
    λ name says.
    let h : IsTogether j ds name c.in-Some.together.0 = subst (λ o. MatchOption o (of_name j.units name ds ≡ []) (λ (id : TypeId). IsTogether j ds name id.0)) c.in-Some.is says.type in
    c.kept_type.ensures.type_is ∙ (ap (λ t. kept_type true t (type_of j.table c.in-Some.together.0)) c.declared_type-own.ensures.type_is ∙ ap (kept_type true own) h.type)
