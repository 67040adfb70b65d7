use Rattle.std.proofs.Common.{◌≡◌, Some, true≢false, sym, ap, ◌∙◌, subst}
use Rattle.std.specs.Prelude.{IsTrue, ◌↔◌}
use Rattle.std.proofs.lemmas.Option.{slice_get-get_or}
use Rattle.c_types.specs.Table.{type_of}
use Rattle.core_tree.specs.declared.node.Entity.{Entity}
use Rattle.core_tree.specs.declared.node.Linkage.TheVariants.{External}
use Rattle.core_tree.specs.Seen.{core_of}
use Rattle.core_tree.specs.Range.{entity_at}
use Rattle.core_tree.specs.Linkages.{IsDeclaredAs, IsUseIn}
use Rattle.core_valid.proofs.linkages.is_use_in.Goals.{in-External, in_default}
use Rattle.core_valid.proofs.linkages.is_use_in.Goals as goal

pub returns-else-not-matches : goal.returns-else-not-matches
returns-else-not-matches c =
    let u = core_of c.args.trees.now in
    let t = type_of c.args.trees.now.types.now c.args.ty.0 in
    let entity : Entity = c.index-trees-e.result in
    let at : entity_at u c.args.e ≡ Some entity = slice_get-get_or c.args.trees.now.entities.now c.args.e c.index-trees-e.result c.requires.entity ∙ ap Some (sym c.index-trees-e.is) in
    let external : entity.linkage ≡ External = elim c.match-matches.branch [ in-External w ↦ ap (λ (x : Entity). x.linkage) c.index-trees-e.is ∙ w.in-External.is | in_default w ↦ absurd (true≢false (sym c.if-not-matches.false ∙ w.matches-is)) ] in
    let is : IsTrue c.is_declared_as.result ↔ IsDeclaredAs u entity.name t = subst (λ (x : Entity). IsTrue c.is_declared_as.result ↔ IsDeclaredAs u x.name t) (sym c.index-trees-e.is) c.is_declared_as.ensures in (
      λ r. subst (IsUseIn u t) (sym at) (λ l. is.0 r),
      λ asked. let h : entity.linkage ≡ External → IsDeclaredAs u entity.name t = subst (IsUseIn u t) at asked in is.1 (h external),
    )
