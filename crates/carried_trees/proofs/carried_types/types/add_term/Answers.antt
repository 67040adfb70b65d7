use Rattle.std.proofs.Common.{arith, ap, ◌∷◌, [], length, length-append, Option, subst}
use Rattle.std.specs.Prelude.{MatchOption}
use Rattle.c_types.specs.declared.term.TypeId.{TypeId}
use Rattle.c_types.specs.Trees.{Ctype, grow}
use Rattle.c_types.specs.Table.{Table, types_of, IsFirstOf, IsNowhere}
use Rattle.core_nodes.proofs.Once.{once_added}
use Rattle.carried_trees.proofs.carried_types.types.add_term.Goals as goal

pub returns-in-Ok-add-clause-grown : goal.returns-in-Ok-add-clause-grown
returns-in-Ok-add-clause-grown c =
    let old = c.args.types.now in
    let t : Ctype = grow (types_of old) c.args.term in
    let told = c.in-Ok-add.ensures in
    let terms = ap (λ (x : Table). length x.terms) told.ok in
    let more = length-append old.terms (c.args.term ∷ []) in
    let nowhere : IsNowhere old t = subst (λ (o : Option TypeId). MatchOption o (IsNowhere old t) (λ (id : TypeId). IsFirstOf old t id.0)) c.in-None.is c.in-Ok.ensures in
    record {
      terms = omega (arith, terms, more);
      types = told.kept;
      tags = ap (λ (x : Table). x.tags) told.ok;
      completed = ap (λ (x : Table). x.completed) told.ok;
      extents = told.extents;
      once = once_added old c.add.new.self t c.in-Ok-add.ty.0 told.id (omega (arith, terms, more)) told.kept told.tree nowhere;
    }
