use Rattle.std.proofs.Common.{◌≡◌, List, [], ◌∷◌, false, length, ap, subst}
use Rattle.c_types.specs.declared.term.Term.{Term}
use Rattle.c_types.specs.declared.term.Term.TheVariants.{Integer}
use Rattle.ref_state.specs.ref_types.Types.{id, class_terms}
use Rattle.ref_state.specs.ref_types.Longer.{IsLonger}
use Rattle.ref_state.proofs.ref_types.Longer.{longer_by, longer_first}
use Rattle.ref_state.proofs.ref_types.types.add_classes.Goals as goal

pub returns-clause-longer : goal.returns-clause-longer
returns-clause-longer c =
    let a = longer_first _ _ _ c.in_ok-short.ensures.ok c.in_ok-short.ensures.kept c.in_ok-short.ensures.extents in
    let b = longer_by _ _ _ _ _ a c.in_ok-classes.ensures.ok c.in_ok-classes.ensures.kept c.in_ok-classes.ensures.extents in
    let e : c.in_ok-short.short ≡ id (length c.args.table.now.terms) = ap id c.in_ok-short.ensures.id in
    let terms : Integer 2 3 false ∷ c.array_of.result ∷ [] ≡ class_terms (length c.args.table.now.terms) = cc in
    subst (λ (ts : List Term). IsLonger c.args.table.now ts c.add-2.new.self) terms b
