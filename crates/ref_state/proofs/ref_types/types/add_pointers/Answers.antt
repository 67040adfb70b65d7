use Rattle.std.proofs.Common.{◌≡◌, List, [], ◌∷◌, length, ap, subst}
use Rattle.c_types.specs.declared.term.Term.{Term}
use Rattle.c_types.specs.declared.term.Term.TheVariants.{Pointer}
use Rattle.ref_state.specs.ref_types.Types.{id, pointer_terms}
use Rattle.ref_state.specs.ref_types.Longer.{IsLonger}
use Rattle.ref_state.proofs.ref_types.Longer.{longer_by, longer_first}
use Rattle.ref_state.proofs.ref_types.types.add_pointers.Goals as goal

pub returns-clause-longer : goal.returns-clause-longer
returns-clause-longer c =
    let a = longer_first _ _ _ c.in_ok-pointer.ensures.ok c.in_ok-pointer.ensures.kept c.in_ok-pointer.ensures.extents in
    let b = longer_by _ _ _ _ _ a c.in_ok-arguments.ensures.ok c.in_ok-arguments.ensures.kept c.in_ok-arguments.ensures.extents in
    let n = length c.args.table.now.terms in
    let e : c.in_ok-pointer.pointer ≡ id n = ap id c.in_ok-pointer.ensures.id in
    let terms : Pointer c.args.character ∷ c.array_of.result ∷ [] ≡ pointer_terms c.args.character.0 n = cc in
    subst (λ (ts : List Term). IsLonger c.args.table.now ts c.add-2.new.self) terms b
