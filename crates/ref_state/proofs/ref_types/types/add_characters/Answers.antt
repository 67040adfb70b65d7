use Rattle.std.proofs.Common.{◌≡◌, List, [], ◌∷◌, true, length, ap, subst}
use Rattle.c_types.specs.declared.term.Term.{Term}
use Rattle.c_types.specs.declared.term.Term.TheVariants.{Integer}
use Rattle.ref_state.specs.ref_types.Types.{id, character_terms}
use Rattle.ref_state.specs.ref_types.Longer.{IsLonger}
use Rattle.ref_state.proofs.ref_types.Longer.{longer_by, longer_first}
use Rattle.ref_state.proofs.ref_types.types.add_characters.Goals as goal

pub returns-clause-longer : goal.returns-clause-longer
returns-clause-longer c =
    let a = longer_first _ _ _ c.in_ok-character.ensures.ok c.in_ok-character.ensures.kept c.in_ok-character.ensures.extents in
    let b = longer_by _ _ _ _ _ a c.in_ok-argument.ensures.ok c.in_ok-argument.ensures.kept c.in_ok-argument.ensures.extents in
    let d = longer_by _ _ _ _ _ b c.in_ok-text.ensures.ok c.in_ok-text.ensures.kept c.in_ok-text.ensures.extents in
    let e : c.in_ok-character.character ≡ id (length c.args.table.now.terms) = ap id c.in_ok-character.ensures.id in
    let terms : Integer 1 1 true ∷ c.array_of.result ∷ c.array_of-2.result ∷ [] ≡ character_terms (length c.args.table.now.terms) = cc in
    subst (λ (ts : List Term). IsLonger c.args.table.now ts c.add-3.new.self) terms d
