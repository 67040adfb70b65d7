use Rattle.std.proofs.Common.{arith, ◌≡◌, ℕ, ◌+◌, length, ap, subst}
use Rattle.c_types.specs.declared.term.TypeId.{TypeId}
use Rattle.ref_state.specs.ref_types.Types.{class_terms, pointer_terms}
use Rattle.ref_state.specs.ref_types.Longer.{IsLonger}
use Rattle.ref_state.proofs.ref_types.Longer.{longer_both, count_longer}
use Rattle.ref_state.proofs.ref_types.types.add_library_types.Goals as goal

pub add_pointers-requires : goal.add_pointers-requires
add_pointers-requires c =
    let n = length c.args.table.now.terms in
    let first : c.in_ok-character.character.0 ≡ n = ap (λ (t : TypeId × TypeId × TypeId). t.0.0) c.in_ok-character.ensures.ids in
    let count_a : length c.add_characters.new.table.terms ≡ n + 3 = count_longer _ _ _ c.in_ok-character.ensures.longer in
    let count_b : length c.add_classes.new.table.terms ≡ length c.add_characters.new.table.terms + 2 = count_longer _ _ _ c.in_ok-classes.ensures.longer in
    omega (arith, first, count_a, count_b)

pub returns-clause-longer : goal.returns-clause-longer
returns-clause-longer c =
    let n = length c.args.table.now.terms in
    let a = c.in_ok-character.ensures.longer in
    let count_a : length c.add_characters.new.table.terms ≡ n + 3 = count_longer _ _ _ a in
    let b : IsLonger c.add_characters.new.table (class_terms (n + 3)) c.add_classes.new.table =
    subst (λ (k : ℕ). IsLonger c.add_characters.new.table (class_terms k) c.add_classes.new.table) count_a c.in_ok-classes.ensures.longer in
    let ab = longer_both _ _ _ _ _ a b in
    let count_b : length c.add_classes.new.table.terms ≡ n + 5 = count_longer _ _ _ ab in
    let first : c.in_ok-character.character.0 ≡ n = ap (λ (t : TypeId × TypeId × TypeId). t.0.0) c.in_ok-character.ensures.ids in
    let d : IsLonger c.add_classes.new.table (pointer_terms n (n + 5)) c.add_pointers.new.table =
    subst (λ (k : ℕ). IsLonger c.add_classes.new.table (pointer_terms k (n + 5)) c.add_pointers.new.table) first
    (subst (λ (k : ℕ). IsLonger c.add_classes.new.table (pointer_terms c.in_ok-character.character.0 k) c.add_pointers.new.table) count_b c.in_ok-pointer.ensures.longer) in
    longer_both _ _ _ _ _ (longer_both _ _ _ _ _ ab d) c.in_ok-number.ensures.longer
