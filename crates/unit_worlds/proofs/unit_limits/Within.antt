-- What a small table has is within the limits of a world that its unit knows.
use Rattle.std.proofs.Common.{arith, ◌≡◌, ℕ, zero, suc, ◌<◌, ◌≤◌, true, List, [], ◌∷◌, length, All, refl, sym, ap, ◌∙◌, subst}
use Rattle.std.proofs.lemmas.Bool.{and_parts, and_from}
use Rattle.std.proofs.lemmas.List.Elements.{All-head, All-tail, All-map, All-weaker}
use Rattle.c_types.specs.declared.term.Term.{Term}
use Rattle.c_types.specs.declared.term.Term.TheVariants.{Void, Bool as BoolTerm, Integer, Floating, VaList, Pointer, Array, Function, Structure, Union}
use Rattle.c_types.specs.declared.term.TypeId.{TypeId}
use Rattle.c_types.specs.Trees.{trees_at, grow}
use Rattle.c_types.specs.Table.{IsAfter, types_of, type_of, extent_in}
use Rattle.core_tree.specs.declared.node.Unit.{Unit}
use Rattle.c_senses.specs.World.{World, extent}
use Rattle.c_senses.specs.Limits.{is_small, within_limits, all_within_limits}
use Rattle.c_results.specs.passed.core_nodes.Standing.{Knows}
use Rattle.c_results.specs.declared.derivation.Derivation.{Derivation}
use Rattle.c_results.specs.declared.derivation.Derivation.TheVariants.{Pointing, Elements, Returning}
use Rattle.c_results.specs.declared.made.Made.{Made}
use Rattle.c_results.specs.declared.made.Made.TheVariants as made
use Rattle.c_results.specs.Standing.{derivation_seen, sense_made, senses_made, IsDerivable, IsWithin}
use Rattle.c_declarators.specs.Limited.{parameters_limited, IsLimited, AreLimited}
use Rattle.unit_worlds.specs.unit_limits.Small.{has_element, IsSmallTable}
use Rattle.unit_worlds.specs.unit_limits.Laws.{TypesAreLimited, ResultsAreAround}
use Rattle.unit_worlds.proofs.unit_limits.Flags.{unions_flexible}
use Rattle.unit_worlds.proofs.unit_limits.Terms.{type_is, term_at}

module _ (w : World) (u : Unit) (ok : IsSmallTable u.types) (k : Knows w u) where
  small_at : (id : ℕ) → id < length u.types.terms → is_small (extent w (type_of u.types id)) ≡ true
  small_at id lt =
      let t = type_of u.types id in
      ap is_small (k.extents t) ∙ (and_parts (is_small (extent_in u.types t)) (has_element (extent_in u.types) t) (ok.small id lt)).0

  -- types of smaller numbers
  abbrev AreWithin : ℕ → Type 0
  AreWithin n = (j : ℕ) → j < n → within_limits w (type_of u.types j) ≡ true

  all_within : (n : ℕ) → AreWithin n → (ids : List TypeId) → All (λ id. id.0 < n) ids → all_within_limits w (trees_at (types_of u.types) ids) ≡ true
  all_within n below [] h = refl
  all_within n below (id ∷ ids) h =
      and_from (within_limits w (type_of u.types id.0)) (all_within_limits w (trees_at (types_of u.types) ids))
      (below id.0 (All-head (λ (x : TypeId). x.0 < n) id ids h))
      (all_within n below ids (All-tail (λ (x : TypeId). x.0 < n) id ids h))

  within_term : (n : ℕ) → AreWithin n → (t : Term) → IsAfter n t → is_small (extent w (grow (types_of u.types) t)) ≡ true → within_limits w (grow (types_of u.types) t) ≡ true
  within_term n below (Pointer to) after small = below to.0 after
  within_term n below (Array of m) after small =
      and_from (is_small (extent w (grow (types_of u.types) (Array of m)))) (within_limits w (type_of u.types of.0)) small (below of.0 after)
  within_term n below (Function result parameters form) after small =
      and_from (within_limits w (type_of u.types result.0)) (all_within_limits w (trees_at (types_of u.types) parameters)) (below result.0 after.0) (all_within n below parameters after.1)
  within_term n below Void after small = small
  within_term n below BoolTerm after small = small
  within_term n below (Integer size rank signed) after small = small
  within_term n below Floating after small = small
  within_term n below VaList after small = small
  within_term n below (Structure tag) after small = small
  within_term n below (Union tag) after small = small

  within_below : (n : ℕ) → n ≤ length u.types.terms → AreWithin n
  within_below zero le id lt = absurd (omega arith)
  within_below (suc n) le id lt =
      let here : id < length u.types.terms = omega arith in
      let found = term_at u.types.terms id here in
      let same = type_is u.types id found.0 ok.named found.1 in
      let below : AreWithin id = λ j less. within_below n (omega arith) j (omega arith) in
      let small : is_small (extent w (grow (types_of u.types) found.0)) ≡ true = subst (λ t. is_small (extent w t) ≡ true) same (small_at id here) in
      subst (λ t. within_limits w t ≡ true) (sym same) (within_term id below found.0 (ok.named id found.0 found.1).0 small)

  pub limited_at : AreWithin (length u.types.terms)
  limited_at = within_below (length u.types.terms) (omega arith)

  derivation_limited : (d : Derivation) → IsDerivable u.types d → parameters_limited w (derivation_seen u.types d) ≡ true
  derivation_limited Pointing h = refl
  derivation_limited (Elements n) h = refl
  derivation_limited (Returning parameters form) h = all_within (length u.types.terms) limited_at parameters h

  made_limited : (m : Made) → IsWithin u m → IsLimited w (sense_made u m)
  made_limited made.Nothing h = tt
  made_limited (made.Node i) h = tt
  made_limited (made.Typed t) h = limited_at t.0 h
  made_limited (made.Specifiers storage functions ty) h = limited_at ty.0 h
  made_limited (made.Declarator name ds) h =
      All-map (λ d. parameters_limited w d ≡ true) (derivation_seen u.types) ds.items
      (All-weaker (IsDerivable u.types) (λ d. parameters_limited w (derivation_seen u.types d) ≡ true) derivation_limited ds.items h)
  made_limited (made.Derived d) h = derivation_limited d h
  made_limited (made.Parameter name ty) h = limited_at ty.0 h
  made_limited (made.Members members) h = tt
  made_limited (made.Value n) h = tt
  made_limited (made.Run nodes) h = tt
  made_limited (made.Initial node count) h = tt

pub types_limited : TypesAreLimited
types_limited w u ok k id lt = limited_at w u ok k id lt

-- what was made in a unit of small types is within the limits
pub results_limited : (w : World) (u : Unit) (results : List Made) → IsSmallTable u.types → Knows w u → All (IsWithin u) results → AreLimited w (senses_made u results)
results_limited w u results ok k within = All-map (IsLimited w) (sense_made u) results (All-weaker (IsWithin u) (λ m. IsLimited w (sense_made u m)) (made_limited w u ok k) results within)

pub results_around : ResultsAreAround
results_around w u unions results ok flags k within = record {
  knows = k;
  flexible = unions_flexible w u unions ok.made ok.named k flags;
  limited = results_limited w u results ok k within;
}
