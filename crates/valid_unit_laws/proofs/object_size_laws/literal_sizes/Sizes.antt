-- The sizes of compound literals' objects.
use Rattle.std.proofs.Common.{arith, ◌≡◌, ◌<◌, ℕ, zero, suc, Bool, true, false, ◌&&◌, ◌||◌, ◌==◌, List, [], ◌∷◌, take, length, Option, Some, None, refl, sym, ap, ◌∙◌, subst}
use Rattle.std.specs.Prelude.{option_and_then, if◌then◌else◌}
use Rattle.c_types.specs.Trees.{Ctype}
use Rattle.c_grammar.specs.Productions.{p_type_name, p_items, p_cast, p_unary}
use Rattle.type_rules.specs.Kinds.{LacksLength}
use Rattle.type_rules.specs.Sizes.{HasSize, with_one}
use Rattle.core_tree.specs.declared.node.Unit.{Unit}
use Rattle.core_nodes.specs.Standing.{Knows}
use Rattle.c_consts.specs.Core.{ctype_of}
use Rattle.c_senses.specs.Names.{source_of, numbered}
use Rattle.c_senses.specs.Tree.{Source, is_a, is_name, first_where, all_nodes, child_of, parent_of}
use Rattle.c_senses.specs.Given.{Given, Fits}
use Rattle.c_senses.specs.World.{World, has_size}
use Rattle.c_senses.specs.Limits.{within_limits}
use Rattle.c_senses.specs.Initialised.{literal_in}
use Rattle.c_senses.specs.Rows.{AreSenses, world_at}
use Rattle.c_senses.specs.Sense.{Sense, Nothing, sense_in}
use Rattle.c_senses.specs.Right as right
use Rattle.c_senses.specs.Right.{IsLiteralOf}
use Rattle.parsed_tree_laws.specs.sense_laws.Senses.{ChildrenFirst}
use Rattle.core_node_laws.proofs.standing_laws.Climbing.{found_where}
use Rattle.declaration_laws.proofs.function_laws.body_returns.Built.{grown}
use Rattle.core_node_laws.proofs.built_unit_laws.run_laws.Times.{known_at, world_of, row_as, fitted}
use Rattle.limit_laws.proofs.member_laws.Growing.{sized_stays}
use Rattle.core_node_laws.specs.built_unit_laws.built_rows.Rows.{is_list_of, parenthesis_of, core_type_of, types_declared}
use Rattle.core_node_laws.specs.built_unit_laws.built_rows.Rows as rows
use Rattle.valid_unit_laws.proofs.object_size_laws.object_sizes.Sizes.{sized_closed}
use Rattle.valid_unit_laws.specs.object_size_laws.literal_sizes.Literals.{LiteralsSized}
use Rattle.valid_unit_laws.proofs.object_size_laws.literal_sizes.Inside.{literal_type_is, literal_unnamed}
use Rattle.valid_unit_laws.proofs.object_size_laws.literal_sizes.Rows.{CoreFits, literal_row}

both : (a b : Bool) → (a && b) ≡ true → (a ≡ true) × (b ≡ true)
both true b e = (refl, e)
both false b e = cc

and_then_some : {A B : Type 0} → (o : Option A) (k : A → Option B) (y : B) → option_and_then k o ≡ Some y → (x : A) × (o ≡ Some x) × (k x ≡ Some y)
and_then_some None k y e = cc
and_then_some (Some x) k y e = (x, refl, e)

sense_within : (senses : List Sense) (m : ℕ) → (sense_in senses m ≡ Nothing → ⊥) → m < length senses
sense_within [] m h = absurd (h refl)
sense_within (x ∷ xs) zero h = omega arith
sense_within (x ∷ xs) (suc m) h = let more = sense_within xs m h in omega (arith, more)

module _ (s : Source) (senses : List Sense) (first : ChildrenFirst s) (are : AreSenses s senses) (u : Unit) (knows : Knows (world_at s senses (length senses)) u) (j : ℕ) (t : Ctype) (core : core_type_of (sense_in senses j) ≡ Some t) where
  inside : j < length senses
  inside = sense_within senses j (λ e. never (sym (ap core_type_of e) ∙ core))
    where
      never : None ≡ Some t → ⊥
      never e = cc

  abbrev W : World
  W = world_of s senses j

  abbrev F : ℕ → Sense
  F = known_at s senses j

  list_fits : (p : ℕ) → is_a s p_items j ≡ true → parent_of s j ≡ Some p → (is_a s p_cast p || is_a s p_unary p) ≡ true → (has_size W t ≡ true) × (within_limits W t ≡ true)
  list_fits p is parent over =
      let step : (elim (parent_of s j) as (λ _. Given Sense) [ None ↦ Fits Nothing | Some q ↦ if is_a s p_cast q || is_a s p_unary q then literal_in W s F j q (child_of s p_type_name q) else Fits Nothing ]) ≡ literal_in W s F j p (child_of s p_type_name p) =
      ap (λ (o : Option ℕ). elim o as (λ _. Given Sense) [ None ↦ Fits Nothing | Some q ↦ if is_a s p_cast q || is_a s p_unary q then literal_in W s F j q (child_of s p_type_name q) else Fits Nothing ]) parent
      ∙ ap (λ (b : Bool). if b then literal_in W s F j p (child_of s p_type_name p) else Fits Nothing) over in
      fitted (CoreFits s (take j senses) j p) (literal_in W s F j p (child_of s p_type_name p)) (sense_in senses j) (sym step ∙ row_as s senses are p_items j inside is) (literal_row s (take j senses) j p (child_of s p_type_name p)) t core

  sized : (leaf : ℕ) → is_list_of s leaf j ≡ true → HasSize u.types (with_one t) × (LacksLength t → ⊥)
  sized leaf h = by (parent_of s j) refl (both (is_a s p_items j) _ h).1
    where
      by : (o : Option ℕ) → parent_of s j ≡ o → (elim o as (λ _. Bool) [ None ↦ false | Some p ↦ (is_a s p_cast p || is_a s p_unary p) && (parenthesis_of s p == leaf) ]) ≡ true → HasSize u.types (with_one t) × (LacksLength t → ⊥)
      by None e k = cc
      by (Some p) e k =
          let fit = list_fits p (both (is_a s p_items j) _ h).0 e (both (is_a s p_cast p || is_a s p_unary p) (parenthesis_of s p == leaf) k).0 in
          let closed = sized_closed W t fit.0 in
          let size = sized_stays s first senses j u t (let lt = inside in omega (arith, lt)) knows fit.1 fit.0 in
          (subst (HasSize u.types) (sym closed.1) size, closed.2)

pub literals_sized : LiteralsSized
literals_sized tokens unit tree tag_number name u cut is b sound leaf c literal =
    let s : Source = numbered tag_number (source_of tokens tree) in
    let types : ℕ → Option Ctype = types_declared (numbered tag_number (source_of tokens tree)) b.senses in
    let typed = literal_type_is (world_at s b.senses (length b.senses)) (types_declared (numbered tag_number (source_of tokens tree)) b.senses) s b.senses sound leaf c literal in
    let unnamed : is_name s leaf ≡ false = literal_unnamed s b.senses b.are_senses leaf c literal in
    let here : option_and_then (λ i. core_type_of (sense_in b.senses i)) (first_where (is_list_of s leaf) (all_nodes s)) ≡ Some (ctype_of c) =
    sym (ap (λ (n : Bool). if n then right.entity_type s b.senses leaf else rows.literal_type s b.senses leaf) unnamed) ∙ typed in
    let found = and_then_some (first_where (is_list_of s leaf) (all_nodes s)) (λ i. core_type_of (sense_in b.senses i)) (ctype_of c) here in
    sized s b.senses (let grows = grown tokens unit tree tag_number cut is in grows.first) b.are_senses u b.knows found.0 (ctype_of c) found.2 leaf (found_where (is_list_of s leaf) (all_nodes s) found.0 found.1)
