-- What is declared in a block, and a definition's parameter, stands in a definition.
use Rattle.std.proofs.Common.{◌≡◌, ℕ, Bool, true, false, ◌&&◌, ◌||◌, List, Option, Some, None, refl, sym, ap, ◌∙◌, subst}
use Rattle.std.specs.Prelude.{option_and_then, if◌then◌else◌}
use Rattle.c_grammar.specs.Productions.{p_external, p_rest, p_field, p_declaration, p_parameter, p_block, p_statement}
use Rattle.c_senses.specs.Names.{source_of, numbered}
use Rattle.c_senses.specs.Tree.{Source, is_a, parent_of}
use Rattle.c_senses.specs.Declarators.{is_outermost, outermost_of, behind_declarators, declaration_around, is_next_to_name, is_defined_list}
use Rattle.c_senses.specs.Sense.{Sense, sense_in}
use Rattle.c_senses.specs.Entities.{declaration_of}
use Rattle.c_senses.specs.Right.{stands_in_declaration, is_defined_parameter}
use Rattle.c_senses.specs.Rows.{world_at}
use Rattle.core_node_laws.specs.count_laws.passed.parsed_tree_laws.member_names.PassedOn.{Families}
use Rattle.core_node_laws.proofs.count_laws.passed.parsed_tree_laws.member_names.PassedOn.{units_families}
use Rattle.core_node_laws.specs.count_laws.passed.parsed_tree_laws.member_names.Differ.{InOrder}
use Rattle.core_node_laws.proofs.count_laws.passed.parsed_tree_laws.member_names.Order.{units_in_order}
use Rattle.declaration_laws.specs.definition_laws.Definitions.{is_definition, InDefinition, itself, below, HasDefinition, LocalsAreDefined}
use Rattle.declaration_laws.proofs.definition_laws.Reading.{block_parts, child_of_parent, reach_down, has_definition}

none_is_some : {X : Type 0} → {x : X} → ◌≡◌ {A = Option X} None (Some x) → ⊥
none_is_some h = cc

some_same : {X : Type 0} → {x y : X} → ◌≡◌ {A = Option X} (Some x) (Some y) → x ≡ y
some_same h = cc

right : (a b : Bool) → (a && b) ≡ true → b ≡ true
right true b e = e
right false b e = cc

module _ (s : Source) (order : InOrder s) (families : Families s) (senses : List Sense) where
  -- behind the declarators of a node
  behind : (i q : ℕ) → behind_declarators s i ≡ Some q → InDefinition s q → HasDefinition s i × InDefinition s i
  behind i q e h = by (outermost_of s i) refl e
    where
      by : (o : Option ℕ) → outermost_of s i ≡ o → option_and_then (parent_of s) o ≡ Some q → HasDefinition s i × InDefinition s i
      by None up f = absurd (none_is_some f)
      by (Some d) up f =
          let whole : InDefinition s d = below (child_of_parent s order families d q f) h in
          let (p, parent, inside) = reach_down s order families (is_outermost s) i d up whole in
          (has_definition s order families p i (child_of_parent s order families i p parent) inside, below (child_of_parent s order families i p parent) inside)

  around : (q p : ℕ) → declaration_around s q ≡ Some p → InDefinition s p → InDefinition s q
  around q p e h = by (is_a s p_rest q || is_a s p_field q) e
    where
      by : (b : Bool) → (if b then parent_of s q else Some q) ≡ Some p → InDefinition s q
      by true f = below (child_of_parent s order families q p f) h
      by false f = subst (InDefinition s) (sym (some_same f)) h

  of_declaration : (leaf p : ℕ) → declaration_of s (sense_in senses) leaf ≡ Some p → InDefinition s p → HasDefinition s leaf
  of_declaration leaf p e h = by (behind_declarators s leaf) refl e
    where
      by : (o : Option ℕ) → behind_declarators s leaf ≡ o → option_and_then (declaration_around s) o ≡ Some p → HasDefinition s leaf
      by None up f = absurd (none_is_some f)
      by (Some q) up f = (behind leaf q up (around q p f h)).0

  -- a parameter of a definition
  of_list : (suffix : ℕ) → is_defined_list (world_at s senses suffix) s (sense_in senses) suffix ≡ true → InDefinition s suffix
  of_list suffix is = by (behind_declarators s suffix) refl (right (is_next_to_name (world_at s senses suffix) s (sense_in senses) suffix) _ is)
    where
      by : (o : Option ℕ) → behind_declarators s suffix ≡ o → (elim o as (λ _. Bool) [ None ↦ false | Some p ↦ is_definition s p ]) ≡ true → InDefinition s suffix
      by None up f = absurd (let never : false ≡ true = f in cc)
      by (Some q) up f = (behind suffix q up (itself f)).1

  of_parameter : (leaf p : ℕ) → declaration_of s (sense_in senses) leaf ≡ Some p → is_defined_parameter s senses leaf ≡ true → InDefinition s p
  of_parameter leaf p e is = by (parent_of s p) refl (sym (ap (λ (o : Option ℕ). elim (option_and_then (parent_of s) o) as (λ _. Bool) [ None ↦ false | Some suffix ↦ is_defined_list (world_at s senses suffix) s (sense_in senses) suffix ]) e) ∙ is)
    where
      by : (o : Option ℕ) → parent_of s p ≡ o → (elim o as (λ _. Bool) [ None ↦ false | Some suffix ↦ is_defined_list (world_at s senses suffix) s (sense_in senses) suffix ]) ≡ true → InDefinition s p
      by None up f = absurd (let never : false ≡ true = f in cc)
      by (Some suffix) up f = below (child_of_parent s order families p suffix up) (of_list suffix f)

  stands : (leaf p : ℕ) → declaration_of s (sense_in senses) leaf ≡ Some p → is_a s p_external p ≡ false → stands_in_declaration s senses leaf ≡ true → (is_a s p_declaration p ≡ true → InDefinition s p) → HasDefinition s leaf
  stands leaf p e external is declared =
      let own : (is_a s p_external p || (is_a s p_declaration p || (is_a s p_parameter p && is_defined_parameter s senses leaf))) ≡ true =
      sym (ap (λ (o : Option ℕ). elim o as (λ _. Bool) [ None ↦ false | Some p ↦ is_a s p_external p || (is_a s p_declaration p || (is_a s p_parameter p && is_defined_parameter s senses leaf)) ]) e) ∙ is in
      of_declaration leaf p e (by (is_a s p_external p) (is_a s p_declaration p) external refl own)
    where
      by : (a b : Bool) → a ≡ false → is_a s p_declaration p ≡ b → (a || (b || (is_a s p_parameter p && is_defined_parameter s senses leaf))) ≡ true → InDefinition s p
      by true b none declaration own = absurd (let never : true ≡ false = none in cc)
      by false true none declaration own = declared declaration
      by false false none declaration own = of_parameter leaf p e (right (is_a s p_parameter p) (is_defined_parameter s senses leaf) own)

or_first : (a b : Bool) → a ≡ true → (a || b) ≡ true
or_first true b e = refl
or_first false b e = cc

pub locals : LocalsAreDefined
locals tokens unit tree tag_number senses leaf p cut read e external is =
    let s = numbered tag_number (source_of tokens tree) in
    stands s (units_in_order tokens unit tree tag_number read) (units_families tokens unit tree tag_number cut read) senses leaf p e external is
    (λ declaration. block_parts tokens unit tree tag_number p read (or_first (is_a s p_declaration p) (is_a s p_block p || is_a s p_statement p) declaration))
