-- The leaf by which each entity of a right unit is known, and where it stands.
use Rattle.std.proofs.Common.{◌≡◌, ◌∙◌, ◌||◌, not, ℕ, Bool, true, false, List, Option, Some, None, refl, sym, ap, subst, inl, inr}
use Rattle.std.specs.Prelude.{option_map, if◌then◌else◌}
use Rattle.std.proofs.lemmas.Bool.{cases_Bool, eqb-true, and_parts}
use Rattle.c_types.specs.Trees.{Ctype}
use Rattle.c_lexer.specs.declared.TokenKind.{TokenKind}
use Rattle.c_lexer.specs.declared.TokenKind.TheVariants.{Identifier}
use Rattle.c_grammar.specs.Productions.{p_cast, p_unary}
use Rattle.c_grammar.specs.Words.{sign_left_parenthesis}
use Rattle.c_grammar.specs.Reads.{leaf}
use Rattle.core_tree.specs.declared.node.Linkage.{Linkage}
use Rattle.core_tree.specs.declared.node.Linkage.TheVariants.{External, Internal, Local}
use Rattle.c_senses.specs.Tree.{Source, is_leaf, is_name, is_a, is_identifier, is_number, sign_of_kind, has_sign, kind_at, children_at, first_where}
use Rattle.c_senses.specs.Entities.{linkage_of, entity_of, is_internal, is_linked, is_typedef, first_of, keep}
use Rattle.c_senses.specs.Sense.{Sense, sense_in}
use Rattle.c_senses.specs.Right.{Declared, sense_of, declares_entity, is_declaring, stands_in_declaration, is_tentative, is_definition_at, of_internal, representative, entity_type, declared_as, declared_name}
use Rattle.core_node_laws.proofs.count_laws.Rooms.{apart}
use Rattle.core_node_laws.proofs.count_laws.once_nodes.Rooted.{found_where}
use Rattle.valid_unit_laws.specs.object_initialiser_laws.internal_name_laws.representative_names.Representatives.{IsKnown}
use Rattle.core_node_laws.proofs.count_laws.named_units.Standing.{IsOpening}

pub none_some : {X : Type 0} → {x : X} → ◌≡◌ {A = Option X} None (Some x) → ⊥
none_some h = cc

pub some_one : {X : Type 0} → {x y : X} → ◌≡◌ {A = Option X} (Some x) (Some y) → x ≡ y
some_one h = cc

-- a name is no parenthesis
no_sign : (kind : TokenKind) → is_identifier kind ≡ true → is_number (sign_of_kind kind) sign_left_parenthesis ≡ true → ⊥
no_sign Identifier h k = cc
no_sign kind h k = cc

module _ (s : Source) (senses : List Sense) where
  pub record IsNamed (d : ℕ) (what : Declared) : Type 0 where
    pub declares : declares_entity s senses d ≡ true
    pub type : Ctype
    pub what_is : what ≡ declared_as s senses d type

  pub named_by : (d : ℕ) (what : Declared) → declared_name s senses d ≡ Some what → IsNamed d what
  named_by d what h = elim (cases_Bool (declares_entity s senses d)) [
    | inl its ↦ by (entity_type s senses d) (sym (ap (λ b. if b then option_map (declared_as s senses d) (entity_type s senses d) else None) its) ∙ h) its
    | inr other ↦ absurd (none_some (sym (ap (λ b. if b then option_map (declared_as s senses d) (entity_type s senses d) else None) other) ∙ h))
  ]
    where
      by : (o : Option Ctype) → option_map (declared_as s senses d) o ≡ Some what → declares_entity s senses d ≡ true → IsNamed d what
      by None e its = absurd (none_some e)
      by (Some t) e its = record { declares = its; type = t; what_is = sym (some_one e) }

  -- the leaf at which a declared name stands
  pub record AtName (d : ℕ) (r : ℕ) : Type 0 where
    pub declaring : is_declaring s senses r ≡ true
    pub entity : entity_of s (sense_in senses) r ≡ d

  internal_is : (a b : Bool) → (if a then Internal else (if b then External else Local)) ≡ Internal → a ≡ true
  internal_is true b e = refl
  internal_is false true e = cc
  internal_is false false e = cc

  pub at_name : ((i : ℕ) → is_internal s (sense_in senses) i ≡ true → IsKnown s senses i) → (d : ℕ) → declares_entity s senses d ≡ true → AtName d (representative s senses d)
  at_name known d declares = by (linkage_of s (sense_in senses) d) refl
    where
      parts : (is_declaring s senses d ≡ true) × (entity_of s (sense_in senses) d ≡ d)
      parts =
          let one = and_parts (is_declaring s senses d) _ declares in
          let two = and_parts (stands_in_declaration s senses d) _ one.1 in
          let three = and_parts (not (is_typedef s (sense_of s senses) d)) _ two.1 in
          (one.0, eqb-true (entity_of s (sense_of s senses) d) d three.1)

      own : (l : Linkage) → linkage_of s (sense_in senses) d ≡ l → representative s senses d ≡ elim l as (λ _. ℕ) [
        | Internal ↦ first_of s (sense_of s senses) (first_of s (sense_of s senses) d (keep s (sense_of s senses) (is_tentative s senses) (of_internal s senses d))) (keep s (sense_of s senses) (is_definition_at s senses) (of_internal s senses d))
        | _ ↦ d
      ]
      own l e = ap (λ (k : Linkage). elim k as (λ _. ℕ) [
        | Internal ↦ first_of s (sense_of s senses) (first_of s (sense_of s senses) d (keep s (sense_of s senses) (is_tentative s senses) (of_internal s senses d))) (keep s (sense_of s senses) (is_definition_at s senses) (of_internal s senses d))
        | _ ↦ d
      ]) e

      by : (l : Linkage) → linkage_of s (sense_in senses) d ≡ l → AtName d (representative s senses d)
      by Internal e =
          let k = known d (internal_is (is_internal s (sense_in senses) d) (is_linked s (sense_in senses) d) e) in
          record { declaring = k.declares; entity = k.entity ∙ parts.1 }
      by External e = subst (AtName d) (sym (own External e)) (record { declaring = parts.0; entity = parts.1 })
      by Local e = subst (AtName d) (sym (own Local e)) (record { declaring = parts.0; entity = parts.1 })

  -- an opening parenthesis is no name
  pub no_name : (d : ℕ) → IsOpening s d → is_name s d ≡ true → ⊥
  no_name d o name = by (first_where (has_sign s sign_left_parenthesis) (children_at s o.node)) refl
    where
      leafy : is_leaf s d ≡ true
      leafy = (and_parts (is_leaf s d) (is_identifier (kind_at s d)) name).0

      identifier : is_identifier (kind_at s d) ≡ true
      identifier = (and_parts (is_leaf s d) (is_identifier (kind_at s d)) name).1

      off : (is_a s p_cast o.node || is_a s p_unary o.node) ≡ true → is_leaf s o.node ≡ false
      off h = on (is_a s p_cast o.node) refl (is_a s p_unary o.node) refl h
        where
          on : (a : Bool) → is_a s p_cast o.node ≡ a → (b : Bool) → is_a s p_unary o.node ≡ b → (a || b) ≡ true → is_leaf s o.node ≡ false
          on true e b f h = apart s p_cast leaf o.node refl e
          on false e true f h = apart s p_unary leaf o.node refl f
          on false e false f h = cc

      by : (x : Option ℕ) → first_where (has_sign s sign_left_parenthesis) (children_at s o.node) ≡ x → ⊥
      by None e =
          let same : d ≡ o.node = o.opens ∙ ap (λ (y : Option ℕ). elim y as (λ _. ℕ) [ None ↦ o.node | Some l ↦ l ]) e in
          let never : true ≡ false = sym leafy ∙ (ap (is_leaf s) same ∙ off o.kind) in
          cc
      by (Some l) e =
          let same : d ≡ l = o.opens ∙ ap (λ (y : Option ℕ). elim y as (λ _. ℕ) [ None ↦ o.node | Some k ↦ k ]) e in
          let sign = (found_where (has_sign s sign_left_parenthesis) (children_at s o.node) l e).0 in
          let number = (and_parts (is_leaf s l) (is_number (sign_of_kind (kind_at s l)) sign_left_parenthesis) sign).1 in
          no_sign (kind_at s d) identifier (ap (λ (k : ℕ). is_number (sign_of_kind (kind_at s k)) sign_left_parenthesis) same ∙ number)
