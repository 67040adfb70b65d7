-- Which variadic function a name is the last parameter of.
use Rattle.std.proofs.Common.{arith, ◌≡◌, ◌<◌, ◌&&◌, ℕ, zero, suc, Bool, true, false, List, Option, Some, None, take, length, refl, sym, ap, ◌∙◌, subst}
use Rattle.std.specs.Prelude.{nat_lt, option_and_then, option_map, if◌then◌else◌}
use Rattle.c_lexer.specs.declared.Tokens.{Tokens}
use Rattle.c_lexer.specs.Cut.{IsTokens}
use Rattle.c_grammar.specs.declared.trees.Tree.{Tree}
use Rattle.c_grammar.specs.Productions.{p_parameter}
use Rattle.c_parser.specs.c_units.Units.{IsUnit}
use Rattle.c_senses.specs.Tree.{Source, is_a, parent_of, above_within, nearest_above}
use Rattle.c_senses.specs.Names.{source_of, numbered}
use Rattle.c_senses.specs.World.{World}
use Rattle.c_senses.specs.Entities.{declaration_of, defined_name, function_around, entity_of, is_linked, is_parameter, ends_further, is_variadic_definition, is_in_variadic, closes_list, further_by, further_of}
use Rattle.c_senses.specs.Sense.{Sense, Derivation, IsDeclarator, sense_in}
use Rattle.c_senses.specs.Rows.{AreSenses, names_over}
use Rattle.c_senses.specs.Tags.{completed_from}
use Rattle.core_node_laws.proofs.built_unit_laws.run_laws.Times.{known, told_before}
use Rattle.declaration_laws.specs.declared_type_laws.owner_laws.Owners.{FurtherKnown}
use Rattle.declaration_laws.specs.declared_type_laws.owner_laws.passed.definition_laws.Definitions.{is_definition}
use Rattle.declaration_laws.specs.declared_type_laws.owner_laws.passed.definition_laws.function_definitions.Defined.{Defines}
use Rattle.declaration_laws.proofs.declared_type_laws.owner_laws.internal_laws.Reading.{definitions_known}
use Rattle.declaration_laws.proofs.declared_type_laws.owner_laws.passed.definition_laws.function_definitions.Reading.{definitions_declare}
use Rattle.declaration_laws.proofs.declared_type_laws.owner_laws.passed.definition_laws.linkage_laws.Linked.{stands_linked}
use Rattle.declaration_laws.proofs.declared_type_laws.owner_laws.passed.definition_laws.linkage_laws.Reading.{tree_is}
use Rattle.declaration_laws.proofs.declared_type_laws.owner_laws.passed.definition_laws.linkage_laws.Seen.{some_same, no_both}
use Rattle.declaration_laws.specs.declared_type_laws.known_entities.Further.{IsFurther, FurtherFound}
use Rattle.declaration_laws.proofs.declared_type_laws.known_entities.Known.{entities_known}

-- what is chosen by a test, and what is found above a node
chosen : {A : Type 0} (b : Bool) (x : Option A) (y : A) → (if b then x else None) ≡ Some y → (b ≡ true) × (x ≡ Some y)
chosen true x y e = (refl, e)
chosen false x y e = cc

both : (a b : Bool) → (a && b) ≡ true → (a ≡ true) × (b ≡ true)
both true b e = (refl, e)
both false b e = cc

above_passes : (s : Source) (test : ℕ → Bool) (n : ℕ) (x : Option ℕ) (o : ℕ) → above_within s test n x ≡ Some o → test o ≡ true
above_passes s test zero x o e = cc
above_passes s test (suc n) None o e = cc
above_passes s test (suc n) (Some i) o e = by (test i) refl e (λ f. above_passes s test n (parent_of s i) o f)
  where
    by : (b : Bool) → test i ≡ b → (if b then Some i else above_within s test n (parent_of s i)) ≡ Some o → (above_within s test n (parent_of s i) ≡ Some o → test o ≡ true) → test o ≡ true
    by true is e later = subst (λ (k : ℕ). test k ≡ true) (some_same e) is
    by false is e later = later e

module _ (tokens : Tokens) (unit : ℕ) (tree : Tree) (tag_number : ℕ → ℕ) (senses : List Sense) (cut : IsTokens tokens.text.now tokens.list.items) (read : IsUnit tokens unit tree)
    (are : AreSenses (numbered tag_number (source_of tokens tree)) senses) (whole : length senses ≡ length (numbered tag_number (source_of tokens tree)).nodes) (at leaf function : ℕ)
  where
    abbrev s : Source
    s = numbered tag_number (source_of tokens tree)

    abbrev f : ℕ → Sense
    f i = sense_in senses i

    abbrev g : ℕ → Sense
    g = sense_in (take at senses)

    -- a parameter's name has no linkage
    no_linkage : (p : ℕ) → declaration_of s f leaf ≡ Some p → is_a s p_parameter p ≡ true → is_linked s f leaf ≡ false
    no_linkage p declared parameter = by (is_linked s f leaf) refl
      where
        is_one : is_parameter s f leaf ≡ true
        is_one = ap (λ (x : Option ℕ). elim x as (λ _. Bool) [ None ↦ false | Some q ↦ is_a s p_parameter q ]) declared ∙ parameter

        by : (b : Bool) → is_linked s f leaf ≡ b → b ≡ false
        by true e = absurd (no_both (is_parameter s f leaf) is_one (stands_linked s (tree_is tokens unit tree read tag_number) senses are whole leaf e).parameter)
        by false e = refl

    -- the declarator of the definition around it, as it is known at the node
    module _ (p : ℕ) (declared : declaration_of s f leaf ≡ Some p) (parameter : is_a s p_parameter p ≡ true) (q : ℕ) (above : nearest_above s (is_definition s) leaf ≡ Some q) where
      is : is_definition s q ≡ true
      is = above_passes s (is_definition s) (length s.nodes) (parent_of s leaf) q above

      h : Defines s senses q
      h = definitions_declare tokens unit tree tag_number senses q cut read are whole is

      name_of_sense : Sense → Option ℕ
      name_of_sense x = elim x as (λ _. Option ℕ) [ IsDeclarator name ds ↦ name | _ ↦ None ]

      variadic_of_sense : Sense → Bool
      variadic_of_sense x = elim x as (λ _. Bool) [ IsDeclarator name ds ↦ ends_further ds | _ ↦ false ]

      from_sense : (x : Sense) → g h.declarator ≡ x → (name : ℕ) → name_of_sense x ≡ Some name → variadic_of_sense x ≡ true → entity_of s g name ≡ function → IsFurther s senses at leaf function
      unfolding name_of_sense variadic_of_sense
      from_sense (IsDeclarator own ds) told name named variadic entity =
          let before : h.declarator < at = told_before s senses at h.declarator (IsDeclarator own ds) told (λ none. cc) in
          let one : IsDeclarator own ds ≡ IsDeclarator (Some h.name) h.steps = sym told ∙ (known s senses at h.declarator before ∙ h.sense) in
          let own_name : own ≡ Some h.name = cc in
          let steps : ds ≡ h.steps = cc in
          let name_is : name ≡ h.name = some_same (sym named ∙ own_name) in
          let found : entity_of s g h.name ≡ function = subst (λ (k : ℕ). entity_of s g k ≡ function) name_is entity in
          record {
            unlinked = no_linkage p declared parameter;
            definition = q;
            is = is;
            defines = h;
            around = ap (option_and_then (defined_name s f)) above ∙ h.named;
            entity = sym (entities_known tokens unit tree tag_number senses cut read h.name h.declarator at h.outermost (omega (arith, before))).entity ∙ found;
            known = found;
            before = before;
            form = h.ends (subst (λ (xs : List Derivation). ends_further xs ≡ true) steps variadic);
            represents = λ internal. definitions_known tokens unit tree tag_number senses cut read are whole q is h internal;
          }
      from_sense x told name named variadic entity = cc

      in_definition : (name : ℕ) → defined_name s g q ≡ Some name → is_variadic_definition s g q ≡ true → entity_of s g name ≡ function → IsFurther s senses at leaf function
      unfolding name_of_sense variadic_of_sense
      in_definition name named variadic entity =
          from_sense (g h.declarator) refl name (sym (ap (option_and_then (λ (d : ℕ). elim (g d) as (λ _. Option ℕ) [ IsDeclarator own ds ↦ own | _ ↦ None ])) h.part) ∙ named)
          (sym (ap (λ (x : Option ℕ). elim x as (λ _. Bool) [ None ↦ false | Some d ↦ elim (g d) as (λ _. Bool) [ IsDeclarator own ds ↦ ends_further ds | _ ↦ false ] ]) h.part) ∙ variadic)
          entity

    around_leaf : (p : ℕ) → declaration_of s f leaf ≡ Some p → is_a s p_parameter p ≡ true → (o : Option ℕ) → nearest_above s (is_definition s) leaf ≡ o
        → (elim o as (λ _. Bool) [ None ↦ false | Some q ↦ is_variadic_definition s g q ]) ≡ true → (x : Option ℕ) → option_and_then (defined_name s g) o ≡ x → option_map (entity_of s g) x ≡ Some function → IsFurther s senses at leaf function
    around_leaf p declared parameter None above variadic x named entity = cc
    around_leaf p declared parameter (Some q) above variadic None named entity = cc
    around_leaf p declared parameter (Some q) above variadic (Some name) named entity = in_definition p declared parameter q above name named variadic (some_same entity)

    by_declaration : (w : World) (o : Option ℕ) → declaration_of s f leaf ≡ o → further_by w s g leaf o ≡ Some function → IsFurther s senses at leaf function
    by_declaration w None declared e = cc
    by_declaration w (Some p) declared e =
        let test = chosen ((is_a s p_parameter p && closes_list w s g p) && is_in_variadic s g leaf) (option_map (entity_of s g) (function_around s g leaf)) function e in
        let parts = both (is_a s p_parameter p && closes_list w s g p) (is_in_variadic s g leaf) test.0 in
        let parameter = both (is_a s p_parameter p) (closes_list w s g p) parts.0 in
        around_leaf p declared parameter.0 (nearest_above s (is_definition s) leaf) refl parts.1 (function_around s g leaf) refl test.1

    pub found : (w : World) → further_of w s g leaf ≡ Some function → IsFurther s senses at leaf function
    found w e = by_declaration w (declaration_of s f leaf) refl (chosen (nat_lt leaf (length s.nodes)) (further_by w s g leaf (declaration_of s g leaf)) function e).1

pub further_found : FurtherFound
further_found tokens unit tree tag_number senses cut read are whole at leaf function e =
    let s : Source = numbered tag_number (source_of tokens tree) in
    let before : List Sense = take at senses in
    let w : World = names_over s before (sense_in before) (completed_from s before (sense_in before) 0) at in
    found tokens unit tree tag_number senses cut read are whole at leaf function w e

-- so it is the function around the name
pub further_known : (tokens : Tokens) (unit : ℕ) (tree : Tree) (tag_number : ℕ → ℕ) (senses : List Sense) → IsTokens tokens.text.now tokens.list.items → IsUnit tokens unit tree → AreSenses (numbered tag_number (source_of tokens tree)) senses
    → length senses ≡ length (numbered tag_number (source_of tokens tree)).nodes → FurtherKnown (numbered tag_number (source_of tokens tree)) senses
further_known tokens unit tree tag_number senses cut read are whole at leaf function lt e =
    let x = further_found tokens unit tree tag_number senses cut read are whole at leaf function e in
    (x.unlinked, ap (option_map (entity_of (numbered tag_number (source_of tokens tree)) (sense_in senses))) x.around ∙ ap (λ (k : ℕ). Some k) x.entity)
