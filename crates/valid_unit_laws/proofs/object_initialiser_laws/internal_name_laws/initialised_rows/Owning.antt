-- An open array's initialiser is the one of its name.
use Rattle.std.proofs.Common.{arith, ◌≡◌, ◌==◌, ◌<◌, ◌⊎◌, inl, inr, ℕ, Bool, true, false, ◌&&◌, ◌||◌, not, List, [], length, Option, Some, None, refl, sym, ap, ◌∙◌, subst}
use Rattle.std.specs.Prelude.{nat_lt, option_and_then}
use Rattle.std.proofs.lemmas.Bool.{eqb-true}
use Rattle.c_grammar.specs.Names.{no_names}
use Rattle.c_grammar.specs.Productions.{p_external, p_rest, p_declaration, p_declarator, p_abstract, p_either, p_init}
use Rattle.c_grammar.specs.Terminals.{contains}
use Rattle.c_parser.specs.Parse.{begin}
use Rattle.c_senses.specs.Tree.{Source, production_at, children_at, is_a, last_where, child_of, parent_of}
use Rattle.c_senses.specs.Names.{source_of, numbered}
use Rattle.c_senses.specs.World.{World}
use Rattle.c_senses.specs.Declarators.{is_declarator, is_outermost}
use Rattle.c_senses.specs.Entities.{initialiser_of, initialised_by, initialiser_for}
use Rattle.c_senses.specs.Initialised.{name_of_declarator}
use Rattle.c_senses.specs.Sense.{Sense, IsDeclarator, Derivation, sense_in}
use Rattle.c_senses.specs.Rows.{AreSenses}
use Rattle.parsed_tree_laws.proofs.sense_laws.Giving.{and_left}
use Rattle.parsed_tree_laws.proofs.placed_laws.Climbing.{Grown}
use Rattle.parsed_tree_laws.proofs.placed_laws.Growing.{grown_read}
use Rattle.core_node_laws.specs.standing_laws.Standing.{IsGrown}
use Rattle.core_node_laws.proofs.standing_laws.Climbing.{in_list, found_where, parent_is, parent_holds}
use Rattle.parsed_tree_laws.specs.grown_parts.Parts.{IsBrought}
use Rattle.parsed_tree_laws.proofs.grown_parts.Reading.{units_bring}
use Rattle.declaration_laws.proofs.declared_type_laws.passed.built_unit_laws.run_laws.Times.{known_at, world_of, told_before}
use Rattle.declaration_laws.proofs.declared_type_laws.passed.built_unit_laws.run_laws.Running.{first_in, last_found}
use Rattle.declaration_laws.proofs.declared_type_laws.plain_names.Later.{Later, known_later}
use Rattle.declaration_laws.specs.declared_type_laws.declared_leaves.Leaves.{IsDeclaredBy}
use Rattle.declaration_laws.proofs.declared_type_laws.declared_leaves.Climbing.{leaves_declared}
use Rattle.valid_unit_laws.specs.object_initialiser_laws.internal_name_laws.text_rows.Linked.{LinkedFit}
use Rattle.valid_unit_laws.proofs.object_initialiser_laws.internal_name_laws.text_rows.Fitting.{grown}
use Rattle.valid_unit_laws.proofs.object_initialiser_laws.internal_name_laws.text_rows.Linked.{rows_of_linked_texts}
use Rattle.declaration_laws.specs.function_laws.passed.definition_laws.own_initialisers.Own.{InitialisersAreOwn}
use Rattle.declaration_laws.proofs.function_laws.passed.definition_laws.own_initialisers.Standing.{initialisers_stand}
use Rattle.valid_unit_laws.specs.object_initialiser_laws.internal_name_laws.initialised_rows.Rows.{InternalFit, RowsOfInitialisedTexts}

module _ (s : Source) (senses : List Sense) (are : AreSenses s senses) (grew : IsGrown s) (tree : Grown s) (brought : IsBrought s) (own : InitialisersAreOwn s) where
  -- where the declarator of an initialiser stands
  record Stands (declarator : ℕ) : Type 0 where
    above : ℕ
    is : is_a s p_declarator declarator ≡ true
    inside : contains (children_at s above) declarator ≡ true
    in_rest : (is_a s p_rest above ≡ true) ⊎ ((is_a s p_external above || is_a s p_declaration above) ≡ true)

  stands : (i p d : ℕ) (f : ℕ → Sense) → parent_of s i ≡ Some p → is_a s p_rest p ≡ true → initialised_by s f i ≡ Some d → Stands d
  stands i p d f parent rest by_it = by (last_where (λ j. is_a s p_declarator j && nat_lt j i) (children_at s p)) refl there
    where
      there : (elim (last_where (λ j. is_a s p_declarator j && nat_lt j i) (children_at s p)) as (λ _. Option ℕ) [ Some j ↦ Some j | None ↦ option_and_then (child_of s p_declarator) (parent_of s p) ]) ≡ Some d
      there =
          sym (ap (λ (o : Option ℕ). elim o as (λ _. Option ℕ) [
            | None ↦ None
            | Some q ↦ elim (last_where (λ j. is_a s p_declarator j && nat_lt j i) (children_at s q)) as (λ _. Option ℕ) [ Some j ↦ Some j | None ↦ option_and_then (child_of s p_declarator) (parent_of s q) ]
          ]) parent) ∙ by_it

      up : (o : Option ℕ) → parent_of s p ≡ o → option_and_then (child_of s p_declarator) o ≡ Some d → Stands d
      up None e g = cc
      up (Some a) e g = record {
        above = a;
        is = found_where (is_a s p_declarator) (children_at s a) d g;
        inside = first_in (is_a s p_declarator) (children_at s a) d g;
        in_rest = inr (grew.nested.rests a p (parent_holds s grew a p e) rest);
      }

      by : (o : Option ℕ) → last_where (λ j. is_a s p_declarator j && nat_lt j i) (children_at s p) ≡ o → (elim o as (λ _. Option ℕ) [ Some j ↦ Some j | None ↦ option_and_then (child_of s p_declarator) (parent_of s p) ]) ≡ Some d → Stands d
      by (Some j) last g =
          let at = last_found (λ k. is_a s p_declarator k && nat_lt k i) (children_at s p) d (last ∙ g) in
          record { above = p; is = and_left (is_a s p_declarator d) (nat_lt d i) at.1; inside = at.0; in_rest = inl rest }
      by None last g = up (parent_of s p) refl g

  parent_at : (p c : ℕ) → contains (children_at s p) c ≡ true → parent_of s c ≡ Some p
  parent_at p c h = parent_is s grew p c (in_list (children_at s p) c h)

  -- it is outermost
  no_form : (q : ℕ) → (q == p_rest) ≡ true ⊎ ((q == p_external || q == p_declaration) ≡ true) → ((q == p_declarator || q == p_abstract) || q == p_either) ≡ false
  no_form q h = elim h [
    | inl e ↦ subst (λ (x : ℕ). ((x == p_declarator || x == p_abstract) || x == p_either) ≡ false) (sym (eqb-true q p_rest e)) refl
    | inr e ↦ two (q == p_external) (q == p_declaration) refl refl e
  ]
    where
      two : (a b : Bool) → (q == p_external) ≡ a → (q == p_declaration) ≡ b → (a || b) ≡ true → ((q == p_declarator || q == p_abstract) || q == p_either) ≡ false
      two true b e f k = subst (λ (x : ℕ). ((x == p_declarator || x == p_abstract) || x == p_either) ≡ false) (sym (eqb-true q p_external e)) refl
      two false true e f k = subst (λ (x : ℕ). ((x == p_declarator || x == p_abstract) || x == p_either) ≡ false) (sym (eqb-true q p_declaration f)) refl
      two false false e f k = cc

  outermost : (d : ℕ) → Stands d → is_outermost s d ≡ true
  outermost d at =
      ap (λ (b : Bool). ((b || is_a s p_abstract d) || is_a s p_either d) && (elim (parent_of s d) as (λ _. Bool) [ None ↦ true | Some q ↦ not (is_declarator s q) ])) at.is
      ∙ (ap (λ (o : Option ℕ). elim o as (λ _. Bool) [ None ↦ true | Some q ↦ not (is_declarator s q) ]) (parent_at at.above d at.inside) ∙ ap not (no_form (production_at s at.above) at.in_rest))

  name_found : (w : World) (f : ℕ → Sense) (x : Sense) (leaf : ℕ) → name_of_declarator w s f x ≡ Some leaf → (ds : List Derivation) × (x ≡ IsDeclarator (Some leaf) ds)
  name_found w f (IsDeclarator name ds) leaf e = (ds, ap (λ (o : Option ℕ). IsDeclarator o ds) e)
  name_found w f x leaf e = cc

  pub initialiser_owned : (i : ℕ) → i < length senses → (p d leaf : ℕ) → is_a s p_init i ≡ true → parent_of s i ≡ Some p → is_a s p_rest p ≡ true
      → initialised_by s (known_at s senses i) i ≡ Some d → name_of_declarator (world_of s senses i) s (known_at s senses i) (known_at s senses i d) ≡ Some leaf → initialiser_for s (sense_in senses) leaf ≡ Some i
  initialiser_owned i lt p d leaf is parent rest by_it name =
      let w : World = world_of s senses i in
      let f : ℕ → Sense = known_at s senses i in
      let later : Later f (sense_in senses) = known_later s senses i in
      let found = name_found w f (f d) leaf name in
      let before : d < i = told_before s senses i d (IsDeclarator (Some leaf) found.0) found.1 (λ no. cc) in
      let sense : sense_in senses d ≡ IsDeclarator (Some leaf) found.0 = later d (IsDeclarator (Some leaf) found.0) found.1 (λ no. cc) in
      let at : Stands d = stands i p d f parent rest by_it in
      let by_sense : IsDeclaredBy s senses d leaf = leaves_declared.by_sense s senses are tree brought d leaf found.0 (omega (arith, before, lt)) (outermost d at) sense in
      ap (option_and_then (initialiser_of s (sense_in senses))) by_sense.outermost ∙ own f (sense_in senses) i p d is parent rest by_it

  pub linked_fit : InternalFit s senses → LinkedFit s senses
  linked_fit fit = record {
    names = fit.names;
    further = fit.further;
    initialisers = λ i lt p d leaf t is parent rest by_it name type lacks. initialiser_owned i lt p d leaf is parent rest by_it name;
    internals = fit.internals;
  }

pub rows_of_initialised_texts : RowsOfInitialisedTexts
rows_of_initialised_texts tokens unit tree tag_number name u cut is b fit =
    let s : Source = numbered tag_number (source_of tokens tree) in
    let read = is.0 in
    let whole : Grown s = grown_read tokens tree tag_number (begin 0 no_names []) read.0 refl refl read.1 read.2 in
    rows_of_linked_texts tokens unit tree tag_number name u cut is b
    (linked_fit s b.senses b.are_senses (grown tokens unit tree tag_number cut is) whole (units_bring tokens unit tree tag_number is) (initialisers_stand tokens unit tree tag_number cut is) fit)
