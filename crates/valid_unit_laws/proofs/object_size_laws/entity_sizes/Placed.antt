-- Where the declarators of objects stand.
use Rattle.std.proofs.Common.{◌≡◌, ◌<◌, ℕ, nat_eq, Bool, true, false, ◌&&◌, ◌||◌, List, [], ◌∷◌, map, length, Option, Some, None, refl, sym, ap, ◌∙◌, subst}
use Rattle.std.specs.Prelude.{option_and_then, if◌then◌else◌}
use Rattle.std.proofs.lemmas.Bool.{eqb-true}
use Rattle.c_grammar.specs.Table.{table, row}
use Rattle.c_grammar.specs.Tree.{makes_node}
use Rattle.c_grammar.specs.Productions.{p_external, p_rest, p_declaration, p_field, p_parameter}
use Rattle.c_grammar.specs.Reads.{leaf as leaf_production}
use Rattle.c_grammar.specs.Terminals.{contains}
use Rattle.c_senses.specs.Tree.{Source, production_at, children_at, is_a, parent_of}
use Rattle.c_senses.specs.Declarators.{is_outermost, outermost_of, declaration_around}
use Rattle.c_senses.specs.Entities.{declaration_of, is_parameter}
use Rattle.c_senses.specs.Rows.{AreSenses}
use Rattle.c_senses.specs.Right.{is_declaring, is_defined_parameter, stands_in_declaration}
use Rattle.c_senses.specs.Sense.{Sense, Nothing, IsDeclarator, Derivation, sense_in}
use Rattle.core_node_laws.specs.standing_laws.Standing.{IsGrown}
use Rattle.core_node_laws.proofs.standing_laws.Climbing.{parent_holds}
use Rattle.parsed_tree_laws.proofs.placed_laws.Climbing.{Grown}
use Rattle.parsed_tree_laws.specs.grown_parts.Parts.{Brings, IsBrought}
use Rattle.parsed_tree_laws.proofs.grown_parts.Declaring.{AllIn}
use Rattle.parsed_tree_laws.proofs.grown_parts.Allowed.{rows_in, brings_in}
use Rattle.declaration_laws.specs.declared_type_laws.declared_leaves.Leaves.{IsDeclaredBy}
use Rattle.declaration_laws.proofs.declared_type_laws.declared_leaves.Climbing.{leaves_declared}
use Rattle.valid_unit_laws.proofs.object_size_laws.parameter_sizes.PassedOn.{found_above}
use Rattle.valid_unit_laws.proofs.object_size_laws.parameter_sizes.Sizes.{named_at, sense_within}

some_one : {X : Type 0} → {x y : X} → ◌≡◌ {A = Option X} (Some x) (Some y) → x ≡ y
some_one h = cc

and_then_some : {A B : Type 0} → (o : Option A) (k : A → Option B) (y : B) → option_and_then k o ≡ Some y → (x : A) × (o ≡ Some x) × (k x ≡ Some y)
and_then_some None k y e = cc
and_then_some (Some x) k y e = (x, refl, e)

-- ---- no field stands in a declaration

abbrev declaration_parts : List ℕ
declaration_parts = leaf_production ∷ 2 ∷ 4 ∷ 5 ∷ 6 ∷ 19 ∷ 29 ∷ []

abbrev declaration_rows : List ℕ
declaration_rows = 48 ∷ 49 ∷ 52 ∷ 53 ∷ 56 ∷ 57 ∷ []

declarations_in : rows_in declaration_parts declaration_rows declaration_rows ≡ true
unfolding table row makes_node
declarations_in = refl

external_list : (zs : List ℕ) → Brings 1 0 zs → AllIn declaration_parts zs
unfolding table row makes_node
external_list zs b = brings_in declaration_parts declaration_rows refl declarations_in 1 0 zs b refl

declaration_list : (zs : List ℕ) → Brings 3 0 zs → AllIn declaration_parts zs
unfolding table row makes_node
declaration_list zs b = brings_in declaration_parts declaration_rows refl declarations_in 3 0 zs b refl

in_all : (allowed : List ℕ) (f : ℕ → ℕ) (ks : List ℕ) (c : ℕ) → AllIn allowed (map f ks) → contains ks c ≡ true → contains allowed (f c) ≡ true
in_all allowed f [] c h at = cc
in_all allowed f (k ∷ ks) c h at = by (nat_eq k c) refl at (λ more. in_all allowed f ks c h.1 more)
  where
    by : (b : Bool) → nat_eq k c ≡ b → (b || contains ks c) ≡ true → (contains ks c ≡ true → contains allowed (f c) ≡ true) → contains allowed (f c) ≡ true
    by true same e later = subst (λ (x : ℕ). contains allowed (f x) ≡ true) (eqb-true k c same) h.0
    by false other e later = later e

module _ (s : Source) (brought : IsBrought s) where
  part_form : (a m : ℕ) → (is_a s p_external a || is_a s p_declaration a) ≡ true → contains (children_at s a) m ≡ true → contains declaration_parts (production_at s m) ≡ true
  part_form a m is at = by (is_a s p_external a) refl (is_a s p_declaration a) refl is
    where
      zs : List ℕ
      zs = map (production_at s) (children_at s a)

      by : (x : Bool) → is_a s p_external a ≡ x → (y : Bool) → is_a s p_declaration a ≡ y → (x || y) ≡ true → contains declaration_parts (production_at s m) ≡ true
      by true e y f h = in_all declaration_parts (production_at s) (children_at s a) m (external_list _ (subst (λ (q : ℕ). Brings q 0 (map (production_at s) (children_at s a))) (eqb-true (production_at s a) p_external e) (brought a))) at
      by false e true f h = in_all declaration_parts (production_at s) (children_at s a) m (declaration_list _ (subst (λ (q : ℕ). Brings q 0 (map (production_at s) (children_at s a))) (eqb-true (production_at s a) p_declaration f) (brought a))) at
      by false e false f h = cc

  part_no_field : (a m : ℕ) → (is_a s p_external a || is_a s p_declaration a) ≡ true → contains (children_at s a) m ≡ true → is_a s p_field m ≡ false
  part_no_field a m is at = by (is_a s p_field m) refl
    where
      by : (b : Bool) → is_a s p_field m ≡ b → b ≡ false
      by false e = refl
      by true e = let no : false ≡ true = subst (λ (q : ℕ). contains declaration_parts q ≡ true) (eqb-true (production_at s m) p_field e) (part_form a m is at) in cc

  -- the node around a declarator of a declaration is no field
  around_no_field : (p q : ℕ) (grows : IsGrown s) → declaration_around s p ≡ Some q → (is_a s p_external q || is_a s p_declaration q) ≡ true → is_a s p_field p ≡ false
  around_no_field p q grows around is = by (is_a s p_rest p) (is_a s p_field p) refl refl around
    where
      by : (a b : Bool) → is_a s p_rest p ≡ a → is_a s p_field p ≡ b → (if a || b then parent_of s p else Some p) ≡ Some q → b ≡ false
      by a false rest field k = refl
      by true true rest field k = sym field ∙ part_no_field q p is (parent_holds s grows q p k)
      by false true rest field k = sym field ∙ part_no_field q p is (parent_holds s grows q p k)

-- a name has a declarator that is no member's
abbrev pub IsPlaced : Source → List Sense → ℕ → Type 0
IsPlaced s senses leaf = (m p : ℕ) × IsDeclaredBy s senses m leaf × (parent_of s m ≡ Some p) × (is_a s p_field p ≡ false)

module _ (s : Source) (senses : List Sense) (grows : IsGrown s) (grew : Grown s) (brought : IsBrought s) (are : AreSenses s senses) (leaf : ℕ) (declaring : is_declaring s senses leaf ≡ true) (standing : stands_in_declaration s senses leaf ≡ true) where
  abbrev f : ℕ → Sense
  f = sense_in senses

  abbrev Stands : Option ℕ → Type 0
  Stands o = (elim o as (λ _. Bool) [ None ↦ false | Some p ↦ is_a s p_external p || (is_a s p_declaration p || (is_a s p_parameter p && is_defined_parameter s senses leaf)) ]) ≡ true

  in_declaration : is_parameter s f leaf ≡ false → (q : ℕ) × (declaration_of s f leaf ≡ Some q) × ((is_a s p_external q || is_a s p_declaration q) ≡ true)
  in_declaration h = by (declaration_of s f leaf) refl standing h
    where
      pick : (x y z : Bool) → (x || (y || z)) ≡ true → z ≡ false → (x || y) ≡ true
      pick true y z k l = refl
      pick false true z k l = refl
      pick false false z k l = let no : true ≡ false = sym k ∙ l in cc

      cut_off : (x y : Bool) → x ≡ false → (x && y) ≡ false
      cut_off true y k = cc
      cut_off false y k = refl

      by : (o : Option ℕ) → declaration_of s f leaf ≡ o → Stands o → (elim o as (λ _. Bool) [ None ↦ false | Some p ↦ is_a s p_parameter p ]) ≡ false
          → (q : ℕ) × (declaration_of s f leaf ≡ Some q) × ((is_a s p_external q || is_a s p_declaration q) ≡ true)
      by None e k l = cc
      by (Some q) e k l = (q, e, pick (is_a s p_external q) (is_a s p_declaration q) _ k (cut_off (is_a s p_parameter q) (is_defined_parameter s senses leaf) l))

  -- one that stands in a declaration and is no parameter's
  pub object_placed : is_parameter s f leaf ≡ false → IsPlaced s senses leaf
  object_placed parameter =
      let n = named_at s senses leaf declaring in
      let d = in_declaration parameter in
      let x = and_then_some (option_and_then (parent_of s) (outermost_of s leaf)) (declaration_around s) d.0 d.1 in
      let y = and_then_some (outermost_of s leaf) (parent_of s) x.0 x.1 in
      let same : y.0 ≡ n.0 = some_one (sym y.1 ∙ n.2) in
      let parent : parent_of s n.0 ≡ Some x.0 = ap (parent_of s) (sym same) ∙ y.2 in
      let within : n.0 < length senses = sense_within senses n.0 (λ none. never n.1 (sym n.3 ∙ none)) in
      let by_it = leaves_declared.by_sense s senses are grew brought n.0 leaf n.1 within (found_above s (is_outermost s) (length s.nodes) n.0 (parent_of s leaf) n.2) n.3 in
      (n.0, x.0, by_it, parent, around_no_field s brought x.0 d.0 grows x.2 d.2)
    where
      never : (ds : List Derivation) → IsDeclarator (Some leaf) ds ≡ Nothing → ⊥
      never ds e = cc
