-- A name with linkage is the name of the declarator that declares it.
use Rattle.std.proofs.Common.{arith, ◌≡◌, ◌==◌, ◌<◌, ℕ, zero, suc, Bool, true, false, ◌&&◌, ◌||◌, not, List, length, Option, Some, None, slice_get, eq-eqb, refl, ap, ◌∙◌, subst}
use Rattle.c_grammar.specs.Productions.{p_external, p_rest, p_declaration, p_declarator, p_abstract, p_either}
use Rattle.c_grammar.specs.Terminals.{contains}
use Rattle.c_scope.specs.declared.kinds.Declared.{Declared}
use Rattle.c_senses.specs.Tree.{Source, production_at, children_at, is_a, is_name, parent_of}
use Rattle.c_senses.specs.World.{same_length}
use Rattle.c_senses.specs.Names.{has_linkage, ordinary_at}
use Rattle.c_senses.specs.Declarators.{is_declarator, is_outermost}
use Rattle.c_senses.specs.Sense.{Sense, IsDeclarator, sense_in}
use Rattle.c_senses.specs.Right.{is_declaring}
use Rattle.c_senses.specs.Rows.{AreSenses}
use Rattle.parsed_tree_laws.proofs.placed_laws.Climbing.{Grown}
use Rattle.core_node_laws.specs.standing_laws.Standing.{IsGrown}
use Rattle.core_node_laws.proofs.standing_laws.Climbing.{in_list, parent_is}
use Rattle.parsed_tree_laws.specs.grown_parts.Parts.{IsBrought}
use Rattle.declaration_laws.specs.name_order.Order.{linking, IsNameOf, Links, IsOrdered}
use Rattle.declaration_laws.specs.name_order.Order as order
use Rattle.declaration_laws.specs.declared_type_laws.declared_leaves.Leaves.{IsNamed, Own, Inner, IsDeclaredBy}
use Rattle.declaration_laws.proofs.declared_type_laws.declared_leaves.Climbing.{leaves_declared}

some_one : {X : Type 0} → {x y : X} → ◌≡◌ {A = Option X} (Some x) (Some y) → x ≡ y
some_one h = cc

-- the name of a declarator by the two relations
either_form : (s : Source) (c : ℕ) → (is_a s p_declarator c || is_a s p_either c) ≡ true → is_declarator s c ≡ true
either_form s c h = by (is_a s p_declarator c) (is_a s p_abstract c) (is_a s p_either c) h
  where
    by : (a b d : Bool) → (a || d) ≡ true → ((a || b) || d) ≡ true
    by true b d k = refl
    by false true d k = refl
    by false false d k = k

name_in : (s : Source) (m leaf : ℕ) → IsNameOf s m leaf → IsNamed s m leaf
name_in s m leaf (order.Own k named) = Own k named
name_in s m leaf (order.Inner {c = c} k is more) = Inner c k (either_form s c is) (name_in s c leaf more)

leaf_named : (s : Source) (m leaf : ℕ) → IsNameOf s m leaf → is_name s leaf ≡ true
leaf_named s m leaf (order.Own k named) = named
leaf_named s m leaf (order.Inner {c = c} k is more) = leaf_named s c leaf more

-- no declarator has one of these productions
no_form : (q : ℕ) → contains linking q ≡ true → ((q == p_declarator || q == p_abstract) || q == p_either) ≡ false
no_form q h = let found = in_list linking q h in by found.0 found.1
  where
    at : (r : ℕ) → ◌≡◌ {A = Option ℕ} (Some r) (Some q) → ((r == p_declarator || r == p_abstract) || r == p_either) ≡ false → ((q == p_declarator || q == p_abstract) || q == p_either) ≡ false
    at r e k = subst (λ (x : ℕ). ((x == p_declarator || x == p_abstract) || x == p_either) ≡ false) (some_one e) k

    by : (j : ℕ) → slice_get linking j ≡ Some q → ((q == p_declarator || q == p_abstract) || q == p_either) ≡ false
    by zero e = at p_external e refl
    by (suc zero) e = at p_rest e refl
    by (suc (suc zero)) e = at p_declaration e refl
    by (suc (suc (suc j))) e = cc

module _ (s : Source) (senses : List Sense) (are : AreSenses s senses) (whole : length senses ≡ length s.nodes) (grew : IsGrown s) (tree : Grown s) (brought : IsBrought s) (ordered : IsOrdered s) where
  outermost : (m p : ℕ) → is_declarator s m ≡ true → contains (children_at s p) m ≡ true → contains linking (production_at s p) ≡ true → is_outermost s m ≡ true
  outermost m p is inside part =
      ap (λ (b : Bool). b && (elim (parent_of s m) as (λ _. Bool) [ None ↦ true | Some q ↦ not (is_declarator s q) ])) is
      ∙ (ap (λ (o : Option ℕ). elim o as (λ _. Bool) [ None ↦ true | Some q ↦ not (is_declarator s q) ]) (parent_is s grew p m (in_list (children_at s p) m inside)) ∙ ap not (no_form (production_at s p) part))

  and_of : (a b : Bool) → a ≡ true → b ≡ true → (a && b) ≡ true
  and_of true true e f = refl
  and_of true false e f = cc
  and_of false b e f = cc

  of_links : (leaf m : ℕ) → Links s m leaf → is_declaring s senses leaf ≡ true
  of_links leaf m link =
      let below : m < link.above = tree.before link.above m link.inside in
      let within : link.above < length s.nodes = tree.within link.above m link.inside in
      let one : IsDeclaredBy s senses m leaf = leaves_declared.by_tree s senses are tree brought m leaf (omega (arith, below, within, whole)) (outermost m link.above (either_form s m link.is) link.inside link.part) (name_in s m leaf link.named) in
      and_of (is_name s leaf) _ (leaf_named s m leaf link.named)
      (ap (λ (o : Option ℕ). elim o as (λ _. Bool) [ None ↦ false | Some d ↦ elim (sense_in senses d) as (λ _. Bool) [ IsDeclarator name ds ↦ same_length name (Some leaf) | _ ↦ false ] ]) one.outermost
      ∙ (ap (λ (x : Sense). elim x as (λ _. Bool) [ IsDeclarator name ds ↦ same_length name (Some leaf) | _ ↦ false ]) one.is ∙ eq-eqb leaf leaf refl))

  pub linked_declares : (leaf : ℕ) (y : Declared) → ordinary_at s leaf ≡ Some y → has_linkage y ≡ true → is_declaring s senses leaf ≡ true
  linked_declares leaf y at linked = let found = ordered.linked leaf y at linked in of_links leaf found.0 found.1
