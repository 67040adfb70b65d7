-- Where a name with linkage is declared: by an outermost declarator of a declaration.
use Rattle.std.proofs.Common.{arith, ◌≡◌, ◌<◌, ◌⊎◌, inl, inr, ◌==◌, nat_eq, ℕ, zero, suc, Bool, true, false, ◌&&◌, ◌||◌, not, List, [], ◌∷◌, map, length, slice_get, Option, Some, None, refl, sym, ap, ◌∙◌, subst}
use Rattle.std.proofs.lemmas.Bool.{eqb-true}
use Rattle.c_grammar.specs.Table.{table, row}
use Rattle.c_grammar.specs.Tree.{makes_node}
use Rattle.c_grammar.specs.Productions.{p_external, p_rest, p_declaration, p_parameter, p_declarator, p_abstract, p_either, p_enumerator}
use Rattle.c_grammar.specs.Terminals.{contains}
use Rattle.c_grammar.specs.Reads.{leaf as leaf_production}
use Rattle.c_scope.specs.declared.kinds.Declared.{Declared}
use Rattle.c_senses.specs.Tree.{Source, production_at, children_at, is_a, parent_of}
use Rattle.c_senses.specs.Names.{has_linkage, ordinary_at}
use Rattle.c_senses.specs.Declarators.{is_declarator, is_outermost, outermost_of}
use Rattle.core_node_laws.proofs.count_laws.passed.parsed_tree_laws.placed_laws.Climbing.{Grown}
use Rattle.declaration_laws.proofs.declared_type_laws.owner_laws.passed.definition_laws.linkage_laws.Seen.{parent_is}
use Rattle.core_node_laws.specs.count_laws.passed.parsed_tree_laws.grown_parts.Parts.{Brings, IsBrought}
use Rattle.core_node_laws.proofs.count_laws.passed.parsed_tree_laws.grown_parts.Declaring.{AllIn, rest_list, rest_parts}
use Rattle.core_node_laws.proofs.count_laws.passed.parsed_tree_laws.grown_parts.Allowed.{rows_in, brings_in}
use Rattle.declaration_laws.specs.name_order.Order.{declaring, linking, IsNameOf, Declares, Enumerates, Names, Links, IsOrdered}
use Rattle.declaration_laws.specs.name_order.Order as order
use Rattle.declaration_laws.specs.declared_type_laws.declared_leaves.Leaves.{IsNamed, Own, Inner}
use Rattle.declaration_laws.proofs.declared_type_laws.declared_leaves.Climbing.{outermost_is}
use Rattle.declaration_laws.specs.declared_type_laws.settled_types.PassedOn.{StandsDeclaring}

some_one : {X : Type 0} → {x y : X} → ◌≡◌ {A = Option X} (Some x) (Some y) → x ≡ y
some_one h = cc

in_list : (list : List ℕ) (i : ℕ) → contains list i ≡ true → (k : ℕ) × (slice_get list k ≡ Some i)
in_list [] i h = cc
in_list (x ∷ list) i h = by (in_list list i) (nat_eq x i) refl h
  where
    by : (contains list i ≡ true → (k : ℕ) × (slice_get list k ≡ Some i)) → (b : Bool) → nat_eq x i ≡ b → (b || contains list i) ≡ true → (k : ℕ) × (slice_get (x ∷ list) k ≡ Some i)
    by rest true e h = (0, ap Some (eqb-true x i e))
    by rest false e h = let more = rest h in (suc more.0, more.1)

-- what stands in an external declaration and in a declaration
abbrev declaration_parts : List ℕ
declaration_parts = leaf_production ∷ 2 ∷ 4 ∷ 5 ∷ 6 ∷ 19 ∷ 29 ∷ []

abbrev declaration_rows : List ℕ
declaration_rows = 48 ∷ 49 ∷ 52 ∷ 53 ∷ 56 ∷ 57 ∷ []

declarations_in : rows_in declaration_parts declaration_rows declaration_rows ≡ true
unfolding table row makes_node
declarations_in = refl

external_list : (zs : List ℕ) → Brings 1 0 zs → AllIn declaration_parts zs
unfolding table row makes_node
external_list zs b = brings_in declaration_parts declaration_rows refl declarations_in 1 0 zs b refl

declaration_list : (zs : List ℕ) → Brings 3 0 zs → AllIn declaration_parts zs
unfolding table row makes_node
declaration_list zs b = brings_in declaration_parts declaration_rows refl declarations_in 3 0 zs b refl

in_all : (allowed : List ℕ) (f : ℕ → ℕ) (ks : List ℕ) (c : ℕ) → AllIn allowed (map f ks) → contains ks c ≡ true → contains allowed (f c) ≡ true
in_all allowed f [] c h at = cc
in_all allowed f (k ∷ ks) c h at = by (nat_eq k c) refl at (λ more. in_all allowed f ks c h.1 more)
  where
    by : (b : Bool) → nat_eq k c ≡ b → (b || contains ks c) ≡ true → (contains ks c ≡ true → contains allowed (f c) ≡ true) → contains allowed (f c) ≡ true
    by true same e later = subst (λ (x : ℕ). contains allowed (f x) ≡ true) (eqb-true k c same) h.0
    by false other e later = later e

no_both : (b : Bool) → b ≡ true → b ≡ false → ⊥
no_both b e f = let both : true ≡ false = sym e ∙ f in cc

-- of two forms of declarators, where one isn't allowed, it is the other
form_only : (allowed : List ℕ) (q : ℕ) → contains allowed p_either ≡ false → contains allowed q ≡ true → (q == p_declarator || q == p_either) ≡ true → (q == p_declarator) ≡ true
form_only allowed q never at form = by (q == p_declarator) (q == p_either) refl form
  where
    by : (a b : Bool) → (q == p_either) ≡ b → (a || b) ≡ true → a ≡ true
    by true b e h = refl
    by false true e h = absurd (no_both (contains allowed q) at (ap (contains allowed) (eqb-true q p_either e) ∙ never))
    by false false e h = cc

-- a declaration, or its rest
linking_form : (q : ℕ) → contains linking q ≡ true → ((q == p_rest) ≡ true) ⊎ ((q == p_external || q == p_declaration) ≡ true)
linking_form q h = let found = in_list linking q h in by found.0 found.1
  where
    by : (j : ℕ) → slice_get linking j ≡ Some q → ((q == p_rest) ≡ true) ⊎ ((q == p_external || q == p_declaration) ≡ true)
    by zero e = inr (subst (λ (x : ℕ). (x == p_external || x == p_declaration) ≡ true) (some_one e) refl)
    by (suc zero) e = inl (subst (λ (x : ℕ). (x == p_rest) ≡ true) (some_one e) refl)
    by (suc (suc zero)) e = inr (subst (λ (x : ℕ). (x == p_external || x == p_declaration) ≡ true) (some_one e) refl)
    by (suc (suc (suc j))) e = cc

linking_declares : (q : ℕ) → contains linking q ≡ true → contains declaring q ≡ true
linking_declares q h = let found = in_list linking q h in by found.0 found.1
  where
    by : (j : ℕ) → slice_get linking j ≡ Some q → contains declaring q ≡ true
    by zero e = subst (λ (x : ℕ). contains declaring x ≡ true) (some_one e) refl
    by (suc zero) e = subst (λ (x : ℕ). contains declaring x ≡ true) (some_one e) refl
    by (suc (suc zero)) e = subst (λ (x : ℕ). contains declaring x ≡ true) (some_one e) refl
    by (suc (suc (suc j))) e = cc

-- what declares names directly is no declarator
no_form : (q : ℕ) → contains declaring q ≡ true → ((q == p_declarator || q == p_abstract) || q == p_either) ≡ false
no_form q h = let found = in_list declaring q h in by found.0 found.1
  where
    at : (r : ℕ) → ◌≡◌ {A = Option ℕ} (Some r) (Some q) → ((r == p_declarator || r == p_abstract) || r == p_either) ≡ false → ((q == p_declarator || q == p_abstract) || q == p_either) ≡ false
    at r e k = subst (λ (x : ℕ). ((x == p_declarator || x == p_abstract) || x == p_either) ≡ false) (some_one e) k

    by : (j : ℕ) → slice_get declaring j ≡ Some q → ((q == p_declarator || q == p_abstract) || q == p_either) ≡ false
    by zero e = at p_external e refl
    by (suc zero) e = at p_rest e refl
    by (suc (suc zero)) e = at p_declaration e refl
    by (suc (suc (suc zero))) e = at p_parameter e refl
    by (suc (suc (suc (suc j)))) e = cc

module _ (s : Source) (tree : Grown s) (brought : IsBrought s) where
  -- the name of a declarator by the two relations
  either_form : (c : ℕ) → (is_a s p_declarator c || is_a s p_either c) ≡ true → is_declarator s c ≡ true
  either_form c h = by (is_a s p_declarator c) (is_a s p_abstract c) (is_a s p_either c) h
    where
      by : (a b d : Bool) → (a || d) ≡ true → ((a || b) || d) ≡ true
      by true b d k = refl
      by false true d k = refl
      by false false d k = k

  name_in : (m leaf : ℕ) → IsNameOf s m leaf → IsNamed s m leaf
  name_in m leaf (order.Own k named) = Own k named
  name_in m leaf (order.Inner {c = c} k is more) = Inner c k (either_form c is) (name_in c leaf more)

  rest_form : (a m : ℕ) → is_a s p_rest a ≡ true → contains (children_at s a) m ≡ true → contains rest_parts (production_at s m) ≡ true
  rest_form a m is at = in_all rest_parts (production_at s) (children_at s a) m (rest_list _ (subst (λ (q : ℕ). Brings q 0 (map (production_at s) (children_at s a))) (eqb-true (production_at s a) p_rest is) (brought a))) at

  part_form : (a m : ℕ) → (is_a s p_external a || is_a s p_declaration a) ≡ true → contains (children_at s a) m ≡ true → contains declaration_parts (production_at s m) ≡ true
  part_form a m is at = by (is_a s p_external a) refl (is_a s p_declaration a) refl is
    where
      zs : List ℕ
      zs = map (production_at s) (children_at s a)

      by : (x : Bool) → is_a s p_external a ≡ x → (y : Bool) → is_a s p_declaration a ≡ y → (x || y) ≡ true → contains declaration_parts (production_at s m) ≡ true
      by true e y f h = in_all declaration_parts (production_at s) (children_at s a) m (external_list _ (subst (λ (q : ℕ). Brings q 0 (map (production_at s) (children_at s a))) (eqb-true (production_at s a) p_external e) (brought a))) at
      by false e true f h = in_all declaration_parts (production_at s) (children_at s a) m (declaration_list _ (subst (λ (q : ℕ). Brings q 0 (map (production_at s) (children_at s a))) (eqb-true (production_at s a) p_declaration f) (brought a))) at
      by false e false f h = cc

  pub record HasDeclarator (leaf : ℕ) : Type 0 where
    pub declarator : ℕ
    pub stands : StandsDeclaring s declarator
    pub outer : is_outermost s declarator ≡ true
    pub named : IsNamed s declarator leaf

  outermost : (m p : ℕ) → is_declarator s m ≡ true → contains (children_at s p) m ≡ true → contains declaring (production_at s p) ≡ true → is_outermost s m ≡ true
  outermost m p is inside part =
      ap (λ (b : Bool). b && (elim (parent_of s m) as (λ _. Bool) [ None ↦ true | Some q ↦ not (is_declarator s q) ])) is
      ∙ (ap (λ (o : Option ℕ). elim o as (λ _. Bool) [ None ↦ true | Some q ↦ not (is_declarator s q) ]) (parent_is s tree p m inside) ∙ ap not (no_form (production_at s p) part))

  of_links : (m leaf : ℕ) → Links s m leaf → HasDeclarator leaf
  of_links m leaf link = record {
    declarator = m;
    stands = (link.above, declares (linking_form (production_at s link.above) link.part), link.inside, linking_form (production_at s link.above) link.part);
    outer = outermost m link.above (either_form m link.is) link.inside (linking_declares (production_at s link.above) link.part);
    named = name_in m leaf link.named;
  }
    where
      declares : (is_a s p_rest link.above ≡ true) ⊎ ((is_a s p_external link.above || is_a s p_declaration link.above) ≡ true) → is_a s p_declarator m ≡ true
      declares (inl rest) = form_only rest_parts (production_at s m) refl (rest_form link.above m rest link.inside) link.is
      declares (inr two) = form_only declaration_parts (production_at s m) refl (part_form link.above m two link.inside) link.is

  pub has_declarator : IsOrdered s → (leaf : ℕ) (d : Declared) → ordinary_at s leaf ≡ Some d → has_linkage d ≡ true → HasDeclarator leaf
  has_declarator ordered leaf d at linked = let found = ordered.linked leaf d at linked in of_links found.0 leaf found.1

  -- ---- nothing else declares that leaf

  holder : (m leaf : ℕ) → IsNamed s m leaf → is_declarator s m ≡ true → (c : ℕ) × (is_declarator s c ≡ true) × (contains (children_at s c) leaf ≡ true)
  holder m leaf (Own k named) is = (m, is, k)
  holder m leaf (Inner c k inner more) is = holder c leaf more inner

  no_enumerator : (c : ℕ) → is_a s p_enumerator c ≡ true → is_declarator s c ≡ false
  no_enumerator c h = subst (λ (q : ℕ). ((q == p_declarator || q == p_abstract) || q == p_either) ≡ false) (sym (eqb-true (production_at s c) p_enumerator h)) refl

  form_of : (m : ℕ) → is_outermost s m ≡ true → is_declarator s m ≡ true
  form_of m h = by (is_declarator s m) _ h
    where
      by : (a b : Bool) → (a && b) ≡ true → a ≡ true
      by true b e = refl
      by false b e = cc

  short : (p m : ℕ) → contains (children_at s p) m ≡ true → m < length s.nodes
  short p m h = let below = tree.before p m h in let within = tree.within p m h in omega (arith, below, within)

  pub declares_once : (leaf a : ℕ) (one : HasDeclarator leaf) → Declares s a leaf → a ≡ one.declarator
  declares_once leaf a one (Enumerates is inside) =
      let held = holder one.declarator leaf one.named (form_of one.declarator one.outer) in
      let same : held.0 ≡ a = tree.once held.0 a leaf held.2 inside in
      absurd (no_both (is_declarator s a) (ap (is_declarator s) (sym same) ∙ held.1) (no_enumerator a is))
  declares_once leaf a one (Names p is inside part named) =
      let up : outermost_of s leaf ≡ Some a = outermost_is s tree a leaf (name_in a leaf named) (short p a inside) (outermost a p (either_form a is) inside part) in
      let own : outermost_of s leaf ≡ Some one.declarator = outermost_is s tree one.declarator leaf one.named (short one.stands.0 one.declarator one.stands.2) one.outer in
      some_one (sym up ∙ own)
