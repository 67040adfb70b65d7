-- Internal functions and owners of a unit that is read.
use Rattle.std.proofs.Common.{◌≡◌, ℕ, zero, suc, not, nat_eq, Bool, true, false, Ok, List, [], ◌∷◌, map, Option, Some, None, slice_get, refl, sym, ap, subst, ◌⊎◌, inl, inr}
use Rattle.std.specs.Prelude.{if◌then◌else◌}
use Rattle.std.proofs.lemmas.Bool.{eqb-true}
use Rattle.c_lexer.specs.declared.Token.{Token}
use Rattle.c_lexer.specs.declared.Tokens.{Tokens}
use Rattle.c_grammar.specs.declared.trees.SyntaxNode.{SyntaxNode}
use Rattle.c_grammar.specs.declared.trees.Tree.{Tree as SyntaxTree}
use Rattle.c_grammar.specs.Names.{no_names}
use Rattle.c_grammar.specs.Productions.{p_unit, p_external, p_declaration, p_specs}
use Rattle.c_grammar.specs.Tree.{makes_node}
use Rattle.c_grammar.specs.Reads.{State, Node, node_of, leaf, opened, Walks, Opens}
use Rattle.c_parser.specs.Parse.{begin}
use Rattle.c_parser.specs.c_units.Units.{IsUnit}
use Rattle.c_senses.specs.Names.{source_of, numbered}
use Rattle.c_senses.specs.Tree.{production_of, children_of, first_where}
use Rattle.core_node_laws.proofs.passed.parsed_tree_laws.placed_laws.Once.{Extends}
use Rattle.core_node_laws.proofs.passed.parsed_tree_laws.placed_laws.Adding.{All}
use Rattle.core_node_laws.proofs.passed.parsed_tree_laws.family_laws.Reading.{units_families}
use Rattle.core_node_laws.proofs.passed.parsed_tree_laws.member_names.Order.{units_in_order}
use Rattle.declaration_laws.proofs.definition_laws.linkage_laws.Every.{every}
use Rattle.declaration_laws.proofs.definition_laws.linkage_laws.Inverting.{node_opened}
use Rattle.declaration_laws.proofs.definition_laws.linkage_laws.Reading.{tree_is}
use Rattle.declaration_laws.proofs.definition_laws.function_definitions.Reading.{heads}
use Rattle.declaration_laws.proofs.declared_type_laws.owner_laws.owned_laws.Owners as owners
use Rattle.declaration_laws.specs.declared_type_laws.owner_laws.internal_laws.Internals.{DefinitionsKnown, OwnersKnown}
use Rattle.declaration_laws.proofs.declared_type_laws.owner_laws.internal_laws.Specs.{SpecsFirst, no_specs, first_on, external_first, declaration_first}
use Rattle.declaration_laws.proofs.declared_type_laws.owner_laws.internal_laws.Known.{known}

module _ (text : List ℕ) (tokens : List Token) where
  Good : List Node → Node → Type 0
  Good nodes n = (n.production ≡ 1) ⊎ (n.production ≡ 3) → SpecsFirst nodes n.children

  good_on : (a b : List Node) (n : Node) → Extends a b → Good a n → Good b n
  unfolding Good
  good_on a b n x g = λ is. first_on a b n.children x (g is)

  leaf_good : (nodes : List Node) (place : ℕ) → Good nodes (record { production = leaf; token = place; children = [] })
  unfolding Good
  leaf_good nodes place = λ is. tt

  own_good : (q d : ℕ) (s u : State) → makes_node q ≡ true → Walks text tokens q 0 d (opened q s) (Ok u) → Good u.nodes (record { production = q; token = s.place; children = u.children })
  unfolding Good
  own_good q d s u node w = λ is. by is
    where
      none : (opened q s).children ≡ []
      none = ap (λ (x : State). x.children) (node_opened q s node)

      by : (q ≡ 1) ⊎ (q ≡ 3) → SpecsFirst u.nodes u.children
      by (inl e) = external_first text tokens d (opened q s) u none (subst (λ (p : ℕ). Walks text tokens p 0 d (opened q s) (Ok u)) e w)
      by (inr e) = declaration_first text tokens d (opened q s) u none (subst (λ (p : ℕ). Walks text tokens p 0 d (opened q s) (Ok u)) e w)

  pub all_first : (q d : ℕ) (s t : State) → s.nodes ≡ [] → Opens text tokens q d s (Ok t) → (i : ℕ) (n : Node) → slice_get t.nodes i ≡ Some n → (n.production ≡ 1) ⊎ (n.production ≡ 3) → SpecsFirst t.nodes n.children
  unfolding Good
  all_first q d s t none o i n e = every text tokens Good good_on leaf_good own_good q d s t none o i n e

there_node : (items : List SyntaxNode) (k : ℕ) (n : SyntaxNode) → slice_get items k ≡ Some n → slice_get (map node_of items) k ≡ Some (node_of n)
there_node [] k n e = cc
there_node (x ∷ items) zero n e = let same : x ≡ n = cc in ap (λ (m : SyntaxNode). Some (node_of m)) same
there_node (x ∷ items) (suc k) n e = there_node items k n e

produced : (items : List SyntaxNode) (k : ℕ) (m : Node) → slice_get (map node_of items) k ≡ Some m → production_of (slice_get items k) ≡ m.production
produced [] k m e = cc
produced (x ∷ items) zero m e = let same : node_of x ≡ m = cc in ap (λ (n : Node). n.production) same
produced (x ∷ items) (suc k) m e = produced items k m e

none_found : (items : List SyntaxNode) (ks : List ℕ) → All no_specs (map node_of items) ks → first_where (λ c. nat_eq (production_of (slice_get items c)) p_specs) ks ≡ None
none_found items [] h = refl
none_found items (k ∷ ks) h = by (nat_eq (production_of (slice_get items k)) p_specs) refl (none_found items ks h.1)
  where
    by : (b : Bool) → nat_eq (production_of (slice_get items k)) p_specs ≡ b → first_where (λ c. nat_eq (production_of (slice_get items c)) p_specs) ks ≡ None → (if b then Some k else first_where (λ c. nat_eq (production_of (slice_get items c)) p_specs) ks) ≡ None
    by true e later = absurd (let bad : not (nat_eq (production_of (slice_get items k)) 6) ≡ true = subst (λ (q : ℕ). not (nat_eq q 6) ≡ true) (sym (produced items k h.0.0 h.0.1)) h.0.2 in let no : not true ≡ true = subst (λ (b : Bool). not b ≡ true) e bad in cc)
    by false e later = later

module _ (tokens : Tokens) (unit : ℕ) (tree : SyntaxTree) (is : IsUnit tokens unit tree) where
  abbrev items : List SyntaxNode
  items = tree.nodes.items

  firsts : (i : ℕ) (n : SyntaxNode) → slice_get items i ≡ Some n → (n.production ≡ 1) ⊎ (n.production ≡ 3) → SpecsFirst (map node_of items) n.children.items
  firsts i n e p =
      let read = is.0 in
      subst (λ (l : List Node). SpecsFirst l n.children.items) read.2
      (all_first tokens.text.now tokens.list.items p_unit 0 (begin 0 no_names []) read.0 refl read.1 i (node_of n) (subst (λ (l : List Node). slice_get l i ≡ Some (node_of n)) (sym read.2) (there_node items i n e)) p)

  pub only : (q k : ℕ) (ks : List ℕ) → (nat_eq (production_of (slice_get items q)) p_external ≡ true) ⊎ (nat_eq (production_of (slice_get items q)) p_declaration ≡ true) → children_of (slice_get items q) ≡ k ∷ ks
      → first_where (λ c. nat_eq (production_of (slice_get items c)) p_specs) ks ≡ None
  only q k ks which e = by (slice_get items q) refl which e
    where
      turn : (p : ℕ) → (nat_eq p p_external ≡ true) ⊎ (nat_eq p p_declaration ≡ true) → (p ≡ 1) ⊎ (p ≡ 3)
      turn p (inl h) = inl (eqb-true p 1 h)
      turn p (inr h) = inr (eqb-true p 3 h)

      by : (o : Option SyntaxNode) → slice_get items q ≡ o → (nat_eq (production_of o) p_external ≡ true) ⊎ (nat_eq (production_of o) p_declaration ≡ true) → children_of o ≡ k ∷ ks → first_where (λ c. nat_eq (production_of (slice_get items c)) p_specs) ks ≡ None
      by None at which e = cc
      by (Some n) at which e = none_found items ks (subst (SpecsFirst (map node_of items)) e (firsts q n at (turn n.production which)))

pub definitions_known : DefinitionsKnown
unfolding source_of
definitions_known tokens unit tree tag_number senses cut is are whole d defined h internal =
    let s = numbered tag_number (source_of tokens tree) in
    known s (tree_is tokens unit tree is tag_number) (units_families tokens unit tree tag_number cut is) (units_in_order tokens unit tree tag_number is) (λ q k ks which e. only tokens unit tree is q k ks which e) senses are whole d defined (heads tokens unit tree cut is d defined) h internal

pub owners_known : OwnersKnown
owners_known tokens unit tree tag_number name u cut is b = owners.owners_stand tokens unit tree tag_number name u cut is b (definitions_known tokens unit tree tag_number b.senses cut is b.are_senses b.whole)
