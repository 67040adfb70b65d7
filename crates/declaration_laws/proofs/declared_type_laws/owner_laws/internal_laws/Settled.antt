-- The words of a linked name are known before its declarator.
use Rattle.std.proofs.Common.{arith, ◌≡◌, ◌<◌, ◌≤◌, ℕ, suc, ◌==◌, ◌||◌, nat_eq, Bool, true, false, List, [], ◌∷◌, Some, None, length, slice_get, eq-eqb, refl, sym, ap, ◌∙◌, subst, ◌⊎◌, inl, inr}
use Rattle.std.specs.Prelude.{option_and_then, if◌then◌else◌}
use Rattle.std.proofs.lemmas.Bool.{eqb-true}
use Rattle.c_grammar.specs.Productions.{p_external, p_rest, p_declaration, p_specs, p_field, p_declarator, p_either}
use Rattle.c_grammar.specs.Terminals.{contains}
use Rattle.c_mentions.specs.declared.mentions.Linkage.{Linkage}
use Rattle.c_mentions.specs.declared.mentions.Linkage.TheVariants as linkage
use Rattle.c_mentions.specs.Settings.{Standing, standings}
use Rattle.c_mentions.specs.Symbols.{symbol_of}
use Rattle.c_mentions.specs.declared.roles.Specifiers.{Specifiers}
use Rattle.c_scope.specs.declared.kinds.Kind.TheVariants.{Plain}
use Rattle.c_scope.specs.declared.kinds.Declared.{Declared}
use Rattle.c_scope.specs.Known.{first_scope, kind_of, is_function}
use Rattle.c_senses.specs.Tree.{Source, children_at, is_a, child_of, first_where, parent_of}
use Rattle.c_senses.specs.Names.{is_linked_kind, has_linkage}
use Rattle.c_senses.specs.Declarators.{outermost_of, declaration_around, specs_of}
use Rattle.core_node_laws.specs.passed.parsed_tree_laws.family_laws.Families.{Families, Ascend}
use Rattle.core_node_laws.specs.passed.parsed_tree_laws.member_names.Differ.{InOrder}
use Rattle.core_node_laws.proofs.passed.parsed_tree_laws.placed_laws.Climbing.{found_where}
use Rattle.declaration_laws.proofs.definition_laws.linkage_laws.Origins.{HasOrigin}
use Rattle.declaration_laws.proofs.definition_laws.linkage_laws.Seen.{nodes, some_same, none_some, no_both, node_within, apart, parent_is}
use Rattle.declaration_laws.proofs.definition_laws.linkage_laws.Roles as roles
use Rattle.declaration_laws.proofs.definition_laws.linkage_laws.Chains.{Declares, declares, either_is, declaring, name_reached}
use Rattle.declaration_laws.proofs.definition_laws.linkage_laws.Scopes.{rests_nest}
use Rattle.declaration_laws.proofs.definition_laws.linkage_laws.Linked.{Tree}
use Rattle.declaration_laws.proofs.definition_laws.function_definitions.Declaring.{outer_is, Declares as declares_role}

in_list : (list : List ℕ) (i : ℕ) → contains list i ≡ true → (k : ℕ) × (slice_get list k ≡ Some i)
in_list [] i h = cc
in_list (x ∷ list) i h = by (nat_eq x i) refl h (λ f. in_list list i f)
  where
    by : (b : Bool) → nat_eq x i ≡ b → (b || contains list i) ≡ true → (contains list i ≡ true → (k : ℕ) × (slice_get list k ≡ Some i)) → (k : ℕ) × (slice_get (x ∷ list) k ≡ Some i)
    by true e f later = (0, ap Some (eqb-true x i e))
    by false e f later = let more = later f in (suc more.0, more.1)

ascend_in : (low : ℕ) (ks : List ℕ) (x : ℕ) → Ascend low ks → contains ks x ≡ true → low ≤ x
ascend_in low [] x a h = cc
ascend_in low (k ∷ ks) x a h = by (nat_eq k x) refl h (λ f. ascend_in (suc k) ks x a.1 f)
  where
    by : (b : Bool) → nat_eq k x ≡ b → (b || contains ks x) ≡ true → (contains ks x ≡ true → suc k ≤ x) → low ≤ x
    by true e f later = let same : k ≡ x = eqb-true k x e in let le = a.0 in omega (arith, same, le)
    by false e f later = let more = later f in let le = a.0 in omega (arith, more, le)

-- the first part of a list is that where none behind it passes
only_first : (test : ℕ → Bool) (k c : ℕ) (ks : List ℕ) → first_where test (k ∷ ks) ≡ Some c → first_where test ks ≡ None → k ≡ c
only_first test k c ks e none = by (test k) e
  where
    by : (b : Bool) → (if b then Some k else first_where test ks) ≡ Some c → k ≡ c
    by true f = some_same f
    by false f = absurd (none_some (sym none ∙ f))

-- what is behind the first part of a list
behind_first : (k x : ℕ) (ks : List ℕ) → contains (k ∷ ks) x ≡ true → nat_eq k x ≡ false → contains ks x ≡ true
behind_first k x ks h other = by (nat_eq k x) other h
  where
    by : (b : Bool) → b ≡ false → (b || contains ks x) ≡ true → contains ks x ≡ true
    by true e f = cc
    by false e f = f

module _ (s : Source) (tree : Tree s) (families : Families s) (order : InOrder s) (only : (q : ℕ) (k : ℕ) (ks : List ℕ) → (is_a s p_external q ≡ true) ⊎ (is_a s p_declaration q ≡ true) → children_at s q ≡ k ∷ ks → first_where (is_a s p_specs) ks ≡ None) where
  abbrev all : List Standing
  all = standings s.tokens (nodes s) 0 (nodes s)

  differs : (c x a : ℕ) → is_a s p_specs c ≡ true → is_a s a x ≡ true → nat_eq a 6 ≡ false → nat_eq c x ≡ false
  differs c x a specs is other = by (nat_eq c x) refl
    where
      by : (b : Bool) → nat_eq c x ≡ b → b ≡ false
      by true e = absurd (no_both (is_a s p_specs x) (subst (λ (k : ℕ). is_a s p_specs k ≡ true) (eqb-true c x e) specs) (apart s x a p_specs is other))
      by false e = refl

  -- specifiers stand before each other part
  specs_before : (q c x a : ℕ) → (is_a s p_external q ≡ true) ⊎ (is_a s p_declaration q ≡ true) → child_of s p_specs q ≡ Some c → contains (children_at s q) x ≡ true → is_a s a x ≡ true → nat_eq a 6 ≡ false → (c < x) × (contains (children_at s q) c ≡ true)
  specs_before q c x a which found child is other = by (children_at s q) refl (families.ascend q) found child
    where
      by : (l : List ℕ) → children_at s q ≡ l → Ascend 0 l → first_where (is_a s p_specs) l ≡ Some c → contains l x ≡ true → (c < x) × (contains l c ≡ true)
      by [] e asc f h = cc
      by (k ∷ ks) e asc f h =
          let same : k ≡ c = only_first (is_a s p_specs) k c ks f (only q k ks which e) in
          let specs : is_a s p_specs k ≡ true = subst (λ (j : ℕ). is_a s p_specs j ≡ true) (sym same) (found_where (is_a s p_specs) (k ∷ ks) c f) in
          let more : contains ks x ≡ true = behind_first k x ks h (differs k x a specs is other) in
          let lt : suc k ≤ x = ascend_in (suc k) ks x asc.1 more in
          (subst (λ (j : ℕ). j < x) same (omega (arith, lt)), subst (λ (j : ℕ). contains (k ∷ ks) j ≡ true) same (head k ks))
        where
          head : (j : ℕ) (js : List ℕ) → contains (j ∷ js) j ≡ true
          head j js = let r : nat_eq j j ≡ true = self j in ap (λ (b : Bool). b || contains js j) r
            where
              self : (z : ℕ) → nat_eq z z ≡ true
              self z = eq-eqb z z refl

  around_is : (outer : ℕ) (st : Standing) (x : Specifiers) (d : Declares s tree.grown outer st x) → option_and_then (declaration_around s) (parent_of s outer) ≡ Some d.declaration
  around_is outer st x d = ap (option_and_then (declaration_around s)) (parent_is s tree.grown d.parent outer d.child) ∙ by d.around d.is
    where
      own_around : (i : ℕ) → is_a s p_rest i ≡ false → is_a s p_field i ≡ false → declaration_around s i ≡ Some i
      own_around i rest field = pick (is_a s p_rest i) (is_a s p_field i) rest field
        where
          pick : (a b : Bool) → a ≡ false → b ≡ false → (if a || b then parent_of s i else Some i) ≡ Some i
          pick true b e f = cc
          pick false true e f = cc
          pick false false e f = refl

      by : (d.parent ≡ d.declaration) ⊎ ((is_a s p_rest d.parent ≡ true) × (contains (children_at s d.declaration) d.parent ≡ true)) → (is_a s p_external d.declaration ≡ true) ⊎ (is_a s p_declaration d.declaration ≡ true) → declaration_around s d.parent ≡ Some d.declaration
      by (inl same) (inl is) = ap (declaration_around s) same ∙ own_around d.declaration (apart s d.declaration p_external p_rest is refl) (apart s d.declaration p_external p_field is refl)
      by (inl same) (inr is) = ap (declaration_around s) same ∙ own_around d.declaration (apart s d.declaration p_declaration p_rest is refl) (apart s d.declaration p_declaration p_field is refl)
      by (inr rest) is = ap (λ (b : Bool). if b || is_a s p_field d.parent then parent_of s d.parent else Some d.parent) rest.0 ∙ parent_is s tree.grown d.declaration d.parent rest.1

  -- the specifiers of a linked name stand before the node that declares it
  pub specs_settled : (y : Declared) (h : HasOrigin s.text s.tokens (nodes s) y) → has_linkage y ≡ true → (c : ℕ) → option_and_then (specs_of s) (outermost_of s y.node) ≡ Some c → c < h.node
  specs_settled y h linked c found = by (roles.declares s.tokens (nodes s) s.text (symbol_of s.text s.tokens) h.node h.standing.role h.leaf h.symbol h.linkage h.derivation h.type_name (_) h.mentions)
    where
      node_is : h.leaf ≡ y.node
      node_is = sym (ap (λ (x : Declared). x.node) h.is)

      by : (h.linkage ≡ linkage.Never) ⊎ roles.ByDeclarator s.tokens (nodes s) h.node h.standing.role h.leaf h.linkage h.derivation h.type_name → c < h.node
      by (inl never) =
          let plain : y.kind ≡ Plain = ap (λ (d : Declared). d.kind) h.is ∙ ap (λ (l : Linkage). kind_of l (first_scope (length (nodes s)) h.standing.scopes == length (nodes s)) (is_function h.before.functions h.derivation h.type_name)) never in
          absurd (let bad : is_linked_kind Plain ≡ true = ap is_linked_kind (sym plain) ∙ linked in cc)
      by (inr b) =
          let d = declares s tree.grown (rests_nest s tree.grown tree.nested) h.node h.standing b.specifiers h.stands b.role_is in
          let which = either_is s tree.grown h.node p_declarator p_either refl refl b.production in
          let outer = outer_is s tree.grown h.node h.standing h.stands (subst declares_role (sym b.role_is) tt) (declaring s tree.grown h.node which) in
          let reached = name_reached s tree.grown h.node y.node outer which (inside which) (b.name ∙ ap (λ (k : ℕ). Some k) node_is) in
          let child : child_of s p_specs d.declaration ≡ Some c = sym (ap (option_and_then (specs_of s)) reached.outermost ∙ ap (option_and_then (child_of s p_specs)) (around_is h.node h.standing b.specifiers d)) ∙ found in
          place d child which d.around
        where
          inside : (is_a s p_declarator h.node ≡ true) ⊎ (is_a s p_either h.node ≡ true) → h.node < length s.nodes
          inside (inl e) = node_within s p_declarator h.node e refl
          inside (inr e) = node_within s p_either h.node e refl

          direct : (d : Declares s tree.grown h.node h.standing b.specifiers) → child_of s p_specs d.declaration ≡ Some c → contains (children_at s d.declaration) h.node ≡ true → (is_a s p_declarator h.node ≡ true) ⊎ (is_a s p_either h.node ≡ true) → c < h.node
          direct d child at (inl e) = (specs_before d.declaration c h.node p_declarator d.is child at e refl).0
          direct d child at (inr e) = (specs_before d.declaration c h.node p_either d.is child at e refl).0

          place : (d : Declares s tree.grown h.node h.standing b.specifiers) → child_of s p_specs d.declaration ≡ Some c → (is_a s p_declarator h.node ≡ true) ⊎ (is_a s p_either h.node ≡ true)
              → (d.parent ≡ d.declaration) ⊎ ((is_a s p_rest d.parent ≡ true) × (contains (children_at s d.declaration) d.parent ≡ true)) → c < h.node
          place d child which (inl same) = direct d child (subst (λ (k : ℕ). contains (children_at s k) h.node ≡ true) same d.child) which
          place d child which (inr rest) =
              let r = specs_before d.declaration c d.parent p_rest d.is child rest.1 rest.0 refl in
              order.behind d.declaration c d.parent h.node (in_list (children_at s d.declaration) c r.1) (in_list (children_at s d.declaration) d.parent rest.1) r.0 (in_list (children_at s d.parent) h.node d.child)
