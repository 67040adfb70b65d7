-- Where a name with linkage is declared.
use Rattle.std.proofs.Common.{◌≡◌, ◌<◌, ℕ, ◌||◌, ◌&&◌, ◌==◌, not, nat_eq, Bool, true, false, List, [], ◌∷◌, Option, Some, None, length, slice_get, refl, sym, ap, ◌∙◌, subst, ◌⊎◌, inl, inr}
use Rattle.std.specs.Prelude.{option_and_then, if◌then◌else◌}
use Rattle.std.specs.List.{find}
use Rattle.std.proofs.lemmas.Bool.{eqb-true}
use Rattle.c_grammar.specs.Productions.{p_external, p_rest, p_declaration, p_specs, p_storage, p_field, p_parameter, p_statement, p_declarator, p_either}
use Rattle.c_grammar.specs.Terminals.{contains}
use Rattle.c_grammar.specs.Words.{word_extern}
use Rattle.c_mentions.specs.Syntax as syntax
use Rattle.c_mentions.specs.declared.mentions.Linkage.{Linkage}
use Rattle.c_mentions.specs.declared.mentions.Linkage.TheVariants as linkage
use Rattle.c_mentions.specs.declared.roles.Specifiers.{Specifiers}
use Rattle.c_mentions.specs.Roles as roles
use Rattle.c_mentions.specs.Mentions.{linkage_of}
use Rattle.c_mentions.specs.Symbols.{symbol_of}
use Rattle.c_mentions.specs.Settings.{Standing, standings}
use Rattle.c_scope.specs.declared.kinds.Kind.{Kind}
use Rattle.c_scope.specs.declared.kinds.Kind.TheVariants.{Linked, Typedef, Plain}
use Rattle.c_scope.specs.declared.kinds.Declared.{Declared}
use Rattle.c_scope.specs.Known.{first_scope, kind_of, is_function}
use Rattle.c_scope.specs.Resolves.{bindings}
use Rattle.c_senses.specs.Tree.{Source, children_at, is_a, child_of, first_where, parent_of}
use Rattle.c_senses.specs.Names.{ordinary_at, is_linked_kind, is_typedef_kind, has_linkage, names_type}
use Rattle.c_senses.specs.Declarators.{is_declarator, is_outermost, outermost_of, declaration_around, specs_of}
use Rattle.c_senses.specs.Entities.{declaration_of, is_linked, is_parameter, is_at_file, has_storage, declares_function, specified, specified_of}
use Rattle.c_senses.specs.Rows.{AreSenses}
use Rattle.c_senses.specs.Sense.{Sense, IsSpecified, Specified, sense_in}
use Rattle.declaration_laws.specs.definition_laws.Definitions.{InDefinition}
use Rattle.core_node_laws.specs.count_laws.passed.parsed_tree_laws.nesting_laws.Nested.{Nested}
use Rattle.core_node_laws.proofs.count_laws.passed.parsed_tree_laws.nesting_laws.PassedOn.{Grown}
use Rattle.declaration_laws.specs.definition_laws.linkage_laws.Linked.{StandsLinked}
use Rattle.declaration_laws.proofs.definition_laws.linkage_laws.Origins.{HasOrigin, origin}
use Rattle.declaration_laws.proofs.definition_laws.linkage_laws.Seen.{nodes, some_same, none_some, children_are, node_within, apart, parent_is}
use Rattle.declaration_laws.proofs.definition_laws.linkage_laws.Roles as own
use Rattle.declaration_laws.proofs.definition_laws.linkage_laws.Chains.{Declares, declares, either_is, declaring, Reached, name_reached}
use Rattle.declaration_laws.proofs.definition_laws.linkage_laws.Scopes.{rests_nest, inner}
use Rattle.declaration_laws.proofs.definition_laws.linkage_laws.Extern.{StorageWords, has_word}

-- what the grammar and the resolution of names say of a tree
pub record Tree (s : Source) : Type 0 where
  pub grown : Grown s
  pub nested : Nested s
  pub defined : (i : ℕ) → is_a s p_declaration i ≡ true → InDefinition s i
  pub words : StorageWords s
  pub storage : (i c : ℕ) → contains (children_at s i) c ≡ true → is_a s p_storage c ≡ true → is_a s p_specs i ≡ true
  pub names : s.declared.ordinary ≡ (bindings s.text s.tokens (nodes s)).names

module _ (s : Source) (tree : Tree s) where
  abbrev all : List Standing
  all = standings s.tokens (nodes s) 0 (nodes s)

  quiet : (i a : ℕ) → is_a s a i ≡ true → nat_eq a 19 ≡ false → nat_eq a 20 ≡ false → nat_eq a 21 ≡ false → is_declarator s i ≡ false
  quiet i a is x y z = by (is_a s 19 i) (is_a s 20 i) (is_a s 21 i) (apart s i a 19 is x) (apart s i a 20 is y) (apart s i a 21 is z)
    where
      by : (a b c : Bool) → a ≡ false → b ≡ false → c ≡ false → (a || b || c) ≡ false
      by true b c e f g = cc
      by false true c e f g = cc
      by false false true e f g = cc
      by false false false e f g = refl

  module _ (outer : ℕ) (st : Standing) (x : Specifiers) (d : Declares s tree.grown outer st x) where
    parent : parent_of s outer ≡ Some d.parent
    parent = parent_is s tree.grown d.parent outer d.child

    no_declarator : is_declarator s d.parent ≡ false
    no_declarator = by d.around d.is
      where
        by : (d.parent ≡ d.declaration) ⊎ ((is_a s p_rest d.parent ≡ true) × (contains (children_at s d.declaration) d.parent ≡ true)) → (is_a s p_external d.declaration ≡ true) ⊎ (is_a s p_declaration d.declaration ≡ true) → is_declarator s d.parent ≡ false
        by (inl same) (inl is) = quiet d.parent p_external (subst (λ (i : ℕ). is_a s p_external i ≡ true) (sym same) is) refl refl refl
        by (inl same) (inr is) = quiet d.parent p_declaration (subst (λ (i : ℕ). is_a s p_declaration i ≡ true) (sym same) is) refl refl refl
        by (inr rest) is = quiet d.parent p_rest rest.0 refl refl refl

    outermost : is_declarator s outer ≡ true → is_outermost s outer ≡ true
    outermost is = ap (λ (o : Option ℕ). is_declarator s outer && elim o as (λ _. Bool) [ None ↦ true | Some p ↦ not (is_declarator s p) ]) parent ∙ by (is_declarator s outer) (is_declarator s d.parent) is no_declarator
      where
        by : (a b : Bool) → a ≡ true → b ≡ false → (a && not b) ≡ true
        by true true e f = cc
        by true false e f = refl
        by false b e f = cc

    own_around : (i : ℕ) → is_a s p_rest i ≡ false → is_a s p_field i ≡ false → declaration_around s i ≡ Some i
    own_around i rest field = by (is_a s p_rest i) (is_a s p_field i) rest field
      where
        by : (a b : Bool) → a ≡ false → b ≡ false → (if a || b then parent_of s i else Some i) ≡ Some i
        by true b e f = cc
        by false true e f = cc
        by false false e f = refl

    in_declaration : declaration_around s d.parent ≡ Some d.declaration
    in_declaration = by d.around d.is
      where
        by : (d.parent ≡ d.declaration) ⊎ ((is_a s p_rest d.parent ≡ true) × (contains (children_at s d.declaration) d.parent ≡ true)) → (is_a s p_external d.declaration ≡ true) ⊎ (is_a s p_declaration d.declaration ≡ true) → declaration_around s d.parent ≡ Some d.declaration
        by (inl same) (inl is) = ap (declaration_around s) same ∙ own_around d.declaration (apart s d.declaration p_external p_rest is refl) (apart s d.declaration p_external p_field is refl)
        by (inl same) (inr is) = ap (declaration_around s) same ∙ own_around d.declaration (apart s d.declaration p_declaration p_rest is refl) (apart s d.declaration p_declaration p_field is refl)
        by (inr rest) is = ap (λ (b : Bool). if b || is_a s p_field d.parent then parent_of s d.parent else Some d.parent) rest.0 ∙ parent_is s tree.grown d.declaration d.parent rest.1

    around : option_and_then (declaration_around s) (parent_of s outer) ≡ Some d.declaration
    around = ap (option_and_then (declaration_around s)) parent ∙ in_declaration

  -- a name that a declaration declares, by its outermost declarator
  pub record Named (leaf : ℕ) (y : Declared) : Type 0 where
    pub outer : ℕ
    pub declarator : (is_a s p_declarator outer ≡ true) ⊎ (is_a s p_either outer ≡ true)
    pub standing : Standing
    pub stands : slice_get all outer ≡ Some standing
    pub specifiers : Specifiers
    pub at : Declares s tree.grown outer standing specifiers
    pub is_outer : is_outermost s outer ≡ true
    pub reached : Reached s tree.grown outer leaf is_outer
    pub kind : y.kind ≡ kind_of (linkage_of specifiers) (first_scope (length (nodes s)) standing.scopes == length (nodes s)) y.is_function

  pub named : (leaf : ℕ) (y : Declared) → ordinary_at s leaf ≡ Some y → (y.kind ≡ Plain) ⊎ Named leaf y
  named leaf y at =
      let found : find (λ (d : Declared). d.node == leaf) (bindings s.text s.tokens (nodes s)).names ≡ Some y = subst (λ (ds : List Declared). find (λ (d : Declared). d.node == leaf) ds ≡ Some y) tree.names at in
      by (origin s.text s.tokens (nodes s) leaf y found)
    where
      pick : (h : HasOrigin s.text s.tokens (nodes s) y) → y.node ≡ leaf
          → (h.linkage ≡ linkage.Never) ⊎ own.ByDeclarator s.tokens (nodes s) h.node h.standing.role h.leaf h.linkage h.derivation h.type_name → (y.kind ≡ Plain) ⊎ Named leaf y
      pick h node (inl never) = inl (ap (λ (d : Declared). d.kind) h.is ∙ ap (λ (l : Linkage). kind_of l (first_scope (length (nodes s)) h.standing.scopes == length (nodes s)) (is_function h.before.functions h.derivation h.type_name)) never)
      pick h node (inr b) =
          let d = declares s tree.grown (rests_nest s tree.grown tree.nested) h.node h.standing b.specifiers h.stands b.role_is in
          let which = either_is s tree.grown h.node p_declarator p_either refl refl b.production in
          let outer = outermost h.node h.standing b.specifiers d (declaring s tree.grown h.node which) in
          let leaf_same : h.leaf ≡ leaf = sym (ap (λ (x : Declared). x.node) h.is) ∙ node in
          let function : y.is_function ≡ is_function h.before.functions h.derivation h.type_name = ap (λ (x : Declared). x.is_function) h.is in
          inr (record {
            outer = h.node;
            declarator = which;
            standing = h.standing;
            stands = h.stands;
            specifiers = b.specifiers;
            at = d;
            is_outer = outer;
            reached = name_reached s tree.grown h.node leaf outer which (inside h.node which) (b.name ∙ ap (λ (k : ℕ). Some k) leaf_same);
            kind = ap (λ (x : Declared). x.kind) h.is ∙ (ap (λ (l : Linkage). kind_of l (first_scope (length (nodes s)) h.standing.scopes == length (nodes s)) (is_function h.before.functions h.derivation h.type_name)) b.linkage_is ∙ ap (kind_of (linkage_of b.specifiers) (first_scope (length (nodes s)) h.standing.scopes == length (nodes s))) (sym function));
          })
        where
          inside : (n : ℕ) → (is_a s p_declarator n ≡ true) ⊎ (is_a s p_either n ≡ true) → n < length s.nodes
          inside n (inl is) = node_within s p_declarator n is refl
          inside n (inr is) = node_within s p_either n is refl

      by : HasOrigin s.text s.tokens (nodes s) y × (y.node ≡ leaf) → (y.kind ≡ Plain) ⊎ Named leaf y
      by (h, node) = pick h node (own.declares s.tokens (nodes s) s.text (symbol_of s.text s.tokens) h.node h.standing.role h.leaf h.symbol h.linkage h.derivation h.type_name (_) h.mentions)

  module _ (senses : List Sense) (are : AreSenses s senses) (whole : length senses ≡ length s.nodes) where
    abbrev sense : ℕ → Sense
    sense i = sense_in senses i

    -- the declaration of a name that is so declared
    pub declaration_is : (leaf : ℕ) (y : Declared) (n : Named leaf y) → declaration_of s sense leaf ≡ Some n.at.declaration
    declaration_is leaf y n = ap (λ (o : Option ℕ). option_and_then (declaration_around s) (option_and_then (parent_of s) o)) n.reached.outermost ∙ around n.outer n.standing n.specifiers n.at

    no_parameter : (leaf : ℕ) (y : Declared) → Named leaf y → is_parameter s sense leaf ≡ false
    no_parameter leaf y n = ap (λ (o : Option ℕ). elim o as (λ _. Bool) [ None ↦ false | Some p ↦ is_a s p_parameter p ]) (declaration_is leaf y n) ∙ by n.at.is
      where
        by : (is_a s p_external n.at.declaration ≡ true) ⊎ (is_a s p_declaration n.at.declaration ≡ true) → is_a s p_parameter n.at.declaration ≡ false
        by (inl is) = apart s n.at.declaration p_external p_parameter is refl
        by (inr is) = apart s n.at.declaration p_declaration p_parameter is refl

    first_found : (test : ℕ → Bool) (list : List ℕ) (x : ℕ) → syntax.first_of list ≡ Some x → test x ≡ true → first_where test list ≡ Some x
    first_found test [] x e is = absurd (none_some e)
    first_found test (k ∷ list) x e is = by (test k) (let same : k ≡ x = some_same e in ap test same ∙ is) (some_same e)
      where
        by : (b : Bool) → b ≡ true → k ≡ x → (if b then Some k else first_where test list) ≡ Some x
        by true f same = ap (λ (j : ℕ). Some j) same
        by false f same = cc

    -- the word `extern` of a name
    has_extern : (leaf : ℕ) (y : Declared) (n : Named leaf y) → n.specifiers.is_extern ≡ true → has_storage s sense word_extern leaf ≡ true
    unfolding roles.has_storage roles.specified
    has_extern leaf y n is =
        let d = n.at in
        let told : roles.has_storage s.tokens (nodes s) d.specs word_extern ≡ true = sym (ap (λ (z : Specifiers). z.is_extern) d.specified_is) ∙ is in
        let found = has_word s senses tree.grown are whole tree.words d.specs word_extern told (λ c child storage. tree.storage d.specs c child storage) in
        let first : syntax.first_of (children_at s d.declaration) ≡ Some d.specs = sym (ap syntax.first_of (children_are s d.declaration)) ∙ d.first in
        let child : child_of s p_specs d.declaration ≡ Some d.specs = first_found (is_a s p_specs) (children_at s d.declaration) d.specs first found.0 in
        let specs : option_and_then (specs_of s) (outermost_of s leaf) ≡ Some d.specs = ap (option_and_then (specs_of s)) n.reached.outermost ∙ (ap (option_and_then (child_of s p_specs)) (around n.outer n.standing n.specifiers d) ∙ child) in
        let own : specified_of s sense leaf ≡ Some found.1.0 = ap (specified s sense) specs ∙ ap (λ (z : Sense). elim z as (λ _. Option Specified) [ IsSpecified x ↦ Some x | _ ↦ None ]) found.1.1 in
        ap (λ (o : Option Specified). elim o as (λ _. Bool) [ None ↦ false | Some x ↦ contains x.storage word_extern ]) own ∙ found.1.2

    at_file : (leaf : ℕ) (y : Declared) (n : Named leaf y) → (first_scope (length (nodes s)) n.standing.scopes == length (nodes s)) ≡ true → is_at_file s sense leaf ≡ true
    at_file leaf y n scope = ap (λ (o : Option ℕ). elim o as (λ _. Bool) [ None ↦ false | Some p ↦ is_a s p_external p ]) (declaration_is leaf y n) ∙ by n.at.is
      where
        by : (is_a s p_external n.at.declaration ≡ true) ⊎ (is_a s p_declaration n.at.declaration ≡ true) → is_a s p_external n.at.declaration ≡ true
        by (inl is) = is
        by (inr is) =
            let own_scope : first_scope (length (nodes s)) n.at.at.scopes ≡ length (nodes s) = sym (ap (first_scope (length (nodes s))) n.at.scopes) ∙ eqb-true (first_scope (length (nodes s)) n.standing.scopes) (length (nodes s)) scope in
            absurd (inner s tree.grown tree.nested n.at.declaration (tree.defined n.at.declaration is) (ap (λ (b : Bool). b || is_a s p_statement n.at.declaration) is) n.at.at n.at.stands own_scope)

    is_one : (k : Kind) → is_linked_kind k ≡ true → k ≡ Linked
    is_one Linked h = refl
    is_one Typedef h = cc
    is_one Plain h = cc

    -- what links a name
    why : (leaf : ℕ) (y : Declared) (n : Named leaf y) → y.kind ≡ Linked → (y.is_function ≡ true) ⊎ (((first_scope (length (nodes s)) n.standing.scopes == length (nodes s)) ≡ true) ⊎ (n.specifiers.is_extern ≡ true))
    why leaf y n linked = by n.specifiers.is_typedef n.specifiers.is_extern (first_scope (length (nodes s)) n.standing.scopes == length (nodes s)) y.is_function refl refl refl (sym n.kind ∙ linked)
      where
        by : (t e f g : Bool) → n.specifiers.is_extern ≡ e → (first_scope (length (nodes s)) n.standing.scopes == length (nodes s)) ≡ f → y.is_function ≡ g → kind_of (if t then linkage.Typedef else if e then linkage.External else linkage.Object) f g ≡ Linked
            → (y.is_function ≡ true) ⊎ (((first_scope (length (nodes s)) n.standing.scopes == length (nodes s)) ≡ true) ⊎ (n.specifiers.is_extern ≡ true))
        by true e f g he hf hg k = cc
        by false true f g he hf hg k = inr (inr he)
        by false false true g he hf hg k = inr (inl hf)
        by false false false true he hf hg k = inl hg
        by false false false false he hf hg k = cc

    pub linked_named : (leaf : ℕ) → is_linked s sense leaf ≡ true → (y : Declared) × (ordinary_at s leaf ≡ Some y) × (y.kind ≡ Linked) × Named leaf y
    linked_named leaf h = by (ordinary_at s leaf) refl h
      where
        by : (o : Option Declared) → ordinary_at s leaf ≡ o → (elim o as (λ _. Bool) [ None ↦ false | Some d ↦ has_linkage d ]) ≡ true → (y : Declared) × (ordinary_at s leaf ≡ Some y) × (y.kind ≡ Linked) × Named leaf y
        by None at h = cc
        by (Some y) at h = pick (named leaf y at)
          where
            pick : (y.kind ≡ Plain) ⊎ Named leaf y → (z : Declared) × (ordinary_at s leaf ≡ Some z) × (z.kind ≡ Linked) × Named leaf z
            pick (inl plain) = absurd (let never : is_linked_kind Plain ≡ true = ap is_linked_kind (sym plain) ∙ h in cc)
            pick (inr n) = (y, at, is_one y.kind h, n)

    pub stands_linked : (leaf : ℕ) → is_linked s sense leaf ≡ true → StandsLinked s sense leaf
    stands_linked leaf h =
        let (y, at, linked, n) = linked_named leaf h in
        record {
          parameter = no_parameter leaf y n;
          declared = by y n at linked (why leaf y n linked);
        }
      where
        or_first : (a b : Bool) → a ≡ true → (a || b) ≡ true
        or_first true b e = refl
        or_first false b e = cc

        or_then : (a b : Bool) → b ≡ true → (a || b) ≡ true
        or_then true b e = refl
        or_then false b e = e

        by : (y : Declared) (n : Named leaf y) → ordinary_at s leaf ≡ Some y → y.kind ≡ Linked → (y.is_function ≡ true) ⊎ (((first_scope (length (nodes s)) n.standing.scopes == length (nodes s)) ≡ true) ⊎ (n.specifiers.is_extern ≡ true))
            → (declares_function s sense leaf || (is_at_file s sense leaf || has_storage s sense word_extern leaf)) ≡ true
        by y n at linked (inl function) =
            or_first (declares_function s sense leaf) _
            (ap (λ (o : Option Declared). elim o as (λ _. Bool) [ None ↦ false | Some d ↦ d.is_function && not (names_type d) ]) at ∙ (ap (λ (b : Bool). b && not (is_typedef_kind y.kind)) function ∙ ap (λ (k : Kind). not (is_typedef_kind k)) linked))
        by y n at linked (inr (inl scope)) = or_then (declares_function s sense leaf) _ (or_first (is_at_file s sense leaf) _ (at_file leaf y n scope))
        by y n at linked (inr (inr extern)) = or_then (declares_function s sense leaf) _ (or_then (is_at_file s sense leaf) _ (has_extern leaf y n extern))
