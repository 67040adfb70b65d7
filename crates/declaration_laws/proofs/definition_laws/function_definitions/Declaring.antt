-- A name in a declarator is declared by its outermost declarator alone.
use Rattle.std.proofs.Common.{◌≡◌, ◌<◌, ℕ, ◌||◌, ◌&&◌, ◌==◌, nat_eq, not, Bool, true, false, List, [], ◌∷◌, Option, Some, None, length, slice_get, eq-eqb, refl, sym, ap, ◌∙◌, subst, ◌⊎◌, inl, inr}
use Rattle.std.specs.Prelude.{if◌then◌else◌}
use Rattle.c_lexer.specs.declared.Token.{Token}
use Rattle.c_grammar.specs.Productions.{p_external, p_rest, p_declaration, p_specs, p_type, p_struct, p_enum, p_enumerator, p_declarator, p_abstract, p_either, p_parameter, p_statement, p_primary}
use Rattle.c_grammar.specs.Terminals.{contains}
use Rattle.c_grammar.specs.Reads.{Node}
use Rattle.c_mentions.specs.declared.declarators.Derivation.{Derivation}
use Rattle.c_mentions.specs.declared.mentions.Linkage.{Linkage}
use Rattle.c_mentions.specs.declared.mentions.Mention.{Mention}
use Rattle.c_mentions.specs.declared.mentions.Mention.TheVariants as mention
use Rattle.c_mentions.specs.declared.roles.Role.{Role}
use Rattle.c_mentions.specs.declared.roles.Role.TheVariants as role
use Rattle.c_mentions.specs.Syntax as syntax
use Rattle.c_mentions.specs.Declarators.{declarator}
use Rattle.c_mentions.specs.Mentions.{mention_at, leaf_mention, name_used, label_used, is_type_word, is_list_word, end_mention, declarator_mention, enumerator_mention, at_leaf, name_declared, enumerator_leaf, name_at, is_exempt}
use Rattle.c_mentions.specs.Roles.{handed, in_declaration, in_specs, in_type, in_struct, in_enum, in_statement}
use Rattle.c_mentions.specs.Settings.{Standing, standings, outermost}
use Rattle.c_mentions.specs.Symbols.{symbol_of}
use Rattle.c_scope.specs.declared.kinds.Declared.{Declared}
use Rattle.c_senses.specs.Tree.{Source, children_at, is_a, parent_of}
use Rattle.c_senses.specs.Declarators.{is_declarator, is_outermost}
use Rattle.core_node_laws.proofs.count_laws.passed.parsed_tree_laws.placed_laws.Climbing.{Grown}
use Rattle.declaration_laws.proofs.definition_laws.linkage_laws.Origins.{HasOrigin}
use Rattle.declaration_laws.proofs.definition_laws.linkage_laws.Standings.{HasParent, parents}
use Rattle.declaration_laws.proofs.definition_laws.linkage_laws.Seen.{nodes, some_same, none_some, no_both, production_is, production_same, children_are, child_is, node_within, apart, parent_is}
use Rattle.declaration_laws.proofs.definition_laws.linkage_laws.Chains.{either_is, declaring, Reached, name_reached}

-- the roles in which declarators declare
abbrev pub Declares : Role → Type 0
Declares (role.Declaration x) = Unit {0}
Declares role.Parameter = Unit {0}
Declares r = ⊥

module _ (tokens : List Token) (nodes : List Node) where
  pub data Who (n : ℕ) (r : Role) (leaf : ℕ) : Type 0 where
    enumerator : (syntax.production_at nodes n == p_enumerator) ≡ true → syntax.first_child nodes n ≡ Some leaf → Who n r leaf
    declares : (syntax.production_at nodes n == p_declarator || syntax.production_at nodes n == p_either) ≡ true → (declarator tokens nodes n).name ≡ Some leaf → Declares r → Who n r leaf

  module _ (text : List ℕ) (symbol : ℕ → ℕ) (n : ℕ) (r : Role) (leaf sign : ℕ) (l : Linkage) (d : Derivation) (type_name : Option ℕ) where
    abbrev Declaring : Mention
    Declaring = mention.Declares leaf sign l d type_name

    no_use : (name : List ℕ) (at : ℕ) (in_body : Bool) → name_used name at in_body ≡ Declaring → ⊥
    unfolding name_used
    no_use name at in_body e = by (is_type_word name || is_list_word name) e
      where
        by : (b : Bool) → (if b then mention.Nothing else mention.Use at (is_exempt name in_body)) ≡ Declaring → ⊥
        by true e = cc
        by false e = cc

    no_label : (first : Option ℕ) (i at : ℕ) → label_used first i at ≡ Declaring → ⊥
    no_label None i at e = cc
    no_label (Some first) i at e = by (first == i) e
      where
        by : (b : Bool) → (if b then mention.Label at else mention.Goto at) ≡ Declaring → ⊥
        by true e = cc
        by false e = cc

    no_leaf : (name : List ℕ) (at i : ℕ) (in_body : Bool) (x : Role) → leaf_mention name at i in_body x ≡ Declaring → ⊥
    no_leaf name at i in_body role.Name e = no_use name at in_body e
    no_leaf name at i in_body role.Alone e = no_use name at in_body e
    no_leaf name at i in_body (role.Tag how) e = cc
    no_leaf name at i in_body (role.Statement first selects) e = no_label first i at e
    no_leaf name at i in_body role.Elsewhere e = cc
    no_leaf name at i in_body (role.Declaration specifiers) e = cc
    no_leaf name at i in_body role.Parameter e = cc

    by_role : (x : Role) (name : ℕ) → name_declared name (symbol (syntax.token_at nodes name)) (declarator tokens nodes n).derivation x ≡ Declaring → (name ≡ leaf) × Declares x
    by_role (role.Declaration specifiers) name e = (let is : name ≡ leaf = cc in is, tt)
    by_role role.Parameter name e = (let is : name ≡ leaf = cc in is, tt)
    by_role role.Name name e = absurd (cc)
    by_role role.Alone name e = absurd (cc)
    by_role (role.Tag how) name e = absurd (cc)
    by_role (role.Statement first selects) name e = absurd (cc)
    by_role role.Elsewhere name e = absurd (cc)

    by_declarator : (syntax.production_at nodes n == p_declarator || syntax.production_at nodes n == p_either) ≡ true → declarator_mention symbol nodes (declarator tokens nodes n) r ≡ Declaring → Who n r leaf
    unfolding declarator_mention
    by_declarator production e = by (declarator tokens nodes n).name refl e
      where
        by : (o : Option ℕ) → (declarator tokens nodes n).name ≡ o → at_leaf symbol nodes (declarator tokens nodes n).derivation r o ≡ Declaring → Who n r leaf
        by None at e = absurd (cc)
        by (Some name) at e = let same = by_role r name e in declares production (at ∙ ap (λ (k : ℕ). Some k) same.0) same.1

    by_enumerator : (syntax.production_at nodes n == p_enumerator) ≡ true → enumerator_mention symbol nodes n ≡ Declaring → Who n r leaf
    unfolding enumerator_mention
    by_enumerator production e = by (syntax.first_child nodes n) refl e
      where
        by : (o : Option ℕ) → syntax.first_child nodes n ≡ o → enumerator_leaf symbol nodes o ≡ Declaring → Who n r leaf
        by None at e = absurd (cc)
        by (Some name) at e = enumerator production (at ∙ ap (λ (k : ℕ). Some k) (let is : name ≡ leaf = cc in is))

    by_end : end_mention tokens symbol nodes n r ≡ Declaring → Who n r leaf
    unfolding end_mention
    by_end e = by (syntax.production_at nodes n == p_enumerator) (syntax.production_at nodes n == p_declarator || syntax.production_at nodes n == p_either) refl refl e
      where
        by : (a b : Bool) → (syntax.production_at nodes n == p_enumerator) ≡ a → (syntax.production_at nodes n == p_declarator || syntax.production_at nodes n == p_either) ≡ b
            → (if a then enumerator_mention symbol nodes n else if b then declarator_mention symbol nodes (declarator tokens nodes n) r else mention.Nothing) ≡ Declaring → Who n r leaf
        by true b one other e = by_enumerator one e
        by false true one production e = by_declarator production e
        by false false one production e = absurd (cc)

    pub who : (in_body : Bool) → mention_at text tokens symbol nodes n in_body r ≡ Declaring → Who n r leaf
    unfolding mention_at
    who in_body e = by (syntax.is_name tokens nodes n) e
      where
        by : (b : Bool) → (if b then leaf_mention (name_at text tokens (syntax.token_at nodes n)) (symbol (syntax.token_at nodes n)) n in_body r else end_mention tokens symbol nodes n r) ≡ Declaring → Who n r leaf
        by true e = absurd (no_leaf (name_at text tokens (syntax.token_at nodes n)) (symbol (syntax.token_at nodes n)) n in_body r e)
        by false e = by_end e

    -- the symbol is that of the leaf
    Signed : Type 0
    Signed = sign ≡ symbol (syntax.token_at nodes leaf)

    sign_role : (x : Role) (name : ℕ) → name_declared name (symbol (syntax.token_at nodes name)) (declarator tokens nodes n).derivation x ≡ Declaring → Signed
    unfolding Signed
    sign_role (role.Declaration specifiers) name e = let is : name ≡ leaf = cc in let same : symbol (syntax.token_at nodes name) ≡ sign = cc in sym same ∙ ap (λ (k : ℕ). symbol (syntax.token_at nodes k)) is
    sign_role role.Parameter name e = let is : name ≡ leaf = cc in let same : symbol (syntax.token_at nodes name) ≡ sign = cc in sym same ∙ ap (λ (k : ℕ). symbol (syntax.token_at nodes k)) is
    sign_role role.Name name e = absurd (cc)
    sign_role role.Alone name e = absurd (cc)
    sign_role (role.Tag how) name e = absurd (cc)
    sign_role (role.Statement first selects) name e = absurd (cc)
    sign_role role.Elsewhere name e = absurd (cc)

    sign_declarator : declarator_mention symbol nodes (declarator tokens nodes n) r ≡ Declaring → Signed
    unfolding declarator_mention
    sign_declarator e = by (declarator tokens nodes n).name e
      where
        by : (o : Option ℕ) → at_leaf symbol nodes (declarator tokens nodes n).derivation r o ≡ Declaring → Signed
        by None e = absurd (cc)
        by (Some name) e = sign_role r name e

    sign_enumerator : enumerator_mention symbol nodes n ≡ Declaring → Signed
    unfolding enumerator_mention Signed
    sign_enumerator e = by (syntax.first_child nodes n) e
      where
        by : (o : Option ℕ) → enumerator_leaf symbol nodes o ≡ Declaring → Signed
        by None e = absurd (cc)
        by (Some name) e = let is : name ≡ leaf = cc in let same : symbol (syntax.token_at nodes name) ≡ sign = cc in sym same ∙ ap (λ (k : ℕ). symbol (syntax.token_at nodes k)) is

    sign_end : end_mention tokens symbol nodes n r ≡ Declaring → Signed
    unfolding end_mention
    sign_end e = by (syntax.production_at nodes n == p_enumerator) (syntax.production_at nodes n == p_declarator || syntax.production_at nodes n == p_either) e
      where
        by : (a b : Bool) → (if a then enumerator_mention symbol nodes n else if b then declarator_mention symbol nodes (declarator tokens nodes n) r else mention.Nothing) ≡ Declaring → Signed
        by true b e = sign_enumerator e
        by false true e = sign_declarator e
        by false false e = absurd (cc)

    pub sign_is : (in_body : Bool) → mention_at text tokens symbol nodes n in_body r ≡ Declaring → sign ≡ symbol (syntax.token_at nodes leaf)
    unfolding mention_at Signed
    sign_is in_body e = by (syntax.is_name tokens nodes n) e
      where
        by : (b : Bool) → (if b then leaf_mention (name_at text tokens (syntax.token_at nodes n)) (symbol (syntax.token_at nodes n)) n in_body r else end_mention tokens symbol nodes n r) ≡ Declaring → sign ≡ symbol (syntax.token_at nodes leaf)
        by true e = absurd (no_leaf (name_at text tokens (syntax.token_at nodes n)) (symbol (syntax.token_at nodes n)) n in_body r e)
        by false e = sign_end e

  -- nothing that stands in a declarator declares
  abbrev hands_by : ℕ → ℕ → Role → Role
  hands_by p n r =
      if p == p_external then in_declaration tokens nodes n
      else if p == p_declaration then in_declaration tokens nodes n
      else if p == p_rest then r
      else if p == p_parameter then role.Parameter
      else if p == p_specs then in_specs r
      else if p == p_type then in_type r
      else if p == p_primary then role.Name
      else if p == p_struct then in_struct nodes n r
      else if p == p_enum then in_enum nodes n
      else if p == p_statement then in_statement tokens nodes n
      else role.Elsewhere

  pub hands : (p n : ℕ) (r : Role) → syntax.production_at nodes n ≡ p → hands_by p n r ≡ role.Elsewhere → Declares (handed tokens nodes n r) → ⊥
  unfolding handed
  hands p n r is none h = subst Declares (ap (λ (q : ℕ). hands_by q n r) is ∙ none) h

module _ (s : Source) (grown : Grown s) where
  no_parent_declarator : (p : ℕ) (r : Role) → Declares (handed s.tokens (nodes s) p r) → is_declarator s p ≡ false
  no_parent_declarator p r h = by (is_a s p_declarator p) (is_a s p_abstract p) (is_a s p_either p) refl refl refl
    where
      by : (a b c : Bool) → is_a s p_declarator p ≡ a → is_a s p_abstract p ≡ b → is_a s p_either p ≡ c → (a || b || c) ≡ false
      by true b c e f g = absurd (hands s.tokens (nodes s) p_declarator p r (production_same s p_declarator p refl e) refl h)
      by false true c e f g = absurd (hands s.tokens (nodes s) p_abstract p r (production_same s p_abstract p refl f) refl h)
      by false false true e f g = absurd (hands s.tokens (nodes s) p_either p r (production_same s p_either p refl g) refl h)
      by false false false e f g = refl

  pub outer_is : (n : ℕ) (st : Standing) → slice_get (standings s.tokens (nodes s) 0 (nodes s)) n ≡ Some st → Declares st.role → is_declarator s n ≡ true → is_outermost s n ≡ true
  outer_is n st at h is = by (parents s.tokens (nodes s) n st at)
    where
      end : (a b : Bool) → a ≡ true → b ≡ false → (a && not b) ≡ true
      end true true e f = cc
      end true false e f = refl
      end false b e f = cc

      by : ((st ≡ outermost (length (nodes s))) × ((k : ℕ) (m : Node) → n < k → slice_get (nodes s) k ≡ Some m → contains m.children n ≡ false)) ⊎ HasParent s.tokens (nodes s) n st → is_outermost s n ≡ true
      by (inl none) = absurd (subst (λ (x : Standing). Declares x.role) none.0 h)
      by (inr p) =
          let up : parent_of s n ≡ Some p.parent = parent_is s grown p.parent n (child_is s p.parent n p.node p.there p.child) in
          let quiet = no_parent_declarator p.parent p.above.role (subst (λ (x : Standing). Declares x.role) p.is h) in
          ap (λ (o : Option ℕ). is_declarator s n && elim o as (λ _. Bool) [ None ↦ true | Some x ↦ not (is_declarator s x) ]) up ∙ end (is_declarator s n) (is_declarator s p.parent) is quiet

  first_in : (l : List ℕ) (x : ℕ) → syntax.first_of l ≡ Some x → contains l x ≡ true
  first_in [] x e = absurd (none_some e)
  first_in (y ∷ l) x e = by (nat_eq x x) refl
    where
      by : (b : Bool) → nat_eq x x ≡ b → contains (y ∷ l) x ≡ true
      by true f = ap (λ (z : ℕ). nat_eq z x || contains l x) (some_same e) ∙ ap (λ (b : Bool). b || contains l x) f
      by false f = absurd (let never : nat_eq x x ≡ true = same x in no_both (nat_eq x x) never f)
        where
          same : (z : ℕ) → nat_eq z z ≡ true
          same z = eq-eqb z z refl

  -- the node that declares a name in a declarator is its outermost one
  pub declared_by_outermost : (y : Declared) (o name : ℕ) (outer : is_outermost s o ≡ true) → Reached s grown o name outer → (h : HasOrigin s.text s.tokens (nodes s) y) → y.node ≡ name → h.node ≡ o
  declared_by_outermost y o name outer reached h is = by (who s.tokens (nodes s) s.text (symbol_of s.text s.tokens) h.node h.standing.role h.leaf h.symbol h.linkage h.derivation h.type_name (_) h.mentions)
    where
      leaf_is : h.leaf ≡ name
      leaf_is = sym (ap (λ (x : Declared). x.node) h.is) ∙ is

      by : Who s.tokens (nodes s) h.node h.standing.role h.leaf → h.node ≡ o
      by (enumerator one first) =
          let child : contains (children_at s h.node) name ≡ true = subst (λ (k : ℕ). contains (children_at s h.node) k ≡ true) leaf_is (subst (λ (l : List ℕ). contains l h.leaf ≡ true) (children_are s h.node) (first_in (syntax.children_at (nodes s) h.node) h.leaf first)) in
          let same : h.node ≡ reached.holder = grown.once h.node reached.holder name child reached.child in
          let is_enumerator : is_a s p_enumerator reached.holder ≡ true = subst (λ (k : ℕ). is_a s p_enumerator k ≡ true) same (production_is s p_enumerator h.node refl one) in
          absurd (pick reached.declares is_enumerator)
        where
          pick : (is_a s p_declarator reached.holder ≡ true) ⊎ (is_a s p_either reached.holder ≡ true) → is_a s p_enumerator reached.holder ≡ true → ⊥
          pick (inl d) e = no_both (is_a s p_declarator reached.holder) d (apart s reached.holder p_enumerator p_declarator e refl)
          pick (inr d) e = no_both (is_a s p_either reached.holder) d (apart s reached.holder p_enumerator p_either e refl)
      by (declares production named role_is) =
          let which = either_is s grown h.node p_declarator p_either refl refl production in
          let own_outer = outer_is h.node h.standing h.stands role_is (declaring s grown h.node which) in
          let own = name_reached s grown h.node name own_outer which (inside which) (named ∙ ap (λ (k : ℕ). Some k) leaf_is) in
          some_same (sym own.outermost ∙ reached.outermost)
        where
          inside : (is_a s p_declarator h.node ≡ true) ⊎ (is_a s p_either h.node ≡ true) → h.node < length s.nodes
          inside (inl d) = node_within s p_declarator h.node d refl
          inside (inr d) = node_within s p_either h.node d refl
