-- The scope of a name that a block declares is the block's.
use Rattle.std.proofs.Common.{◌≡◌, ◌==◌, ◌<◌, ◌||◌, ◌&&◌, not, nat_eq, ℕ, Bool, true, false, List, ◌∷◌, Option, Some, None, length, slice_get, refl, sym, ap, ◌∙◌, subst, ◌⊎◌, inl, inr}
use Rattle.std.specs.Prelude.{option_map, if◌then◌else◌}
use Rattle.std.proofs.lemmas.Option.{slice_get-map}
use Rattle.c_lexer.specs.declared.Token.{Token}
use Rattle.c_lexer.specs.declared.TokenKind.{TokenKind}
use Rattle.c_lexer.specs.declared.TokenKind.TheVariants.{Keyword, End}
use Rattle.c_grammar.specs.Productions.{p_external, p_rest, p_declaration, p_specs, p_type, p_struct, p_enum, p_declarator, p_abstract, p_either, p_parameter, p_block, p_statement, p_primary}
use Rattle.c_grammar.specs.Words.{word_if, word_switch, word_while, word_do, word_for}
use Rattle.c_grammar.specs.Terminals.{contains}
use Rattle.c_grammar.specs.declared.trees.SyntaxNode.{SyntaxNode}
use Rattle.c_grammar.specs.Reads.{Node, node_of, leaf}
use Rattle.c_mentions.specs.declared.roles.Role.{Role}
use Rattle.c_mentions.specs.declared.roles.Role.TheVariants.{Elsewhere, Name, Parameter}
use Rattle.c_mentions.specs.Syntax as syntax
use Rattle.c_mentions.specs.Declarators.{declarator}
use Rattle.c_mentions.specs.Roles.{opened, handed, in_declaration, in_specs, in_type, in_struct, in_enum, in_statement, block_scope, is_selected, selects, begins_with, word_first}
use Rattle.c_mentions.specs.Settings.{Standing, outermost, handed_down, standings, with_scope}
use Rattle.c_scope.specs.Known.{first_scope}
use Rattle.c_senses.specs.Tree.{Source, production_of, kind_of_token, token_of, children_at, is_a, has_word, is_number, word_of_kind}
use Rattle.c_senses.specs.Declarators.{is_declarator, is_outermost, outermost_of}
use Rattle.parsed_tree_laws.proofs.placed_laws.Climbing.{Grown}
use Rattle.declaration_laws.specs.declared_type_laws.owner_laws.passed.definition_laws.scope_laws.Scoped.{IsPart}
use Rattle.declaration_laws.proofs.declared_type_laws.owner_laws.passed.definition_laws.linkage_laws.Standings.{HasParent, parents}
use Rattle.declaration_laws.proofs.declared_type_laws.owner_laws.passed.definition_laws.linkage_laws.Seen.{nodes, no_both, production_same, children_are, child_is, node_has, node_within, parent_is}
use Rattle.declaration_laws.proofs.declared_type_laws.owner_laws.passed.definition_laws.linkage_laws.Roles.{open_by, opens}
use Rattle.declaration_laws.proofs.declared_type_laws.owner_laws.passed.definition_laws.linkage_laws.Chains.{either_is, declaring, name_reached}
use Rattle.valid_unit_laws.specs.object_initialiser_laws.block_uses.Uses.{OpensOwn, DeclaredIn}

module _ (s : Source) (grown : Grown s) where
  abbrev all : List Standing
  all = standings s.tokens (nodes s) 0 (nodes s)

  -- the parent of a part, with where it stands
  parent_there : (p i : ℕ) (st : Standing) → IsPart s p i → slice_get all i ≡ Some st → (above : Standing) × (slice_get all p ≡ Some above) × (st ≡ handed_down s.tokens (nodes s) p above)
  parent_there p i st child at = by (parents s.tokens (nodes s) i st at)
    where
      none_there : ((k : ℕ) (n : Node) → i < k → slice_get (nodes s) k ≡ Some n → contains n.children i ≡ false) → ⊥
      none_there none = let own = node_has s p i child in no_both (contains own.0.children i) own.2 (none p own.0 (grown.before p i child) own.1)

      by : ((st ≡ outermost (length (nodes s))) × ((k : ℕ) (n : Node) → i < k → slice_get (nodes s) k ≡ Some n → contains n.children i ≡ false)) ⊎ HasParent s.tokens (nodes s) i st
          → (above : Standing) × (slice_get all p ≡ Some above) × (st ≡ handed_down s.tokens (nodes s) p above)
      by (inl none) = absurd (none_there none.1)
      by (inr h) =
          let same : h.parent ≡ p = grown.once h.parent p i (child_is s h.parent i h.node h.there h.child) child in
          (h.above, subst (λ (k : ℕ). slice_get all k ≡ Some h.above) same h.stands, subst (λ (k : ℕ). st ≡ handed_down s.tokens (nodes s) k h.above) same h.is)

  -- a declaration and the rest of one open no scope
  opens_none : (n p : ℕ) (r : Role) → is_a s p n ≡ true → nat_eq leaf p ≡ false → open_by s.tokens (nodes s) p n r ≡ None → opened s.tokens (nodes s) n r ≡ None
  opens_none n p r is other none = opens s.tokens (nodes s) p n r (production_same s p n other is) ∙ none

  same_scopes : (n p : ℕ) (above : Standing) → is_a s p n ≡ true → nat_eq leaf p ≡ false → open_by s.tokens (nodes s) p n above.role ≡ None → (handed_down s.tokens (nodes s) n above).scopes ≡ above.scopes
  same_scopes n p above is other none = ap (λ (o : Option ℕ). with_scope o above.scopes) (opens_none n p above.role is other none)

  -- what a node of a production hands down
  abbrev Handed : ℕ → Role → ℕ → Role
  Handed m role p =
      if p == p_external then in_declaration s.tokens (nodes s) m
      else if p == p_declaration then in_declaration s.tokens (nodes s) m
      else if p == p_rest then role
      else if p == p_parameter then Parameter
      else if p == p_specs then in_specs role
      else if p == p_type then in_type role
      else if p == p_primary then Name
      else if p == p_struct then in_struct (nodes s) m role
      else if p == p_enum then in_enum (nodes s) m
      else if p == p_statement then in_statement s.tokens (nodes s) m
      else Elsewhere

  statement_hands : (a : ℕ) (r : Role) → is_a s p_statement a ≡ true → handed s.tokens (nodes s) a r ≡ in_statement s.tokens (nodes s) a
  unfolding handed
  statement_hands a r is = subst (λ (x : ℕ). Handed a r x ≡ in_statement s.tokens (nodes s) a) (sym (production_same s p_statement a refl is)) refl

  declarator_hands : (q : ℕ) (r : Role) → is_declarator s q ≡ true → handed s.tokens (nodes s) q r ≡ Elsewhere
  unfolding handed
  declarator_hands q r is = by (is_a s p_declarator q) (is_a s p_abstract q) (is_a s p_either q) refl refl refl is
    where
      by : (a b c : Bool) → is_a s p_declarator q ≡ a → is_a s p_abstract q ≡ b → is_a s p_either q ≡ c → (a || b || c) ≡ true → Handed q r (syntax.production_at (nodes s) q) ≡ Elsewhere
      by true b c ea eb ec h = subst (λ (x : ℕ). Handed q r x ≡ Elsewhere) (sym (production_same s p_declarator q refl ea)) refl
      by false true c ea eb ec h = subst (λ (x : ℕ). Handed q r x ≡ Elsewhere) (sym (production_same s p_abstract q refl eb)) refl
      by false false true ea eb ec h = subst (λ (x : ℕ). Handed q r x ≡ Elsewhere) (sym (production_same s p_either q refl ec)) refl
      by false false false ea eb ec h = cc

  -- a declarator with a role is outermost
  outer_is : (m : ℕ) (st : Standing) → slice_get all m ≡ Some st → is_declarator s m ≡ true → (st.role ≡ Elsewhere → ⊥) → is_outermost s m ≡ true
  outer_is m st at is some = by (parents s.tokens (nodes s) m st at)
    where
      both : (a b : Bool) → a ≡ true → b ≡ false → (a && not b) ≡ true
      both true false e f = refl
      both false b e f = cc
      both true true e f = cc

      inside : (h : HasParent s.tokens (nodes s) m st) → (b : Bool) → is_declarator s h.parent ≡ b → b ≡ false
      inside h true e = absurd (some (ap (λ (x : Standing). x.role) h.is ∙ declarator_hands h.parent h.above.role e))
      inside h false e = refl

      by : ((st ≡ outermost (length (nodes s))) × ((k : ℕ) (n : Node) → m < k → slice_get (nodes s) k ≡ Some n → contains n.children m ≡ false)) ⊎ HasParent s.tokens (nodes s) m st → is_outermost s m ≡ true
      by (inl none) = absurd (some (ap (λ (x : Standing). x.role) none.0))
      by (inr h) =
          ap (λ (o : Option ℕ). is_declarator s m && elim o as (λ _. Bool) [ None ↦ true | Some p ↦ not (is_declarator s p) ]) (parent_is s grown h.parent m (child_is s h.parent m h.node h.there h.child))
          ∙ both (is_declarator s m) (is_declarator s h.parent) is (inside h (is_declarator s h.parent) refl)

  -- ---- a block or a `for` opens its own scope

  word_is : (w x : ℕ) → has_word s w x ≡ true → syntax.is_word s.tokens (nodes s) x w ≡ true
  word_is w x h =
      subst (λ (o : Option Node). syntax.is_keyword (if syntax.production_of o == leaf then syntax.token_kind s.tokens (syntax.token_of o) else End) w ≡ true) (sym (slice_get-map node_of s.nodes x)) (by (slice_get s.nodes x) h)
    where
      kinds : (k : TokenKind) → is_number (word_of_kind k) w ≡ true → syntax.is_keyword k w ≡ true
      kinds (Keyword k) h = h
      kinds k h = cc

      seen : (b : Bool) (o : Option Token) → (b && is_number (word_of_kind (kind_of_token o)) w) ≡ true → syntax.is_keyword (if b then syntax.kind_of o else End) w ≡ true
      seen true (Some t) h = kinds t.kind h
      seen true None h = cc
      seen false o h = cc

      by : (o : Option SyntaxNode) → ((production_of o == leaf) && is_number (word_of_kind (kind_of_token (token_of s o))) w) ≡ true
          → syntax.is_keyword (if syntax.production_of (option_map node_of o) == leaf then syntax.token_kind s.tokens (syntax.token_of (option_map node_of o)) else End) w ≡ true
      by None h = cc
      by (Some n) h = seen (n.production == leaf) (slice_get s.tokens n.token) h

  for_selects : (b first : ℕ) (rest : List ℕ) → children_at s b ≡ first ∷ rest → has_word s word_for first ≡ true → selects s.tokens (nodes s) b ≡ true
  unfolding selects begins_with
  for_selects b first rest e word =
      last (word_first s.tokens (nodes s) word_if (syntax.first_child (nodes s) b)) (word_first s.tokens (nodes s) word_switch (syntax.first_child (nodes s) b)) (word_first s.tokens (nodes s) word_while (syntax.first_child (nodes s) b))
      (word_first s.tokens (nodes s) word_do (syntax.first_child (nodes s) b)) (word_first s.tokens (nodes s) word_for (syntax.first_child (nodes s) b))
      (subst (λ (l : List ℕ). word_first s.tokens (nodes s) word_for (syntax.first_of l) ≡ true) (sym (children_are s b ∙ e)) (word_is word_for first word))
    where
      last : (u v x y z : Bool) → z ≡ true → (u || v || x || y || z) ≡ true
      last true v x y z h = refl
      last false true x y z h = refl
      last false false true y z h = refl
      last false false false true z h = refl
      last false false false false z h = h

  own_role : (a : ℕ) (r : Role) (b : ℕ) → r ≡ in_statement s.tokens (nodes s) a → block_scope b r ≡ b
  unfolding in_statement
  own_role a r b e = ap (block_scope b) e

  opens_own : (b : ℕ) → OpensOwn s b → (st : Standing) → slice_get all b ≡ Some st → opened s.tokens (nodes s) b st.role ≡ Some b
  opens_own b (inl (block, (a, child, is))) st at =
      let up = parent_there a b st child at in
      opens s.tokens (nodes s) p_block b st.role (production_same s p_block b refl block)
      ∙ ap (λ (k : ℕ). Some k) (own_role a st.role b (ap (λ (x : Standing). x.role) up.2 ∙ statement_hands a up.0.role is))
  opens_own b (inr (statement, (first, rest, e, word))) st at =
      opens s.tokens (nodes s) p_statement b st.role (production_same s p_statement b refl statement) ∙ by (is_selected st.role) (selects s.tokens (nodes s) b) (for_selects b first rest e word)
    where
      by : (x y : Bool) → y ≡ true → (if x || y then Some b else None) ≡ Some b
      by true y h = refl
      by false true h = refl
      by false false h = cc

  -- ---- the scope of a declarator in it

  module _ (b leaf : ℕ) (own : OpensOwn s b) (declared : DeclaredIn s b leaf) where
    declaration_first : (st : Standing) → slice_get all declared.declaration ≡ Some st → first_scope (length (nodes s)) st.scopes ≡ b
    declaration_first st at =
        let up = parent_there b declared.declaration st declared.child at in
        ap (λ (x : Standing). first_scope (length (nodes s)) x.scopes) up.2 ∙ ap (λ (o : Option ℕ). first_scope (length (nodes s)) (with_scope o up.0.scopes)) (opens_own b own up.0 up.1)

    in_declaration_first : (i : ℕ) (st : Standing) → IsPart s declared.declaration i → slice_get all i ≡ Some st → first_scope (length (nodes s)) st.scopes ≡ b
    in_declaration_first i st child at =
        let up = parent_there declared.declaration i st child at in
        ap (λ (x : Standing). first_scope (length (nodes s)) x.scopes) up.2
        ∙ (ap (first_scope (length (nodes s))) (same_scopes declared.declaration p_declaration up.0 declared.is refl refl) ∙ declaration_first up.0 up.1)

    pub first_is : (st : Standing) → slice_get all declared.declarator ≡ Some st → first_scope (length (nodes s)) st.scopes ≡ b
    first_is st at = by declared.place
      where
        by : IsPart s declared.declaration declared.declarator ⊎ ((r : ℕ) × IsPart s declared.declaration r × (is_a s p_rest r ≡ true) × IsPart s r declared.declarator) → first_scope (length (nodes s)) st.scopes ≡ b
        by (inl child) = in_declaration_first declared.declarator st child at
        by (inr (r, child, is, inner)) =
            let up = parent_there r declared.declarator st inner at in
            ap (λ (x : Standing). first_scope (length (nodes s)) x.scopes) up.2
            ∙ (ap (first_scope (length (nodes s))) (same_scopes r p_rest up.0 is refl refl) ∙ in_declaration_first r up.0 child up.1)

  -- the declarator that declares a name
  pub maker_is : (m name : ℕ) (st : Standing) → slice_get all m ≡ Some st → (syntax.production_at (nodes s) m == p_declarator || syntax.production_at (nodes s) m == p_either) ≡ true
      → (declarator s.tokens (nodes s) m).name ≡ Some name → (st.role ≡ Elsewhere → ⊥) → outermost_of s name ≡ Some m
  maker_is m name st at production named some =
      let which = either_is s grown m p_declarator p_either refl refl production in
      let outer = outer_is m st at (declaring s grown m which) some in
      (name_reached s grown m name outer which (inside which) named).outermost
    where
      inside : (is_a s p_declarator m ≡ true) ⊎ (is_a s p_either m ≡ true) → m < length s.nodes
      inside (inl is) = node_within s p_declarator m is refl
      inside (inr is) = node_within s p_either m is refl
