-- What is declared in a block has a scope within the file's.
use Rattle.std.proofs.Common.{arith, ◌≡◌, ◌<◌, ℕ, suc, ◌||◌, ◌&&◌, nat_eq, Bool, true, false, List, [], ◌∷◌, map, Option, Some, None, length, slice_get, refl, sym, ap, ◌∙◌, subst, ◌⊎◌, inl, inr}
use Rattle.std.specs.Prelude.{is_some, if◌then◌else◌}
use Rattle.c_grammar.specs.declared.trees.SyntaxNode.{SyntaxNode}
use Rattle.c_grammar.specs.Productions.{p_external, p_rest, p_declaration, p_suffix, p_block, p_statement}
use Rattle.c_grammar.specs.Terminals.{contains}
use Rattle.c_grammar.specs.Reads.{Node, node_of, leaf}
use Rattle.c_mentions.specs.declared.roles.Specifiers.{Specifiers}
use Rattle.c_mentions.specs.declared.roles.Role.{Role}
use Rattle.c_mentions.specs.declared.roles.Role.TheVariants as role
use Rattle.c_mentions.specs.Roles.{opened, block_scope, is_selected, selects, list_or, specified}
use Rattle.c_mentions.specs.Settings.{Standing, standings, with_scope, handed_down, outermost}
use Rattle.c_scope.specs.Known.{first_scope}
use Rattle.c_senses.specs.Tree.{Source, children_at, is_a, child_of}
use Rattle.declaration_laws.specs.definition_laws.Definitions.{InDefinition, itself, below}
use Rattle.core_node_laws.specs.count_laws.passed.parsed_tree_laws.nesting_laws.Nested.{Nested}
use Rattle.core_node_laws.proofs.count_laws.passed.parsed_tree_laws.nesting_laws.PassedOn.{Grown}
use Rattle.declaration_laws.proofs.definition_laws.linkage_laws.Standings.{HasParent, parents}
use Rattle.declaration_laws.proofs.definition_laws.linkage_laws.Seen.{list_in, nodes, no_both, production_is, production_same, child_is, node_has, node_within, apart}
use Rattle.declaration_laws.proofs.definition_laws.linkage_laws.Roles.{opens, list_is}
use Rattle.declaration_laws.proofs.definition_laws.linkage_laws.Chains.{declares, RestsNest}

length_map : (items : List SyntaxNode) → length (map node_of items) ≡ length items
length_map [] = refl
length_map (x ∷ items) = ap suc (length_map items)

module _ (s : Source) (grown : Grown s) (nested : Nested s) where
  abbrev file : ℕ
  file = length (nodes s)

  abbrev all : List Standing
  all = standings s.tokens (nodes s) 0 (nodes s)

  small : (p i : ℕ) → is_a s p i ≡ true → nat_eq leaf p ≡ false → i < file
  small p i is other = let lt : i < length s.nodes = node_within s p i is other in subst (λ (n : ℕ). i < n) (sym (length_map s.nodes)) lt

  either : (i a b c : ℕ) → (is_a s a i || is_a s b i) ≡ true → nat_eq a c ≡ false → nat_eq b c ≡ false → is_a s c i ≡ false
  either i a b c h differ other = by (is_a s a i) (is_a s b i) refl refl h
    where
      by : (x y : Bool) → is_a s a i ≡ x → is_a s b i ≡ y → (x || y) ≡ true → is_a s c i ≡ false
      by true y e f h = apart s i a c e differ
      by false true e f h = apart s i b c f other
      by false false e f h = cc

  pub rests_nest : RestsNest s grown
  rests_nest i c child rest = either i p_external p_declaration p_rest (nested.rests i c child rest) refl refl

  -- the scope of a block is no more than a node's
  list_small : (n : ℕ) (o : Option ℕ) → n < file → ((l : ℕ) → o ≡ Some l → l < file) → list_or n o < file
  list_small n None lt each = lt
  list_small n (Some l) lt each = each l refl

  block_small : (p : ℕ) (above : Standing) → slice_get all p ≡ Some above → is_a s p_block p ≡ true → (r : Role) → above.role ≡ r → block_scope p r < file
  unfolding specified
  block_small p above at is (role.Declaration x) e =
      let d = declares s grown rests_nest p above x at e in
      list_small p x.list (small p_block p is refl) (λ l told. small p_suffix l (production_is s p_suffix l refl (list_is s.tokens (nodes s) d.declaration l (ap (λ (y : Specifiers). y.list) (sym d.specified_is) ∙ told))) refl)
  block_small p above at is role.Name e = small p_block p is refl
  block_small p above at is role.Alone e = small p_block p is refl
  block_small p above at is (role.Tag how) e = small p_block p is refl
  block_small p above at is (role.Statement first selected) e = small p_block p is refl
  block_small p above at is role.Elsewhere e = small p_block p is refl
  block_small p above at is role.Parameter e = small p_block p is refl

  in_block : (p : ℕ) (above : Standing) → slice_get all p ≡ Some above → is_a s p_block p ≡ true → first_scope file (handed_down s.tokens (nodes s) p above).scopes ≡ file → ⊥
  in_block p above at is e =
      let scope : opened s.tokens (nodes s) p above.role ≡ Some (block_scope p above.role) = opens s.tokens (nodes s) p_block p above.role (production_same s p_block p refl is) in
      let own : block_scope p above.role ≡ file = sym (ap (λ (o : Option ℕ). first_scope file (with_scope o above.scopes)) scope) ∙ e in
      let lt : block_scope p above.role < file = block_small p above at is above.role refl in
      omega (arith, own, lt)

  in_statement : (p : ℕ) (above : Standing) → is_a s p_statement p ≡ true → first_scope file (handed_down s.tokens (nodes s) p above).scopes ≡ file → first_scope file above.scopes ≡ file
  in_statement p above is e = by (is_selected above.role || selects s.tokens (nodes s) p) (opens s.tokens (nodes s) p_statement p above.role (production_same s p_statement p refl is))
    where
      by : (b : Bool) → opened s.tokens (nodes s) p above.role ≡ (if b then Some p else None) → first_scope file above.scopes ≡ file
      by true scope =
          let own : p ≡ file = sym (ap (λ (o : Option ℕ). first_scope file (with_scope o above.scopes)) scope) ∙ e in
          let lt : p < file = small p_statement p is refl in
          absurd (omega (arith, own, lt))
      by false scope = sym (ap (λ (o : Option ℕ). first_scope file (with_scope o above.scopes)) scope) ∙ e

  -- what a declaration or a statement stands in
  holder : (p i : ℕ) → contains (children_at s p) i ≡ true → (is_a s p_declaration i || is_a s p_statement i) ≡ true → (is_a s p_block p || is_a s p_statement p) ≡ true
  holder p i child part = by (is_a s p_declaration i) (is_a s p_statement i) refl refl part
    where
      by : (x y : Bool) → is_a s p_declaration i ≡ x → is_a s p_statement i ≡ y → (x || y) ≡ true → (is_a s p_block p || is_a s p_statement p) ≡ true
      by true y e f h = nested.declarations p i child e
      by false true e f h = nested.statements p i child f
      by false false e f h = cc

  right : (a b : Bool) → (a || b) ≡ true → a ≡ false → b ≡ true
  right true b h e = cc
  right false b h e = h

  more : (a b : Bool) → b ≡ true → (a || b) ≡ true
  more true b e = refl
  more false b e = e

  first : (a b : Bool) → (a && b) ≡ true → a ≡ true
  first true b e = refl
  first false b e = cc

  pub inner : (i : ℕ) → InDefinition s i → (is_a s p_declaration i || is_a s p_statement i) ≡ true → (st : Standing) → slice_get all i ≡ Some st → first_scope file st.scopes ≡ file → ⊥
  inner i (itself is) part st at e = no_both (is_a s p_external i) (first (is_a s p_external i) (is_some (child_of s p_block i)) is) (either i p_declaration p_statement p_external part refl refl)
  inner i (below {p = p} child up) part st at e =
      let has : contains (children_at s p) i ≡ true = list_in (children_at s p) child.0 i child.1 in
      by has (parents s.tokens (nodes s) i st at) (λ above stands statement f. inner p up (more (is_a s p_declaration p) (is_a s p_statement p) statement) above stands f)
    where
      by : contains (children_at s p) i ≡ true → ((st ≡ outermost (length (nodes s))) × ((k : ℕ) (n : Node) → i < k → slice_get (nodes s) k ≡ Some n → contains n.children i ≡ false)) ⊎ HasParent s.tokens (nodes s) i st
          → ((above : Standing) → slice_get all p ≡ Some above → is_a s p_statement p ≡ true → first_scope file above.scopes ≡ file → ⊥) → ⊥
      by has (inl none) later = let n = node_has s p i has in no_both (contains n.0.children i) n.2 (none.1 p n.0 (grown.before p i has) n.1)
      by has (inr h) later =
          let same : h.parent ≡ p = grown.once h.parent p i (child_is s h.parent i h.node h.there h.child) has in
          let stands : slice_get all p ≡ Some h.above = subst (λ (k : ℕ). slice_get all k ≡ Some h.above) same h.stands in
          let told : first_scope file (handed_down s.tokens (nodes s) p h.above).scopes ≡ file = ap (λ (k : ℕ). first_scope file (handed_down s.tokens (nodes s) k h.above).scopes) (sym same) ∙ (sym (ap (λ (y : Standing). first_scope file y.scopes) h.is) ∙ e) in
          pick (is_a s p_block p) refl stands told
        where
          pick : (b : Bool) → is_a s p_block p ≡ b → slice_get all p ≡ Some h.above → first_scope file (handed_down s.tokens (nodes s) p h.above).scopes ≡ file → ⊥
          pick true is stands told = in_block p h.above stands is told
          pick false other stands told =
              let statement : is_a s p_statement p ≡ true = right (is_a s p_block p) (is_a s p_statement p) (holder p i has part) other in
              later h.above stands statement (in_statement p h.above statement told)
