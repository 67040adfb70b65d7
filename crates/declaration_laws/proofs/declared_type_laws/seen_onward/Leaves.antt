-- The name of a declarator stands where the declarator stands.
use Rattle.std.proofs.Common.{arith, ◌≡◌, ◌<◌, ◌==◌, ◌||◌, ◌&&◌, ℕ, zero, suc, Bool, true, false, cond, List, [], ◌∷◌, Option, Some, None, length, slice_get, refl, sym, ap, ◌∙◌, subst, ◌⊎◌, inl, inr}
use Rattle.std.specs.Prelude.{nat_lt}
use Rattle.std.specs.List.{find}
use Rattle.std.proofs.lemmas.Bool.{eqb-true}
use Rattle.c_lexer.specs.declared.Token.{Token}
use Rattle.c_grammar.specs.Reads.{Node}
use Rattle.c_grammar.specs.Terminals.{contains}
use Rattle.c_grammar.specs.Productions.{p_declarator, p_either}
use Rattle.c_mentions.specs.declared.roles.Role.{Role}
use Rattle.c_mentions.specs.Syntax as syntax
use Rattle.c_mentions.specs.Declarators.{declarator, within, level, inner_of, name_of, is_inner}
use Rattle.c_mentions.specs.Roles.{opened}
use Rattle.c_mentions.specs.Settings.{Standing, outermost, with_scope}
use Rattle.declaration_laws.proofs.declared_type_laws.owner_laws.passed.definition_laws.scope_laws.Scopes.{Part, found_in, children_are}
use Rattle.declaration_laws.proofs.declared_type_laws.owner_laws.passed.definition_laws.linkage_laws.Standings.{HasParent, parents}
use Rattle.declaration_laws.proofs.declared_type_laws.owner_laws.passed.definition_laws.linkage_laws.Roles.{opens}
use Rattle.declaration_laws.proofs.declared_type_laws.seen_onward.Descent.{StandsAt, stands, stands_once, part_node, part_within}

no_both : (b : Bool) → b ≡ true → b ≡ false → ⊥
no_both b e f = let both : true ≡ false = sym e ∙ f in cc

left : (a b : Bool) → (a && b) ≡ true → a ≡ true
left true b e = refl
left false b e = cc

find_passes : (test : ℕ → Bool) (xs : List ℕ) (y : ℕ) → find test xs ≡ Some y → test y ≡ true
find_passes test [] y e = cc
find_passes test (x ∷ xs) y e = by (test x) refl e (λ f. find_passes test xs y f)
  where
    by : (b : Bool) → test x ≡ b → cond b (Some x) (find test xs) ≡ Some y → (find test xs ≡ Some y → test y ≡ true) → test y ≡ true
    by true is f later = let same : x ≡ y = cc in subst (λ (k : ℕ). test k ≡ true) same is
    by false is f later = later f

module _ (tokens : List Token) (nodes : List Node) (before : (i c : ℕ) → Part tokens nodes i c → c < i) (single : (i j c : ℕ) → Part tokens nodes i c → Part tokens nodes j c → i ≡ j) where
  abbrev pub IsDeclaring : ℕ → Type 0
  IsDeclaring m = (syntax.production_at nodes m == p_declarator || syntax.production_at nodes m == p_either) ≡ true

  opens_none : (m : ℕ) (r : Role) → IsDeclaring m → opened tokens nodes m r ≡ None
  opens_none m r is = by (syntax.production_at nodes m == p_declarator) (syntax.production_at nodes m == p_either) refl refl is
    where
      by : (a b : Bool) → (syntax.production_at nodes m == p_declarator) ≡ a → (syntax.production_at nodes m == p_either) ≡ b → (a || b) ≡ true → opened tokens nodes m r ≡ None
      by true b e f h = opens tokens nodes p_declarator m r (eqb-true (syntax.production_at nodes m) p_declarator e)
      by false true e f h = opens tokens nodes p_either m r (eqb-true (syntax.production_at nodes m) p_either f)
      by false false e f h = cc

  -- what is a part of what opens no scope stands in the same ones
  pub same_scopes : (m c : ℕ) (sm sc : Standing) → ((r : Role) → opened tokens nodes m r ≡ None) → Part tokens nodes m c → StandsAt tokens nodes m sm → StandsAt tokens nodes c sc → sc.scopes ≡ sm.scopes
  same_scopes m c sm sc none child at there = by (parents tokens nodes c sc there)
    where
      by : ((sc ≡ outermost (length nodes)) × ((k : ℕ) (n : Node) → c < k → slice_get nodes k ≡ Some n → contains n.children c ≡ false)) ⊎ HasParent tokens nodes c sc → sc.scopes ≡ sm.scopes
      by (inl top) = let n = part_node tokens nodes m c child in absurd (no_both (contains n.0.children c) n.2 (top.1 m n.0 (before m c child) n.1))
      by (inr h) =
          let same : h.parent ≡ m = single h.parent m c (children_are tokens nodes h.parent h.node c h.there h.child) child in
          let above : h.above ≡ sm = stands_once tokens nodes m h.above sm (subst (λ (k : ℕ). StandsAt tokens nodes k h.above) same h.stands) at in
          ap (λ (x : Standing). x.scopes) h.is ∙ (ap (λ (o : Option ℕ). with_scope o h.above.scopes) (ap (λ (k : ℕ). opened tokens nodes k h.above.role) same ∙ none h.above.role) ∙ ap (λ (x : Standing). x.scopes) above)

  name_scopes : (levels m leaf : ℕ) (sm sl : Standing) → IsDeclaring m → (within tokens nodes levels m).name ≡ Some leaf → StandsAt tokens nodes m sm → StandsAt tokens nodes leaf sl → sl.scopes ≡ sm.scopes
  unfolding inner_of name_of
  name_scopes zero m leaf sm sl is e at there = cc
  name_scopes (suc levels) m leaf sm sl is e at there = by (inner_of nodes m) refl e (λ inner si k f x. name_scopes levels inner leaf si sl k f x there)
    where
      by : (o : Option ℕ) → inner_of nodes m ≡ o → (level tokens nodes (within tokens nodes levels) m o).name ≡ Some leaf
          → ((inner : ℕ) (si : Standing) → IsDeclaring inner → (within tokens nodes levels inner).name ≡ Some leaf → StandsAt tokens nodes inner si → sl.scopes ≡ si.scopes) → sl.scopes ≡ sm.scopes
      by None none f later = same_scopes m leaf sm sl (λ r. opens_none m r is) (found_in (λ child. syntax.is_name tokens nodes child) (syntax.children_at nodes m) leaf f) at there
      by (Some inner) found f later =
          let child : Part tokens nodes m inner = found_in (λ child. is_inner nodes m child) (syntax.children_at nodes m) inner found in
          let passes = find_passes (λ child. is_inner nodes m child) (syntax.children_at nodes m) inner found in
          let declares : IsDeclaring inner = left (syntax.is_of nodes p_declarator inner || syntax.is_of nodes p_either inner) (nat_lt inner m) passes in
          let lt = before m inner child in
          let whole = part_within tokens nodes m inner child in
          let si = stands tokens nodes inner (omega (arith, lt, whole)) in
          later inner si.0 declares f si.1 ∙ same_scopes m inner sm si.0 (λ r. opens_none m r is) child at si.1

  pub name_stands : (m leaf : ℕ) (sm sl : Standing) → IsDeclaring m → (declarator tokens nodes m).name ≡ Some leaf → StandsAt tokens nodes m sm → StandsAt tokens nodes leaf sl → sl.scopes ≡ sm.scopes
  unfolding declarator
  name_stands m leaf sm sl is e at there = name_scopes (suc m) m leaf sm sl is e at there
