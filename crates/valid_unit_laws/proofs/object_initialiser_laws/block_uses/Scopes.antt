-- A scope around a node that is no list's is opened by a node above it of that number.
use Rattle.std.proofs.Common.{◌≡◌, ◌==◌, ◌||◌, nat_eq, ℕ, Bool, true, false, List, Option, Some, None, length, slice_get, refl, sym, ap, ◌∙◌, subst, ◌⊎◌, inl, inr}
use Rattle.std.specs.Prelude.{if◌then◌else◌}
use Rattle.std.proofs.lemmas.Bool.{eqb-true}
use Rattle.c_lexer.specs.declared.Token.{Token}
use Rattle.c_grammar.specs.Reads.{Node}
use Rattle.c_grammar.specs.Terminals.{contains}
use Rattle.c_grammar.specs.Productions.{p_external, p_rest, p_declaration, p_suffix, p_block, p_statement}
use Rattle.c_mentions.specs.declared.roles.Specifiers.{Specifiers}
use Rattle.c_mentions.specs.declared.roles.Role.{Role}
use Rattle.c_mentions.specs.declared.roles.Role.TheVariants.{Elsewhere, Name, Alone, Tag, Statement, Declaration, Parameter}
use Rattle.c_mentions.specs.Syntax as syntax
use Rattle.c_mentions.specs.Declarators.{is_list}
use Rattle.c_mentions.specs.Roles.{opened, handed, in_declaration, specified, block_scope, list_or, is_selected, selects}
use Rattle.c_mentions.specs.Settings.{Standing, outermost, handed_down, standings, with_scope}
use Rattle.declaration_laws.specs.declared_type_laws.owner_laws.passed.definition_laws.scope_laws.Beneath.{part, deeper}
use Rattle.declaration_laws.proofs.declared_type_laws.owner_laws.passed.definition_laws.scope_laws.Standings.{each_stands}
use Rattle.declaration_laws.proofs.declared_type_laws.owner_laws.passed.definition_laws.scope_laws.Scopes.{Part, Below, IsOf, IsNot, children_are}
use Rattle.declaration_laws.proofs.declared_type_laws.owner_laws.passed.definition_laws.linkage_laws.Roles.{role_handed, declared_specs, list_is, opens}

module _ (tokens : List Token) (nodes : List Node) (b : ℕ) (no_suffix : IsNot tokens nodes p_suffix b) (no_file : length nodes ≡ b → ⊥) where
  -- the list of a declaration's function is a parameter list
  abbrev ListFine : Role → Type 0
  ListFine role = (x : Specifiers) → role ≡ Declaration x → (list : ℕ) → x.list ≡ Some list → IsOf tokens nodes p_suffix list

  abbrev Around : ℕ → List ℕ → Type 0
  Around i scopes = contains scopes b ≡ true → Below tokens nodes b i

  abbrev P : ℕ → Standing → Type 0
  P i s = Around i s.scopes × ListFine s.role

  list_in : (m : ℕ) (x : Specifiers) → in_declaration tokens nodes m ≡ Declaration x → (list : ℕ) → x.list ≡ Some list → IsOf tokens nodes p_suffix list
  unfolding specified
  list_in m x e list is =
      let own = declared_specs tokens nodes m x e in
      list_is tokens nodes m list (sym (ap (λ (y : Specifiers). y.list) own.2) ∙ is)

  handed_fine : (m : ℕ) (r : Role) → ListFine r → ListFine (handed tokens nodes m r)
  handed_fine m r fine x e = by (role_handed tokens nodes m r x e)
    where
      by : (((syntax.production_at nodes m == p_external || syntax.production_at nodes m == p_declaration) ≡ true) × (in_declaration tokens nodes m ≡ Declaration x)) ⊎ (((syntax.production_at nodes m == p_rest) ≡ true) × (r ≡ Declaration x))
          → (list : ℕ) → x.list ≡ Some list → IsOf tokens nodes p_suffix list
      by (inl h) = list_in m x h.1
      by (inr h) = fine x h.1

  never : {X : Type 0} → IsOf tokens nodes p_suffix b → X
  never is = let both : true ≡ false = sym is ∙ no_suffix in cc

  -- a scope of that number is opened by the node itself
  block_own : (m : ℕ) (r : Role) → ListFine r → block_scope m r ≡ b → m ≡ b
  block_own m (Declaration x) fine e = by x.list refl e
    where
      by : (o : Option ℕ) → x.list ≡ o → list_or m o ≡ b → m ≡ b
      by None is e = e
      by (Some list) is e = never (subst (λ (k : ℕ). IsOf tokens nodes p_suffix k) e (fine x refl list is))
  block_own m Elsewhere fine e = e
  block_own m Name fine e = e
  block_own m Alone fine e = e
  block_own m (Tag how) fine e = e
  block_own m (Statement first selects) fine e = e
  block_own m Parameter fine e = e

  opener : (m scope : ℕ) (r : Role) → ListFine r → opened tokens nodes m r ≡ Some scope → scope ≡ b → m ≡ b
  opener m scope r fine e same = by (p == p_block) (p == p_suffix) (p == p_statement) (is_list tokens nodes m) (is_selected r || selects tokens nodes m) (sym (opens tokens nodes p m r refl) ∙ e)
    where
      p : ℕ
      p = syntax.production_at nodes m

      own : {x y : ℕ} → ◌≡◌ {A = Option ℕ} (Some x) (Some y) → x ≡ y
      own e = cc

      by : (a c d list chosen : Bool) → (if a then Some (block_scope m r) else if c then (if list then Some m else None) else if d then (if chosen then Some m else None) else None) ≡ Some scope → m ≡ b
      by true c d list chosen e = block_own m r fine (own e ∙ same)
      by false true d true chosen e = own e ∙ same
      by false true d false chosen e = cc
      by false false true list true e = own e ∙ same
      by false false true list false e = cc
      by false false false list chosen e = cc

  step : (m i : ℕ) (s : Standing) → Part tokens nodes m i → P m s → P i (handed_down tokens nodes m s)
  step m i s child h = (by (opened tokens nodes m s.role) refl, handed_fine m s.role h.1)
    where
      by : (o : Option ℕ) → opened tokens nodes m s.role ≡ o → Around i (with_scope o s.scopes)
      by None e has = deeper (h.0 has) child
      by (Some x) e has = pick (nat_eq x b) refl has
        where
          pick : (t : Bool) → nat_eq x b ≡ t → (t || contains s.scopes b) ≡ true → Below tokens nodes b i
          pick true same has = subst (λ (k : ℕ). Below tokens nodes k i) (opener m x s.role h.1 e (eqb-true x b same)) (part child)
          pick false other has = deeper (h.0 has) child

  top : (i : ℕ) → P i (outermost (length nodes))
  top i = (λ has. by (nat_eq (length nodes) b) refl has, λ x e list is. cc)
    where
      by : (t : Bool) → nat_eq (length nodes) b ≡ t → (t || false) ≡ true → Below tokens nodes b i
      by true e has = absurd (no_file (eqb-true (length nodes) b e))
      by false e has = cc

  pub around_below : (i : ℕ) (s : Standing) → slice_get (standings tokens nodes 0 nodes) i ≡ Some s → contains s.scopes b ≡ true → Below tokens nodes b i
  around_below i s at has = (each_stands tokens nodes P (λ j none. top j) (λ m j n t there child h. step m j t (children_are tokens nodes m n j there child) h) i s at).0 has
