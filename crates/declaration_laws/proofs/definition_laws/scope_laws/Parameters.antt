-- The scopes of parameters, and the roles of what stands in a declarator.
use Rattle.std.proofs.Common.{arith, ◌≡◌, ◌<◌, ◌==◌, ◌||◌, ℕ, Bool, true, false, List, Option, Some, None, length, slice_get, refl, sym, subst, ◌⊎◌, inl, inr}
use Rattle.std.specs.Prelude.{if◌then◌else◌}
use Rattle.std.proofs.lemmas.Bool.{eqb-true}
use Rattle.std.proofs.lemmas.Option.{slice_get_within}
use Rattle.c_lexer.specs.declared.Token.{Token}
use Rattle.c_grammar.specs.Reads.{Node}
use Rattle.c_grammar.specs.Terminals.{contains}
use Rattle.c_grammar.specs.Productions.{p_external, p_rest, p_declaration, p_specs, p_type, p_struct, p_members, p_enum, p_enumerators, p_enumerator, p_declarator, p_either, p_suffix, p_parameter, p_block, p_statement, p_primary}
use Rattle.c_mentions.specs.declared.roles.TagUse.TheVariants.{Declares, Refers, Uses}
use Rattle.c_mentions.specs.declared.roles.Role.{Role}
use Rattle.c_mentions.specs.declared.roles.Role.TheVariants.{Elsewhere, Name, Alone, Tag, Statement, Declaration, Parameter}
use Rattle.c_mentions.specs.Syntax as syntax
use Rattle.c_mentions.specs.Declarators.{is_list}
use Rattle.c_mentions.specs.Roles.{opened, handed, in_declaration, by_specs, in_specs, in_type, in_struct, in_enum, in_statement, block_scope, is_selected, selects, is_alone}
use Rattle.c_mentions.specs.Settings.{Standing, handed_down, standings, with_scope}
use Rattle.c_scope.specs.Known.{first_scope}
use Rattle.declaration_laws.proofs.definition_laws.scope_laws.Standings.{Holds, each_stands}
use Rattle.declaration_laws.proofs.definition_laws.scope_laws.Scopes.{Part, IsOf, IsNot, apart, children_are}

module _ (tokens : List Token) (nodes : List Node) (before : (i c : ℕ) → Part tokens nodes i c → c < i) where
  none_holds : (i m : ℕ) → ((j : ℕ) → i < j → Holds tokens nodes (λ k s. ℕ) j i → ⊥) → Part tokens nodes m i → ⊥
  none_holds i m none h = by (slice_get nodes m) refl h
    where
      by : (o : Option Node) → slice_get nodes m ≡ o → contains (syntax.children_of o) i ≡ true → ⊥
      by None e h = cc
      by (Some n) e h = none m (before m i (subst (λ (o : Option Node). contains (syntax.children_of o) i ≡ true) (sym e) h)) (n, e, h)

  -- ---- declarators

  abbrev pub IsInner : ℕ → Type 0
  IsInner q = ((syntax.production_at nodes q == p_declarator) || ((syntax.production_at nodes q == p_either) || (syntax.production_at nodes q == p_enumerator))) ≡ true

  abbrev IsElsewhere : ℕ → Standing → Type 0
  IsElsewhere i s = (q : ℕ) → Part tokens nodes q i → IsInner q → s.role ≡ Elsewhere

  abbrev Handed : ℕ → Role → ℕ → Role
  Handed m role p =
      if p == p_external then in_declaration tokens nodes m
      else if p == p_declaration then in_declaration tokens nodes m
      else if p == p_rest then role
      else if p == p_parameter then Parameter
      else if p == p_specs then in_specs role
      else if p == p_type then in_type role
      else if p == p_primary then Name
      else if p == p_struct then in_struct nodes m role
      else if p == p_enum then in_enum nodes m
      else if p == p_statement then in_statement tokens nodes m
      else Elsewhere

  inner_hands : (m : ℕ) (role : Role) → IsInner m → handed tokens nodes m role ≡ Elsewhere
  unfolding handed
  inner_hands m role is = by (syntax.production_at nodes m == p_declarator) (syntax.production_at nodes m == p_either) (syntax.production_at nodes m == p_enumerator) refl refl refl is
    where
      by : (a b c : Bool) → (syntax.production_at nodes m == p_declarator) ≡ a → (syntax.production_at nodes m == p_either) ≡ b → (syntax.production_at nodes m == p_enumerator) ≡ c → (a || (b || c)) ≡ true
          → Handed m role (syntax.production_at nodes m) ≡ Elsewhere
      by true b c ea eb ec is = subst (λ (x : ℕ). Handed m role x ≡ Elsewhere) (sym (eqb-true (syntax.production_at nodes m) p_declarator ea)) refl
      by false true c ea eb ec is = subst (λ (x : ℕ). Handed m role x ≡ Elsewhere) (sym (eqb-true (syntax.production_at nodes m) p_either eb)) refl
      by false false true ea eb ec is = subst (λ (x : ℕ). Handed m role x ≡ Elsewhere) (sym (eqb-true (syntax.production_at nodes m) p_enumerator ec)) refl
      by false false false ea eb ec is = cc

  module _ (single : (i j c : ℕ) → Part tokens nodes i c → Part tokens nodes j c → i ≡ j) where
    -- what stands in a declarator has no role
    pub elsewhere : (i : ℕ) (s : Standing) → slice_get (standings tokens nodes 0 nodes) i ≡ Some s → IsElsewhere i s
    elsewhere =
        each_stands tokens nodes IsElsewhere (λ i none q child is. refl)
        (λ m i n s at has h q child is. inner_hands m s.role (subst IsInner (single q m i child (children_are tokens nodes m n i at has)) is))

    -- ---- parameters

    module _ (listed : (c : ℕ) → IsOf tokens nodes p_parameter c → (i : ℕ) × Part tokens nodes i c × IsOf tokens nodes p_suffix i × (is_list tokens nodes i ≡ true)) where
      abbrev InList : List ℕ → Type 0
      InList scopes = first_scope (length nodes) scopes ≡ length nodes → ⊥

      abbrev IsListed : ℕ → Standing → Type 0
      IsListed i s = (s.role ≡ Parameter → InList s.scopes) × (IsOf tokens nodes p_parameter i → InList s.scopes)

      -- what opens no scope hands its own
      opens_none : (m : ℕ) (role : Role) → IsNot tokens nodes p_block m → IsNot tokens nodes p_suffix m → IsNot tokens nodes p_statement m → opened tokens nodes m role ≡ None
      unfolding opened
      opens_none m role a b c = by (syntax.production_at nodes m == p_block) (syntax.production_at nodes m == p_suffix) (syntax.production_at nodes m == p_statement) a b c
        where
          by : (x y z : Bool) → x ≡ false → y ≡ false → z ≡ false
              → (if x then Some (block_scope m role) else if y then (if is_list tokens nodes m then Some m else None) else if z then (if is_selected role || selects tokens nodes m then Some m else None) else None) ≡ None
          by false false false ex ey ez = refl
          by true y z ex ey ez = cc
          by false true z ex ey ez = cc
          by false false true ex ey ez = cc

      suffix_opens : (m : ℕ) (role : Role) → IsOf tokens nodes p_suffix m → is_list tokens nodes m ≡ true → opened tokens nodes m role ≡ Some m
      unfolding opened
      suffix_opens m role is list = by (syntax.production_at nodes m == p_block) (syntax.production_at nodes m == p_suffix) (is_list tokens nodes m) (apart tokens nodes p_suffix p_block m is refl) is list
        where
          by : (x y l : Bool) → x ≡ false → y ≡ true → l ≡ true
              → (if x then Some (block_scope m role) else if y then (if l then Some m else None) else if syntax.production_at nodes m == p_statement then (if is_selected role || selects tokens nodes m then Some m else None) else None) ≡ Some m
          by false true true ex ey el = refl
          by true y l ex ey el = cc
          by false false l ex ey el = cc
          by false true false ex ey el = cc

      -- a role that is a parameter's is handed on by a parameter, or by the rest of a declaration
      abbrev Hands : ℕ → Role → Type 0
      Hands m role = IsOf tokens nodes p_parameter m ⊎ (IsOf tokens nodes p_rest m × (role ≡ Parameter))

      abbrev IsParameter : Role → Type 0
      IsParameter role = role ≡ Parameter

      declared_no : (m : ℕ) → in_declaration tokens nodes m ≡ Parameter → ⊥
      unfolding in_declaration
      declared_no m e = by (syntax.first_child nodes m) e
        where
          by : (o : Option ℕ) → by_specs tokens nodes m o ≡ Parameter → ⊥
          by None e = cc
          by (Some specs) e = cc

      specs_no : (role : Role) → in_specs role ≡ Parameter → ⊥
      specs_no (Declaration x) e = by x.is_alone e
        where
          by : (b : Bool) → (if b then Alone else Elsewhere) ≡ Parameter → ⊥
          by true e = cc
          by false e = cc
      specs_no Elsewhere e = cc
      specs_no Name e = cc
      specs_no Alone e = cc
      specs_no (Tag how) e = cc
      specs_no (Statement first selects) e = cc
      specs_no Parameter e = cc

      type_no : (role : Role) → in_type role ≡ Parameter → ⊥
      unfolding in_type
      type_no role e = by (is_alone role) e
        where
          by : (b : Bool) → (if b then Alone else Name) ≡ Parameter → ⊥
          by true e = cc
          by false e = cc

      struct_no : (n : ℕ) (role : Role) → in_struct nodes n role ≡ Parameter → ⊥
      unfolding in_struct
      struct_no n role e = by (syntax.has_part nodes n p_members || is_alone role) e
        where
          by : (b : Bool) → (if b then Tag Declares else Tag Refers) ≡ Parameter → ⊥
          by true e = cc
          by false e = cc

      enum_no : (n : ℕ) → in_enum nodes n ≡ Parameter → ⊥
      unfolding in_enum
      enum_no n e = by (syntax.has_part nodes n p_enumerators) e
        where
          by : (b : Bool) → (if b then Tag Declares else Tag Uses) ≡ Parameter → ⊥
          by true e = cc
          by false e = cc

      statement_no : (n : ℕ) → in_statement tokens nodes n ≡ Parameter → ⊥
      unfolding in_statement
      statement_no n e = cc

      hands_parameter : (m : ℕ) (role : Role) → handed tokens nodes m role ≡ Parameter → Hands m role
      unfolding handed
      hands_parameter m role e =
          let p : ℕ = syntax.production_at nodes m in
          choose (p == p_external) _ _ (λ t f. absurd (declared_no m f))
          (choose (p == p_declaration) _ _ (λ t f. absurd (declared_no m f))
          (choose (p == p_rest) _ _ (λ t f. inr (t, f))
          (choose (p == p_parameter) _ _ (λ t f. inl t)
          (choose (p == p_specs) _ _ (λ t f. absurd (specs_no role f))
          (choose (p == p_type) _ _ (λ t f. absurd (type_no role f))
          (choose (p == p_primary) _ _ (λ t f. cc)
          (choose (p == p_struct) _ _ (λ t f. absurd (struct_no m role f))
          (choose (p == p_enum) _ _ (λ t f. absurd (enum_no m f))
          (choose (p == p_statement) _ _ (λ t f. absurd (statement_no m f)) (λ f. cc)))))))))) e
        where
          choose : (b : Bool) (x y : Role) → (b ≡ true → x ≡ Parameter → Hands m role) → (y ≡ Parameter → Hands m role) → (if b then x else y) ≡ Parameter → Hands m role
          choose true x y h k f = h refl f
          choose false x y h k f = k f

      same_scopes : (m : ℕ) (s : Standing) → opened tokens nodes m s.role ≡ None → InList s.scopes → InList (with_scope (opened tokens nodes m s.role) s.scopes)
      same_scopes m s e h = subst (λ (o : Option ℕ). InList (with_scope o s.scopes)) (sym e) h

      step : (m i : ℕ) (s : Standing) → m < length nodes → Part tokens nodes m i → IsListed m s → IsListed i (handed_down tokens nodes m s)
      step m i s inside child h = (λ e. by_role (hands_parameter m s.role e), λ is. by_list (listed i is))
        where
          by_role : Hands m s.role → InList (with_scope (opened tokens nodes m s.role) s.scopes)
          by_role (inl is) =
              same_scopes m s (opens_none m s.role (apart tokens nodes p_parameter p_block m is refl) (apart tokens nodes p_parameter p_suffix m is refl) (apart tokens nodes p_parameter p_statement m is refl)) (h.1 is)
          by_role (inr (is, own)) =
              same_scopes m s (opens_none m s.role (apart tokens nodes p_rest p_block m is refl) (apart tokens nodes p_rest p_suffix m is refl) (apart tokens nodes p_rest p_statement m is refl)) (h.0 own)

          by_list : (q : ℕ) × Part tokens nodes q i × IsOf tokens nodes p_suffix q × (is_list tokens nodes q ≡ true) → InList (with_scope (opened tokens nodes m s.role) s.scopes)
          by_list (q, part, is, list) =
              let same : q ≡ m = single q m i part child in
              let opens = suffix_opens m s.role (subst (λ (k : ℕ). IsOf tokens nodes p_suffix k) same is) (subst (λ (k : ℕ). is_list tokens nodes k ≡ true) same list) in
              subst (λ (o : Option ℕ). InList (with_scope o s.scopes)) (sym opens) (λ e. omega (arith, inside, e))

      -- a parameter isn't in the file's scope
      pub parameter_scoped : (i : ℕ) (s : Standing) → slice_get (standings tokens nodes 0 nodes) i ≡ Some s → s.role ≡ Parameter → first_scope (length nodes) s.scopes ≡ length nodes → ⊥
      parameter_scoped i s at role_is e =
          let h : IsListed i s = each_stands tokens nodes IsListed
          (λ j none. (λ f. absurd (elsewhere_no f), λ is. let l = listed j is in absurd (none_holds j l.0 none l.1)))
          (λ m j n t at has h. step m j t (slice_get_within nodes m n at) (children_are tokens nodes m n j at has) h) i s at in
          h.0 role_is e
        where
          elsewhere_no : Elsewhere ≡ Parameter → ⊥
          elsewhere_no e = cc
