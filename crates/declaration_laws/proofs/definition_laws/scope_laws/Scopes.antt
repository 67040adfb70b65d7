-- The scopes around a node are opened above it.
use Rattle.std.proofs.Common.{◌≡◌, ◌==◌, ◌||◌, nat_eq, ℕ, zero, suc, Bool, true, false, cond, List, [], ◌∷◌, Option, Some, None, length, slice_get, refl, sym, ap, ◌∙◌, subst, ◌⊎◌, inl, inr}
use Rattle.std.specs.Prelude.{if◌then◌else◌}
use Rattle.std.specs.List.{find}
use Rattle.std.specs.Option.{option_or}
use Rattle.std.proofs.lemmas.Bool.{eqb-true, eqb-false}
use Rattle.c_lexer.specs.declared.Token.{Token}
use Rattle.c_grammar.specs.Reads.{Node}
use Rattle.c_grammar.specs.Terminals.{contains}
use Rattle.c_grammar.specs.Productions.{p_unit, p_external, p_rest, p_declaration, p_specs, p_type, p_struct, p_members, p_enum, p_enumerators, p_declarator, p_suffix, p_parameter, p_block, p_statement, p_primary}
use Rattle.c_mentions.specs.declared.roles.Specifiers.{Specifiers}
use Rattle.c_mentions.specs.declared.roles.TagUse.TheVariants.{Declares, Refers, Uses}
use Rattle.c_mentions.specs.declared.roles.Role.{Role}
use Rattle.c_mentions.specs.declared.roles.Role.TheVariants.{Elsewhere, Name, Alone, Tag, Statement, Declaration, Parameter}
use Rattle.c_mentions.specs.Syntax as syntax
use Rattle.c_mentions.specs.Declarators.{declarator, within, level, inner_of, is_inner, is_list}
use Rattle.c_mentions.specs.Roles.{opened, handed, in_declaration, by_specs, specified, list_of, suffix_of, in_specs, in_type, in_struct, in_enum, in_statement, block_scope, list_or, is_selected, selects, is_alone}
use Rattle.c_mentions.specs.Settings.{Standing, outermost, handed_down, standings, with_scope}
use Rattle.declaration_laws.specs.definition_laws.scope_laws.Beneath.{Beneath, part, deeper}
use Rattle.declaration_laws.proofs.definition_laws.scope_laws.Tree.{further}
use Rattle.declaration_laws.proofs.definition_laws.scope_laws.Standings.{each_stands}

pub equal : (x : ℕ) → nat_eq x x ≡ true
equal x = by (nat_eq x x) refl
  where
    by : (b : Bool) → nat_eq x x ≡ b → b ≡ true
    by true e = refl
    by false e = absurd (eqb-false x x e refl)

-- what is found in a list is in it
pub found_in : (test : ℕ → Bool) (xs : List ℕ) (y : ℕ) → find test xs ≡ Some y → contains xs y ≡ true
found_in test [] y e = cc
found_in test (x ∷ xs) y e = by (test x) e (λ f. found_in test xs y f)
  where
    or_more : (a : Bool) → contains xs y ≡ true → (a || contains xs y) ≡ true
    or_more true h = refl
    or_more false h = h

    by : (b : Bool) → cond b (Some x) (find test xs) ≡ Some y → (find test xs ≡ Some y → contains xs y ≡ true) → (nat_eq x y || contains xs y) ≡ true
    by true e later = let same : x ≡ y = cc in ap (λ (b : Bool). b || contains xs y) (subst (λ (z : ℕ). nat_eq x z ≡ true) same (equal x))
    by false e later = or_more (nat_eq x y) (later e)

module _ (tokens : List Token) (nodes : List Node) where
  abbrev pub Part : ℕ → ℕ → Type 0
  Part i c = contains (syntax.children_at nodes i) c ≡ true

  abbrev pub Below : ℕ → ℕ → Type 0
  Below p c = Beneath Part p c

  abbrev pub IsOf : ℕ → ℕ → Type 0
  IsOf production i = (syntax.production_at nodes i == production) ≡ true

  abbrev pub IsNot : ℕ → ℕ → Type 0
  IsNot production i = (syntax.production_at nodes i == production) ≡ false

  pub apart : (p q i : ℕ) → IsOf p i → nat_eq p q ≡ false → IsNot q i
  apart p q i is differ = subst (λ (x : ℕ). nat_eq x q ≡ false) (sym (eqb-true (syntax.production_at nodes i) p is)) differ

  -- a scope that a node opens: its own, or the one of a list of parameters that stands below a declaration with it
  abbrev pub IsOpener : ℕ → ℕ → Type 0
  IsOpener a scope = IsNot p_unit a × IsNot p_external a × ((scope ≡ a) ⊎ ((q : ℕ) × Below q a × Below q scope × IsNot p_unit q))

  abbrev pub IsOpened : ℕ → ℕ → Type 0
  IsOpened i scope = (a : ℕ) × Below a i × IsOpener a scope

  abbrev pub ScopesOpened : ℕ → List ℕ → Type 0
  ScopesOpened i scopes = (scope : ℕ) → contains scopes scope ≡ true → (scope ≡ length nodes) ⊎ IsOpened i scope

  abbrev pub RoleFine : ℕ → Role → Type 0
  RoleFine i role = (x : Specifiers) → role ≡ Declaration x → (q : ℕ) × Below q i × IsNot p_unit q × ((list : ℕ) → x.list ≡ Some list → Below q list)

  abbrev pub IsPlaced : ℕ → Standing → Type 0
  IsPlaced i s = ScopesOpened i s.scopes × RoleFine i s.role

  -- the suffix of a declarator is a part of it, or of one in it
  suffix_within : (levels n list : ℕ) → (within tokens nodes levels n).suffix ≡ Some list → Below n list
  unfolding inner_of
  suffix_within zero n list e = cc
  suffix_within (suc levels) n list e = by (inner_of nodes n) refl e (λ inner f. suffix_within levels inner list f)
    where
      own : syntax.first_part nodes n p_suffix ≡ Some list → Below n list
      own f = part (found_in (λ child. syntax.is_of nodes p_suffix child) (syntax.children_at nodes n) list f)

      either : (a b : Option ℕ) → option_or a b ≡ Some list → (a ≡ Some list) ⊎ (b ≡ Some list)
      either None b f = inr f
      either (Some x) b f = inl f

      by : (o : Option ℕ) → inner_of nodes n ≡ o → (level tokens nodes (within tokens nodes levels) n o).suffix ≡ Some list → ((inner : ℕ) → (within tokens nodes levels inner).suffix ≡ Some list → Below inner list) → Below n list
      by None is f later = own f
      by (Some inner) is f later = pick (either (within tokens nodes levels inner).suffix (syntax.first_part nodes n p_suffix) f)
        where
          pick : ((within tokens nodes levels inner).suffix ≡ Some list) ⊎ (syntax.first_part nodes n p_suffix ≡ Some list) → Below n list
          pick (inl g) = further Part n inner list (part (found_in (λ child. is_inner nodes n child) (syntax.children_at nodes n) inner is)) (later inner g)
          pick (inr g) = own g

  suffix_below : (n list : ℕ) → (declarator tokens nodes n).suffix ≡ Some list → Below n list
  unfolding declarator
  suffix_below n list e = suffix_within (suc n) n list e

  list_below : (n list : ℕ) → list_of tokens nodes n ≡ Some list → Below n list
  unfolding list_of
  list_below n list e = by (syntax.has_part nodes n p_block) (syntax.first_part nodes n p_declarator) refl e
    where
      by : (b : Bool) (o : Option ℕ) → syntax.first_part nodes n p_declarator ≡ o → (if b then suffix_of tokens nodes o else None) ≡ Some list → Below n list
      by false o is e = cc
      by true None is e = cc
      by true (Some d) is e = further Part n d list (part (found_in (λ child. syntax.is_of nodes p_declarator child) (syntax.children_at nodes n) d is)) (suffix_below d list e)

  specified_list : (n specs list : ℕ) → (specified tokens nodes n specs).list ≡ Some list → Below n list
  unfolding specified
  specified_list n specs list e = list_below n list e

  declared_fine : (m i : ℕ) → Part m i → IsNot p_unit m → RoleFine i (in_declaration tokens nodes m)
  unfolding in_declaration
  declared_fine m i child apart_unit x e = by (syntax.first_child nodes m) e
    where
      by : (o : Option ℕ) → by_specs tokens nodes m o ≡ Declaration x → (q : ℕ) × Below q i × IsNot p_unit q × ((list : ℕ) → x.list ≡ Some list → Below q list)
      by None e = cc
      by (Some specs) e =
          let same : specified tokens nodes m specs ≡ x = cc in
          (m, part child, apart_unit, λ list f. specified_list m specs list (ap (λ (y : Specifiers). y.list) same ∙ f))

  abbrev NoDeclaration : Role → Type 0
  NoDeclaration role = (x : Specifiers) → role ≡ Declaration x → ⊥

  none_fine : (i : ℕ) (role : Role) → NoDeclaration role → RoleFine i role
  none_fine i role none x e = absurd (none x e)

  specs_no : (role : Role) → NoDeclaration (in_specs role)
  specs_no (Declaration x) y e = by x.is_alone e
    where
      by : (b : Bool) → (if b then Alone else Elsewhere) ≡ Declaration y → ⊥
      by true e = cc
      by false e = cc
  specs_no Elsewhere y e = cc
  specs_no Name y e = cc
  specs_no Alone y e = cc
  specs_no (Tag how) y e = cc
  specs_no (Statement first selects) y e = cc
  specs_no Parameter y e = cc

  type_no : (role : Role) → NoDeclaration (in_type role)
  unfolding in_type
  type_no role x e = by (is_alone role) e
    where
      by : (b : Bool) → (if b then Alone else Name) ≡ Declaration x → ⊥
      by true e = cc
      by false e = cc

  struct_no : (n : ℕ) (role : Role) → NoDeclaration (in_struct nodes n role)
  unfolding in_struct
  struct_no n role x e = by (syntax.has_part nodes n p_members || is_alone role) e
    where
      by : (b : Bool) → (if b then Tag Declares else Tag Refers) ≡ Declaration x → ⊥
      by true e = cc
      by false e = cc

  enum_no : (n : ℕ) → NoDeclaration (in_enum nodes n)
  unfolding in_enum
  enum_no n x e = by (syntax.has_part nodes n p_enumerators) e
    where
      by : (b : Bool) → (if b then Tag Declares else Tag Uses) ≡ Declaration x → ⊥
      by true e = cc
      by false e = cc

  statement_no : (n : ℕ) → NoDeclaration (in_statement tokens nodes n)
  unfolding in_statement
  statement_no n x e = cc

  -- the role of a part
  handed_fine : (m i : ℕ) (role : Role) → Part m i → RoleFine m role → RoleFine i (handed tokens nodes m role)
  unfolding handed
  handed_fine m i role child fine =
      let p : ℕ = syntax.production_at nodes m in
      choose (p == p_external) _ _ refl (λ e. declared_fine m i child (apart p_external p_unit m e refl))
      (choose (p == p_declaration) _ _ refl (λ e. declared_fine m i child (apart p_declaration p_unit m e refl))
      (choose (p == p_rest) _ _ refl (λ e. on) (choose (p == p_parameter) _ _ refl (λ e. none_fine i Parameter (λ x f. cc))
      (choose (p == p_specs) _ _ refl (λ e. none_fine i (in_specs role) (specs_no role))
      (choose (p == p_type) _ _ refl (λ e. none_fine i (in_type role) (type_no role))
      (choose (p == p_primary) _ _ refl (λ e. none_fine i Name (λ x f. cc))
      (choose (p == p_struct) _ _ refl (λ e. none_fine i (in_struct nodes m role) (struct_no m role))
      (choose (p == p_enum) _ _ refl (λ e. none_fine i (in_enum nodes m) (enum_no m))
      (choose (p == p_statement) _ _ refl (λ e. none_fine i (in_statement tokens nodes m) (statement_no m)) (none_fine i Elsewhere (λ x f. cc)))))))))))
    where
      choose : (b : Bool) (x y : Role) {c : Bool} → b ≡ c → (b ≡ true → RoleFine i x) → RoleFine i y → RoleFine i (if b then x else y)
      choose true x y e h k = h refl
      choose false x y e h k = k

      on : RoleFine i role
      on x e = let f = fine x e in (f.0, deeper f.1 child, f.2, f.3)

  -- a scope that is opened
  block_opener : (m scope : ℕ) (role : Role) → IsNot p_unit m → IsNot p_external m → RoleFine m role → block_scope m role ≡ scope → IsOpener m scope
  block_opener m scope (Declaration x) u x_no fine e = by x.list refl e
    where
      by : (o : Option ℕ) → x.list ≡ o → list_or m o ≡ scope → IsOpener m scope
      by None is e = (u, x_no, inl (sym e))
      by (Some list) is e = let f = fine x refl in (u, x_no, inr (f.0, f.1, subst (λ (k : ℕ). Below f.0 k) e (f.3 list is), f.2))
  block_opener m scope Elsewhere u x_no fine e = (u, x_no, inl (sym e))
  block_opener m scope Name u x_no fine e = (u, x_no, inl (sym e))
  block_opener m scope Alone u x_no fine e = (u, x_no, inl (sym e))
  block_opener m scope (Tag how) u x_no fine e = (u, x_no, inl (sym e))
  block_opener m scope (Statement first selects) u x_no fine e = (u, x_no, inl (sym e))
  block_opener m scope Parameter u x_no fine e = (u, x_no, inl (sym e))

  opener : (m scope : ℕ) (role : Role) → RoleFine m role → opened tokens nodes m role ≡ Some scope → IsOpener m scope
  unfolding opened
  opener m scope role fine e =
      by (p == p_block) (p == p_suffix) (p == p_statement) (is_list tokens nodes m) (is_selected role || selects tokens nodes m) refl refl refl e
    where
      p : ℕ
      p = syntax.production_at nodes m

      own : {x y : ℕ} → ◌≡◌ {A = Option ℕ} (Some x) (Some y) → y ≡ x
      own e = cc

      same : {x y : ℕ} → ◌≡◌ {A = Option ℕ} (Some x) (Some y) → x ≡ y
      same e = cc

      by : (a b c list chosen : Bool) → (syntax.production_at nodes m == p_block) ≡ a → (syntax.production_at nodes m == p_suffix) ≡ b → (syntax.production_at nodes m == p_statement) ≡ c
          → (if a then Some (block_scope m role) else if b then (if list then Some m else None) else if c then (if chosen then Some m else None) else None) ≡ Some scope → IsOpener m scope
      by true b c list chosen ea eb ec e = block_opener m scope role (apart p_block p_unit m ea refl) (apart p_block p_external m ea refl) fine (same e)
      by false true c true chosen ea eb ec e = (apart p_suffix p_unit m eb refl, apart p_suffix p_external m eb refl, inl (own e))
      by false true c false chosen ea eb ec e = cc
      by false false true list true ea eb ec e = (apart p_statement p_unit m ec refl, apart p_statement p_external m ec refl, inl (own e))
      by false false true list false ea eb ec e = cc
      by false false false list chosen ea eb ec e = cc

  pub children_are : (m : ℕ) (n : Node) (i : ℕ) → slice_get nodes m ≡ Some n → contains n.children i ≡ true → Part m i
  children_are m n i at h = subst (λ (o : Option Node). contains (syntax.children_of o) i ≡ true) (sym at) h

  handed_placed : (m i : ℕ) (s : Standing) → Part m i → IsPlaced m s → IsPlaced i (handed_down tokens nodes m s)
  handed_placed m i s child h = (scopes, handed_fine m i s.role child h.1)
    where
      up : (scope : ℕ) → (scope ≡ length nodes) ⊎ IsOpened m scope → (scope ≡ length nodes) ⊎ IsOpened i scope
      up scope (inl e) = inl e
      up scope (inr (a, above, is)) = inr (a, deeper above child, is)

      by : (o : Option ℕ) → opened tokens nodes m s.role ≡ o → ScopesOpened i (with_scope o s.scopes)
      by None e scope has = up scope (h.0 scope has)
      by (Some x) e scope has = pick (nat_eq x scope) refl has
        where
          pick : (b : Bool) → nat_eq x scope ≡ b → (b || contains s.scopes scope) ≡ true → (scope ≡ length nodes) ⊎ IsOpened i scope
          pick true same has = inr (m, part child, opener m scope s.role h.1 (e ∙ ap (λ (k : ℕ). Some k) (eqb-true x scope same)))
          pick false same has = up scope (h.0 scope has)

      scopes : ScopesOpened i (with_scope (opened tokens nodes m s.role) s.scopes)
      scopes = by (opened tokens nodes m s.role) refl

  outermost_placed : (i : ℕ) → IsPlaced i (outermost (length nodes))
  outermost_placed i = (λ scope has. by (nat_eq (length nodes) scope) refl has, none_fine i Elsewhere (λ x f. cc))
    where
      by : {scope : ℕ} (b : Bool) → nat_eq (length nodes) scope ≡ b → (b || false) ≡ true → (scope ≡ length nodes) ⊎ IsOpened i scope
      by {scope} true e has = inl (sym (eqb-true (length nodes) scope e))
      by {scope} false e has = cc

  pub placed : (i : ℕ) (s : Standing) → slice_get (standings tokens nodes 0 nodes) i ≡ Some s → IsPlaced i s
  placed = each_stands tokens nodes IsPlaced (λ i none. outermost_placed i) (λ m i n s at has h. handed_placed m i s (children_are m n i at has) h)
