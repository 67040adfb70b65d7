-- Which nodes open scopes, and that no scope is opened again within itself.
use Rattle.std.proofs.Common.{arith, ◌≡◌, ◌<◌, ◌≤◌, ◌==◌, ◌||◌, ℕ, zero, suc, nat_eq, Bool, true, false, cond, List, [], ◌∷◌, Option, Some, None, length, slice_get, refl, sym, ap, ◌∙◌, subst, ◌⊎◌, inl, inr}
use Rattle.std.specs.Prelude.{if◌then◌else◌}
use Rattle.std.specs.List.{find}
use Rattle.std.specs.Option.{option_or}
use Rattle.c_lexer.specs.declared.Token.{Token}
use Rattle.c_grammar.specs.Reads.{Node}
use Rattle.c_grammar.specs.Terminals.{contains}
use Rattle.c_grammar.specs.Productions.{p_unit, p_external, p_rest, p_declaration, p_declarator, p_suffix, p_block, p_statement}
use Rattle.c_mentions.specs.declared.roles.Specifiers.{Specifiers}
use Rattle.c_mentions.specs.declared.roles.Role.{Role}
use Rattle.c_mentions.specs.declared.roles.Role.TheVariants as role
use Rattle.c_mentions.specs.Syntax as syntax
use Rattle.c_mentions.specs.Declarators.{declarator, within, level, inner_of, is_inner, is_list}
use Rattle.c_mentions.specs.Roles.{opened, in_declaration, specified, list_of, suffix_of, block_scope, list_or, is_selected, selects}
use Rattle.c_mentions.specs.Settings.{Standing, outermost}
use Rattle.declaration_laws.specs.declared_type_laws.owner_laws.passed.definition_laws.scope_laws.Beneath.{part, deeper}
use Rattle.declaration_laws.proofs.declared_type_laws.owner_laws.passed.definition_laws.scope_laws.Tree.{further, compare, Order}
use Rattle.declaration_laws.proofs.declared_type_laws.owner_laws.passed.definition_laws.scope_laws.Scopes.{Part, Below, IsOf, IsNot, apart, found_in, children_are}
use Rattle.declaration_laws.proofs.declared_type_laws.owner_laws.passed.definition_laws.scope_laws.Around.{above_external}
use Rattle.declaration_laws.proofs.declared_type_laws.owner_laws.passed.definition_laws.linkage_laws.Standings.{HasParent, parents}
use Rattle.declaration_laws.proofs.declared_type_laws.owner_laws.passed.definition_laws.linkage_laws.Roles.{role_handed, declared_specs, list_is}
use Rattle.declaration_laws.proofs.declared_type_laws.seen_onward.Descent.{StandsAt, stands_within, part_within}

no_both : (b : Bool) → b ≡ true → b ≡ false → ⊥
no_both b e f = let both : true ≡ false = sym e ∙ f in cc

module _ (tokens : List Token) (nodes : List Node) where
  -- what stands in blocks
  abbrev pub IsBlockPart : ℕ → Type 0
  IsBlockPart i = IsOf tokens nodes p_declaration i ⊎ (IsOf tokens nodes p_block i ⊎ IsOf tokens nodes p_statement i)

  -- what the grammar says of a tree
  pub record Shaped : Type 0 where
    pub before : (i c : ℕ) → Part tokens nodes i c → c < i
    pub single : (i j c : ℕ) → Part tokens nodes i c → Part tokens nodes j c → i ≡ j
    pub externals : (i c : ℕ) → Part tokens nodes i c → IsOf tokens nodes p_external c → IsOf tokens nodes p_unit i
    pub units : (i c : ℕ) → Part tokens nodes i c → IsNot tokens nodes p_unit c
    pub parts : (i c : ℕ) → Part tokens nodes i c → IsBlockPart c → IsOf tokens nodes p_external i ⊎ (IsOf tokens nodes p_block i ⊎ IsOf tokens nodes p_statement i)
    pub blocks : (i c : ℕ) → Part tokens nodes i c → IsOf tokens nodes p_block c → IsOf tokens nodes p_external i ⊎ IsOf tokens nodes p_statement i
    pub one_block : (i a b : ℕ) → IsOf tokens nodes p_external i → Part tokens nodes i a → Part tokens nodes i b → IsOf tokens nodes p_block a → IsOf tokens nodes p_block b → a ≡ b
    pub between : (p a b c : ℕ) → Below tokens nodes p a → Below tokens nodes p c → a ≤ b → b ≤ c → Below tokens nodes p b

  -- a node that opens a scope
  pub record Opens (a scope : ℕ) : Type 0 where
    pub standing : Standing
    pub stands : StandsAt tokens nodes a standing
    pub opens : opened tokens nodes a standing.role ≡ Some scope

  -- a function's body, whose scope is that of the list of its declarator
  pub record Listed (a list : ℕ) : Type 0 where
    pub block : IsOf tokens nodes p_block a
    pub definition : ℕ
    pub inside : Part tokens nodes definition a
    pub external : IsOf tokens nodes p_external definition
    pub suffix : IsOf tokens nodes p_suffix list
    pub declarator : ℕ
    pub declared : Part tokens nodes definition declarator
    pub is : IsOf tokens nodes p_declarator declarator
    pub below : Below tokens nodes declarator list

  abbrev pub IsOpening : ℕ → Type 0
  IsOpening a = IsOf tokens nodes p_block a ⊎ (IsOf tokens nodes p_suffix a ⊎ IsOf tokens nodes p_statement a)

  abbrev pub IsOwn : ℕ → ℕ → Type 0
  IsOwn a scope = (scope ≡ a) × IsOpening a

  -- ---- the list of a declarator stands below it

  suffix_within : (levels n list : ℕ) → (within tokens nodes levels n).suffix ≡ Some list → Below tokens nodes n list
  unfolding inner_of
  suffix_within zero n list e = cc
  suffix_within (suc levels) n list e = by (inner_of nodes n) refl e (λ inner f. suffix_within levels inner list f)
    where
      own : syntax.first_part nodes n p_suffix ≡ Some list → Below tokens nodes n list
      own f = part (found_in (λ child. syntax.is_of nodes p_suffix child) (syntax.children_at nodes n) list f)

      either : (a b : Option ℕ) → option_or a b ≡ Some list → (a ≡ Some list) ⊎ (b ≡ Some list)
      either None b f = inr f
      either (Some x) b f = inl f

      by : (o : Option ℕ) → inner_of nodes n ≡ o → (level tokens nodes (within tokens nodes levels) n o).suffix ≡ Some list
          → ((inner : ℕ) → (within tokens nodes levels inner).suffix ≡ Some list → Below tokens nodes inner list) → Below tokens nodes n list
      by None is f later = own f
      by (Some inner) is f later = pick (either (within tokens nodes levels inner).suffix (syntax.first_part nodes n p_suffix) f)
        where
          pick : ((within tokens nodes levels inner).suffix ≡ Some list) ⊎ (syntax.first_part nodes n p_suffix ≡ Some list) → Below tokens nodes n list
          pick (inl g) = further (Part tokens nodes) n inner list (part (found_in (λ child. is_inner nodes n child) (syntax.children_at nodes n) inner is)) (later inner g)
          pick (inr g) = own g

  suffix_below : (n list : ℕ) → (declarator tokens nodes n).suffix ≡ Some list → Below tokens nodes n list
  unfolding declarator
  suffix_below n list e = suffix_within (suc n) n list e

  module _ (shape : Shaped) where
    smaller : (a b : ℕ) → Below tokens nodes a b → b < a
    smaller a b (part r) = shape.before a b r
    smaller a b (deeper {i = i} c r) = let one = smaller a i c in let two = shape.before i b r in omega (arith, one, two)

    pub up_one : (a q c : ℕ) → Below tokens nodes a c → Part tokens nodes q c → (a ≡ q) ⊎ Below tokens nodes a q
    up_one a q c (part r) child = inl (shape.single a q c r child)
    up_one a q c (deeper {i = i} b r) child = inr (subst (λ (k : ℕ). Below tokens nodes a k) (shape.single i q c r child) b)

    -- above an external declaration stands the root alone
    pub never_above : (a p : ℕ) → Below tokens nodes a p → IsOf tokens nodes p_external p → (q : ℕ) → nat_eq q p_unit ≡ false → IsOf tokens nodes q a → ⊥
    never_above a p below is q other own = no_both (syntax.production_at nodes a == p_unit) (above_external tokens nodes shape.single shape.externals shape.units a p below is) (apart tokens nodes q p_unit a own other)

    opening_apart : (a q : ℕ) → nat_eq p_block q ≡ false → nat_eq p_suffix q ≡ false → nat_eq p_statement q ≡ false → IsOpening a → IsNot tokens nodes q a
    opening_apart a q x y z (inl is) = apart tokens nodes p_block q a is x
    opening_apart a q x y z (inr (inl is)) = apart tokens nodes p_suffix q a is y
    opening_apart a q x y z (inr (inr is)) = apart tokens nodes p_statement q a is z

    -- ---- what opens a scope

    some_same : {x y : ℕ} → ◌≡◌ {A = Option ℕ} (Some x) (Some y) → x ≡ y
    some_same e = cc

    of_list : (a d list : ℕ) → IsOf tokens nodes p_block a → Part tokens nodes d a → IsOf tokens nodes p_external d → list_of tokens nodes d ≡ Some list → Listed a list
    unfolding list_of
    of_list a d list block inside external e = by (syntax.has_part nodes d p_block) (syntax.first_part nodes d p_declarator) refl (list_is tokens nodes d list e) e
      where
        is_part : (test : ℕ → Bool) (xs : List ℕ) (y : ℕ) → find test xs ≡ Some y → test y ≡ true
        is_part test [] y f = cc
        is_part test (x ∷ xs) y f = pick (test x) refl f (λ g. is_part test xs y g)
          where
            pick : (b : Bool) → test x ≡ b → cond b (Some x) (find test xs) ≡ Some y → (find test xs ≡ Some y → test y ≡ true) → test y ≡ true
            pick true is g later = let same : x ≡ y = cc in subst (λ (k : ℕ). test k ≡ true) same is
            pick false is g later = later g

        by : (b : Bool) (o : Option ℕ) → syntax.first_part nodes d p_declarator ≡ o → syntax.is_of nodes p_suffix list ≡ true → (if b then suffix_of tokens nodes o else None) ≡ Some list → Listed a list
        by false o found suffix f = cc
        by true None found suffix f = cc
        by true (Some k) found suffix f = record {
          block = block;
          definition = d;
          inside = inside;
          external = external;
          suffix = suffix;
          declarator = k;
          declared = found_in (λ child. syntax.is_of nodes p_declarator child) (syntax.children_at nodes d) k found;
          is = is_part (λ child. syntax.is_of nodes p_declarator child) (syntax.children_at nodes d) k found;
          below = suffix_below k list f;
        }

    -- a block in the role of a declaration is the body of a function
    of_role : (a list : ℕ) (st : Standing) (x : Specifiers) → StandsAt tokens nodes a st → IsOf tokens nodes p_block a → st.role ≡ role.Declaration x → x.list ≡ Some list → Listed a list
    unfolding specified
    of_role a list st x at block told listed = by (parents tokens nodes a st at)
      where
        none : (outermost (length nodes)).role ≡ role.Declaration x → ⊥
        none e = cc

        rest_no : (m : ℕ) → IsOf tokens nodes p_rest m → IsOf tokens nodes p_external m ⊎ IsOf tokens nodes p_statement m → ⊥
        rest_no m is (inl other) = no_both (syntax.production_at nodes m == p_external) other (apart tokens nodes p_rest p_external m is refl)
        rest_no m is (inr other) = no_both (syntax.production_at nodes m == p_statement) other (apart tokens nodes p_rest p_statement m is refl)

        external_is : (m : ℕ) → (syntax.production_at nodes m == p_external || syntax.production_at nodes m == p_declaration) ≡ true → IsOf tokens nodes p_external m ⊎ IsOf tokens nodes p_statement m → IsOf tokens nodes p_external m
        external_is m h (inl is) = is
        external_is m h (inr is) = absurd (two (syntax.production_at nodes m == p_external) (syntax.production_at nodes m == p_declaration) (apart tokens nodes p_statement p_external m is refl) (apart tokens nodes p_statement p_declaration m is refl) h)
          where
            two : (b c : Bool) → b ≡ false → c ≡ false → (b || c) ≡ true → ⊥
            two true c e f g = cc
            two false true e f g = cc
            two false false e f g = cc

        by : ((st ≡ outermost (length nodes)) × ((k : ℕ) (n : Node) → a < k → slice_get nodes k ≡ Some n → contains n.children a ≡ false)) ⊎ HasParent tokens nodes a st → Listed a list
        by (inl top) = absurd (none (sym (ap (λ (y : Standing). y.role) top.0) ∙ told))
        by (inr h) =
            let child : Part tokens nodes h.parent a = children_are tokens nodes h.parent h.node a h.there h.child in
            pick child (role_handed tokens nodes h.parent h.above.role x (sym (ap (λ (y : Standing). y.role) h.is) ∙ told))
          where
            pick : Part tokens nodes h.parent a
                → (((syntax.production_at nodes h.parent == p_external || syntax.production_at nodes h.parent == p_declaration) ≡ true) × (in_declaration tokens nodes h.parent ≡ role.Declaration x))
                ⊎ (((syntax.production_at nodes h.parent == p_rest) ≡ true) × (h.above.role ≡ role.Declaration x)) → Listed a list
            pick child (inr rest) = absurd (rest_no h.parent rest.0 (shape.blocks h.parent a child block))
            pick child (inl own) =
                let specs = declared_specs tokens nodes h.parent x own.1 in
                of_list a h.parent list block child (external_is h.parent own.0 (shape.blocks h.parent a child block)) (ap (λ (y : Specifiers). y.list) (sym specs.2) ∙ listed)

    block_opens : (a scope : ℕ) (st : Standing) → StandsAt tokens nodes a st → IsOf tokens nodes p_block a → (r : Role) → st.role ≡ r → block_scope a r ≡ scope → IsOwn a scope ⊎ Listed a scope
    block_opens a scope st at block (role.Declaration x) told e = by x.list refl e
      where
        by : (o : Option ℕ) → x.list ≡ o → list_or a o ≡ scope → IsOwn a scope ⊎ Listed a scope
        by None is f = inl (sym f, inl block)
        by (Some list) is f = inr (subst (λ (k : ℕ). Listed a k) f (of_role a list st x at block told is))
    block_opens a scope st at block role.Name told e = inl (sym e, inl block)
    block_opens a scope st at block role.Alone told e = inl (sym e, inl block)
    block_opens a scope st at block (role.Tag how) told e = inl (sym e, inl block)
    block_opens a scope st at block (role.Statement first chosen) told e = inl (sym e, inl block)
    block_opens a scope st at block role.Elsewhere told e = inl (sym e, inl block)
    block_opens a scope st at block role.Parameter told e = inl (sym e, inl block)

    pub opening : (a scope : ℕ) → Opens a scope → IsOwn a scope ⊎ Listed a scope
    unfolding opened
    opening a scope o =
        by (syntax.production_at nodes a == p_block) (syntax.production_at nodes a == p_suffix) (syntax.production_at nodes a == p_statement) (is_list tokens nodes a) (is_selected o.standing.role || selects tokens nodes a) refl refl refl o.opens
      where
        by : (b c d list chosen : Bool) → (syntax.production_at nodes a == p_block) ≡ b → (syntax.production_at nodes a == p_suffix) ≡ c → (syntax.production_at nodes a == p_statement) ≡ d
            → (if b then Some (block_scope a o.standing.role) else if c then (if list then Some a else None) else if d then (if chosen then Some a else None) else None) ≡ Some scope → IsOwn a scope ⊎ Listed a scope
        by true c d list chosen eb ec ed e = block_opens a scope o.standing o.stands eb o.standing.role refl (some_same e)
        by false true d true chosen eb ec ed e = inl (sym (some_same e), inr (inl ec))
        by false true d false chosen eb ec ed e = absurd (cc)
        by false false true list true eb ec ed e = inl (sym (some_same e), inr (inr ed))
        by false false true list false eb ec ed e = absurd (cc)
        by false false false list chosen eb ec ed e = absurd (cc)

    -- it is one of the nodes' numbers
    pub opens_small : (a scope : ℕ) → Opens a scope → scope < length nodes
    opens_small a scope o = by (opening a scope o)
      where
        by : IsOwn a scope ⊎ Listed a scope → scope < length nodes
        by (inl own) = let lt = stands_within tokens nodes a o.standing o.stands in let same = own.0 in omega (arith, lt, same)
        by (inr l) =
            let lower = smaller l.declarator scope l.below in
            let less = shape.before l.definition l.declarator l.declared in
            let lt = part_within tokens nodes l.definition l.declarator l.declared in
            omega (arith, lower, less, lt)

    opening_is : (a scope : ℕ) → IsOwn a scope ⊎ Listed a scope → IsOpening a
    opening_is a scope (inl own) = own.1
    opening_is a scope (inr l) = inl l.block

    -- no scope is opened again within itself
    pub never_again : (t r scope : ℕ) → Below tokens nodes t r → Opens t scope → Opens r scope → ⊥
    never_again t r scope below outer inner = by (opening t scope outer) (opening r scope inner)
      where
        around : (q : ℕ) → nat_eq q p_unit ≡ false → IsOf tokens nodes q t → (d : ℕ) → (t ≡ d) ⊎ Below tokens nodes t d → IsOf tokens nodes p_external d → IsNot tokens nodes p_external t → ⊥
        around q other own d (inl same) external apart_external = no_both (syntax.production_at nodes t == p_external) (subst (λ (k : ℕ). IsOf tokens nodes p_external k) (sym same) external) apart_external
        around q other own d (inr down) external apart_external = never_above t d down external q other own

        around_any : IsOpening t → (d : ℕ) → (t ≡ d) ⊎ Below tokens nodes t d → IsOf tokens nodes p_external d → ⊥
        around_any (inl is) d up external = around p_block refl is d up external (apart tokens nodes p_block p_external t is refl)
        around_any (inr (inl is)) d up external = around p_suffix refl is d up external (apart tokens nodes p_suffix p_external t is refl)
        around_any (inr (inr is)) d up external = around p_statement refl is d up external (apart tokens nodes p_statement p_external t is refl)

        beside : (l : Listed t scope) → Below tokens nodes t scope → ⊥
        beside l down = pick (compare (Part tokens nodes) shape.single t l.declarator scope down l.below)
          where
            over : (a b : ℕ) → Part tokens nodes l.definition a → Part tokens nodes l.definition b → Below tokens nodes a b → ⊥
            over a b one other under = rest (up_one a l.definition b under other)
              where
                rest : (a ≡ l.definition) ⊎ Below tokens nodes a l.definition → ⊥
                rest (inl same) = let lt = shape.before l.definition a one in omega (arith, lt, same)
                rest (inr above) = let lt = shape.before l.definition a one in let less = smaller a l.definition above in omega (arith, lt, less)

            pick : Order (Part tokens nodes) t l.declarator → ⊥
            pick (inl same) = no_both (syntax.production_at nodes t == p_declarator) (subst (λ (k : ℕ). IsOf tokens nodes p_declarator k) (sym same) l.is) (apart tokens nodes p_block p_declarator t l.block refl)
            pick (inr (inl under)) = over t l.declarator l.inside l.declared under
            pick (inr (inr under)) = over l.declarator t l.declared l.inside under

        by : IsOwn t scope ⊎ Listed t scope → IsOwn r scope ⊎ Listed r scope → ⊥
        by (inl own) (inl other) = let lt = smaller t r below in let one = own.0 in let two = other.0 in omega (arith, lt, one, two)
        by (inr l) (inl other) = beside l (subst (λ (k : ℕ). Below tokens nodes t k) (sym other.0) below)
        by o (inr l) = around_any (opening_is t scope o) l.definition (up_one t l.definition r below l.inside) l.external
