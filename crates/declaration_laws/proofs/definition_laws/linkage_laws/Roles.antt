-- What a node that declares a name is, and in which roles nodes stand.
use Rattle.std.proofs.Common.{◌≡◌, ℕ, zero, suc, ◌||◌, ◌==◌, Bool, true, false, List, Option, Some, None, refl, sym, ap, ◌∙◌, subst, ◌⊎◌, inl, inr}
use Rattle.std.specs.Prelude.{IfSome, if◌then◌else◌}
use Rattle.std.specs.List.{find}
use Rattle.std.specs.Option.{option_or}
use Rattle.c_lexer.specs.declared.Token.{Token}
use Rattle.c_grammar.specs.Productions.{p_external, p_rest, p_declaration, p_specs, p_type, p_struct, p_enum, p_enumerator, p_declarator, p_either, p_suffix, p_parameter, p_block, p_statement, p_primary}
use Rattle.c_grammar.specs.Terminals.{contains}
use Rattle.c_grammar.specs.Reads.{Node}
use Rattle.c_mentions.specs.declared.declarators.Declarator.{Declarator}
use Rattle.c_mentions.specs.declared.declarators.Derivation.{Derivation}
use Rattle.c_mentions.specs.declared.mentions.Linkage.{Linkage}
use Rattle.c_mentions.specs.declared.mentions.Linkage.TheVariants as linkage
use Rattle.c_mentions.specs.declared.mentions.Mention.{Mention}
use Rattle.c_mentions.specs.declared.mentions.Mention.TheVariants as mention
use Rattle.c_mentions.specs.declared.roles.Specifiers.{Specifiers}
use Rattle.c_mentions.specs.declared.roles.Role.{Role}
use Rattle.c_mentions.specs.declared.roles.Role.TheVariants as role
use Rattle.c_mentions.specs.declared.roles.TagUse.TheVariants as tag
use Rattle.c_mentions.specs.Syntax as syntax
use Rattle.c_mentions.specs.Declarators.{declarator, within, level}
use Rattle.c_mentions.specs.Mentions.{mention_at, leaf_mention, name_used, label_used, is_type_word, is_list_word, end_mention, declarator_mention, enumerator_mention, at_leaf, name_declared, enumerator_leaf, name_at, is_exempt, linkage_of}
use Rattle.c_mentions.specs.Roles.{handed, in_declaration, by_specs, specified, in_specs, in_type, is_alone, in_struct, in_enum, in_statement, opened, block_scope, is_selected, selects, list_of, suffix_of}
use Rattle.c_mentions.specs.Declarators as declarators
use Rattle.core_node_laws.proofs.count_laws.passed.parsed_tree_laws.nesting_laws.PassedOn.{found}

module _ (tokens : List Token) (nodes : List Node) where
  no_specs : (r : Role) (x : Specifiers) → in_specs r ≡ role.Declaration x → ⊥
  no_specs (role.Declaration sp) x e = by sp.is_alone e
    where
      by : (b : Bool) → (if b then role.Alone else role.Elsewhere) ≡ role.Declaration x → ⊥
      by true e = cc
      by false e = cc
  no_specs role.Name x e = cc
  no_specs role.Alone x e = cc
  no_specs (role.Tag how) x e = cc
  no_specs (role.Statement first selects) x e = cc
  no_specs role.Elsewhere x e = cc
  no_specs role.Parameter x e = cc

  no_type : (r : Role) (x : Specifiers) → in_type r ≡ role.Declaration x → ⊥
  unfolding in_type
  no_type r x e = by (is_alone r) e
    where
      by : (b : Bool) → (if b then role.Alone else role.Name) ≡ role.Declaration x → ⊥
      by true e = cc
      by false e = cc

  no_struct : (n : ℕ) (r : Role) (x : Specifiers) → in_struct nodes n r ≡ role.Declaration x → ⊥
  unfolding in_struct
  no_struct n r x e = by _ e
    where
      by : (b : Bool) → (if b then role.Tag tag.Declares else role.Tag tag.Refers) ≡ role.Declaration x → ⊥
      by true e = cc
      by false e = cc

  no_enum : (n : ℕ) (x : Specifiers) → in_enum nodes n ≡ role.Declaration x → ⊥
  unfolding in_enum
  no_enum n x e = by _ e
    where
      by : (b : Bool) → (if b then role.Tag tag.Declares else role.Tag tag.Uses) ≡ role.Declaration x → ⊥
      by true e = cc
      by false e = cc

  no_statement : (n : ℕ) (x : Specifiers) → in_statement tokens nodes n ≡ role.Declaration x → ⊥
  unfolding in_statement
  no_statement n x e = cc

  -- an external declaration and a declaration hand the role of their declarators down, and the rest of one its own
  pub role_handed : (n : ℕ) (r : Role) (x : Specifiers) → handed tokens nodes n r ≡ role.Declaration x
      → (((syntax.production_at nodes n == p_external || syntax.production_at nodes n == p_declaration) ≡ true) × (in_declaration tokens nodes n ≡ role.Declaration x))
      ⊎ (((syntax.production_at nodes n == p_rest) ≡ true) × (r ≡ role.Declaration x))
  unfolding handed
  role_handed n r x e =
      let p = syntax.production_at nodes n in
      by (p == p_external) (p == p_declaration) (p == p_rest) (p == p_parameter) (p == p_specs) (p == p_type) (p == p_primary) (p == p_struct) (p == p_enum) (p == p_statement) refl e
    where
      by : (a b c d f g h i j k : Bool) → (syntax.production_at nodes n == p_rest) ≡ c
          → (if a then in_declaration tokens nodes n else if b then in_declaration tokens nodes n else if c then r else if d then role.Parameter else if f then in_specs r else if g then in_type r else if h then role.Name else if i then in_struct nodes n r else if j then in_enum nodes n else if k then in_statement tokens nodes n else role.Elsewhere) ≡ role.Declaration x
          → (((a || b) ≡ true) × (in_declaration tokens nodes n ≡ role.Declaration x)) ⊎ (((syntax.production_at nodes n == p_rest) ≡ true) × (r ≡ role.Declaration x))
      by true b c d f g h i j k rest e = inl (refl, e)
      by false true c d f g h i j k rest e = inl (refl, e)
      by false false true d f g h i j k rest e = inr (rest, e)
      by false false false true f g h i j k rest e = absurd (cc)
      by false false false false true g h i j k rest e = absurd (no_specs r x e)
      by false false false false false true h i j k rest e = absurd (no_type r x e)
      by false false false false false false true i j k rest e = absurd (cc)
      by false false false false false false false true j k rest e = absurd (no_struct n r x e)
      by false false false false false false false false true k rest e = absurd (no_enum n x e)
      by false false false false false false false false false true rest e = absurd (no_statement n x e)
      by false false false false false false false false false false rest e = absurd (cc)

  pub declared_specs : (n : ℕ) (x : Specifiers) → in_declaration tokens nodes n ≡ role.Declaration x → (specs : ℕ) × (syntax.first_child nodes n ≡ Some specs) × (x ≡ specified tokens nodes n specs)
  unfolding in_declaration
  declared_specs n x e = by (syntax.first_child nodes n) refl e
    where
      by : (o : Option ℕ) → syntax.first_child nodes n ≡ o → by_specs tokens nodes n o ≡ role.Declaration x → (specs : ℕ) × (syntax.first_child nodes n ≡ Some specs) × (x ≡ specified tokens nodes n specs)
      by None at e = absurd (cc)
      by (Some specs) at e = (specs, at, let same : specified tokens nodes n specs ≡ x = cc in sym same)

  -- which scope a node of a production opens
  abbrev pub open_by : ℕ → ℕ → Role → Option ℕ
  open_by p n r =
      if p == p_block then Some (block_scope n r)
      else if p == p_suffix then (if declarators.is_list tokens nodes n then Some n else None)
      else if p == p_statement then (if is_selected r || selects tokens nodes n then Some n else None)
      else None

  pub opens : (p n : ℕ) (r : Role) → syntax.production_at nodes n ≡ p → opened tokens nodes n r ≡ open_by p n r
  unfolding opened
  opens p n r e = ap (λ (q : ℕ). open_by q n r) e

  -- ---- what declares a name

  pub record ByDeclarator (n : ℕ) (r : Role) (leaf : ℕ) (l : Linkage) (d : Derivation) (type_name : Option ℕ) : Type 0 where
    pub production : (syntax.production_at nodes n == p_declarator || syntax.production_at nodes n == p_either) ≡ true
    pub specifiers : Specifiers
    pub role_is : r ≡ role.Declaration specifiers
    pub name : (declarator tokens nodes n).name ≡ Some leaf
    pub linkage_is : l ≡ linkage_of specifiers
    pub derivation_is : d ≡ (declarator tokens nodes n).derivation
    pub type_is : type_name ≡ specifiers.type_name

  module _ (text : List ℕ) (symbol : ℕ → ℕ) (n : ℕ) (r : Role) (leaf sign : ℕ) (l : Linkage) (d : Derivation) (type_name : Option ℕ) where
    abbrev Declaring : Mention
    Declaring = mention.Declares leaf sign l d type_name

    abbrev Found : Type 0
    Found = (l ≡ linkage.Never) ⊎ ByDeclarator n r leaf l d type_name

    no_use : (name : List ℕ) (at : ℕ) (in_body : Bool) → name_used name at in_body ≡ Declaring → ⊥
    unfolding name_used
    no_use name at in_body e = by (is_type_word name || is_list_word name) e
      where
        by : (b : Bool) → (if b then mention.Nothing else mention.Use at (is_exempt name in_body)) ≡ Declaring → ⊥
        by true e = cc
        by false e = cc

    no_label : (first : Option ℕ) (i at : ℕ) → label_used first i at ≡ Declaring → ⊥
    no_label None i at e = cc
    no_label (Some first) i at e = by (first == i) e
      where
        by : (b : Bool) → (if b then mention.Label at else mention.Goto at) ≡ Declaring → ⊥
        by true e = cc
        by false e = cc

    no_leaf : (name : List ℕ) (at i : ℕ) (in_body : Bool) (x : Role) → leaf_mention name at i in_body x ≡ Declaring → ⊥
    no_leaf name at i in_body role.Name e = no_use name at in_body e
    no_leaf name at i in_body role.Alone e = no_use name at in_body e
    no_leaf name at i in_body (role.Tag how) e = cc
    no_leaf name at i in_body (role.Statement first selects) e = no_label first i at e
    no_leaf name at i in_body role.Elsewhere e = cc
    no_leaf name at i in_body (role.Declaration specifiers) e = cc
    no_leaf name at i in_body role.Parameter e = cc

    by_name : (production : (syntax.production_at nodes n == p_declarator || syntax.production_at nodes n == p_either) ≡ true) (x : Role) (name : ℕ) → r ≡ x → (declarator tokens nodes n).name ≡ Some name
        → name_declared name (symbol (syntax.token_at nodes name)) (declarator tokens nodes n).derivation x ≡ Declaring → Found
    by_name production (role.Declaration specifiers) name same at e =
        inr (record {
          production = production;
          specifiers = specifiers;
          role_is = same;
          name = let is : name ≡ leaf = cc in at ∙ ap (λ (k : ℕ). Some k) is;
          linkage_is = let is : linkage_of specifiers ≡ l = cc in sym is;
          derivation_is = let is : (declarator tokens nodes n).derivation ≡ d = cc in sym is;
          type_is = let is : specifiers.type_name ≡ type_name = cc in sym is;
        })
    by_name production role.Parameter name same at e = inl (let is : linkage.Never ≡ l = cc in sym is)
    by_name production role.Name name same at e = absurd (cc)
    by_name production role.Alone name same at e = absurd (cc)
    by_name production (role.Tag how) name same at e = absurd (cc)
    by_name production (role.Statement first selects) name same at e = absurd (cc)
    by_name production role.Elsewhere name same at e = absurd (cc)

    by_declarator : (syntax.production_at nodes n == p_declarator || syntax.production_at nodes n == p_either) ≡ true → declarator_mention symbol nodes (declarator tokens nodes n) r ≡ Declaring → Found
    unfolding declarator_mention
    by_declarator production e = by (declarator tokens nodes n).name refl e
      where
        by : (o : Option ℕ) → (declarator tokens nodes n).name ≡ o → at_leaf symbol nodes (declarator tokens nodes n).derivation r o ≡ Declaring → Found
        by None at e = absurd (cc)
        by (Some name) at e = by_name production r name refl at e

    by_enumerator : enumerator_mention symbol nodes n ≡ Declaring → Found
    unfolding enumerator_mention
    by_enumerator e = by (syntax.first_child nodes n) e
      where
        by : (o : Option ℕ) → enumerator_leaf symbol nodes o ≡ Declaring → Found
        by None e = absurd (cc)
        by (Some name) e = inl (let is : linkage.Never ≡ l = cc in sym is)

    by_end : end_mention tokens symbol nodes n r ≡ Declaring → Found
    unfolding end_mention
    by_end e = by (syntax.production_at nodes n == p_enumerator) (syntax.production_at nodes n == p_declarator || syntax.production_at nodes n == p_either) refl e
      where
        by : (a b : Bool) → (syntax.production_at nodes n == p_declarator || syntax.production_at nodes n == p_either) ≡ b
            → (if a then enumerator_mention symbol nodes n else if b then declarator_mention symbol nodes (declarator tokens nodes n) r else mention.Nothing) ≡ Declaring → Found
        by true b production e = by_enumerator e
        by false true production e = by_declarator production e
        by false false production e = absurd (cc)

    -- an enumerator and a parameter have no linkage, and a declarator its declaration's
    pub declares : (in_body : Bool) → mention_at text tokens symbol nodes n in_body r ≡ Declaring → Found
    unfolding mention_at
    declares in_body e = by (syntax.is_name tokens nodes n) e
      where
        by : (b : Bool) → (if b then leaf_mention (name_at text tokens (syntax.token_at nodes n)) (symbol (syntax.token_at nodes n)) n in_body r else end_mention tokens symbol nodes n r) ≡ Declaring → Found
        by true e = absurd (no_leaf (name_at text tokens (syntax.token_at nodes n)) (symbol (syntax.token_at nodes n)) n in_body r e)
        by false e = by_end e

  -- ---- the list of a function

  first_suffix : (n : ℕ) → IfSome (syntax.first_part nodes n p_suffix) (λ x. syntax.is_of nodes p_suffix x ≡ true)
  first_suffix n = by (find (λ child. syntax.is_of nodes p_suffix child) (syntax.children_at nodes n)) (found (λ child. syntax.is_of nodes p_suffix child) (syntax.children_at nodes n))
    where
      by : (o : Option ℕ) → IfSome o (λ y. (contains (syntax.children_at nodes n) y ≡ true) × (syntax.is_of nodes p_suffix y ≡ true)) → IfSome o (λ y. syntax.is_of nodes p_suffix y ≡ true)
      by None h = tt
      by (Some y) h = h.1

  either_suffix : (a b : Option ℕ) → IfSome a (λ x. syntax.is_of nodes p_suffix x ≡ true) → IfSome b (λ x. syntax.is_of nodes p_suffix x ≡ true) → IfSome (option_or a b) (λ x. syntax.is_of nodes p_suffix x ≡ true)
  either_suffix None b h k = k
  either_suffix (Some x) b h k = h

  level_suffix : (deeper : ℕ → Declarator) (n : ℕ) (o : Option ℕ) → ((inner : ℕ) → IfSome (deeper inner).suffix (λ x. syntax.is_of nodes p_suffix x ≡ true)) → IfSome (level tokens nodes deeper n o).suffix (λ x. syntax.is_of nodes p_suffix x ≡ true)
  level_suffix deeper n None h = first_suffix n
  level_suffix deeper n (Some inner) h = either_suffix (deeper inner).suffix (syntax.first_part nodes n p_suffix) (h inner) (first_suffix n)

  suffix_within : (levels n : ℕ) → IfSome (within tokens nodes levels n).suffix (λ x. syntax.is_of nodes p_suffix x ≡ true)
  suffix_within zero n = tt
  suffix_within (suc levels) n = level_suffix (within tokens nodes levels) n (declarators.inner_of nodes n) (λ inner. suffix_within levels inner)

  suffix_is : (o : Option ℕ) → IfSome (suffix_of tokens nodes o) (λ x. syntax.is_of nodes p_suffix x ≡ true)
  unfolding declarator
  suffix_is None = tt
  suffix_is (Some n) = suffix_within (suc n) n

  pub list_is : (n l : ℕ) → list_of tokens nodes n ≡ Some l → syntax.is_of nodes p_suffix l ≡ true
  unfolding list_of
  list_is n l e = by (syntax.has_part nodes n p_block) (suffix_of tokens nodes (syntax.first_part nodes n p_declarator)) (suffix_is (syntax.first_part nodes n p_declarator)) e
    where
      by : (b : Bool) (o : Option ℕ) → IfSome o (λ x. syntax.is_of nodes p_suffix x ≡ true) → (if b then o else None) ≡ Some l → syntax.is_of nodes p_suffix l ≡ true
      by true None h e = absurd (cc)
      by true (Some x) h e = subst (λ (k : ℕ). syntax.is_of nodes p_suffix k ≡ true) (let same : x ≡ l = cc in same) h
      by false o h e = absurd (cc)
