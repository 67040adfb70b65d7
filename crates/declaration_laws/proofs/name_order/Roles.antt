-- In which roles nodes stand, and what they mention.
use Rattle.std.proofs.Common.{arith, ◌≡◌, ℕ, suc, ◌+◌, ◌==◌, ◌⊎◌, inl, inr, Bool, true, false, ◌||◌, List, [], ◌∷◌, length, Option, Some, None, slice_get, refl, sym, ap, ◌∙◌, subst}
use Rattle.std.specs.Prelude.{⊤, if◌then◌else◌, nat_lt}
use Rattle.std.proofs.lemmas.Bool.{eqb-true}
use Rattle.c_lexer.specs.declared.Token.{Token}
use Rattle.c_grammar.specs.Productions.{p_external, p_rest, p_declaration, p_parameter, p_specs, p_type, p_primary, p_struct, p_members, p_enum, p_enumerators, p_statement, p_declarator, p_either, p_enumerator}
use Rattle.c_grammar.specs.Terminals.{contains}
use Rattle.c_grammar.specs.Reads.{Node}
use Rattle.c_mentions.specs.declared.declarators.Derivation.{Derivation}
use Rattle.c_mentions.specs.declared.mentions.Mention.{Mention}
use Rattle.c_mentions.specs.declared.mentions.Mention.TheVariants as mention
use Rattle.c_mentions.specs.declared.roles.Role.{Role}
use Rattle.c_mentions.specs.declared.roles.Role.TheVariants as role
use Rattle.c_mentions.specs.declared.roles.TagUse.{TagUse}
use Rattle.c_mentions.specs.declared.roles.TagUse.TheVariants as tag
use Rattle.c_mentions.specs.Syntax.{has_part, production_at, children_at, children_of, first_child, is_name, token_at}
use Rattle.c_mentions.specs.Declarators.{declarator}
use Rattle.c_mentions.specs.Roles.{handed, in_declaration, in_specs, in_type, in_struct, in_enum, in_statement, is_alone}
use Rattle.c_mentions.specs.Mentions.{mention_at, leaf_mention, name_used, label_used, is_type_word, is_list_word, is_exempt, end_mention, declarator_mention, enumerator_mention, at_leaf, name_declared, enumerator_leaf, name_at}
use Rattle.c_mentions.specs.Settings.{Standing, handed_down, standing, standings}
use Rattle.c_mentions.specs.Symbols.{symbol_of}
use Rattle.c_scope.specs.Resolves.{happenings_from}
use Rattle.declaration_laws.specs.name_order.Order.{declaring, linking}
use Rattle.declaration_laws.proofs.name_order.Knowing.{Mentions, AllMention}

abbrev pub IsDeclaringRole : Role → Type 0
IsDeclaringRole (role.Declaration specifiers) = ⊤
IsDeclaringRole role.Parameter = ⊤
IsDeclaringRole r = ⊥

abbrev pub IsDeclarationRole : Role → Type 0
IsDeclarationRole (role.Declaration specifiers) = ⊤
IsDeclarationRole r = ⊥

abbrev pub IsTagRole : Role → Type 0
IsTagRole (role.Tag how) = ⊤
IsTagRole r = ⊥

if_role : (C : Type 0) (P : Role → Type 0) (b : Bool) (x y : Role) → (b ≡ true → P x → C) → (b ≡ false → P y → C) → P (if b then x else y) → C
if_role C P true x y h k r = h refl r
if_role C P false x y h k r = k refl r

module _ (tokens : List Token) (nodes : List Node) where
  -- a node that stands directly in what declares names, and a part of a primary
  abbrev pub StandsDeclaring : ℕ → Type 0
  StandsDeclaring i = (p : ℕ) × (contains (children_at nodes p) i ≡ true) × (contains declaring (production_at nodes p) ≡ true)

  abbrev pub StandsLinked : ℕ → Type 0
  StandsLinked i = (p : ℕ) × (contains (children_at nodes p) i ≡ true) × (contains linking (production_at nodes p) ≡ true)

  abbrev pub LinkedPlace : ℕ → Type 0
  LinkedPlace m = ((production_at nodes m == p_declarator || production_at nodes m == p_either) ≡ true) × StandsLinked m

  abbrev pub IsInPrimary : ℕ → Type 0
  IsInPrimary i = (p : ℕ) × (contains (children_at nodes p) i ≡ true) × (production_at nodes p ≡ p_primary)

  -- the node that declares a name
  abbrev pub DeclaresName : ℕ → ℕ → Type 0
  DeclaresName m leaf =
      (((production_at nodes m == p_enumerator) ≡ true) × (first_child nodes m ≡ Some leaf))
      ⊎ (((production_at nodes m == p_declarator || production_at nodes m == p_either) ≡ true) × ((declarator tokens nodes m).name ≡ Some leaf) × StandsDeclaring m)

  abbrev RoleFits : ℕ → Role → Type 0
  RoleFits i r = (IsTagRole r → IsInPrimary i → ⊥) × (IsDeclaringRole r → StandsDeclaring i) × (IsDeclarationRole r → StandsLinked i)

  declares_as : (p : ℕ) (q : ℕ) → (p == q) ≡ true → contains declaring q ≡ true → contains declaring p ≡ true
  declares_as p q e h = subst (λ (x : ℕ). contains declaring x ≡ true) (sym (eqb-true p q e)) h

  handed_declares : (m : ℕ) (r : Role) → IsDeclaringRole (handed tokens nodes m r) → contains declaring (production_at nodes m) ≡ true
  unfolding handed in_type in_struct in_enum in_statement
  handed_declares m r h =
      let p : ℕ = production_at nodes m in
      let C : Type 0 = contains declaring p ≡ true in
      if_role C IsDeclaringRole (p == p_external) _ _ (λ e g. declares_as p p_external e refl)
      (λ e. if_role C IsDeclaringRole (p == p_declaration) _ _ (λ e g. declares_as p p_declaration e refl)
      (λ e. if_role C IsDeclaringRole (p == p_rest) _ _ (λ e g. declares_as p p_rest e refl)
      (λ e. if_role C IsDeclaringRole (p == p_parameter) _ _ (λ e g. declares_as p p_parameter e refl)
      (λ e. if_role C IsDeclaringRole (p == p_specs) _ _ (λ e g. absurd (no_specs r g))
      (λ e. if_role C IsDeclaringRole (p == p_type) _ _ (λ e g. absurd (no_type (is_alone r) g))
      (λ e. if_role C IsDeclaringRole (p == p_primary) _ _ (λ e g. absurd g)
      (λ e. if_role C IsDeclaringRole (p == p_struct) _ _ (λ e g. absurd (no_tag (has_part nodes m p_members || is_alone r) tag.Declares tag.Refers g))
      (λ e. if_role C IsDeclaringRole (p == p_enum) _ _ (λ e g. absurd (no_tag (has_part nodes m p_enumerators) tag.Declares tag.Uses g))
      (λ e. if_role C IsDeclaringRole (p == p_statement) _ role.Elsewhere (λ e g. absurd g) (λ e g. absurd g)))))))))) h
    where
      no_specs : (x : Role) → IsDeclaringRole (in_specs x) → ⊥
      no_specs (role.Declaration specifiers) g = if_role ⊥ IsDeclaringRole specifiers.is_alone role.Alone role.Elsewhere (λ e k. k) (λ e k. k) g
      no_specs x g = g

      no_type : (b : Bool) → IsDeclaringRole (if b then role.Alone else role.Name) → ⊥
      no_type true g = g
      no_type false g = g

      no_tag : (b : Bool) (x y : TagUse) → IsDeclaringRole (if b then role.Tag x else role.Tag y) → ⊥
      no_tag true x y g = g
      no_tag false x y g = g

  links_as : (p : ℕ) (q : ℕ) → (p == q) ≡ true → contains linking q ≡ true → contains linking p ≡ true
  links_as p q e h = subst (λ (x : ℕ). contains linking x ≡ true) (sym (eqb-true p q e)) h

  handed_links : (m : ℕ) (r : Role) → IsDeclarationRole (handed tokens nodes m r) → contains linking (production_at nodes m) ≡ true
  unfolding handed in_type in_struct in_enum in_statement
  handed_links m r h =
      let p : ℕ = production_at nodes m in
      let C : Type 0 = contains linking p ≡ true in
      if_role C IsDeclarationRole (p == p_external) _ _ (λ e g. links_as p p_external e refl)
      (λ e. if_role C IsDeclarationRole (p == p_declaration) _ _ (λ e g. links_as p p_declaration e refl)
      (λ e. if_role C IsDeclarationRole (p == p_rest) _ _ (λ e g. links_as p p_rest e refl)
      (λ e. if_role C IsDeclarationRole (p == p_parameter) _ _ (λ e g. absurd g)
      (λ e. if_role C IsDeclarationRole (p == p_specs) _ _ (λ e g. absurd (no_specs r g))
      (λ e. if_role C IsDeclarationRole (p == p_type) _ _ (λ e g. absurd (no_type (is_alone r) g))
      (λ e. if_role C IsDeclarationRole (p == p_primary) _ _ (λ e g. absurd g)
      (λ e. if_role C IsDeclarationRole (p == p_struct) _ _ (λ e g. absurd (no_tag (has_part nodes m p_members || is_alone r) tag.Declares tag.Refers g))
      (λ e. if_role C IsDeclarationRole (p == p_enum) _ _ (λ e g. absurd (no_tag (has_part nodes m p_enumerators) tag.Declares tag.Uses g))
      (λ e. if_role C IsDeclarationRole (p == p_statement) _ role.Elsewhere (λ e g. absurd g) (λ e g. absurd g)))))))))) h
    where
      no_specs : (x : Role) → IsDeclarationRole (in_specs x) → ⊥
      no_specs (role.Declaration specifiers) g = if_role ⊥ IsDeclarationRole specifiers.is_alone role.Alone role.Elsewhere (λ e k. k) (λ e k. k) g
      no_specs x g = g

      no_type : (b : Bool) → IsDeclarationRole (if b then role.Alone else role.Name) → ⊥
      no_type true g = g
      no_type false g = g

      no_tag : (b : Bool) (x y : TagUse) → IsDeclarationRole (if b then role.Tag x else role.Tag y) → ⊥
      no_tag true x y g = g
      no_tag false x y g = g

  handed_primary : (m : ℕ) (r : Role) → production_at nodes m ≡ p_primary → handed tokens nodes m r ≡ role.Name
  unfolding handed
  handed_primary m r e =
      ap (λ (p : ℕ).
      if p == p_external then in_declaration tokens nodes m
      else if p == p_declaration then in_declaration tokens nodes m
      else if p == p_rest then r
      else if p == p_parameter then role.Parameter
      else if p == p_specs then in_specs r
      else if p == p_type then in_type r
      else if p == p_primary then role.Name
      else if p == p_struct then in_struct nodes m r
      else if p == p_enum then in_enum nodes m
      else if p == p_statement then in_statement tokens nodes m
      else role.Elsewhere) e

  module _ (single : (i j c : ℕ) → contains (children_at nodes i) c ≡ true → contains (children_at nodes j) c ≡ true → i ≡ j) where
    handed_fits : (i m : ℕ) (r : Role) → contains (children_at nodes m) i ≡ true → RoleFits i (handed tokens nodes m r)
    handed_fits i m r h = (
      λ tag primary.
          let same : primary.0 ≡ m = single primary.0 m i primary.1 h in
          subst IsTagRole (handed_primary m r (subst (λ (x : ℕ). production_at nodes x ≡ p_primary) same primary.2)) tag,
      λ declares. (m, h, handed_declares m r declares),
      λ declares. (m, h, handed_links m r declares),
    )

    -- a part of the list of nodes, from number m on
    abbrev Suffix : ℕ → List Node → Type 0
    Suffix m ns = (k : ℕ) → slice_get nodes (m + k) ≡ slice_get ns k

    next : (m : ℕ) (n : Node) (ns : List Node) → Suffix m (n ∷ ns) → Suffix (m + 1) ns
    next m n ns h k = ap (slice_get nodes) (let z : m + 1 + k ≡ m + suc k = omega arith in z) ∙ h (suc k)

    standing_fits : (i m : ℕ) (ns : List Node) (ss : List Standing) → Suffix m ns → RoleFits i (standing tokens nodes i m ns ss).role
    standing_fits i m [] ss h = (λ tag primary. tag, λ declares. absurd declares, λ declares. absurd declares)
    standing_fits i m (n ∷ ns) [] h = (λ tag primary. tag, λ declares. absurd declares, λ declares. absurd declares)
    standing_fits i m (n ∷ ns) (s ∷ ss) h = by (contains n.children i) refl (standing_fits i (m + 1) ns ss (next m n ns h))
      where
        at : slice_get nodes m ≡ Some n
        at = ap (slice_get nodes) (let z : m ≡ m + 0 = omega arith in z) ∙ h 0

        by : (b : Bool) → contains n.children i ≡ b → RoleFits i (standing tokens nodes i (m + 1) ns ss).role → RoleFits i (if b then handed_down tokens nodes m s else standing tokens nodes i (m + 1) ns ss).role
        by true e later = handed_fits i m s.role (ap (λ (o : Option Node). contains (children_of o) i) at ∙ e)
        by false e later = later

    abbrev pub AllRoles : ℕ → List Standing → Type 0
    AllRoles i [] = ⊤
    AllRoles i (s ∷ ss) = RoleFits i s.role × AllRoles (i + 1) ss

    pub standings_fit : (i : ℕ) (ns : List Node) → Suffix i ns → AllRoles i (standings tokens nodes i ns)
    standings_fit i [] h = tt
    standings_fit i (n ∷ ns) h = (standing_fits i (i + 1) ns (standings tokens nodes (i + 1) ns) (next i n ns h), standings_fit (i + 1) ns (next i n ns h))

    -- what nodes mention
    module _ (text : List ℕ) (symbol : ℕ → ℕ) where
      abbrev Fit : ℕ → Mention → Type 0
      Fit = Mentions DeclaresName IsInPrimary LinkedPlace

      used_fits : (n : ℕ) (name : List ℕ) (at : ℕ) (in_body : Bool) → Fit n (name_used name at in_body)
      unfolding name_used
      used_fits n name at in_body = by (is_type_word name || is_list_word name)
        where
          by : (b : Bool) → Fit n (if b then mention.Nothing else mention.Use at (is_exempt name in_body))
          by true = tt
          by false = tt

      label_fits : (first : Option ℕ) (n at : ℕ) → Fit n (label_used first n at)
      label_fits None n at = tt
      label_fits (Some first) n at = by (first == n)
        where
          by : (b : Bool) → Fit n (if b then mention.Label at else mention.Goto at)
          by true = tt
          by false = tt

      leaf_fits : (name : List ℕ) (at n : ℕ) (in_body : Bool) (r : Role) → RoleFits n r → Fit n (leaf_mention name at n in_body r)
      leaf_fits name at n in_body role.Name h = used_fits n name at in_body
      leaf_fits name at n in_body role.Alone h = used_fits n name at in_body
      leaf_fits name at n in_body (role.Tag how) h = h.0 tt
      leaf_fits name at n in_body (role.Statement first selects) h = label_fits first n at
      leaf_fits name at n in_body role.Elsewhere h = tt
      leaf_fits name at n in_body (role.Declaration specifiers) h = tt
      leaf_fits name at n in_body role.Parameter h = tt

      declared_fits : (n leaf at : ℕ) (d : Derivation) (r : Role) → (IsDeclaringRole r → DeclaresName n leaf) → (IsDeclarationRole r → LinkedPlace n) → Fit n (name_declared leaf at d r)
      declared_fits n leaf at d role.Name h k = tt
      declared_fits n leaf at d role.Alone h k = tt
      declared_fits n leaf at d (role.Tag how) h k = tt
      declared_fits n leaf at d (role.Statement first selects) h k = tt
      declared_fits n leaf at d role.Elsewhere h k = tt
      declared_fits n leaf at d (role.Declaration specifiers) h k = (h tt, inr (k tt))
      declared_fits n leaf at d role.Parameter h k = (h tt, inl refl)

      declarator_fits : (n : ℕ) (r : Role) → (production_at nodes n == p_declarator || production_at nodes n == p_either) ≡ true → RoleFits n r → Fit n (declarator_mention symbol nodes (declarator tokens nodes n) r)
      unfolding declarator_mention
      declarator_fits n r is h = by (declarator tokens nodes n).name refl
        where
          by : (o : Option ℕ) → (declarator tokens nodes n).name ≡ o → Fit n (at_leaf symbol nodes (declarator tokens nodes n).derivation r o)
          by None e = tt
          by (Some leaf) e = declared_fits n leaf (symbol (token_at nodes leaf)) (declarator tokens nodes n).derivation r (λ g. inr (is, e, h.1 g)) (λ g. (is, h.2 g))

      enumerator_fits : (n : ℕ) → (production_at nodes n == p_enumerator) ≡ true → Fit n (enumerator_mention symbol nodes n)
      unfolding enumerator_mention
      enumerator_fits n is = by (first_child nodes n) refl
        where
          by : (o : Option ℕ) → first_child nodes n ≡ o → Fit n (enumerator_leaf symbol nodes o)
          by None e = tt
          by (Some leaf) e = (inl (is, e), inl refl)

      end_fits : (n : ℕ) (r : Role) → RoleFits n r → Fit n (end_mention tokens symbol nodes n r)
      unfolding end_mention
      end_fits n r h = by (production_at nodes n == p_enumerator) refl (production_at nodes n == p_declarator || production_at nodes n == p_either) refl
        where
          by : (a : Bool) → (production_at nodes n == p_enumerator) ≡ a → (b : Bool) → (production_at nodes n == p_declarator || production_at nodes n == p_either) ≡ b
              → Fit n (if a then enumerator_mention symbol nodes n else if b then declarator_mention symbol nodes (declarator tokens nodes n) r else mention.Nothing)
          by true e b f = enumerator_fits n e
          by false e true f = declarator_fits n r f h
          by false e false f = tt

      pub mention_fits : (n : ℕ) (in_body : Bool) (r : Role) → RoleFits n r → Fit n (mention_at text tokens symbol nodes n in_body r)
      unfolding mention_at
      mention_fits n in_body r h = by (is_name tokens nodes n)
        where
          by : (b : Bool) → Fit n (if b then leaf_mention (name_at text tokens (token_at nodes n)) (symbol (token_at nodes n)) n in_body r else end_mention tokens symbol nodes n r)
          by true = leaf_fits (name_at text tokens (token_at nodes n)) (symbol (token_at nodes n)) n in_body r h
          by false = end_fits n r h

    pub happenings_fit : (text : List ℕ) (n : ℕ) (ss : List Standing) → AllRoles n ss → AllMention DeclaresName IsInPrimary LinkedPlace n (happenings_from text tokens nodes n ss)
    happenings_fit text n [] h = tt
    happenings_fit text n (s ∷ ss) h = (mention_fits text (symbol_of text tokens) n (nat_lt s.body (length nodes)) s.role h.0, happenings_fit text (n + 1) ss h.1)
