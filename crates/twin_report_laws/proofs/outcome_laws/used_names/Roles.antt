-- In which roles nodes stand that use names.
use Rattle.std.proofs.Common.{arith, ◌≡◌, ℕ, suc, ◌+◌, ◌==◌, Bool, true, false, ◌||◌, List, [], ◌∷◌, length, Option, Some, None, slice_get, refl, sym, ap, ◌∙◌, subst}
use Rattle.std.specs.Prelude.{⊤, if◌then◌else◌, nat_lt}
use Rattle.std.proofs.lemmas.Bool.{eqb-true}
use Rattle.c_lexer.specs.declared.Token.{Token}
use Rattle.c_grammar.specs.Productions.{p_external, p_rest, p_declaration, p_parameter, p_specs, p_type, p_primary, p_struct, p_enum, p_statement, p_declarator, p_either, p_enumerator}
use Rattle.c_grammar.specs.Terminals.{contains}
use Rattle.c_grammar.specs.Reads.{Node}
use Rattle.c_mentions.specs.declared.declarators.Derivation.{Derivation}
use Rattle.c_mentions.specs.declared.mentions.Mention.{Mention}
use Rattle.c_mentions.specs.declared.mentions.Mention.TheVariants as mention
use Rattle.c_mentions.specs.declared.roles.Role.{Role}
use Rattle.c_mentions.specs.declared.roles.Role.TheVariants as role
use Rattle.c_mentions.specs.Syntax.{production_at, children_at, children_of, first_child, is_name, token_at}
use Rattle.c_mentions.specs.Declarators.{declarator}
use Rattle.c_mentions.specs.Roles.{handed, in_declaration, by_specs, in_statement}
use Rattle.c_mentions.specs.Mentions.{mention_at, leaf_mention, name_used, label_used, is_type_word, is_list_word, is_exempt, end_mention, declarator_mention, enumerator_mention, at_leaf, name_declared, enumerator_leaf, name_at}
use Rattle.c_mentions.specs.Settings.{Standing, handed_down, standing, standings}
use Rattle.c_mentions.specs.Symbols.{symbol_of}
use Rattle.c_scope.specs.Resolves.{happenings_from}
use Rattle.twin_report_laws.specs.outcome_laws.used_names.Uses.{using}
use Rattle.twin_report_laws.proofs.outcome_laws.used_names.Knowing.{Mentions, AllMention}

-- the roles of names and tags that are used
abbrev IsUsing : Role → Type 0
IsUsing role.Name = ⊤
IsUsing role.Alone = ⊤
IsUsing (role.Tag how) = ⊤
IsUsing r = ⊥

if_role : (C : Type 0) (b : Bool) (x y : Role) → (b ≡ true → IsUsing x → C) → (IsUsing y → C) → IsUsing (if b then x else y) → C
if_role C true x y h k r = h refl r
if_role C false x y h k r = k r

module _ (tokens : List Token) (nodes : List Node) where
  -- a part of what may have names that are used
  abbrev pub StandsUsing : ℕ → Type 0
  StandsUsing i = (p : ℕ) × (contains (children_at nodes p) i ≡ true) × (contains using (production_at nodes p) ≡ true)

  uses_as : (p q : ℕ) → (p == q) ≡ true → contains using q ≡ true → contains using p ≡ true
  uses_as p q e h = subst (λ (x : ℕ). contains using x ≡ true) (sym (eqb-true p q e)) h

  no_specs : (o : Option ℕ) (n : ℕ) → IsUsing (by_specs tokens nodes n o) → ⊥
  no_specs None n g = g
  no_specs (Some specs) n g = g

  no_declaration : (n : ℕ) → IsUsing (in_declaration tokens nodes n) → ⊥
  unfolding in_declaration
  no_declaration n g = no_specs (first_child nodes n) n g

  -- what hands down such a role
  handed_using : (m : ℕ) (r : Role) → IsUsing (handed tokens nodes m r) → contains using (production_at nodes m) ≡ true
  unfolding handed in_statement
  handed_using m r h =
      let p : ℕ = production_at nodes m in
      let C : Type 0 = contains using p ≡ true in
      if_role C (p == p_external) _ _ (λ e g. absurd (no_declaration m g))
      (if_role C (p == p_declaration) _ _ (λ e g. absurd (no_declaration m g))
      (if_role C (p == p_rest) _ _ (λ e g. uses_as p p_rest e refl)
      (if_role C (p == p_parameter) _ _ (λ e g. absurd g)
      (if_role C (p == p_specs) _ _ (λ e g. uses_as p p_specs e refl)
      (if_role C (p == p_type) _ _ (λ e g. uses_as p p_type e refl)
      (if_role C (p == p_primary) _ _ (λ e g. uses_as p p_primary e refl)
      (if_role C (p == p_struct) _ _ (λ e g. uses_as p p_struct e refl)
      (if_role C (p == p_enum) _ _ (λ e g. uses_as p p_enum e refl)
      (if_role C (p == p_statement) _ role.Elsewhere (λ e g. absurd g) (λ g. absurd g)))))))))) h

  abbrev RoleFits : ℕ → Role → Type 0
  RoleFits i r = IsUsing r → StandsUsing i

  -- a part of the list of nodes, from number m on
  abbrev Suffix : ℕ → List Node → Type 0
  Suffix m ns = (k : ℕ) → slice_get nodes (m + k) ≡ slice_get ns k

  next : (m : ℕ) (n : Node) (ns : List Node) → Suffix m (n ∷ ns) → Suffix (m + 1) ns
  next m n ns h k = ap (slice_get nodes) (let z : m + 1 + k ≡ m + suc k = omega arith in z) ∙ h (suc k)

  standing_fits : (i m : ℕ) (ns : List Node) (ss : List Standing) → Suffix m ns → RoleFits i (standing tokens nodes i m ns ss).role
  standing_fits i m [] ss h = λ g. absurd g
  standing_fits i m (n ∷ ns) [] h = λ g. absurd g
  standing_fits i m (n ∷ ns) (s ∷ ss) h = by (contains n.children i) refl (standing_fits i (m + 1) ns ss (next m n ns h))
    where
      at : slice_get nodes m ≡ Some n
      at = ap (slice_get nodes) (let z : m ≡ m + 0 = omega arith in z) ∙ h 0

      by : (b : Bool) → contains n.children i ≡ b → RoleFits i (standing tokens nodes i (m + 1) ns ss).role → RoleFits i (if b then handed_down tokens nodes m s else standing tokens nodes i (m + 1) ns ss).role
      by true e later = λ g. (m, ap (λ (o : Option Node). contains (children_of o) i) at ∙ e, handed_using m s.role g)
      by false e later = later

  abbrev pub AllRoles : ℕ → List Standing → Type 0
  AllRoles i [] = ⊤
  AllRoles i (s ∷ ss) = RoleFits i s.role × AllRoles (i + 1) ss

  pub standings_fit : (i : ℕ) (ns : List Node) → Suffix i ns → AllRoles i (standings tokens nodes i ns)
  standings_fit i [] h = tt
  standings_fit i (n ∷ ns) h = (standing_fits i (i + 1) ns (standings tokens nodes (i + 1) ns) (next i n ns h), standings_fit (i + 1) ns (next i n ns h))

  -- what nodes mention
  module _ (text : List ℕ) (symbol : ℕ → ℕ) where
    abbrev Fit : ℕ → Mention → Type 0
    Fit = Mentions StandsUsing

    used_fits : (n : ℕ) (name : List ℕ) (at : ℕ) (in_body : Bool) → StandsUsing n → Fit n (name_used name at in_body)
    unfolding name_used
    used_fits n name at in_body own = by (is_type_word name || is_list_word name)
      where
        by : (b : Bool) → Fit n (if b then mention.Nothing else mention.Use at (is_exempt name in_body))
        by true = tt
        by false = own

    label_fits : (first : Option ℕ) (n at : ℕ) → Fit n (label_used first n at)
    label_fits None n at = tt
    label_fits (Some first) n at = by (first == n)
      where
        by : (b : Bool) → Fit n (if b then mention.Label at else mention.Goto at)
        by true = tt
        by false = tt

    leaf_fits : (name : List ℕ) (at n : ℕ) (in_body : Bool) (r : Role) → RoleFits n r → Fit n (leaf_mention name at n in_body r)
    leaf_fits name at n in_body role.Name h = used_fits n name at in_body (h tt)
    leaf_fits name at n in_body role.Alone h = used_fits n name at in_body (h tt)
    leaf_fits name at n in_body (role.Tag how) h = h tt
    leaf_fits name at n in_body (role.Statement first selects) h = label_fits first n at
    leaf_fits name at n in_body role.Elsewhere h = tt
    leaf_fits name at n in_body (role.Declaration specifiers) h = tt
    leaf_fits name at n in_body role.Parameter h = tt

    declared_fits : (n leaf at : ℕ) (d : Derivation) (r : Role) → Fit n (name_declared leaf at d r)
    declared_fits n leaf at d role.Name = tt
    declared_fits n leaf at d role.Alone = tt
    declared_fits n leaf at d (role.Tag how) = tt
    declared_fits n leaf at d (role.Statement first selects) = tt
    declared_fits n leaf at d role.Elsewhere = tt
    declared_fits n leaf at d (role.Declaration specifiers) = tt
    declared_fits n leaf at d role.Parameter = tt

    declarator_fits : (n : ℕ) (r : Role) → Fit n (declarator_mention symbol nodes (declarator tokens nodes n) r)
    unfolding declarator_mention
    declarator_fits n r = by (declarator tokens nodes n).name
      where
        by : (o : Option ℕ) → Fit n (at_leaf symbol nodes (declarator tokens nodes n).derivation r o)
        by None = tt
        by (Some leaf) = declared_fits n leaf (symbol (token_at nodes leaf)) (declarator tokens nodes n).derivation r

    enumerator_fits : (n : ℕ) → Fit n (enumerator_mention symbol nodes n)
    unfolding enumerator_mention
    enumerator_fits n = by (first_child nodes n)
      where
        by : (o : Option ℕ) → Fit n (enumerator_leaf symbol nodes o)
        by None = tt
        by (Some leaf) = tt

    end_fits : (n : ℕ) (r : Role) → Fit n (end_mention tokens symbol nodes n r)
    unfolding end_mention
    end_fits n r = by (production_at nodes n == p_enumerator) (production_at nodes n == p_declarator || production_at nodes n == p_either)
      where
        by : (a b : Bool) → Fit n (if a then enumerator_mention symbol nodes n else if b then declarator_mention symbol nodes (declarator tokens nodes n) r else mention.Nothing)
        by true b = enumerator_fits n
        by false true = declarator_fits n r
        by false false = tt

    pub mention_fits : (n : ℕ) (in_body : Bool) (r : Role) → RoleFits n r → Fit n (mention_at text tokens symbol nodes n in_body r)
    unfolding mention_at
    mention_fits n in_body r h = by (is_name tokens nodes n)
      where
        by : (b : Bool) → Fit n (if b then leaf_mention (name_at text tokens (token_at nodes n)) (symbol (token_at nodes n)) n in_body r else end_mention tokens symbol nodes n r)
        by true = leaf_fits (name_at text tokens (token_at nodes n)) (symbol (token_at nodes n)) n in_body r h
        by false = end_fits n r

  pub happenings_fit : (text : List ℕ) (n : ℕ) (ss : List Standing) → AllRoles n ss → AllMention StandsUsing n (happenings_from text tokens nodes n ss)
  happenings_fit text n [] h = tt
  happenings_fit text n (s ∷ ss) h = (mention_fits text (symbol_of text tokens) n (nat_lt s.body (length nodes)) s.role h.0, happenings_fit text (n + 1) ss h.1)
