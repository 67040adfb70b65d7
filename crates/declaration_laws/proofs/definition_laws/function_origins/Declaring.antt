-- What a node that declares a function is: the declarator of a declaration.
use Rattle.std.proofs.Common.{◌≡◌, ℕ, ◌||◌, ◌==◌, Bool, true, false, List, Option, Some, None, refl, sym, ap, ◌∙◌, ◌⊎◌, inl, inr}
use Rattle.std.specs.Prelude.{if◌then◌else◌}
use Rattle.c_lexer.specs.declared.Token.{Token}
use Rattle.c_grammar.specs.Productions.{p_enumerator, p_declarator, p_either}
use Rattle.c_grammar.specs.Reads.{Node}
use Rattle.c_mentions.specs.declared.declarators.Derivation.{Derivation}
use Rattle.c_mentions.specs.declared.declarators.Derivation.TheVariants as derives
use Rattle.c_mentions.specs.declared.mentions.Linkage.{Linkage}
use Rattle.c_mentions.specs.declared.mentions.Mention.{Mention}
use Rattle.c_mentions.specs.declared.mentions.Mention.TheVariants as mention
use Rattle.c_mentions.specs.declared.roles.Role.{Role}
use Rattle.c_mentions.specs.declared.roles.Role.TheVariants as role
use Rattle.c_mentions.specs.Syntax as syntax
use Rattle.c_mentions.specs.Declarators.{declarator}
use Rattle.c_mentions.specs.Mentions.{mention_at, leaf_mention, name_used, label_used, is_type_word, is_list_word, end_mention, declarator_mention, enumerator_mention, at_leaf, name_declared, enumerator_leaf, name_at, is_exempt, linkage_of}
use Rattle.declaration_laws.proofs.definition_laws.linkage_laws.Roles.{ByDeclarator}

module _ (tokens : List Token) (nodes : List Node) where
  module _ (text : List ℕ) (symbol : ℕ → ℕ) (n : ℕ) (r : Role) (leaf sign : ℕ) (l : Linkage) (d : Derivation) (type_name : Option ℕ) where
    abbrev Declaring : Mention
    Declaring = mention.Declares leaf sign l d type_name

    abbrev Found : Type 0
    Found = (d ≡ derives.Other) ⊎ ByDeclarator tokens nodes n r leaf l d type_name

    no_use : (name : List ℕ) (at : ℕ) (in_body : Bool) → name_used name at in_body ≡ Declaring → ⊥
    unfolding name_used
    no_use name at in_body e = by (is_type_word name || is_list_word name) e
      where
        by : (b : Bool) → (if b then mention.Nothing else mention.Use at (is_exempt name in_body)) ≡ Declaring → ⊥
        by true e = cc
        by false e = cc

    no_label : (first : Option ℕ) (i at : ℕ) → label_used first i at ≡ Declaring → ⊥
    no_label None i at e = cc
    no_label (Some first) i at e = by (first == i) e
      where
        by : (b : Bool) → (if b then mention.Label at else mention.Goto at) ≡ Declaring → ⊥
        by true e = cc
        by false e = cc

    no_leaf : (name : List ℕ) (at i : ℕ) (in_body : Bool) (x : Role) → leaf_mention name at i in_body x ≡ Declaring → ⊥
    no_leaf name at i in_body role.Name e = no_use name at in_body e
    no_leaf name at i in_body role.Alone e = no_use name at in_body e
    no_leaf name at i in_body (role.Tag how) e = cc
    no_leaf name at i in_body (role.Statement first selects) e = no_label first i at e
    no_leaf name at i in_body role.Elsewhere e = cc
    no_leaf name at i in_body (role.Declaration specifiers) e = cc
    no_leaf name at i in_body role.Parameter e = cc

    by_name : (production : (syntax.production_at nodes n == p_declarator || syntax.production_at nodes n == p_either) ≡ true) (x : Role) (name : ℕ) → r ≡ x → (declarator tokens nodes n).name ≡ Some name
        → name_declared name (symbol (syntax.token_at nodes name)) (declarator tokens nodes n).derivation x ≡ Declaring → Found
    by_name production (role.Declaration specifiers) name same at e =
        inr (record {
          production = production;
          specifiers = specifiers;
          role_is = same;
          name = let is : name ≡ leaf = cc in at ∙ ap (λ (k : ℕ). Some k) is;
          linkage_is = let is : linkage_of specifiers ≡ l = cc in sym is;
          derivation_is = let is : (declarator tokens nodes n).derivation ≡ d = cc in sym is;
          type_is = let is : specifiers.type_name ≡ type_name = cc in sym is;
        })
    by_name production role.Parameter name same at e = inl (let is : derives.Other ≡ d = cc in sym is)
    by_name production role.Name name same at e = absurd (cc)
    by_name production role.Alone name same at e = absurd (cc)
    by_name production (role.Tag how) name same at e = absurd (cc)
    by_name production (role.Statement first selects) name same at e = absurd (cc)
    by_name production role.Elsewhere name same at e = absurd (cc)

    by_declarator : (syntax.production_at nodes n == p_declarator || syntax.production_at nodes n == p_either) ≡ true → declarator_mention symbol nodes (declarator tokens nodes n) r ≡ Declaring → Found
    unfolding declarator_mention
    by_declarator production e = by (declarator tokens nodes n).name refl e
      where
        by : (o : Option ℕ) → (declarator tokens nodes n).name ≡ o → at_leaf symbol nodes (declarator tokens nodes n).derivation r o ≡ Declaring → Found
        by None at e = absurd (cc)
        by (Some name) at e = by_name production r name refl at e

    by_enumerator : enumerator_mention symbol nodes n ≡ Declaring → Found
    unfolding enumerator_mention
    by_enumerator e = by (syntax.first_child nodes n) e
      where
        by : (o : Option ℕ) → enumerator_leaf symbol nodes o ≡ Declaring → Found
        by None e = absurd (cc)
        by (Some name) e = inl (let is : derives.Other ≡ d = cc in sym is)

    by_end : end_mention tokens symbol nodes n r ≡ Declaring → Found
    unfolding end_mention
    by_end e = by (syntax.production_at nodes n == p_enumerator) (syntax.production_at nodes n == p_declarator || syntax.production_at nodes n == p_either) refl e
      where
        by : (a b : Bool) → (syntax.production_at nodes n == p_declarator || syntax.production_at nodes n == p_either) ≡ b
            → (if a then enumerator_mention symbol nodes n else if b then declarator_mention symbol nodes (declarator tokens nodes n) r else mention.Nothing) ≡ Declaring → Found
        by true b production e = by_enumerator e
        by false true production e = by_declarator production e
        by false false production e = absurd (cc)

    -- what declares something other than by its own declarator makes neither a function nor nothing of it
    pub declares : (in_body : Bool) → mention_at text tokens symbol nodes n in_body r ≡ Declaring → Found
    unfolding mention_at
    declares in_body e = by (syntax.is_name tokens nodes n) e
      where
        by : (b : Bool) → (if b then leaf_mention (name_at text tokens (syntax.token_at nodes n)) (symbol (syntax.token_at nodes n)) n in_body r else end_mention tokens symbol nodes n r) ≡ Declaring → Found
        by true e = absurd (no_leaf (name_at text tokens (syntax.token_at nodes n)) (symbol (syntax.token_at nodes n)) n in_body r e)
        by false e = by_end e
