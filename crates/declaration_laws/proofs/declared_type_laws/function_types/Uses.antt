-- What uses a name is the leaf of one.
use Rattle.std.proofs.Common.{◌≡◌, ◌+◌, ℕ, ◌==◌, ◌||◌, Bool, true, false, List, [], ◌∷◌, ◌++◌, Option, Some, None, length, refl, sym, subst}
use Rattle.std.specs.Prelude.{⊤, nat_lt, if◌then◌else◌}
use Rattle.std.proofs.lemmas.Bool.{eqb-true}
use Rattle.c_lexer.specs.declared.Token.{Token}
use Rattle.c_grammar.specs.Productions.{p_enumerator, p_declarator, p_either}
use Rattle.c_grammar.specs.Reads.{Node}
use Rattle.c_mentions.specs.declared.declarators.Derivation.{Derivation}
use Rattle.c_mentions.specs.declared.mentions.Mention.{Mention}
use Rattle.c_mentions.specs.declared.mentions.Mention.TheVariants as mention
use Rattle.c_mentions.specs.declared.roles.Role.{Role}
use Rattle.c_mentions.specs.declared.roles.Role.TheVariants as role
use Rattle.c_mentions.specs.declared.roles.TagUse.{TagUse}
use Rattle.c_mentions.specs.declared.roles.TagUse.TheVariants as tag
use Rattle.c_mentions.specs.Syntax as syntax
use Rattle.c_mentions.specs.Declarators.{declarator}
use Rattle.c_mentions.specs.Mentions.{mention_at, end_mention, declarator_mention, enumerator_mention, at_leaf, name_declared, enumerator_leaf, leaf_mention, name_at}
use Rattle.c_mentions.specs.Settings.{Standing, standings}
use Rattle.c_mentions.specs.Symbols.{symbol_of}
use Rattle.c_scope.specs.declared.kinds.Declared.{Declared}
use Rattle.c_scope.specs.declared.kinds.NameFault.TheVariants as fault
use Rattle.c_scope.specs.Known.{Happening, Known, known, nothing_known, after, after_use, after_tag, after_tag_use, after_tag_reference, after_label, after_goto, innermost, tag_declared, first_scope, first_label, is_first, with_fault}
use Rattle.c_scope.specs.Resolves.{bindings, happenings, happenings_from}
use Rattle.c_senses.specs.Tree.{paired}
use Rattle.declaration_laws.proofs.declared_type_laws.owner_laws.passed.definition_laws.linkage_laws.Origins.{mentioned}

abbrev Using : Mention → Type 0
Using (mention.Use symbol exempt) = ⊤
Using (mention.Tag symbol how) = ⊤
Using m = ⊥

module _ (text : List ℕ) (tokens : List Token) (nodes : List Node) where
  abbrev all : List Standing
  all = standings tokens nodes 0 nodes

  no_end : (symbol : ℕ → ℕ) (n : ℕ) (r : Role) → Using (end_mention tokens symbol nodes n r) → ⊥
  unfolding end_mention declarator_mention enumerator_mention
  no_end symbol n r h = by (syntax.production_at nodes n == p_enumerator) (syntax.production_at nodes n == p_declarator || syntax.production_at nodes n == p_either) h
    where
      enumerated : (o : Option ℕ) → Using (enumerator_leaf symbol nodes o) → ⊥
      enumerated None u = u
      enumerated (Some leaf) u = u

      of_role : (leaf sign : ℕ) (d : Derivation) (x : Role) → Using (name_declared leaf sign d x) → ⊥
      of_role leaf sign d (role.Declaration specifiers) u = u
      of_role leaf sign d role.Parameter u = u
      of_role leaf sign d x u = u

      declared : (d : Derivation) (o : Option ℕ) → Using (at_leaf symbol nodes d r o) → ⊥
      declared d None u = u
      declared d (Some leaf) u = of_role leaf (symbol (syntax.token_at nodes leaf)) d r u

      by : (a b : Bool) → Using (if a then enumerator_leaf symbol nodes (syntax.first_child nodes n) else if b then at_leaf symbol nodes (declarator tokens nodes n).derivation r (declarator tokens nodes n).name else mention.Nothing) → ⊥
      by true b u = enumerated (syntax.first_child nodes n) u
      by false true u = declared (declarator tokens nodes n).derivation (declarator tokens nodes n).name u
      by false false u = u

  named : (n : ℕ) (st : Standing) → Using (mentioned text tokens nodes n st) → syntax.is_name tokens nodes n ≡ true
  unfolding mention_at
  named n st h = by (syntax.is_name tokens nodes n) (leaf_mention (name_at text tokens (syntax.token_at nodes n)) (symbol_of text tokens (syntax.token_at nodes n)) n (nat_lt st.body (length nodes)) st.role) refl h
    where
      by : (b : Bool) (m : Mention) → syntax.is_name tokens nodes n ≡ b → Using (if b then m else end_mention tokens (symbol_of text tokens) nodes n st.role) → b ≡ true
      by true m e u = refl
      by false m e u = absurd (no_end (symbol_of text tokens) n st.role u)

  abbrev AllNamed : List (ℕ × ℕ) → Type 0
  AllNamed uses = (j x : ℕ) → paired uses j ≡ Some x → syntax.is_name tokens nodes j ≡ true

  push : (uses : List (ℕ × ℕ)) (n y : ℕ) → syntax.is_name tokens nodes n ≡ true → AllNamed uses → AllNamed (uses ++ (n, y) ∷ [])
  push uses n y is h j x e = by uses e (λ k. h j x k)
    where
      by : (list : List (ℕ × ℕ)) → paired (list ++ (n, y) ∷ []) j ≡ Some x → (paired list j ≡ Some x → syntax.is_name tokens nodes j ≡ true) → syntax.is_name tokens nodes j ≡ true
      by [] f later = pick (n == j) refl f
        where
          pick : (b : Bool) → (n == j) ≡ b → (if b then Some y else None) ≡ Some x → syntax.is_name tokens nodes j ≡ true
          pick true t k = subst (λ (i : ℕ). syntax.is_name tokens nodes i ≡ true) (eqb-true n j t) is
          pick false t k = cc
      by (p ∷ list) f later = pick (p.0 == j) f later (by list)
        where
          pick : (b : Bool) → (if b then Some p.1 else paired (list ++ (n, y) ∷ []) j) ≡ Some x → ((if b then Some p.1 else paired list j) ≡ Some x → syntax.is_name tokens nodes j ≡ true)
              → (paired (list ++ (n, y) ∷ []) j ≡ Some x → (paired list j ≡ Some x → syntax.is_name tokens nodes j ≡ true) → syntax.is_name tokens nodes j ≡ true) → syntax.is_name tokens nodes j ≡ true
          pick true k l more = l k
          pick false k l more = more k l

  used : (n : ℕ) (exempt : Bool) (o : Option Declared) (k : Known) → syntax.is_name tokens nodes n ≡ true → AllNamed k.uses → AllNamed (after_use n exempt o k).uses
  used n true None k is h = h
  used n false None k is h = h
  used n exempt (Some d) k is h = push k.uses n d.node is h

  tagged : (n symbol : ℕ) (scopes : List ℕ) (how : TagUse) (k : Known) → syntax.is_name tokens nodes n ≡ true → AllNamed k.uses → AllNamed (after_tag (length nodes) n symbol scopes how k).uses
  tagged n symbol scopes tag.Declares k is h = h
  tagged n symbol scopes tag.Refers k is h = by (innermost scopes symbol k.tags)
    where
      by : (o : Option Declared) → AllNamed (after_tag_reference n (tag_declared n symbol (first_scope (length nodes) scopes)) o k).uses
      by None = h
      by (Some d) = push k.uses n d.node is h
  tagged n symbol scopes tag.Uses k is h = by (innermost scopes symbol k.tags)
    where
      by : (o : Option Declared) → AllNamed (after_tag_use n o k).uses
      by None = h
      by (Some d) = push k.uses n d.node is h

  labelled : (n : ℕ) (first : Option ℕ) (k : Known) → AllNamed k.uses → AllNamed (after_label n first k).uses
  labelled n first k h = by (is_first n first)
    where
      by : (b : Bool) → AllNamed (if b then k else with_fault (fault.Redeclared n) k).uses
      by true = h
      by false = h

  gone : (n : ℕ) (first : Option ℕ) (k : Known) → AllNamed k.uses → AllNamed (after_goto n first k).uses
  gone n None k h = h
  gone n (Some first) k h = h

  step : (labels : ℕ → ℕ → Option ℕ) (n : ℕ) (st : Standing) (k : Known) (m : Mention) → mentioned text tokens nodes n st ≡ m → AllNamed k.uses → AllNamed (after (length nodes) labels n st.scopes st.body m k).uses
  step labels n st k mention.Nothing e h = h
  step labels n st k (mention.Use symbol exempt) e h = used n exempt (innermost st.scopes symbol k.names) k (named n st (subst Using (sym e) tt)) h
  step labels n st k (mention.Tag symbol how) e h = tagged n symbol st.scopes how k (named n st (subst Using (sym e) tt)) h
  step labels n st k (mention.Label symbol) e h = labelled n (labels st.body symbol) k h
  step labels n st k (mention.Goto symbol) e h = gone n (labels st.body symbol) k h
  step labels n st k (mention.Declares leaf symbol linkage derivation type_name) e h = h

  steps : (labels : ℕ → ℕ → Option ℕ) (n : ℕ) (k : Known) (ss : List Standing) → AllNamed k.uses → AllNamed (known (length nodes) labels n k (happenings_from text tokens nodes n ss)).uses
  steps labels n k [] h = h
  steps labels n k (st ∷ ss) h = steps labels (n + 1) _ ss (step labels n st k (mentioned text tokens nodes n st) refl h)

  pub uses_named : (j x : ℕ) → paired (bindings text tokens nodes).uses j ≡ Some x → syntax.is_name tokens nodes j ≡ true
  unfolding bindings happenings
  uses_named = let hs : List Happening = happenings_from text tokens nodes 0 all in steps (first_label 0 hs) 0 nothing_known all (λ j x e. never j x e)
    where
      never : (j x : ℕ) → None ≡ Some x → syntax.is_name tokens nodes j ≡ true
      never j x e = cc
