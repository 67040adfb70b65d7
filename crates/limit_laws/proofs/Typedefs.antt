-- What name resolution finds to be a typedef name is a name in a declarator.
use Rattle.std.proofs.Common.{◌≡◌, ◌+◌, ℕ, zero, suc, ◌||◌, ◌==◌, Bool, true, false, cond, List, [], ◌∷◌, ◌++◌, Option, Some, None, length, All, refl, sym, subst, ◌⊎◌, inl, inr}
use Rattle.std.specs.Prelude.{⊤, IfSome, if◌then◌else◌, nat_lt}
use Rattle.std.specs.List.{find}
use Rattle.std.proofs.lemmas.Bool.{eqb-true}
use Rattle.std.proofs.lemmas.List.Elements.{All-nil, All-head, All-tail, All-push}
use Rattle.c_lexer.specs.declared.Token.{Token}
use Rattle.c_grammar.specs.Productions.{p_declarator, p_either, p_enumerator}
use Rattle.c_grammar.specs.Terminals.{contains}
use Rattle.c_grammar.specs.Reads.{Node}
use Rattle.c_mentions.specs.declared.declarators.Declarator.{Declarator}
use Rattle.c_mentions.specs.declared.declarators.Derivation.{Derivation}
use Rattle.c_mentions.specs.declared.mentions.Linkage.{Linkage}
use Rattle.c_mentions.specs.declared.mentions.Linkage.TheVariants as linkage
use Rattle.c_mentions.specs.declared.mentions.Mention.{Mention}
use Rattle.c_mentions.specs.declared.mentions.Mention.TheVariants as mention
use Rattle.c_mentions.specs.declared.roles.Role.{Role}
use Rattle.c_mentions.specs.declared.roles.Role.TheVariants as role
use Rattle.c_mentions.specs.declared.roles.TagUse.{TagUse}
use Rattle.c_mentions.specs.declared.roles.TagUse.TheVariants as tag
use Rattle.c_mentions.specs.Syntax as syntax
use Rattle.c_mentions.specs.Declarators.{declarator, within, name_of, inner_of, is_inner, level}
use Rattle.c_mentions.specs.Mentions.{mention_at, leaf_mention, name_used, label_used, is_type_word, is_list_word, end_mention, declarator_mention, enumerator_mention, at_leaf, name_declared, enumerator_leaf, name_at, is_exempt}
use Rattle.c_mentions.specs.Settings.{Standing, standings}
use Rattle.c_mentions.specs.Symbols.{symbol_of}
use Rattle.c_scope.specs.declared.kinds.Declared.{Declared}
use Rattle.c_senses.specs.Names.{is_typedef_kind, names_type}
use Rattle.c_scope.specs.declared.kinds.NameFault.TheVariants as fault
use Rattle.c_scope.specs.Known.{Happening, Known, known, nothing_known, after, after_use, after_tag, after_tag_use, after_tag_reference, after_label, after_goto, innermost, tag_declared, first_scope, declared_by, first_label, is_first, with_fault, is_function, kind_of}
use Rattle.c_scope.specs.Resolves.{bindings, happenings, happenings_from}
use Rattle.parsed_tree_laws.proofs.placed_laws.Rows.{left, either, declarators}
use Rattle.parsed_tree_laws.proofs.placed_laws.Names.{found, IsDeclarator, IsNamedPart}

-- the declaration that is found of a list
module _ (P : Declared → Type 0) where
  find_or : (test : Declared → Bool) (x : Declared) (b : Bool) (later : Option Declared) → test x ≡ b → P x → IfSome later (λ y. P y × (test y ≡ true)) → IfSome (cond b (Some x) later) (λ y. P y × (test y ≡ true))
  find_or test x true later e own h = (own, e)
  find_or test x false later e own h = h

  find_is : (test : Declared → Bool) (xs : List Declared) → All P xs → IfSome (find test xs) (λ y. P y × (test y ≡ true))
  find_is test [] h = tt
  find_is test (x ∷ xs) h = find_or test x (test x) (find test xs) refl (All-head P x xs h) (find_is test xs (All-tail P x xs h))

-- a typedef name is declared by the word `typedef`
typedef_word : (l : Linkage) (file function : Bool) → is_typedef_kind (kind_of l file function) ≡ true → l ≡ linkage.Typedef
typedef_word linkage.Typedef file function e = refl
typedef_word linkage.Never file function e = cc
typedef_word linkage.External file function e = cc
typedef_word linkage.Object true function e = cc
typedef_word linkage.Object false true e = cc
typedef_word linkage.Object false false e = cc

-- what is known declares typedef names by such leaves alone
module _ (P : ℕ → Type 0) where
  IsGood : Declared → Type 0
  IsGood d = names_type d ≡ true → P d.node

  Fits : Mention → Type 0
  Fits (mention.Declares name symbol l derivation type_name) = l ≡ linkage.Typedef → P name
  Fits m = ⊤

  used : (n : ℕ) (exempt : Bool) (o : Option Declared) (k : Known) → All IsGood k.names → All IsGood (after_use n exempt o k).names
  used n true None k h = h
  used n false None k h = h
  used n exempt (Some d) k h = h

  tagged : (file n symbol : ℕ) (scopes : List ℕ) (how : TagUse) (k : Known) → All IsGood k.names → All IsGood (after_tag file n symbol scopes how k).names
  tagged file n symbol scopes tag.Declares k h = h
  tagged file n symbol scopes tag.Refers k h = by (innermost scopes symbol k.tags)
    where
      by : (o : Option Declared) → All IsGood (after_tag_reference n (tag_declared n symbol (first_scope file scopes)) o k).names
      by None = h
      by (Some d) = h
  tagged file n symbol scopes tag.Uses k h = by (innermost scopes symbol k.tags)
    where
      by : (o : Option Declared) → All IsGood (after_tag_use n o k).names
      by None = h
      by (Some d) = h

  labelled : (n : ℕ) (first : Option ℕ) (k : Known) → All IsGood k.names → All IsGood (after_label n first k).names
  labelled n first k h = by (is_first n first)
    where
      by : (b : Bool) → All IsGood (if b then k else with_fault (fault.Redeclared n) k).names
      by true = h
      by false = h

  gone : (n : ℕ) (first : Option ℕ) (k : Known) → All IsGood k.names → All IsGood (after_goto n first k).names
  gone n None k h = h
  gone n (Some first) k h = h

  names_more : (k : Known) (d : Declared) → All IsGood k.names → (names_type d ≡ true → P d.node) → All IsGood (k.names ++ d ∷ [])
  unfolding IsGood
  names_more k d h own = All-push IsGood k.names d h own

  good_after : (file : ℕ) (labels : ℕ → ℕ → Option ℕ) (n : ℕ) (scopes : List ℕ) (body : ℕ) (m : Mention) (k : Known) → Fits m → All IsGood k.names → All IsGood (after file labels n scopes body m k).names
  unfolding Fits
  good_after file labels n scopes body mention.Nothing k fits h = h
  good_after file labels n scopes body (mention.Use symbol exempt) k fits h = used n exempt (innermost scopes symbol k.names) k h
  good_after file labels n scopes body (mention.Tag symbol how) k fits h = tagged file n symbol scopes how k h
  good_after file labels n scopes body (mention.Label symbol) k fits h = labelled n (labels body symbol) k h
  good_after file labels n scopes body (mention.Goto symbol) k fits h = gone n (labels body symbol) k h
  good_after file labels n scopes body (mention.Declares name symbol l derivation type_name) k fits h =
      names_more k (declared_by file name symbol l derivation type_name (first_scope file scopes) k) h
      (λ e. fits (typedef_word l (first_scope file scopes == file) (is_function k.functions derivation type_name) e))

  AllFit : List Happening → Type 0
  AllFit [] = ⊤
  AllFit (h ∷ hs) = Fits h.mention × AllFit hs

  known_good : (file : ℕ) (labels : ℕ → ℕ → Option ℕ) (n : ℕ) (k : Known) (hs : List Happening) → AllFit hs → All IsGood k.names → All IsGood (known file labels n k hs).names
  unfolding AllFit
  known_good file labels n k [] fit h = h
  known_good file labels n k (e ∷ hs) fit h = known_good file labels (n + 1) (after file labels n e.scopes e.body e.mention k) hs fit.1 (good_after file labels n e.scopes e.body e.mention k fit.0 h)

  good_named : (ds : List Declared) (leaf : ℕ) (y : Declared) → All IsGood ds → find (λ (d : Declared). d.node == leaf) ds ≡ Some y → names_type y ≡ true → P leaf
  unfolding IsGood
  good_named ds leaf y h e typed =
      let is : IsGood y × ((y.node == leaf) ≡ true) = subst (λ (o : Option Declared). IfSome o (λ z. IsGood z × ((z.node == leaf) ≡ true))) e (find_is IsGood (λ (d : Declared). d.node == leaf) ds h) in
      subst P (eqb-true y.node leaf is.1) (is.0 typed)

-- names in declarators
module _ (tokens : List Token) (nodes : List Node) where
  one_declares : (p : ℕ) → (p == p_declarator || p == p_either) ≡ true → contains declarators p ≡ true
  one_declares p h = by (either (p == p_declarator) (p == p_either) h)
    where
      by : ((p == p_declarator) ≡ true) ⊎ ((p == p_either) ≡ true) → contains declarators p ≡ true
      by (inl e) = subst (λ (x : ℕ). contains declarators x ≡ true) (sym (eqb-true p p_declarator e)) refl
      by (inr e) = subst (λ (x : ℕ). contains declarators x ≡ true) (sym (eqb-true p p_either e)) refl

  own_name : (n : ℕ) → IsDeclarator tokens nodes n → IfSome (name_of tokens nodes n) (IsNamedPart tokens nodes)
  unfolding name_of
  own_name n is = by (find (λ child. syntax.is_name tokens nodes child) (syntax.children_at nodes n)) (found (λ child. syntax.is_name tokens nodes child) (syntax.children_at nodes n))
    where
      by : (o : Option ℕ) → IfSome o (λ y. (contains (syntax.children_at nodes n) y ≡ true) × (syntax.is_name tokens nodes y ≡ true)) → IfSome o (IsNamedPart tokens nodes)
      by None h = tt
      by (Some y) h = (n, is, h.0, h.1)

  inner_declares : (n : ℕ) → IfSome (inner_of nodes n) (IsDeclarator tokens nodes)
  unfolding inner_of
  inner_declares n = by (find (λ child. is_inner nodes n child) (syntax.children_at nodes n)) (found (λ child. is_inner nodes n child) (syntax.children_at nodes n))
    where
      by : (o : Option ℕ) → IfSome o (λ y. (contains (syntax.children_at nodes n) y ≡ true) × (is_inner nodes n y ≡ true)) → IfSome o (IsDeclarator tokens nodes)
      by None h = tt
      by (Some y) h = one_declares (syntax.production_at nodes y) (left (syntax.is_of nodes p_declarator y || syntax.is_of nodes p_either y) (nat_lt y n) h.1)

  level_within : (deeper : ℕ → Declarator) (n : ℕ) (o : Option ℕ) → IsDeclarator tokens nodes n → IfSome o (IsDeclarator tokens nodes) → ((inner : ℕ) → IsDeclarator tokens nodes inner → IfSome (deeper inner).name (IsNamedPart tokens nodes)) → IfSome (level tokens nodes deeper n o).name (IsNamedPart tokens nodes)
  level_within deeper n None is inside h = own_name n is
  level_within deeper n (Some inner) is inside h = h inner inside

  name_within : (levels n : ℕ) → IsDeclarator tokens nodes n → IfSome (within tokens nodes levels n).name (IsNamedPart tokens nodes)
  name_within zero n is = tt
  name_within (suc levels) n is = level_within (within tokens nodes levels) n (inner_of nodes n) is (inner_declares n) (λ inner inside. name_within levels inner inside)

  name_in : (n : ℕ) → IsDeclarator tokens nodes n → IfSome (declarator tokens nodes n).name (IsNamedPart tokens nodes)
  unfolding declarator
  name_in n is = name_within (suc n) n is

-- what nodes mention
module _ (text : List ℕ) (tokens : List Token) (nodes : List Node) (symbol : ℕ → ℕ) where
  abbrev Fit : Mention → Type 0
  Fit = Fits (IsNamedPart tokens nodes)

  used_fits : (name : List ℕ) (at : ℕ) (in_body : Bool) → Fit (name_used name at in_body)
  unfolding Fits name_used
  used_fits name at in_body = by (is_type_word name || is_list_word name)
    where
      by : (b : Bool) → Fit (if b then mention.Nothing else mention.Use at (is_exempt name in_body))
      by true = tt
      by false = tt

  label_fits : (first : Option ℕ) (n at : ℕ) → Fit (label_used first n at)
  unfolding Fits
  label_fits None n at = tt
  label_fits (Some first) n at = by (first == n)
    where
      by : (b : Bool) → Fit (if b then mention.Label at else mention.Goto at)
      by true = tt
      by false = tt

  leaf_fits : (name : List ℕ) (at n : ℕ) (in_body : Bool) (r : Role) → Fit (leaf_mention name at n in_body r)
  unfolding Fits
  leaf_fits name at n in_body role.Name = used_fits name at in_body
  leaf_fits name at n in_body role.Alone = used_fits name at in_body
  leaf_fits name at n in_body (role.Tag how) = tt
  leaf_fits name at n in_body (role.Statement first selects) = label_fits first n at
  leaf_fits name at n in_body role.Elsewhere = tt
  leaf_fits name at n in_body (role.Declaration specifiers) = tt
  leaf_fits name at n in_body role.Parameter = tt

  declared_fits : (name at : ℕ) (d : Derivation) (r : Role) → IsNamedPart tokens nodes name → Fit (name_declared name at d r)
  unfolding Fits
  declared_fits name at d role.Name h = tt
  declared_fits name at d role.Alone h = tt
  declared_fits name at d (role.Tag how) h = tt
  declared_fits name at d (role.Statement first selects) h = tt
  declared_fits name at d role.Elsewhere h = tt
  declared_fits name at d (role.Declaration specifiers) h = λ e. h
  declared_fits name at d role.Parameter h = λ e. h

  declarator_fits : (d : Declarator) (r : Role) → IfSome d.name (IsNamedPart tokens nodes) → Fit (declarator_mention symbol nodes d r)
  unfolding declarator_mention Fits
  declarator_fits d r h = by d.name h
    where
      by : (o : Option ℕ) → IfSome o (IsNamedPart tokens nodes) → Fit (at_leaf symbol nodes d.derivation r o)
      by None h = tt
      by (Some name) h = declared_fits name (symbol (syntax.token_at nodes name)) d.derivation r h

  -- an enumerator is no typedef name
  enumerator_fits : (n : ℕ) → Fit (enumerator_mention symbol nodes n)
  unfolding enumerator_mention Fits
  enumerator_fits n = by (syntax.first_child nodes n)
    where
      by : (o : Option ℕ) → Fit (enumerator_leaf symbol nodes o)
      by None = tt
      by (Some name) = λ e. cc

  end_fits : (n : ℕ) (r : Role) → Fit (end_mention tokens symbol nodes n r)
  unfolding end_mention Fits
  end_fits n r = by (syntax.production_at nodes n == p_enumerator) (syntax.production_at nodes n == p_declarator || syntax.production_at nodes n == p_either) refl
    where
      by : (a b : Bool) → (syntax.production_at nodes n == p_declarator || syntax.production_at nodes n == p_either) ≡ b → Fit (if a then enumerator_mention symbol nodes n else if b then declarator_mention symbol nodes (declarator tokens nodes n) r else mention.Nothing)
      by true b e = enumerator_fits n
      by false true e = declarator_fits (declarator tokens nodes n) r (name_in tokens nodes n (one_declares tokens nodes (syntax.production_at nodes n) e))
      by false false e = tt

  mention_fits : (n : ℕ) (in_body : Bool) (r : Role) → Fit (mention_at text tokens symbol nodes n in_body r)
  unfolding mention_at
  mention_fits n in_body r = by (syntax.is_name tokens nodes n)
    where
      by : (b : Bool) → Fit (if b then leaf_mention (name_at text tokens (syntax.token_at nodes n)) (symbol (syntax.token_at nodes n)) n in_body r else end_mention tokens symbol nodes n r)
      by true = leaf_fits (name_at text tokens (syntax.token_at nodes n)) (symbol (syntax.token_at nodes n)) n in_body r
      by false = end_fits n r

module _ (text : List ℕ) (tokens : List Token) (nodes : List Node) where
  happenings_fit : (n : ℕ) (ss : List Standing) → AllFit (IsNamedPart tokens nodes) (happenings_from text tokens nodes n ss)
  unfolding AllFit
  happenings_fit n [] = tt
  happenings_fit n (s ∷ ss) = (mention_fits text tokens nodes (symbol_of text tokens) n (nat_lt s.body (length nodes)) s.role, happenings_fit (n + 1) ss)

  -- a leaf whose declaration declares a typedef name is a name in a declarator
  pub typedef_named : (leaf : ℕ) (y : Declared) → find (λ (d : Declared). d.node == leaf) (bindings text tokens nodes).names ≡ Some y → names_type y ≡ true → IsNamedPart tokens nodes leaf
  unfolding bindings happenings
  typedef_named leaf y e typed =
      let all : List Happening = happenings_from text tokens nodes 0 (standings tokens nodes 0 nodes) in
      let good = known_good (IsNamedPart tokens nodes) (length nodes) (first_label 0 all) 0 nothing_known all (happenings_fit 0 (standings tokens nodes 0 nodes)) (All-nil (IsGood (IsNamedPart tokens nodes))) in
      good_named (IsNamedPart tokens nodes) (known (length nodes) (first_label 0 all) 0 nothing_known all).names leaf y good e typed
