-- The symbols of names that are declared: names that are spelled alike have one symbol.
use Rattle.std.proofs.Common.{◌≡◌, ◌+◌, ℕ, zero, suc, ◌||◌, ◌&&◌, ◌==◌, nat_eq, Bool, true, false, cond, List, [], ◌∷◌, ◌++◌, map, Option, Some, None, length, All, slice_get, refl, sym, ap, ◌∙◌, subst}
use Rattle.std.specs.Prelude.{⊤, IfSome, if◌then◌else◌, nat_lt}
use Rattle.std.specs.List.{find, position_from}
use Rattle.std.specs.Option.{unwrap_or}
use Rattle.std.specs.Cmp.Lexicographic.{pointwise}
use Rattle.std.proofs.lemmas.Bool.{eqb-true, eqb-false}
use Rattle.std.proofs.lemmas.List.Elements.{All-nil, All-head, All-tail, All-push}
use Rattle.c_lexer.specs.declared.Token.{Token}
use Rattle.c_lexer.specs.declared.TokenKind.TheVariants.{Identifier}
use Rattle.c_grammar.specs.declared.trees.SyntaxNode.{SyntaxNode}
use Rattle.c_grammar.specs.Productions.{p_declarator, p_either, p_enumerator}
use Rattle.c_grammar.specs.Reads.{Node, node_of}
use Rattle.c_grammar.specs.Reads as reads
use Rattle.c_grammar.specs.Terminals.{spelled}
use Rattle.c_mentions.specs.declared.declarators.Declarator.{Declarator}
use Rattle.c_mentions.specs.declared.declarators.Derivation.{Derivation}
use Rattle.c_mentions.specs.declared.mentions.Mention.{Mention}
use Rattle.c_mentions.specs.declared.mentions.Mention.TheVariants as mention
use Rattle.c_mentions.specs.declared.roles.Role.{Role}
use Rattle.c_mentions.specs.declared.roles.Role.TheVariants as role
use Rattle.c_mentions.specs.declared.roles.TagUse.{TagUse}
use Rattle.c_mentions.specs.declared.roles.TagUse.TheVariants as tag
use Rattle.c_mentions.specs.Syntax as syntax
use Rattle.c_mentions.specs.Declarators.{declarator}
use Rattle.c_mentions.specs.Mentions.{mention_at, leaf_mention, name_used, label_used, is_type_word, is_list_word, end_mention, declarator_mention, enumerator_mention, at_leaf, name_declared, enumerator_leaf, name_at, is_exempt}
use Rattle.c_mentions.specs.Settings.{Standing, standings}
use Rattle.c_mentions.specs.Symbols.{symbol_of, first_token, spells}
use Rattle.c_scope.specs.declared.kinds.Declared.{Declared}
use Rattle.c_scope.specs.declared.kinds.NameFault.TheVariants as fault
use Rattle.c_scope.specs.Known.{Happening, Known, known, nothing_known, after, after_use, after_tag, after_tag_use, after_tag_reference, after_label, after_goto, innermost, tag_declared, first_scope, declared_by, first_label, is_first, with_fault}
use Rattle.c_scope.specs.Resolves.{bindings, happenings, happenings_from}

-- the declaration that is found of a list
module _ (P : Declared → Type 0) where
  find_or : (test : Declared → Bool) (x : Declared) (b : Bool) (later : Option Declared) → test x ≡ b → P x → IfSome later (λ y. P y × (test y ≡ true)) → IfSome (cond b (Some x) later) (λ y. P y × (test y ≡ true))
  find_or test x true later e own h = (own, e)
  find_or test x false later e own h = h

  find_is : (test : Declared → Bool) (xs : List Declared) → All P xs → IfSome (find test xs) (λ y. P y × (test y ≡ true))
  find_is test [] h = tt
  find_is test (x ∷ xs) h = find_or test x (test x) (find test xs) refl (All-head P x xs h) (find_is test xs (All-tail P x xs h))

-- what is known declares each name with the symbol of its leaf
module _ (f : ℕ → ℕ) where
  IsGood : Declared → Type 0
  IsGood d = d.symbol ≡ f d.node

  Fits : Mention → Type 0
  Fits (mention.Declares name symbol linkage derivation type_name) = symbol ≡ f name
  Fits m = ⊤

  used : (n : ℕ) (exempt : Bool) (o : Option Declared) (k : Known) → All IsGood k.names → All IsGood (after_use n exempt o k).names
  used n true None k h = h
  used n false None k h = h
  used n exempt (Some d) k h = h

  tagged : (file n symbol : ℕ) (scopes : List ℕ) (how : TagUse) (k : Known) → All IsGood k.names → All IsGood (after_tag file n symbol scopes how k).names
  tagged file n symbol scopes tag.Declares k h = h
  tagged file n symbol scopes tag.Refers k h = by (innermost scopes symbol k.tags)
    where
      by : (o : Option Declared) → All IsGood (after_tag_reference n (tag_declared n symbol (first_scope file scopes)) o k).names
      by None = h
      by (Some d) = h
  tagged file n symbol scopes tag.Uses k h = by (innermost scopes symbol k.tags)
    where
      by : (o : Option Declared) → All IsGood (after_tag_use n o k).names
      by None = h
      by (Some d) = h

  labelled : (n : ℕ) (first : Option ℕ) (k : Known) → All IsGood k.names → All IsGood (after_label n first k).names
  labelled n first k h = by (is_first n first)
    where
      by : (b : Bool) → All IsGood (if b then k else with_fault (fault.Redeclared n) k).names
      by true = h
      by false = h

  gone : (n : ℕ) (first : Option ℕ) (k : Known) → All IsGood k.names → All IsGood (after_goto n first k).names
  gone n None k h = h
  gone n (Some first) k h = h

  names_more : (k : Known) (d : Declared) → All IsGood k.names → d.symbol ≡ f d.node → All IsGood (k.names ++ d ∷ [])
  unfolding IsGood
  names_more k d h own = All-push IsGood k.names d h own

  good_after : (file : ℕ) (labels : ℕ → ℕ → Option ℕ) (n : ℕ) (scopes : List ℕ) (body : ℕ) (m : Mention) (k : Known) → Fits m → All IsGood k.names → All IsGood (after file labels n scopes body m k).names
  unfolding Fits
  good_after file labels n scopes body mention.Nothing k fits h = h
  good_after file labels n scopes body (mention.Use symbol exempt) k fits h = used n exempt (innermost scopes symbol k.names) k h
  good_after file labels n scopes body (mention.Tag symbol how) k fits h = tagged file n symbol scopes how k h
  good_after file labels n scopes body (mention.Label symbol) k fits h = labelled n (labels body symbol) k h
  good_after file labels n scopes body (mention.Goto symbol) k fits h = gone n (labels body symbol) k h
  good_after file labels n scopes body (mention.Declares name symbol linkage derivation type_name) k fits h =
      names_more k (declared_by file name symbol linkage derivation type_name (first_scope file scopes) k) h fits

  AllFit : List Happening → Type 0
  AllFit [] = ⊤
  AllFit (h ∷ hs) = Fits h.mention × AllFit hs

  known_good : (file : ℕ) (labels : ℕ → ℕ → Option ℕ) (n : ℕ) (k : Known) (hs : List Happening) → AllFit hs → All IsGood k.names → All IsGood (known file labels n k hs).names
  unfolding AllFit
  known_good file labels n k [] fit h = h
  known_good file labels n k (e ∷ hs) fit h = known_good file labels (n + 1) (after file labels n e.scopes e.body e.mention k) hs fit.1 (good_after file labels n e.scopes e.body e.mention k fit.0 h)

  good_named : (ds : List Declared) (leaf : ℕ) (y : Declared) → All IsGood ds → find (λ (d : Declared). d.node == leaf) ds ≡ Some y → y.symbol ≡ f leaf
  unfolding IsGood
  good_named ds leaf y h e =
      let is : IsGood y × ((y.node == leaf) ≡ true) = subst (λ (o : Option Declared). IfSome o (λ z. IsGood z × ((z.node == leaf) ≡ true))) e (find_is IsGood (λ (d : Declared). d.node == leaf) ds h) in
      is.0 ∙ ap f (eqb-true y.node leaf is.1)

-- what nodes mention
module _ (text : List ℕ) (tokens : List Token) (nodes : List Node) (symbol : ℕ → ℕ) where
  abbrev at : ℕ → ℕ
  at leaf = symbol (syntax.token_at nodes leaf)

  abbrev Fit : Mention → Type 0
  Fit = Fits at

  used_fits : (name : List ℕ) (symbol : ℕ) (in_body : Bool) → Fit (name_used name symbol in_body)
  unfolding Fits name_used
  used_fits name symbol in_body = by (is_type_word name || is_list_word name)
    where
      by : (b : Bool) → Fit (if b then mention.Nothing else mention.Use symbol (is_exempt name in_body))
      by true = tt
      by false = tt

  label_fits : (first : Option ℕ) (n symbol : ℕ) → Fit (label_used first n symbol)
  unfolding Fits
  label_fits None n symbol = tt
  label_fits (Some first) n symbol = by (first == n)
    where
      by : (b : Bool) → Fit (if b then mention.Label symbol else mention.Goto symbol)
      by true = tt
      by false = tt

  leaf_fits : (name : List ℕ) (symbol n : ℕ) (in_body : Bool) (r : Role) → Fit (leaf_mention name symbol n in_body r)
  unfolding Fits
  leaf_fits name symbol n in_body role.Name = used_fits name symbol in_body
  leaf_fits name symbol n in_body role.Alone = used_fits name symbol in_body
  leaf_fits name symbol n in_body (role.Tag how) = tt
  leaf_fits name symbol n in_body (role.Statement first selects) = label_fits first n symbol
  leaf_fits name symbol n in_body role.Elsewhere = tt
  leaf_fits name symbol n in_body (role.Declaration specifiers) = tt
  leaf_fits name symbol n in_body role.Parameter = tt

  declared_fits : (name : ℕ) (d : Derivation) (r : Role) → Fit (name_declared name (at name) d r)
  unfolding Fits
  declared_fits name d role.Name = tt
  declared_fits name d role.Alone = tt
  declared_fits name d (role.Tag how) = tt
  declared_fits name d (role.Statement first selects) = tt
  declared_fits name d role.Elsewhere = tt
  declared_fits name d (role.Declaration specifiers) = refl
  declared_fits name d role.Parameter = refl

  declarator_fits : (d : Declarator) (r : Role) → Fit (declarator_mention symbol nodes d r)
  unfolding declarator_mention Fits
  declarator_fits d r = by d.name
    where
      by : (o : Option ℕ) → Fit (at_leaf symbol nodes d.derivation r o)
      by None = tt
      by (Some name) = declared_fits name d.derivation r

  enumerator_fits : (n : ℕ) → Fit (enumerator_mention symbol nodes n)
  unfolding enumerator_mention Fits
  enumerator_fits n = by (syntax.first_child nodes n)
    where
      by : (o : Option ℕ) → Fit (enumerator_leaf symbol nodes o)
      by None = tt
      by (Some name) = refl

  end_fits : (n : ℕ) (r : Role) → Fit (end_mention tokens symbol nodes n r)
  unfolding end_mention Fits
  end_fits n r = by (syntax.production_at nodes n == p_enumerator) (syntax.production_at nodes n == p_declarator || syntax.production_at nodes n == p_either)
    where
      by : (a b : Bool) → Fit (if a then enumerator_mention symbol nodes n else if b then declarator_mention symbol nodes (declarator tokens nodes n) r else mention.Nothing)
      by true b = enumerator_fits n
      by false true = declarator_fits (declarator tokens nodes n) r
      by false false = tt

  mention_fits : (n : ℕ) (in_body : Bool) (r : Role) → Fit (mention_at text tokens symbol nodes n in_body r)
  unfolding mention_at
  mention_fits n in_body r = by (syntax.is_name tokens nodes n)
    where
      by : (b : Bool) → Fit (if b then leaf_mention (name_at text tokens (syntax.token_at nodes n)) (symbol (syntax.token_at nodes n)) n in_body r else end_mention tokens symbol nodes n r)
      by true = leaf_fits (name_at text tokens (syntax.token_at nodes n)) (symbol (syntax.token_at nodes n)) n in_body r
      by false = end_fits n r

module _ (text : List ℕ) (tokens : List Token) (nodes : List Node) where
  abbrev own : ℕ → ℕ
  own leaf = symbol_of text tokens (syntax.token_at nodes leaf)

  happenings_fit : (n : ℕ) (ss : List Standing) → AllFit own (happenings_from text tokens nodes n ss)
  unfolding AllFit
  happenings_fit n [] = tt
  happenings_fit n (s ∷ ss) = (mention_fits text tokens nodes (symbol_of text tokens) n (nat_lt s.body (length nodes)) s.role, happenings_fit (n + 1) ss)

  -- a leaf's declaration has the symbol of its token
  pub symbol_named : (leaf : ℕ) (y : Declared) → find (λ (d : Declared). d.node == leaf) (bindings text tokens nodes).names ≡ Some y → y.symbol ≡ symbol_of text tokens (syntax.token_at nodes leaf)
  unfolding bindings happenings
  symbol_named leaf y e =
      let all : List Happening = happenings_from text tokens nodes 0 (standings tokens nodes 0 nodes) in
      let good = known_good own (length nodes) (first_label 0 all) 0 nothing_known all (happenings_fit 0 (standings tokens nodes 0 nodes)) (All-nil (IsGood own)) in
      good_named own (known (length nodes) (first_label 0 all) 0 nothing_known all).names leaf y good e

-- ---- symbols of tokens

bytes_same : (xs : List ℕ) → pointwise nat_eq xs xs ≡ true
bytes_same [] = refl
bytes_same (x ∷ xs) = both (nat_eq x x) (pointwise nat_eq xs xs) (same x) (bytes_same xs)
  where
    both : (a b : Bool) → a ≡ true → b ≡ true → (a && b) ≡ true
    both a b p q = rw (p, q) refl

    same : (n : ℕ) → nat_eq n n ≡ true
    same n = by (nat_eq n n) refl
      where
        by : (b : Bool) → nat_eq n n ≡ b → b ≡ true
        by true e = refl
        by false e = absurd (eqb-false n n e refl)

-- a token that passes is found
found_from : (test : Token → Bool) (ts : List Token) (from k : ℕ) (t : Token) → slice_get ts k ≡ Some t → test t ≡ true → (x : ℕ) × (position_from test from ts ≡ Some x)
found_from test [] from k t e h = cc
found_from test (x ∷ ts) from zero t e h = by (test x) (let same : x ≡ t = cc in ap test same ∙ h)
  where
    by : (b : Bool) → b ≡ true → (y : ℕ) × (cond b (Some from) (position_from test (from + 1) ts) ≡ Some y)
    by true is = (from, refl)
    by false is = cc
found_from test (x ∷ ts) from (suc k) t e h = by (test x) (found_from test ts (from + 1) k t e h)
  where
    by : (b : Bool) → (y : ℕ) × (position_from test (from + 1) ts ≡ Some y) → (y : ℕ) × (cond b (Some from) (position_from test (from + 1) ts) ≡ Some y)
    by true rest = (from, refl)
    by false rest = rest

-- a name's symbol is the first token that spells it
name_symbol : (text : List ℕ) (tokens : List Token) (k : ℕ) (t : Token) → slice_get tokens k ≡ Some t → t.kind ≡ Identifier → (x : ℕ) × (first_token text tokens (spelled text t) ≡ Some x) × (symbol_of text tokens k ≡ x)
unfolding symbol_of
name_symbol text tokens k t e is =
    let passes : spells text (spelled text t) t ≡ true = rw (is) (bytes_same (spelled text t)) in
    let found = found_from (spells text (spelled text t)) tokens 0 k t e passes in
    let kind : syntax.is_identifier (syntax.token_kind tokens k) ≡ true = ap (λ (o : Option Token). syntax.is_identifier (syntax.kind_of o)) e ∙ ap syntax.is_identifier is in
    let name : first_token text tokens (name_at text tokens k) ≡ Some found.0 = ap (λ (o : Option Token). first_token text tokens (reads.name_at text o)) e ∙ found.1 in
    (found.0, found.1, chosen (syntax.is_identifier (syntax.token_kind tokens k)) (first_token text tokens (name_at text tokens k)) found.0 kind name)
  where
    chosen : (b : Bool) (o : Option ℕ) (x : ℕ) → b ≡ true → o ≡ Some x → (if b then unwrap_or o k else k) ≡ x
    chosen b o x p q = rw (p, q) refl

pub one_symbol : (text : List ℕ) (tokens : List Token) (j k : ℕ) (t u : Token) → slice_get tokens j ≡ Some t → slice_get tokens k ≡ Some u → t.kind ≡ Identifier → u.kind ≡ Identifier → spelled text t ≡ spelled text u → symbol_of text tokens j ≡ symbol_of text tokens k
one_symbol text tokens j k t u e f p q same =
    let a = name_symbol text tokens j t e p in
    let b = name_symbol text tokens k u f q in
    let one : ◌≡◌ {A = Option ℕ} (Some a.0) (Some b.0) = sym a.1 ∙ (ap (first_token text tokens) same ∙ b.1) in
    let number : a.0 ≡ b.0 = cc in
    a.2 ∙ (number ∙ sym b.2)

pub there_token : (items : List SyntaxNode) (i : ℕ) (n : SyntaxNode) → slice_get items i ≡ Some n → syntax.token_at (map node_of items) i ≡ n.token
there_token [] i n e = cc
there_token (m ∷ items) zero n e = let same : m ≡ n = cc in ap (λ (x : SyntaxNode). x.token) same
there_token (m ∷ items) (suc i) n e = there_token items i n e
