-- Names of one symbol are spelled alike.
use Rattle.std.proofs.Common.{arith, ◌≡◌, ◌==◌, ◌&&◌, ◌+◌, ℕ, zero, suc, Bool, true, false, cond, List, [], ◌∷◌, Option, Some, None, slice_get, refl, sym, ap, ◌∙◌, subst}
use Rattle.std.specs.Prelude.{unwrap_or, option_map, if◌then◌else◌}
use Rattle.std.specs.List.{position_from}
use Rattle.std.specs.Str.{bytes_eq}
use Rattle.std.specs.Cmp.Lexicographic.{bytes_decides}
use Rattle.std.proofs.lemmas.Option.{slice_get-map}
use Rattle.c_lexer.specs.declared.Token.{Token}
use Rattle.c_lexer.specs.declared.TokenKind.{TokenKind}
use Rattle.c_lexer.specs.declared.TokenKind.TheVariants.{Identifier, Keyword, Punctuator, Integer, Floating, Character, Text, End}
use Rattle.c_grammar.specs.declared.trees.SyntaxNode.{SyntaxNode}
use Rattle.c_grammar.specs.Reads.{node_of, name_at, leaf}
use Rattle.c_grammar.specs.Terminals.{spelled}
use Rattle.c_mentions.specs.Syntax as syntax
use Rattle.c_mentions.specs.Symbols.{spells, first_token, symbol_of}
use Rattle.c_senses.specs.Tree.{Source, production_of, token_of, spelling_of, spelling_at, is_name, is_identifier, kind_of_token}
use Rattle.declaration_laws.proofs.declared_type_laws.owner_laws.passed.definition_laws.linkage_laws.Seen.{nodes}

both : (a b : Bool) → (a && b) ≡ true → (a ≡ true) × (b ≡ true)
both true true e = (refl, refl)
both true false e = cc
both false b e = cc

some_same : {A : Type 0} → {x y : A} → ◌≡◌ {A = Option A} (Some x) (Some y) → x ≡ y
some_same e = cc

-- ---- the first token that spells a name

at_position : (test : Token → Bool) (i : ℕ) (ts : List Token) (j : ℕ) → position_from test i ts ≡ Some j → (k : ℕ) × (j ≡ i + k) × ((t : Token) × (slice_get ts k ≡ Some t) × (test t ≡ true))
at_position test i [] j e = cc
at_position test i (x ∷ ts) j e = by (test x) refl e (λ f. at_position test (i + 1) ts j f)
  where
    by : (b : Bool) → test x ≡ b → cond b (Some i) (position_from test (i + 1) ts) ≡ Some j → (position_from test (i + 1) ts ≡ Some j → (k : ℕ) × (j ≡ (i + 1) + k) × ((t : Token) × (slice_get ts k ≡ Some t) × (test t ≡ true)))
        → (k : ℕ) × (j ≡ i + k) × ((t : Token) × (slice_get (x ∷ ts) k ≡ Some t) × (test t ≡ true))
    by true is f later = let same : i ≡ j = some_same f in (0, (let plain : j ≡ i + 0 = omega (arith, same) in plain), (x, refl, is))
    by false is f later = let h = later f in let at = h.1 in (suc h.0, (let plain : j ≡ i + suc h.0 = omega (arith, at) in plain), h.2)

has_position : (test : Token → Bool) (i : ℕ) (ts : List Token) (k : ℕ) (t : Token) → slice_get ts k ≡ Some t → test t ≡ true → (j : ℕ) × (position_from test i ts ≡ Some j)
has_position test i [] k t e is = cc
has_position test i (x ∷ ts) k t e is = by (test x) refl k e (λ n f. has_position test (i + 1) ts n t f is)
  where
    no_both : (b : Bool) → b ≡ true → b ≡ false → ⊥
    no_both b f g = let never : true ≡ false = sym f ∙ g in cc

    by : (b : Bool) → test x ≡ b → (n : ℕ) → slice_get (x ∷ ts) n ≡ Some t → ((m : ℕ) → slice_get ts m ≡ Some t → (j : ℕ) × (position_from test (i + 1) ts ≡ Some j)) → (j : ℕ) × (cond b (Some i) (position_from test (i + 1) ts) ≡ Some j)
    by true h n f later = (i, refl)
    by false h zero f later = absurd (no_both (test t) is (subst (λ (y : Token). test y ≡ false) (some_same f) h))
    by false h (suc n) f later = later n f

-- the token of an identifier's symbol spells it
spells_it : (text : List ℕ) (tokens : List Token) (token : ℕ) → syntax.is_identifier (syntax.token_kind tokens token) ≡ true
    → (t : Token) × (slice_get tokens (symbol_of text tokens token) ≡ Some t) × (name_at text (slice_get tokens token) ≡ spelled text t)
unfolding symbol_of
spells_it text tokens token h = by (slice_get tokens token) refl h
  where
    and_true : (a b : Bool) → a ≡ true → b ≡ true → (a && b) ≡ true
    and_true true true e f = refl
    and_true true false e f = cc
    and_true false b e f = cc

    by : (o : Option Token) → slice_get tokens token ≡ o → syntax.is_identifier (syntax.kind_of o) ≡ true
        → (t : Token) × (slice_get tokens (if syntax.is_identifier (syntax.kind_of o) then unwrap_or (first_token text tokens (name_at text o)) token else token) ≡ Some t) × (name_at text o ≡ spelled text t)
    by None at is = cc
    by (Some t) at is =
        let own : spells text (spelled text t) t ≡ true = and_true (syntax.is_identifier t.kind) (bytes_eq (spelled text t) (spelled text t)) is ((bytes_decides (spelled text t) (spelled text t)).1 refl) in
        let j = has_position (spells text (spelled text t)) 0 tokens token t at own in
        let p = at_position (spells text (spelled text t)) 0 tokens j.0 j.1 in
        let first : first_token text tokens (spelled text t) ≡ Some j.0 = j.1 in
        let place : j.0 ≡ p.0 = (let e = p.1 in omega (arith, e)) in
        let there : slice_get tokens j.0 ≡ Some p.2.0 = ap (slice_get tokens) place ∙ p.2.1 in
        let number : (if syntax.is_identifier t.kind then unwrap_or (first_token text tokens (spelled text t)) token else token) ≡ j.0
        = ap (λ (b : Bool). if b then unwrap_or (first_token text tokens (spelled text t)) token else token) is ∙ ap (λ (o : Option ℕ). unwrap_or o token) first in
        (p.2.0, ap (slice_get tokens) number ∙ there, (bytes_decides (spelled text t) (spelled text p.2.0)).0 (both (syntax.is_identifier p.2.0.kind) (bytes_eq (spelled text t) (spelled text p.2.0)) p.2.2).1)

one_name : (text : List ℕ) (tokens : List Token) (a b : ℕ) → syntax.is_identifier (syntax.token_kind tokens a) ≡ true → syntax.is_identifier (syntax.token_kind tokens b) ≡ true → symbol_of text tokens a ≡ symbol_of text tokens b
    → name_at text (slice_get tokens a) ≡ name_at text (slice_get tokens b)
one_name text tokens a b h k same =
    let x = spells_it text tokens a h in
    let y = spells_it text tokens b k in
    let one : x.0 ≡ y.0 = some_same (sym x.1 ∙ (ap (slice_get tokens) same ∙ y.1)) in
    x.2 ∙ (ap (spelled text) one ∙ sym y.2)

-- ---- leaves

identifier_same : (k : TokenKind) → is_identifier k ≡ syntax.is_identifier k
identifier_same Identifier = refl
identifier_same (Keyword k) = refl
identifier_same (Punctuator p) = refl
identifier_same Integer = refl
identifier_same Floating = refl
identifier_same Character = refl
identifier_same Text = refl
identifier_same End = refl

module _ (s : Source) where
  record OfToken (i : ℕ) : Type 0 where
    identifier : syntax.is_identifier (syntax.token_kind s.tokens (syntax.token_at (nodes s) i)) ≡ true
    spelling : spelling_at s i ≡ name_at s.text (slice_get s.tokens (syntax.token_at (nodes s) i))

  of_token : (i : ℕ) → is_name s i ≡ true → OfToken i
  of_token i h = by (slice_get s.nodes i) refl h
    where
      kind_same : (o : Option Token) → kind_of_token o ≡ syntax.kind_of o
      kind_same None = refl
      kind_same (Some t) = refl

      spelling_same : (o : Option Token) → spelling_of s o ≡ name_at s.text o
      spelling_same None = refl
      spelling_same (Some t) = refl

      by : (o : Option SyntaxNode) → slice_get s.nodes i ≡ o → ((production_of o == leaf) && is_identifier (kind_of_token (token_of s o))) ≡ true → OfToken i
      by None at is = absurd (cc)
      by (Some n) at is =
          let token : syntax.token_at (nodes s) i ≡ n.token = ap syntax.token_of (slice_get-map node_of s.nodes i ∙ ap (option_map node_of) at) in
          let kind : is_identifier (kind_of_token (slice_get s.tokens n.token)) ≡ true = (both (n.production == leaf) (is_identifier (kind_of_token (slice_get s.tokens n.token))) is).1 in
          record {
            identifier =
                ap (λ (k : ℕ). syntax.is_identifier (syntax.token_kind s.tokens k)) token
                ∙ (sym (identifier_same (syntax.kind_of (slice_get s.tokens n.token))) ∙ (ap is_identifier (sym (kind_same (slice_get s.tokens n.token))) ∙ kind));
            spelling = ap (λ (o : Option SyntaxNode). spelling_of s (token_of s o)) at ∙ (spelling_same (slice_get s.tokens n.token) ∙ ap (λ (k : ℕ). name_at s.text (slice_get s.tokens k)) (sym token));
          }

  abbrev pub symbol_at : ℕ → ℕ
  symbol_at i = symbol_of s.text s.tokens (syntax.token_at (nodes s) i)

  -- names of one symbol
  pub one_spelling : (a b : ℕ) → is_name s a ≡ true → is_name s b ≡ true → symbol_at a ≡ symbol_at b → spelling_at s a ≡ spelling_at s b
  one_spelling a b h k same =
      let x = of_token a h in
      let y = of_token b k in
      x.spelling ∙ (one_name s.text s.tokens (syntax.token_at (nodes s) a) (syntax.token_at (nodes s) b) x.identifier y.identifier same ∙ sym y.spelling)
