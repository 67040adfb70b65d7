-- Leaves by their places.
use Rattle.std.proofs.Common.{arith, ◌≡◌, ◌≤◌, ℕ, ◌&&◌, ◌==◌, true, false, Option, Some, None, length, slice_get, refl, sym, ap, ◌∙◌}
use Rattle.std.specs.Prelude.{◌^◌}
use Rattle.std.proofs.lemmas.Bool.{eqb-true, and_parts}
use Rattle.pta_base.specs.declared.place.Place.{Place}
use Rattle.c_lexer.specs.declared.Token.{Token}
use Rattle.c_lexer.specs.declared.TokenKind.{TokenKind}
use Rattle.c_lexer.specs.declared.TokenKind.TheVariants.{Identifier, Keyword, Punctuator, Integer, Floating, Character, Text, End}
use Rattle.c_grammar.specs.declared.trees.SyntaxNode.{SyntaxNode}
use Rattle.c_grammar.specs.Reads.{leaf}
use Rattle.c_senses.specs.Tree.{Source, production_of, token_of, place_of_token, place_at, spelling_at, kind_of_token, is_identifier, is_name}
use Rattle.c_senses.specs.Names.{ordinary_at}
use Rattle.c_scope.specs.declared.kinds.Declared.{Declared}
use Rattle.core_node_laws.specs.count_laws.named_units.Named.{IsNarrow, SamePlace}
use Rattle.core_node_laws.proofs.count_laws.named_units.Standing.{IsOpening}
use Rattle.core_node_laws.proofs.count_laws.named_units.Tokens.{Located, one_located, one_start, one_byte, few_lines, few_columns}

-- a leaf that has its token
pub record HasToken (s : Source) (i : ℕ) : Type 0 where
  pub node : SyntaxNode
  pub there : slice_get s.nodes i ≡ Some node
  pub leafy : node.production ≡ leaf
  pub token : Token
  pub taken : slice_get s.tokens node.token ≡ Some token

-- a source whose tokens stand in its text, whose leaves have their own tokens, and whose names have one symbol where they are spelled alike
pub record IsCut (s : Source) : Type 0 where
  pub few : length s.text ≤ 2 ^ 24
  pub located : Located s.text 0 s.tokens
  pub symbols : (i j : ℕ) (d e : Declared) → is_name s i ≡ true → is_name s j ≡ true → spelling_at s i ≡ spelling_at s j → ordinary_at s i ≡ Some d → ordinary_at s j ≡ Some e → d.symbol ≡ e.symbol
  pub openings : (d : ℕ) → IsOpening s d → HasToken s d
  pub leaves : (i j : ℕ) (n m : SyntaxNode) → slice_get s.nodes i ≡ Some n → slice_get s.nodes j ≡ Some m → n.production ≡ leaf → m.production ≡ leaf → n.token ≡ m.token → i ≡ j

module _ (s : Source) (cut : IsCut s) where
  no_token_narrow : IsNarrow (place_of_token s.unit None)
  no_token_narrow = record { line = omega arith; column = omega arith }

  token_narrow : (k : ℕ) (o : Option Token) → slice_get s.tokens k ≡ o → IsNarrow (place_of_token s.unit o)
  token_narrow k None e = no_token_narrow
  token_narrow k (Some t) e =
      let at = one_located s.text 0 s.tokens k t cut.located e in
      let few = cut.few in
      let within = at.within in
      let line = at.line in
      let column = at.column in
      let lines = few_lines s.text t.start in
      let columns = few_columns s.text t.start in
      record { line = omega (arith, few, within, line, lines); column = omega (arith, few, within, column, columns) }

  node_narrow : (o : Option SyntaxNode) → IsNarrow (place_of_token s.unit (token_of s o))
  node_narrow None = no_token_narrow
  node_narrow (Some n) = token_narrow n.token (slice_get s.tokens n.token) refl

  pub narrow : (i : ℕ) → IsNarrow (place_at s i)
  narrow i = node_narrow (slice_get s.nodes i)

  at_token : (i : ℕ) (h : HasToken s i) → place_at s i ≡ place_of_token s.unit (Some h.token)
  at_token i h = ap (λ (o : Option SyntaxNode). place_of_token s.unit (token_of s o)) h.there ∙ ap (place_of_token s.unit) h.taken

  -- leaves at one place are one
  pub one_place : (i j : ℕ) → HasToken s i → HasToken s j → SamePlace (place_at s i) (place_at s j) → i ≡ j
  one_place i j h g same =
      let a = one_located s.text 0 s.tokens h.node.token h.token cut.located h.taken in
      let b = one_located s.text 0 s.tokens g.node.token g.token cut.located g.taken in
      let lines : h.token.line ≡ g.token.line = sym (ap (λ (p : Place). p.line) (at_token i h)) ∙ (same.line ∙ ap (λ (p : Place). p.line) (at_token j g)) in
      let columns : h.token.column ≡ g.token.column = sym (ap (λ (p : Place). p.column) (at_token i h)) ∙ (same.column ∙ ap (λ (p : Place). p.column) (at_token j g)) in
      let start : h.token.start ≡ g.token.start = one_byte s.text h.token.start g.token.start (sym a.line ∙ (lines ∙ b.line)) (sym a.column ∙ (columns ∙ b.column)) in
      cut.leaves i j h.node g.node h.there g.there h.leafy g.leafy (one_start s.text 0 s.tokens h.node.token g.node.token h.token g.token cut.located h.taken g.taken start)

identifier_is : (k : TokenKind) → is_identifier k ≡ true → k ≡ Identifier
identifier_is Identifier e = refl
identifier_is (Keyword k) e = cc
identifier_is (Punctuator k) e = cc
identifier_is Integer e = cc
identifier_is Floating e = cc
identifier_is Character e = cc
identifier_is Text e = cc
identifier_is End e = cc

-- a name has its token
module _ (s : Source) where
  abbrev pub IsNameToken : ℕ → Type 0
  IsNameToken i = (h : HasToken s i) × (h.token.kind ≡ Identifier)

  named_token : (i : ℕ) (o : Option SyntaxNode) → slice_get s.nodes i ≡ o → ((production_of o == leaf) && is_identifier (kind_of_token (token_of s o))) ≡ true → IsNameToken i
  named_token i None e h = absurd (let never : is_identifier (kind_of_token (token_of s None)) ≡ true = (and_parts (production_of None == leaf) (is_identifier (kind_of_token (token_of s None))) h).1 in cc)
  named_token i (Some n) e h =
      let parts = and_parts (n.production == leaf) (is_identifier (kind_of_token (slice_get s.tokens n.token))) h in
      by (slice_get s.tokens n.token) refl parts.1 (eqb-true n.production leaf parts.0)
    where
      by : (o : Option Token) → slice_get s.tokens n.token ≡ o → is_identifier (kind_of_token o) ≡ true → n.production ≡ leaf → IsNameToken i
      by None at is p = absurd (let never : false ≡ true = is in cc)
      by (Some t) at is p = (record { node = n; there = e; leafy = p; token = t; taken = at }, identifier_is t.kind is)

  pub name_token : (i : ℕ) → is_name s i ≡ true → IsNameToken i
  name_token i h = named_token i (slice_get s.nodes i) refl h
