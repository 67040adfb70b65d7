-- The primaries of a parsed unit can be read.
use Rattle.std.proofs.Common.{arith, ◌≡◌, ℕ, zero, suc, List, [], ◌∷◌, map, Option, Some, None, All, slice_get, inl, inr, refl, sym, ap, ◌∙◌, subst}
use Rattle.std.proofs.lemmas.List.Elements.{All-cons}
use Rattle.std.proofs.lemmas.Option.{slice_get_within, get_or_from_slice_get}
use Rattle.c_lexer.specs.declared.Token.{Token}
use Rattle.c_lexer.specs.declared.Tokens.{Tokens}
use Rattle.c_lexer.specs.declared.TokenKind.TheVariants.{Text}
use Rattle.c_lexer.specs.Cut.{IsTokens}
use Rattle.c_lexer.specs.Laws.{Stands}
use Rattle.c_lexer.proofs.OneCut.{stand}
use Rattle.c_grammar.specs.declared.trees.SyntaxNode.{SyntaxNode}
use Rattle.c_grammar.specs.declared.trees.Tree.{Tree}
use Rattle.c_grammar.specs.Names.{no_names}
use Rattle.c_grammar.specs.Productions.{p_unit}
use Rattle.c_grammar.specs.Terminals.{spelled}
use Rattle.c_grammar.specs.Reads.{Node, node_of}
use Rattle.c_parser.specs.Parse.{begin}
use Rattle.c_parser.specs.c_units.Units.{IsUnit}
use Rattle.c_senses.specs.Names.{source_of, numbered}
use Rattle.c_senses.specs.Literals.{bytes_of_string}
use Rattle.c_senses.specs.Tree.{Source, production_of, children_of, kind_at, spelling_at, kind_of_token, token_of, spelling_of}
use Rattle.c_literals.specs.Laws.{AreBytes, LiteralFits}
use Rattle.c_literals.proofs.Literals.{fits}
use Rattle.parsed_tree_laws.proofs.sense_laws.parsed_laws.Constants.{constants_fit}
use Rattle.expression_rows.specs.Readable.{LiteralsFit}
use Rattle.limit_laws.specs.literal_laws.Units.{UnitsAreReadable}
use Rattle.limit_laws.proofs.literal_laws.Parts.{IsString, IsNone, Strings, Shape, Good, AllGood, opens_good}

token_has : (P : Token → Type 0) (list : List Token) (k : ℕ) (t : Token) → All P list → slice_get list k ≡ Some t → P t
token_has P list k t h e = subst P (get_or_from_slice_get list k t t e) (h k t (slice_get_within list k t e))

node_there : (items : List SyntaxNode) (k : ℕ) (n : Node) → slice_get (map node_of items) k ≡ Some n → (m : SyntaxNode) × (slice_get items k ≡ Some m) × (node_of m ≡ n)
node_there [] k n e = cc
node_there (x ∷ items) zero n e = let f : node_of x ≡ n = cc in (x, refl, f)
node_there (x ∷ items) (suc k) n e = node_there items k n e

good_at : (text : List ℕ) (tokens : List Token) (all : (k : ℕ) (t : Token) → slice_get tokens k ≡ Some t → Stands text t) (nodes : List Node) (items : List SyntaxNode) (i : ℕ) (n : SyntaxNode) → AllGood text tokens all nodes (map node_of items) → slice_get items i ≡ Some n → Good text tokens all nodes (node_of n)
good_at text tokens all nodes [] i n g e = cc
good_at text tokens all nodes (m ∷ items) zero n g e = subst (λ (x : SyntaxNode). Good text tokens all nodes (node_of x)) (let same : m ≡ n = cc in same) g.0
good_at text tokens all nodes (m ∷ items) (suc i) n g e = good_at text tokens all nodes items i n g.1 e

module _ (tokens : Tokens) (unit : ℕ) (tree : Tree) (tag_number : ℕ → ℕ) (bytes : AreBytes tokens.text.now) (cut : IsTokens tokens.text.now tokens.list.items) (read : IsUnit tokens unit tree) where
  abbrev there : Source
  there = numbered tag_number (source_of tokens tree)

  stands : (k : ℕ) (t : Token) → slice_get tokens.list.items k ≡ Some t → Stands tokens.text.now t
  stands k t e = token_has (Stands tokens.text.now) tokens.list.items k t (stand tokens.text.now tokens.list.items cut) e

  all_good : AllGood tokens.text.now tokens.list.items stands (map node_of tree.nodes.items) (map node_of tree.nodes.items)
  all_good =
      let whole = read.0 in
      subst (λ (l : List Node). AllGood tokens.text.now tokens.list.items stands l l) whole.2 (opens_good tokens.text.now tokens.list.items stands p_unit 0 (begin 0 no_names []) whole.0 whole.1 tt)

  literal : (k : ℕ) (t : Token) → slice_get tokens.list.items k ≡ Some t → LiteralFits tokens.text.now t
  literal k t e = token_has (LiteralFits tokens.text.now) tokens.list.items k t (fits tokens.text.now tokens.list.items bytes cut) e

  -- a string's bytes
  string_at : (k : ℕ) → IsString tokens.text.now tokens.list.items stands (map node_of tree.nodes.items) k → AreBytes (bytes_of_string (spelling_at there k))
  unfolding source_of
  string_at k h =
      let m = node_there tree.nodes.items k h.0 h.1 in
      let t = h.2.0 in
      let here : slice_get tokens.list.items m.0.token ≡ Some t = ap (λ (n : Node). slice_get tokens.list.items n.token) m.2 ∙ h.2.1 in
      let spelling : spelling_at there k ≡ spelled tokens.text.now t = ap (λ (o : Option SyntaxNode). spelling_of there (token_of there o)) m.1 ∙ ap (spelling_of there) here in
      subst (λ (xs : List ℕ). AreBytes (bytes_of_string xs)) (sym spelling) ((literal m.0.token t here).string h.2.2 h.2.3)

  kind_none : (k : ℕ) → IsNone tokens.text.now tokens.list.items stands (map node_of tree.nodes.items) k → kind_at there k ≡ Text → ⊥
  unfolding source_of
  kind_none k h e =
      let m = node_there tree.nodes.items k h.0 h.1 in
      let t = h.2.0 in
      let here : slice_get tokens.list.items m.0.token ≡ Some t = ap (λ (n : Node). slice_get tokens.list.items n.token) m.2 ∙ h.2.1 in
      let kind : kind_at there k ≡ t.kind = ap (λ (o : Option SyntaxNode). kind_of_token (token_of there o)) m.1 ∙ ap kind_of_token here in
      h.2.2 (sym kind ∙ e)

  strings_at : (ks : List ℕ) → Strings tokens.text.now tokens.list.items stands (map node_of tree.nodes.items) ks → All (λ i. AreBytes (bytes_of_string (spelling_at there i))) ks
  strings_at [] h = λ k d lt. absurd (omega arith)
  strings_at (k ∷ ks) h = All-cons (λ i. AreBytes (bytes_of_string (spelling_at there i))) k ks (string_at k h.0) (strings_at ks h.1)

  literals_at : (ks : List ℕ) → Shape tokens.text.now tokens.list.items stands (map node_of tree.nodes.items) ks → LiteralsFit there ks
  literals_at [] h = tt
  literals_at (k ∷ ks) (inl h) = (constants_fit tokens tree tag_number cut k, λ e. strings_at (k ∷ ks) h)
  literals_at (k ∷ ks) (inr h) = (constants_fit tokens tree tag_number cut k, λ e. absurd (kind_none k h e))

  readable_of : (at : ℕ) (o : Option SyntaxNode) → slice_get tree.nodes.items at ≡ o → production_of o ≡ 47 → LiteralsFit there (children_of o)
  readable_of at None e p = tt
  readable_of at (Some n) e p = literals_at n.children.items (good_at tokens.text.now tokens.list.items stands (map node_of tree.nodes.items) tree.nodes.items at n all_good e p)

pub units_readable : UnitsAreReadable
unfolding source_of
units_readable tokens unit tree tag_number bytes cut read at p = readable_of tokens unit tree tag_number bytes cut read at (slice_get tree.nodes.items at) refl p
