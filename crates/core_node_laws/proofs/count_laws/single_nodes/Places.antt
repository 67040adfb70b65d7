-- What begins with a leaf at a place is one node.
use Rattle.std.proofs.Common.{arith, ◌≡◌, ◌≤◌, ◌+◌, ◌==◌, ℕ, zero, suc, nat_eq, Bool, true, false, Option, Some, None, slice_get, refl, sym, ap, ◌∙◌}
use Rattle.std.specs.Prelude.{is_some}
use Rattle.std.proofs.lemmas.Bool.{eqb-true, eqb-false}
use Rattle.pta_base.specs.declared.place.Place.{Place}
use Rattle.c_lexer.specs.declared.Token.{Token}
use Rattle.c_lexer.specs.declared.Tokens.{Tokens}
use Rattle.c_lexer.specs.Cut.{IsTokens}
use Rattle.c_grammar.specs.declared.trees.SyntaxNode.{SyntaxNode}
use Rattle.c_grammar.specs.declared.trees.Tree.{Tree}
use Rattle.c_grammar.specs.Reads.{leaf}
use Rattle.c_parser.specs.c_units.Units.{IsUnit}
use Rattle.c_senses.specs.Names.{source_of, numbered}
use Rattle.c_senses.specs.Tree.{Source, production_of, token_of, place_of_token, is_leaf, token_at, place_at}
use Rattle.core_node_laws.proofs.count_laws.named_units.Tokens.{Located, located, one_located, one_start, one_byte}
use Rattle.core_node_laws.proofs.count_laws.named_units.Leaves.{own_leaves, one_leaf}
use Rattle.core_node_laws.specs.count_laws.Counting.{sum_below}

-- tokens that stand in the text, and leaves that have their own
pub record IsPlaced (s : Source) : Type 0 where
  pub located : Located s.text 0 s.tokens
  pub leaves : (i j : ℕ) (n m : SyntaxNode) → slice_get s.nodes i ≡ Some n → slice_get s.nodes j ≡ Some m → n.production ≡ leaf → m.production ≡ leaf → n.token ≡ m.token → i ≡ j

pub is_placed : (tokens : Tokens) (unit : ℕ) (tree : Tree) (tag_number : ℕ → ℕ) → IsTokens tokens.text.now tokens.list.items → IsUnit tokens unit tree → IsPlaced (numbered tag_number (source_of tokens tree))
unfolding source_of
is_placed tokens unit tree tag_number cut read =
    let own = own_leaves tokens unit tree read in
    record { located = located tokens.text.now tokens.list.items cut; leaves = λ i j n m e f p q same. one_leaf tree.nodes.items own.0 own.1 i j n m e f p q same }

-- a leaf with its token
record HasToken (s : Source) (i : ℕ) : Type 0 where
  node : SyntaxNode
  there : slice_get s.nodes i ≡ Some node
  leafy : node.production ≡ leaf
  token : Token
  taken : slice_get s.tokens node.token ≡ Some token

has_token : (s : Source) (i : ℕ) → is_leaf s i ≡ true → is_some (token_at s i) ≡ true → HasToken s i
has_token s i leafy some = by (slice_get s.nodes i) refl leafy some
  where
    of_token : (n : SyntaxNode) → slice_get s.nodes i ≡ Some n → n.production ≡ leaf → (o : Option Token) → slice_get s.tokens n.token ≡ o → is_some o ≡ true → HasToken s i
    of_token n e p None at h = cc
    of_token n e p (Some t) at h = record { node = n; there = e; leafy = p; token = t; taken = at }

    by : (o : Option SyntaxNode) → slice_get s.nodes i ≡ o → (production_of o == leaf) ≡ true → is_some (token_of s o) ≡ true → HasToken s i
    by None e p h = cc
    by (Some n) e p h = of_token n e (eqb-true n.production leaf p) (slice_get s.tokens n.token) refl h

at_token : (s : Source) (i : ℕ) (h : HasToken s i) → place_at s i ≡ place_of_token s.unit (Some h.token)
at_token s i h = ap (λ (o : Option SyntaxNode). place_of_token s.unit (token_of s o)) h.there ∙ ap (place_of_token s.unit) h.taken

pub one_place : (s : Source) → IsPlaced s → (i j : ℕ) → is_leaf s i ≡ true → is_leaf s j ≡ true → is_some (token_at s i) ≡ true → is_some (token_at s j) ≡ true → (place_at s i).line ≡ (place_at s j).line → (place_at s i).column ≡ (place_at s j).column → i ≡ j
one_place s placed i j li lj ti tj line column =
    let h = has_token s i li ti in
    let g = has_token s j lj tj in
    let a = one_located s.text 0 s.tokens h.node.token h.token placed.located h.taken in
    let b = one_located s.text 0 s.tokens g.node.token g.token placed.located g.taken in
    let lines : h.token.line ≡ g.token.line = sym (ap (λ (p : Place). p.line) (at_token s i h)) ∙ (line ∙ ap (λ (p : Place). p.line) (at_token s j g)) in
    let columns : h.token.column ≡ g.token.column = sym (ap (λ (p : Place). p.column) (at_token s i h)) ∙ (column ∙ ap (λ (p : Place). p.column) (at_token s j g)) in
    let start : h.token.start ≡ g.token.start = one_byte s.text h.token.start g.token.start (sym a.line ∙ (lines ∙ b.line)) (sym a.column ∙ (columns ∙ b.column)) in
    placed.leaves i j h.node g.node h.there g.there h.leafy g.leafy (one_start s.text 0 s.tokens h.node.token g.node.token h.token g.token placed.located h.taken g.taken start)

-- a sum where one number at most counts, and it counts once
pub once_only : (f : ℕ → ℕ) (k : ℕ) → ((i : ℕ) → f i ≤ 1) → ((i j : ℕ) → 1 ≤ f i → 1 ≤ f j → i ≡ j) → sum_below f k ≤ 1
once_only f k most one = (sums k).0
  where
    alone : (k : ℕ) → ((i : ℕ) × (suc i ≤ k) × (1 ≤ f i)) → 1 ≤ f k → ⊥
    alone k (i, lt, here) there = let same = one i k here there in omega (arith, lt, same)

    none_before : (k : ℕ) → (1 ≤ sum_below f k → (i : ℕ) × (suc i ≤ k) × (1 ≤ f i)) → 1 ≤ f k → (b : Bool) → nat_eq (sum_below f k) 0 ≡ b → sum_below f k ≤ 0
    none_before k some there true e = let same = eqb-true (sum_below f k) 0 e in omega (arith, same)
    none_before k some there false e = let differ = eqb-false (sum_below f k) 0 e in absurd (alone k (some (omega (arith, differ))) there)

    by : (k : ℕ) → (sum_below f k ≤ 1) → (1 ≤ sum_below f k → (i : ℕ) × (suc i ≤ k) × (1 ≤ f i)) → (b : Bool) → nat_eq (f k) 0 ≡ b → (sum_below f k + f k ≤ 1) × (1 ≤ sum_below f k + f k → (i : ℕ) × (suc i ≤ suc k) × (1 ≤ f i))
    by k few some true e =
        let none = eqb-true (f k) 0 e in
        (omega (arith, few, none), λ h. let (i, lt, here) = some (omega (arith, h, none)) in (i, omega (arith, lt), here))
    by k few some false e =
        let differ = eqb-false (f k) 0 e in
        let here : 1 ≤ f k = omega (arith, differ) in
        let before = none_before k some here (nat_eq (sum_below f k) 0) refl in
        let less = most k in
        (omega (arith, before, less), λ h. (k, omega arith, here))

    sums : (k : ℕ) → (sum_below f k ≤ 1) × (1 ≤ sum_below f k → (i : ℕ) × (suc i ≤ k) × (1 ≤ f i))
    sums zero = (omega arith, λ h. absurd (omega (arith, h)))
    sums (suc k) = by k (sums k).0 (sums k).1 (nat_eq (f k) 0) refl
