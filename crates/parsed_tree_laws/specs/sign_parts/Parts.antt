-- The productions and tokens of what a row brings, in order.
use Rattle.std.specs.Prelude.{ℕ, ◌+◌, ◌≡◌, true, false, List, [], ◌∷◌, ◌++◌, map, Option, Some, None, slice_get}
use Rattle.std.specs.Prelude.{◌⊎◌}
use Rattle.c_lexer.specs.declared.Token.{Token}
use Rattle.c_lexer.specs.declared.Tokens.{Tokens}
use Rattle.c_grammar.specs.Names.{Names}
use Rattle.c_grammar.specs.Terminals.{takes, terminal}
use Rattle.c_grammar.specs.declared.trees.SyntaxNode.{SyntaxNode}
use Rattle.c_lexer.specs.declared.TokenKind.{TokenKind}
use Rattle.c_grammar.specs.declared.rows.Item.TheVariants as item
use Rattle.c_grammar.specs.declared.trees.Tree.{Tree}
use Rattle.c_grammar.specs.Table.{item_of}
use Rattle.c_grammar.specs.Tree.{makes_node}
use Rattle.c_grammar.specs.Reads.{leaf}
use Rattle.c_parser.specs.c_units.Units.{IsUnit}
use Rattle.c_senses.specs.Tree.{Source, production_at, children_at}
use Rattle.c_senses.specs.Names.{source_of, numbered}

-- a node by its production and its first token
pub record Mark : Type 0 where
  pub production : ℕ
  pub token : ℕ

abbrev pub leaf_mark : ℕ → Mark
leaf_mark place = record { production = leaf; token = place }

-- what the row of production p brings from an item on, where `takes p k place` says that an item k of that row
-- takes the token there
mutual
  pub data Brings (takes : ℕ → TokenKind → ℕ → Type 0) : ℕ → ℕ → List Mark → Type 0 where
    ended : {p at : ℕ} {zs : List Mark} → item_of p at ≡ None → zs ≡ [] → Brings takes p at zs
    token : {p at place : ℕ} {k : TokenKind} {ys zs : List Mark}
        → item_of p at ≡ Some (item.Token k)
        → takes p k place
        → zs ≡ leaf_mark place ∷ ys
        → Brings takes p (at + 1) ys
        → Brings takes p at zs
    use_of : {p at q : ℕ} {xs ys zs : List Mark}
        → item_of p at ≡ Some (item.Use q)
        → zs ≡ xs ++ ys
        → Part takes q xs
        → Brings takes p (at + 1) ys
        → Brings takes p at zs
    choice : {p at a b q : ℕ} {xs ys zs : List Mark}
        → item_of p at ≡ Some (item.Choice a b)
        → (a ≡ q) ⊎ (b ≡ q)
        → zs ≡ xs ++ ys
        → Part takes q xs
        → Brings takes p (at + 1) ys
        → Brings takes p at zs
    again : {p at q : ℕ} {xs ys zs : List Mark}
        → item_of p at ≡ Some (item.Repeat q)
        → zs ≡ xs ++ ys
        → Part takes q xs
        → Brings takes p at ys
        → Brings takes p at zs
    enough : {p at q : ℕ} {zs : List Mark}
        → item_of p at ≡ Some (item.Repeat q)
        → Brings takes p (at + 1) zs
        → Brings takes p at zs
    scope : {p at n : ℕ} {zs : List Mark}
        → item_of p at ≡ Some (item.Scope n)
        → Brings takes p (at + 1) zs
        → Brings takes p at zs

  -- a production brings one part, its own node, or what its row brings
  pub data Part (takes : ℕ → TokenKind → ℕ → Type 0) : ℕ → List Mark → Type 0 where
    own_node : {q place : ℕ} {zs : List Mark}
        → makes_node q ≡ true
        → zs ≡ record { production = q; token = place } ∷ []
        → Part takes q zs
    own_row : {q : ℕ} {zs : List Mark} → makes_node q ≡ false → Brings takes q 0 zs → Part takes q zs

-- an item takes a token, whichever names are types there
abbrev pub Takes : List ℕ → List Token → ℕ → TokenKind → ℕ → Type 0
Takes text tokens p k place = (names : Names) × (takes p k (terminal text tokens names place) ≡ true)

abbrev pub mark_of : Option SyntaxNode → Mark
mark_of None = leaf_mark 0
mark_of (Some n) = record { production = n.production; token = n.token }

abbrev pub mark_at : Source → ℕ → Mark
mark_at s i = mark_of (slice_get s.nodes i)

-- each node has what its row brings
abbrev pub IsBrought : Source → Type 0
IsBrought s = (i : ℕ) → Brings (Takes s.text s.tokens) (production_at s i) 0 (map (mark_at s) (children_at s i))

-- so it is in each unit that is read, whatever the numbers of tags are
abbrev pub UnitsBring : Type 0
UnitsBring =
    (tokens : Tokens) (unit : ℕ) (tree : Tree) (tag_number : ℕ → ℕ)
    → IsUnit tokens unit tree
    → IsBrought (numbered tag_number (source_of tokens tree))
