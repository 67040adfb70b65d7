-- The productions of what a row brings, in order.
use Rattle.std.specs.Prelude.{ℕ, ◌+◌, ◌≡◌, true, false, List, [], ◌∷◌, ◌++◌, map, Some, None, ◌⊎◌}
use Rattle.c_lexer.specs.declared.Tokens.{Tokens}
use Rattle.c_lexer.specs.declared.TokenKind.{TokenKind}
use Rattle.c_grammar.specs.declared.rows.Item.TheVariants as item
use Rattle.c_grammar.specs.declared.trees.Tree.{Tree}
use Rattle.c_grammar.specs.Table.{item_of}
use Rattle.c_grammar.specs.Tree.{makes_node}
use Rattle.c_grammar.specs.Reads.{leaf}
use Rattle.parsed_tree_laws.specs.placed_laws.PassedOn.{IsUnit}
use Rattle.parsed_tree_laws.specs.placed_laws.PassedOn.{Source, production_at, children_at}
use Rattle.parsed_tree_laws.specs.placed_laws.PassedOn.{source_of, numbered}

-- what the row of production p brings from an item on
mutual
  pub data Brings : ℕ → ℕ → List ℕ → Type 0 where
    ended : {p at : ℕ} {zs : List ℕ} → item_of p at ≡ None → zs ≡ [] → Brings p at zs
    token : {p at : ℕ} {k : TokenKind} {ys zs : List ℕ}
        → item_of p at ≡ Some (item.Token k)
        → zs ≡ leaf ∷ ys
        → Brings p (at + 1) ys
        → Brings p at zs
    use_of : {p at q : ℕ} {xs ys zs : List ℕ}
        → item_of p at ≡ Some (item.Use q)
        → zs ≡ xs ++ ys
        → Part q xs
        → Brings p (at + 1) ys
        → Brings p at zs
    choice : {p at a b q : ℕ} {xs ys zs : List ℕ}
        → item_of p at ≡ Some (item.Choice a b)
        → (a ≡ q) ⊎ (b ≡ q)
        → zs ≡ xs ++ ys
        → Part q xs
        → Brings p (at + 1) ys
        → Brings p at zs
    again : {p at q : ℕ} {xs ys zs : List ℕ}
        → item_of p at ≡ Some (item.Repeat q)
        → zs ≡ xs ++ ys
        → Part q xs
        → Brings p at ys
        → Brings p at zs
    enough : {p at q : ℕ} {zs : List ℕ}
        → item_of p at ≡ Some (item.Repeat q)
        → Brings p (at + 1) zs
        → Brings p at zs
    scope : {p at n : ℕ} {zs : List ℕ} → item_of p at ≡ Some (item.Scope n) → Brings p (at + 1) zs → Brings p at zs

  -- a production brings one part, its own node, or what its row brings
  pub data Part : ℕ → List ℕ → Type 0 where
    own_node : {q : ℕ} {zs : List ℕ} → makes_node q ≡ true → zs ≡ q ∷ [] → Part q zs
    own_row : {q : ℕ} {zs : List ℕ} → makes_node q ≡ false → Brings q 0 zs → Part q zs

-- each node has what its row brings
abbrev pub IsBrought : Source → Type 0
IsBrought s = (i : ℕ) → Brings (production_at s i) 0 (map (production_at s) (children_at s i))

-- so it is in each unit that is read, whatever the numbers of tags are
abbrev pub UnitsBring : Type 0
UnitsBring =
    (tokens : Tokens) (unit : ℕ) (tree : Tree) (tag_number : ℕ → ℕ)
    → IsUnit tokens unit tree
    → IsBrought (numbered tag_number (source_of tokens tree))
