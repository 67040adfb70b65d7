-- Operands that stand alone: what reading one as a level of expressions gives.
use Rattle.std.specs.Prelude.{◌≡◌, ℕ, zero, suc, ◌+◌, ◌-◌, ◌==◌, Bool, ◌&&◌, ◌||◌, nat_le, nat_lt, List, [], ◌∷◌}
use Rattle.std.specs.Prelude.{◌++◌, length, slice_index}
use Rattle.c_grammar.specs.Productions.{p_expression, p_unary, p_primary}
use Rattle.c_grammar.specs.Reads.{Node, State, leaf}
use Rattle.c_grammar.specs.Terminals.{plain_name, integer, character, string}
use Rattle.c_parser.specs.declared.lone.TheConstants.{LEVELS}

abbrev pub is_operand : ℕ → Bool
is_operand t = (t == plain_name) || (t == integer) || (t == character) || (t == string)

-- the innermost level that goes on with a terminal behind an operand
unfoldable pub level_of : ℕ → ℕ
level_of t = slice_index LEVELS t

-- no level from a production on inwards goes on with a terminal
abbrev pub ends_within : ℕ → ℕ → Bool
ends_within production t = nat_lt t 128 && nat_lt (level_of t) production

-- A level of expressions has an operand alone: no level from it on inwards goes on behind the operand. The levels
-- nest three deep.
unfoldable pub is_lone : ℕ → ℕ → ℕ → ℕ → Bool
is_lone production first second depth =
    (nat_le p_expression production && nat_le production p_unary)
    && (is_operand first && (ends_within production second && nat_le depth 253))

-- some nodes, and the number of the last one
abbrev pub Grown : Type 0
Grown = List Node × ℕ

abbrev pub leaf_at : ℕ → Node
leaf_at token = record { production = leaf; token = token; children = [] }

-- a node more, at a token, over the last one
abbrev pub over : ℕ → ℕ → Grown → Grown
over token production g =
    (g.0 ++ (record { production = production; token = token; children = g.1 ∷ [] }) ∷ [], length g.0)

-- a leaf, a primary expression over it, and so many levels over that, each over the one before
abbrev pub levels : ℕ → ℕ → List Node → Grown
levels zero token nodes = over token p_primary (nodes ++ leaf_at token ∷ [], length nodes)
levels (suc n) token nodes = over token (p_unary - n) (levels n token nodes)

-- the nodes of an operand that stands alone, up to a level
abbrev pub lone_nodes : ℕ → ℕ → List Node → Grown
lone_nodes production token nodes = levels (p_unary + 1 - production) token nodes

abbrev pub IsGrown : Grown → List Node → ℕ → Type 0
IsGrown g nodes number = (nodes ≡ g.0) × (number ≡ g.1)

-- where a level has been read that has an operand alone
abbrev pub lone_taken : ℕ → State → State
lone_taken production s = record {
  place = s.place + 1;
  scopes = s.scopes;
  nodes = (lone_nodes production s.place s.nodes).0;
  children = s.children ++ (lone_nodes production s.place s.nodes).1 ∷ [];
  notes = s.notes;
}
