-- Parts of rows that are read at once: a choice alone, a token alone, and nothing.
use Rattle.std.specs.Prelude.{◌≡◌, ℕ, ◌≤◌, true, false, Option, Some, None, Result, Err, List}
use Rattle.c_lexer.specs.declared.Token.{Token}
use Rattle.c_lexer.specs.declared.TokenKind.{TokenKind}
use Rattle.c_grammar.specs.declared.rows.Item.TheVariants as item
use Rattle.c_grammar.specs.Notes.{Noted}
use Rattle.c_grammar.specs.Table.{item_of}
use Rattle.c_grammar.specs.Terminals.{takes}
use Rattle.c_grammar.specs.Refusals.{refusal}
use Rattle.c_grammar.specs.Tree.{makes_node, nests}
use Rattle.c_grammar.specs.Reads.{State, Fault, Opens, first, second, misfit, most_nested}

-- a production without a node is opened without a fault at tokens of these terminals, within so many open constructs
abbrev pub IsPart : ℕ → ℕ → ℕ → ℕ → Type 0
IsPart production a b depth =
    (makes_node production ≡ false) × (nests production ≡ 0) × (refusal production a b ≡ None) × (depth ≤ most_nested)

-- the row has a choice alone
abbrev pub Forks : ℕ → ℕ → ℕ → Type 0
Forks production one other =
    (item_of production 0 ≡ Some (item.Choice one other)) × (item_of production 1 ≡ None)

-- the row has a token alone, which is the next one
abbrev pub IsWord : ℕ → ℕ → Type 0
IsWord production a =
    (k : TokenKind) × (item_of production 0 ≡ Some (item.Token k)) × (item_of production 1 ≡ None)
    × (takes production k a ≡ true)

-- At tokens of these terminals, within so many open constructs and with these notes around it, a production gives what
-- another one gives; or no alternative fits.
abbrev pub IsReadAs : ℕ → ℕ → ℕ → ℕ → Noted → Option ℕ → Type 0
IsReadAs production a b depth notes (Some other) = (text : List ℕ) (tokens : List Token) (s : State)
    → first text tokens s ≡ a → second text tokens s ≡ b → s.notes ≡ notes
    → (r : Result State Fault) → Opens text tokens other depth s r → Opens text tokens production depth s r
IsReadAs production a b depth notes None = (text : List ℕ) (tokens : List Token) (s : State)
    → first text tokens s ≡ a → second text tokens s ≡ b → s.notes ≡ notes
    → Opens text tokens production depth s (Err (misfit text tokens s))
