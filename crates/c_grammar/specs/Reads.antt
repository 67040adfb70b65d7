-- What it is to read a production: a relation over the table, the tokens and the scopes.
use Rattle.std.specs.Prelude.{◌≡◌, ℕ, ◌+◌, ◌<◌, ◌≤◌, ◌==◌, Bool, true, false, Option, Some, None, Result, Ok, Err}
use Rattle.std.specs.Prelude.{List, [], ◌∷◌, ◌++◌, length, slice_get, if◌then◌else◌}
use Rattle.pta_base.specs.declared.kind.Kind.{Kind}
use Rattle.c_lexer.specs.declared.Token.{Token}
use Rattle.c_lexer.specs.declared.TokenKind.{TokenKind}
use Rattle.c_grammar.specs.declared.rows.Item.TheVariants as item
use Rattle.c_grammar.specs.declared.trees.SyntaxNode.{SyntaxNode}
use Rattle.c_grammar.specs.Table.{item_of}
use Rattle.c_grammar.specs.Fits.{fits, chosen}
use Rattle.c_grammar.specs.Names.{Names, Declaration, entered, left, all_declared}
use Rattle.c_grammar.specs.Terminals.{terminal, takes, spelled}
use Rattle.c_grammar.specs.Refusals.{refusal, refused_token}
use Rattle.c_grammar.specs.Notes.{Noted, notes_begin, notes_token, notes_step, notes_after}
use Rattle.c_grammar.specs.Productions.{p_body}
use Rattle.c_grammar.specs.Tree.{makes_node, nests}

-- a node of the syntax tree
pub record Node : Type 0 where
  pub production : ℕ
  pub token : ℕ
  pub children : List ℕ

-- a node of the code's tree, seen so
abbrev pub node_of : SyntaxNode → Node
node_of n = record { production = n.production; token = n.token; children = n.children.items }

-- how far reading has come: the next token, the scopes, the nodes made so far, and of the production that is being
-- read the children and the notes
pub record State : Type 0 where
  pub place : ℕ
  pub scopes : Names
  pub nodes : List Node
  pub children : List ℕ
  pub notes : Noted

-- what doesn't fit, and the token where
pub data Fault : Type 0 where
  malformed : ℕ → Fault
  unsupported : Kind → ℕ → Fault
  too_deep : ℕ → Fault

-- the production of a leaf
abbrev pub leaf : ℕ
leaf = 4294967295

-- how many constructs that nest may be open at a token
abbrev pub most_nested : ℕ
most_nested = 256

-- a token that doesn't fit is refused under its kind, if it has one
abbrev pub fault_of : Option Kind → ℕ → Fault
fault_of None place = malformed place
fault_of (Some kind) place = unsupported kind place

-- the name that a token spells
abbrev pub name_at : List ℕ → Option Token → List ℕ
name_at text None = []
name_at text (Some t) = spelled text t

-- the name of a token as it is declared, if there is one
abbrev pub named : List ℕ → List Token → Option ℕ → Bool → List Declaration
named text tokens None is_type = []
named text tokens (Some token) is_type = (name_at text (slice_get tokens token), is_type) ∷ []

-- what a row declares at its place for that: a function's body what the parameter list of its function declares,
-- any other row the name that it has read
unfoldable pub names_of : List ℕ → List Token → ℕ → Noted → List Declaration
names_of text tokens row n = if row == p_body then n.parameters else named text tokens n.name n.typedef_seen

module _ (text : List ℕ) (tokens : List Token) where
  abbrev pub first : State → ℕ
  first s = terminal text tokens s.scopes s.place

  abbrev pub second : State → ℕ
  second s = terminal text tokens s.scopes (s.place + 1)

  -- whether the test of a repetition fits, and which alternative's does
  abbrev pub fits_at : ℕ → State → Bool
  fits_at q s = fits q (first s) (second s) s.notes

  abbrev pub chosen_at : ℕ → ℕ → State → Option ℕ
  chosen_at a b s = chosen a b (first s) (second s) s.notes

  -- the fault where no item takes the next token
  abbrev pub misfit : State → Fault
  misfit s = fault_of (refused_token (first s)) s.place

  -- after a token that the production takes itself
  abbrev pub taken : ℕ → State → State
  taken p s = record {
    place = s.place + 1;
    scopes = s.scopes;
    nodes = s.nodes ++ (record { production = leaf; token = s.place; children = [] }) ∷ [];
    children = s.children ++ length s.nodes ∷ [];
    notes = notes_token p s.place (first s) s.notes;
  }

  -- the scopes after a step of them: one is opened, one is closed, or what the row declares is declared
  unfoldable pub stepped : ℕ → ℕ → Names → Noted → Names
  stepped p n scopes notes =
      if n == 0 then entered scopes else if n == 1 then left scopes
      else all_declared scopes (names_of text tokens p notes)

  abbrev pub scoped : ℕ → ℕ → State → State
  scoped p n s = record s { scopes = stepped p n s.scopes s.notes; notes = notes_step p n s.scopes s.notes }

-- where a production begins, and where it has been read to its end
abbrev pub opened : ℕ → State → State
opened q s = if makes_node q then record s { children = []; notes = notes_begin q s.notes } else s

abbrev pub closed : ℕ → State → State → State
closed q s t = if makes_node q then record {
  place = t.place;
  scopes = t.scopes;
  nodes = t.nodes ++ (record { production = q; token = s.place; children = t.children }) ∷ [];
  children = s.children ++ length t.nodes ∷ [];
  notes = notes_after q t.notes s.notes;
} else t

mutual
  -- Walks p at depth s r: the items of production p from at on, read from s, give r.
  pub data Walks (text : List ℕ) (tokens : List Token) : ℕ → ℕ → ℕ → State → Result State Fault → Type 0 where
    at_end : {p at d : ℕ} {s : State} → item_of p at ≡ None → Walks text tokens p at d s (Ok s)
    token : {p at d : ℕ} {s : State} {r : Result State Fault} {k : TokenKind}
        → item_of p at ≡ Some (item.Token k)
        → takes p k (first text tokens s) ≡ true
        → Walks text tokens p (at + 1) d (taken text tokens p s) r
        → Walks text tokens p at d s r
    no_token : {p at d : ℕ} {s : State} {k : TokenKind}
        → item_of p at ≡ Some (item.Token k)
        → takes p k (first text tokens s) ≡ false
        → Walks text tokens p at d s (Err (misfit text tokens s))
    use_of : {p at d q : ℕ} {s t : State} {r : Result State Fault}
        → item_of p at ≡ Some (item.Use q)
        → Opens text tokens q d s (Ok t)
        → Walks text tokens p (at + 1) d t r
        → Walks text tokens p at d s r
    no_use : {p at d q : ℕ} {s : State} {f : Fault}
        → item_of p at ≡ Some (item.Use q)
        → Opens text tokens q d s (Err f)
        → Walks text tokens p at d s (Err f)
    choice : {p at d a b q : ℕ} {s t : State} {r : Result State Fault}
        → item_of p at ≡ Some (item.Choice a b)
        → chosen_at text tokens a b s ≡ Some q
        → Opens text tokens q d s (Ok t)
        → Walks text tokens p (at + 1) d t r
        → Walks text tokens p at d s r
    no_choice : {p at d a b q : ℕ} {s : State} {f : Fault}
        → item_of p at ≡ Some (item.Choice a b)
        → chosen_at text tokens a b s ≡ Some q
        → Opens text tokens q d s (Err f)
        → Walks text tokens p at d s (Err f)
    no_alternative : {p at d a b : ℕ} {s : State}
        → item_of p at ≡ Some (item.Choice a b)
        → chosen_at text tokens a b s ≡ None
        → Walks text tokens p at d s (Err (misfit text tokens s))
    again : {p at d q : ℕ} {s t : State} {r : Result State Fault}
        → item_of p at ≡ Some (item.Repeat q)
        → fits_at text tokens q s ≡ true
        → Opens text tokens q d s (Ok t)
        → Walks text tokens p at d t r
        → Walks text tokens p at d s r
    no_again : {p at d q : ℕ} {s : State} {f : Fault}
        → item_of p at ≡ Some (item.Repeat q)
        → fits_at text tokens q s ≡ true
        → Opens text tokens q d s (Err f)
        → Walks text tokens p at d s (Err f)
    enough : {p at d q : ℕ} {s : State} {r : Result State Fault}
        → item_of p at ≡ Some (item.Repeat q)
        → fits_at text tokens q s ≡ false
        → Walks text tokens p (at + 1) d s r
        → Walks text tokens p at d s r
    scope : {p at d n : ℕ} {s : State} {r : Result State Fault}
        → item_of p at ≡ Some (item.Scope n)
        → Walks text tokens p (at + 1) d (scoped text tokens p n s) r
        → Walks text tokens p at d s r

  -- Opens q depth s r: production q, read from s within so many open constructs, gives r.
  pub data Opens (text : List ℕ) (tokens : List Token) : ℕ → ℕ → State → Result State Fault → Type 0 where
    deep : {q d : ℕ} {s : State} → most_nested < d + nests q → Opens text tokens q d s (Err (too_deep s.place))
    refused : {q d : ℕ} {kind : Kind} {s : State}
        → d + nests q ≤ most_nested
        → refusal q (first text tokens s) (second text tokens s) ≡ Some kind
        → Opens text tokens q d s (Err (unsupported kind s.place))
    whole : {q d : ℕ} {s t : State}
        → d + nests q ≤ most_nested
        → refusal q (first text tokens s) (second text tokens s) ≡ None
        → Walks text tokens q 0 (d + nests q) (opened q s) (Ok t)
        → Opens text tokens q d s (Ok (closed q s t))
    broken : {q d : ℕ} {s : State} {f : Fault}
        → d + nests q ≤ most_nested
        → refusal q (first text tokens s) (second text tokens s) ≡ None
        → Walks text tokens q 0 (d + nests q) (opened q s) (Err f)
        → Opens text tokens q d s (Err f)
