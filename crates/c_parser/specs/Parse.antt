-- How the parser's answers and values are seen by what it is to read a production.
use Rattle.std.specs.Prelude.{◌≡◌, ℕ, ◌+◌, [], Option, Some, None, Result, Ok, Err, List, map}
use Rattle.c_lexer.specs.declared.Token.{Token}
use Rattle.c_lexer.specs.declared.Tokens.{Tokens}
use Rattle.c_grammar.specs.declared.trees.SyntaxNode.{SyntaxNode}
use Rattle.c_grammar.specs.declared.trees.Tree.{Tree}
use Rattle.c_grammar.specs.Names.{Names}
use Rattle.c_grammar.specs.Notes.{noted, no_notes}
use Rattle.c_grammar.specs.Reads.{State, Fault, Opens, malformed, unsupported, too_deep, node_of}
use Rattle.c_grammar.specs.Terminals.{terminal}
use Rattle.c_parser.specs.declared.reader.Ahead.{Ahead}
use Rattle.c_parser.specs.declared.reader.Own.{Own}
use Rattle.c_parser.specs.declared.ParseFault.{ParseFault}
use Rattle.c_parser.specs.declared.ParseFault.TheVariants.{Malformed, Unsupported, TooDeep, OutOfMemory}

-- the state of reading that the parser's values stand for
abbrev pub state : ℕ → Names → List SyntaxNode → Own → State
state place scopes nodes own =
    record {
      place = place;
      scopes = scopes;
      nodes = map node_of nodes;
      children = own.children.items;
      notes = noted own.notes;
    }

-- the terminals that are kept are those of the next two tokens
abbrev pub Sees : List ℕ → List Token → Names → Ahead → Type 0
Sees text tokens scopes ahead =
    (ahead.first ≡ terminal text tokens scopes ahead.place)
    × (ahead.second ≡ terminal text tokens scopes (ahead.place + 1))

-- the fault that is told, unless memory ran out
abbrev pub fault_seen : ParseFault → Option Fault
fault_seen (Malformed place) = Some (malformed place)
fault_seen (Unsupported kind place) = Some (unsupported kind place)
fault_seen (TooDeep place) = Some (too_deep place)
fault_seen OutOfMemory = None

-- Faults P e: e is a fault that P allows, or want of memory.
abbrev pub Faults : (Result State Fault → Type 0) → ParseFault → Type 0
Faults P (Malformed place) = P (Err (malformed place))
Faults P (Unsupported kind place) = P (Err (unsupported kind place))
Faults P (TooDeep place) = P (Err (too_deep place))
Faults P OutOfMemory = Unit {0}

-- a call begins with no children and no notes of its own
abbrev pub begin : ℕ → Names → List SyntaxNode → State
begin place scopes nodes =
    record { place = place; scopes = scopes; nodes = map node_of nodes; children = []; notes = no_notes }

-- where a call ends: the token behind the production, the scopes, and the tree's nodes; its unit and root stay
abbrev pub Reaches : (Result State Fault → Type 0) → ℕ → Names → Tree → Tree → Type 0
Reaches reads end scopes before after =
    ((s : State) × reads (Ok s) × (s.place ≡ end) × (s.scopes ≡ scopes)
    × (s.nodes ≡ map node_of after.nodes.items))
    × (after.unit ≡ before.unit) × (after.root ≡ before.root)

-- What a call answers: the token behind the production, with the scopes and the nodes that reading it gives, or the
-- first fault of reading it, or want of memory. `one_reading` says that there is one such answer.
abbrev pub Answers : ℕ → Tokens → ℕ → ℕ → Names → Tree → Result ℕ ParseFault → Names → Tree → Type 0
Answers production tokens at depth scopes tree (Ok end) scopes' tree' =
    Reaches
    (Opens tokens.text.now tokens.list.items production depth (begin at scopes tree.nodes.items)) end scopes'
    tree
    tree'
Answers production tokens at depth scopes tree (Err e) scopes' tree' =
    Faults (Opens tokens.text.now tokens.list.items production depth (begin at scopes tree.nodes.items)) e
