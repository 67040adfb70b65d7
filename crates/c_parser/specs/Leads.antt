-- What the productions that are open lead to.
use Rattle.std.specs.Prelude.{◌≡◌, ℕ, zero, suc, ◌-◌, Bool, true, false, Option, Some, None, Result, Ok, Err}
use Rattle.std.specs.Prelude.{List, [], ◌∷◌, ◌++◌, length}
pub use Rattle.c_lexer.specs.declared.Token.{Token}
pub use Rattle.c_grammar.specs.Names.{Names}
use Rattle.c_grammar.specs.declared.trees.SyntaxNode.{SyntaxNode}
use Rattle.c_grammar.specs.Notes.{Noted, noted, no_notes, notes_after}
use Rattle.c_grammar.specs.Reads.{Node, State, Fault, Walks, Opens}
use Rattle.c_grammar.specs.Terminals.{terminal}
use Rattle.c_grammar.specs.Tree.{nests}
use Rattle.c_parser.specs.Levels.{outside}
use Rattle.c_parser.specs.declared.levels.Part.{Part}
use Rattle.c_parser.specs.declared.reader.Ahead.{Ahead}
use Rattle.c_parser.specs.declared.reader.Own.{Own}
use Rattle.c_parser.specs.declared.reader.Frame.{Frame}
use Rattle.c_parser.specs.declared.reader.Progress.{Progress}
use Rattle.c_parser.specs.declared.ParseFault.{ParseFault}
use Rattle.c_parser.specs.Parse.{state, Sees, Faults}

-- what a user has of its own
abbrev pub Kept : Type 0
Kept = Option (List ℕ × Noted)

abbrev pub kept : Option Own → Kept
kept None = None
kept (Some own) = Some (own.children.items, noted own.notes)

-- what a production gives its user when it has been read to its end: its node, if it makes one
abbrev pub ended_by : ℕ → ℕ → Kept → State → State
ended_by production token None t = t
ended_by production token (Some own) t = record {
  place = t.place;
  scopes = t.scopes;
  nodes = t.nodes ++ (record { production = production; token = token; children = t.children }) ∷ [];
  children = own.0 ++ length t.nodes ∷ [];
  notes = notes_after production t.notes own.1;
}

abbrev pub ended : ℕ → ℕ → Kept → Result State Fault → Result State Fault
ended production token own (Ok t) = Ok (ended_by production token own t)
ended production token own (Err e) = Err e

-- a level behind its first part
abbrev pub at_part : ℕ → Names → List Node → ℕ → State
at_part place scopes nodes part =
    record { place = place; scopes = scopes; nodes = nodes; children = part ∷ []; notes = no_notes }

module _ (text : List ℕ) (tokens : List Token) where
  -- Where a production, read to its end, gives y, and is the first part of so many levels outside of it, which have
  -- nothing of their own yet, the outermost of these gives its user z.
  abbrev pub Rises : ℕ → ℕ → ℕ → ℕ → Kept → Result State Fault → Result State Fault → Type 0
  Rises zero production depth token own y z = z ≡ ended production token own y
  Rises (suc n) production depth token own (Err e) z = z ≡ Err e
  Rises (suc n) production depth token own (Ok t) z =
      (y : Result State Fault)
      × Walks text tokens (production - 1) 1 (depth - nests production)
      (ended_by production token (Some ([], no_notes)) t) y
      × Rises n (production - 1) (depth - nests production) token own y z

  -- the same of an open production, with the levels that it stands for
  abbrev pub Ended : Frame → Result State Fault → Result State Fault → Type 0
  Ended f y z = Rises (outside f.outermost f.production) f.production f.depth f.token (kept f.outer) y z

  -- a level goes on behind its first part, and the outermost one gives its user z
  abbrev pub GoesOn : ℕ → ℕ → ℕ → ℕ → Kept → State → Result State Fault → Type 0
  GoesOn outermost level depth token own s z =
      (y : Result State Fault) × Walks text tokens level 1 depth s y
      × Rises (level - outermost) level depth token own y z

  -- what an open production gives its own user, where the production that it uses gives x
  abbrev pub Passes : Frame → Result State Fault → Result State Fault → Type 0
  Passes f (Err e) r = r ≡ Err e
  Passes f (Ok t) r = (y : Result State Fault) × Walks text tokens f.production f.at f.depth t y × Ended f y r

  -- what the outermost of some open productions gives, from the outermost on, where what the innermost of them uses
  -- gives x
  abbrev pub Ends : List Frame → Result State Fault → Result State Fault → Type 0
  Ends [] x r = x ≡ r
  Ends (f ∷ fs) x r = (z : Result State Fault) × Ends fs x z × Passes f z r

  -- what the outermost open production gives, as far as reading has come
  abbrev pub Leads : Progress → Names → List SyntaxNode → Result State Fault → Type 0
  Leads p scopes nodes r =
      (y : Result State Fault)
      × Walks text tokens p.top.production p.top.at p.top.depth (state p.ahead.place scopes nodes p.own) y
      × ((z : Result State Fault) × Ended p.top y z × Ends p.users.items z r)

  -- a production has been opened: what its row gives from here on, reading it gives
  abbrev pub IsOpened : ℕ → Ahead → ℕ → Own → Own → Frame → Type 0
  IsOpened production ahead depth old new frame =
      (scopes : Names) (nodes : List SyntaxNode) → Sees text tokens scopes ahead → (y z : Result State Fault)
      → Walks text tokens frame.production frame.at frame.depth (state ahead.place scopes nodes new) y
      → Ended frame y z
      → Opens text tokens production depth (state ahead.place scopes nodes old) z

  -- a production can't be read, for a fault at its first token
  abbrev pub IsFaulty : ℕ → Ahead → ℕ → Own → ParseFault → Type 0
  IsFaulty production ahead depth own fault =
      (scopes : Names) (nodes : List SyntaxNode)
      → Sees text tokens scopes ahead
      → Faults (Opens text tokens production depth (state ahead.place scopes nodes own)) fault

  -- the innermost production uses one, behind which it goes on at a place of its row
  abbrev pub IsEntered : ℕ → ℕ → Progress → Progress → Type 0
  IsEntered used on old new =
      (new.ahead ≡ old.ahead)
      × ((scopes : Names) (nodes : List SyntaxNode) → Sees text tokens scopes old.ahead
      → (r : Result State Fault)
      → Leads new scopes nodes r
      → (x : Result State Fault)
      × Opens text tokens used old.top.depth (state old.ahead.place scopes nodes old.own) x
      × ((z : Result State Fault) × Passes (record old.top { at = on }) x z × Ends old.users.items z r))

  -- the innermost production uses one that has been read or opened, and goes on behind it at a place of its row
  abbrev pub IsAdvanced : ℕ → ℕ → Progress → Names → List SyntaxNode → Progress → List SyntaxNode → Type 0
  IsAdvanced used on old scopes nodes new nodes' = (r : Result State Fault) → Leads new scopes nodes' r
      → (x : Result State Fault)
      × Opens text tokens used old.top.depth (state old.ahead.place scopes nodes old.own) x
      × ((z : Result State Fault) × Passes (record old.top { at = on }) x z × Ends old.users.items z r)

  -- Reading goes on, and leads from here to nothing but what it led to from before; or it has come to its end.
  abbrev pub IsTurned : Bool → Progress → Names → List SyntaxNode → Progress → Names → List SyntaxNode → Type 0
  IsTurned true old scopes nodes new scopes' nodes' =
      (r : Result State Fault) → Leads new scopes' nodes' r → Leads old scopes nodes r
  IsTurned false old scopes nodes new scopes' nodes' =
      Leads old scopes nodes (Ok (state new.ahead.place scopes' nodes' new.own))

-- Where the levels from one outwards end behind their first parts at a terminal, their nodes are made, and what the
-- level that goes on then leads to, the first one led to.
abbrev pub IsRaised : ℕ → ℕ → ℕ → Part → List Node → Part → List Node → Type 0
IsRaised outermost token a from nodes to nodes' =
    (text : List ℕ) (tokens : List Token) (place : ℕ) (scopes : Names) → terminal text tokens scopes place ≡ a
    → (own : Kept) (z : Result State Fault)
    → GoesOn text tokens outermost to.level to.depth token own (at_part place scopes nodes' to.number) z
    → GoesOn text tokens outermost from.level from.depth token own (at_part place scopes nodes from.number) z
