-- In which scopes each node stands (C11 6.2.1).
use Rattle.std.specs.Prelude.{◌≡◌, ℕ, ◌+◌, ◌<◌, ◌≤◌, Option, Some, None, List, [], ◌∷◌, ◌++◌, length, slice_get}
use Rattle.std.specs.Prelude.{slice_index_or, if◌then◌else◌}
use Rattle.c_lexer.specs.declared.Token.{Token}
use Rattle.c_grammar.specs.Reads.{Node}
use Rattle.c_grammar.specs.Terminals.{contains}
use Rattle.c_mentions.specs.declared.settings.Scope.{Scope}
use Rattle.c_mentions.specs.declared.settings.Setting.{Setting}
use Rattle.c_mentions.specs.declared.settings.Settings.{Settings}
use Rattle.c_mentions.specs.declared.roles.Role.{Role}
use Rattle.c_mentions.specs.declared.roles.Role.TheVariants.{Elsewhere}
use Rattle.c_mentions.specs.Roles.{handed, opened, is_body}

-- Where a node stands: the scopes around it, the innermost one first, each by the number of the node that opens it
-- and the file's by the number of nodes; the body of the function around it, or else the number of nodes; and its
-- role below its parent.
pub record Standing : Type 0 where
  pub scopes : List ℕ
  pub body : ℕ
  pub role : Role

abbrev pub with_scope : Option ℕ → List ℕ → List ℕ
with_scope None scopes = scopes
with_scope (Some scope) scopes = scope ∷ scopes

-- outside of everything there is the file's scope alone
abbrev pub outermost : ℕ → Standing
outermost file = record { scopes = file ∷ []; body = file; role = Elsewhere }

module _ (tokens : List Token) (nodes : List Node) where
  -- where the children of a node stand
  abbrev pub handed_down : ℕ → Standing → Standing
  handed_down n s = record {
    scopes = with_scope (opened tokens nodes n s.role) s.scopes;
    body = if is_body nodes n s.role then n else s.body;
    role = handed tokens nodes n s.role;
  }

  -- where node i stands by the nodes behind it, from number m on: its parent is the first of them that has it as a
  -- child
  abbrev pub standing : ℕ → ℕ → List Node → List Standing → Standing
  standing i m [] ss = outermost (length nodes)
  standing i m (n ∷ ns) [] = outermost (length nodes)
  standing i m (n ∷ ns) (s ∷ ss) = if contains n.children i then handed_down m s else standing i (m + 1) ns ss

  -- where nodes stand that have the numbers from i on, each by those behind it
  abbrev pub standings : ℕ → List Node → List Standing
  standings i [] = []
  standings i (n ∷ ns) = let later = standings (i + 1) ns in standing i (i + 1) ns later ∷ later

-- the scopes from a place of a list of scopes outwards are these
abbrev pub IsChain : List Scope → ℕ → List ℕ → Type 0
IsChain scopes at [] = ⊥
IsChain scopes at (scope ∷ []) = slice_get scopes at ≡ Some (record { number = scope; outer = at })
IsChain scopes at (scope ∷ next ∷ others) =
    (outer : ℕ) × (outer < at) × (slice_get scopes at ≡ Some (record { number = scope; outer = outer }))
    × IsChain scopes outer (next ∷ others)

-- the code's setting says where a node stands
pub record Stands (scopes : List Scope) (setting : Setting) (s : Standing) : Type 0 where
  pub chain : IsChain scopes setting.scope s.scopes
  pub body : setting.body ≡ s.body
  pub role : setting.role ≡ s.role

-- a list of scopes with more behind it
abbrev pub Extends : List Scope → List Scope → Type 0
Extends old new = (more : List Scope) × (new ≡ old ++ more)

-- the children of a node, as far as they have smaller numbers, got something
pub record Hands {X : Type 0} (children : List ℕ) (node : ℕ) (x : X) (old new : List X) : Type 0 where
  pub count : length new ≡ length old
  pub before : (i : ℕ) (d : X)
      → i < node
      → slice_index_or new i d ≡ (if contains children i then x else slice_index_or old i d)
  pub behind : (i : ℕ) (d : X) → node ≤ i → slice_index_or new i d ≡ slice_index_or old i d

-- the children of a node with a setting, as far as they have smaller numbers, got a setting that says where they
-- stand
pub record HandsDown (tokens : List Token) (nodes : List Node) (scopes now : List Scope) (children : List ℕ)
    (node : ℕ) (setting : Setting) (old new : List Setting) : Type 0 where
  pub within : Setting
  pub extends : Extends scopes now
  pub stands : (s : Standing) → Stands scopes setting s → Stands now within (handed_down tokens nodes node s)
  pub hands : Hands children node within old new

-- settings say where all nodes stand
pub record AreSettings (tokens : List Token) (nodes : List Node) (settings : Settings) : Type 0 where
  pub count : length settings.list ≡ length nodes
  pub each : (i : ℕ) (d : Setting)
      → i < length nodes
      → Stands settings.scopes.items (slice_index_or settings.list i d)
      (slice_index_or (standings tokens nodes 0 nodes) i (outermost (length nodes)))
