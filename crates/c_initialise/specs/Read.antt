-- What the nodes of an initialiser are read as.
use Rattle.std.specs.Prelude.{ℕ, ◌≡◌, ◌<◌, List, [], map, length, cond, nat_lt, Option, Some, None, get_or, Result}
use Rattle.std.specs.Prelude.{Ok, Err}
use Rattle.c_types.specs.Table.{Table, type_of}
use Rattle.c_inits.specs.Initial.{NoPlace}
use Rattle.c_inits.specs.Tables.{shape_in}
use Rattle.c_initialise.specs.declared.c_braces.items.Initialised.{Initialised}
use Rattle.c_initialise.specs.c_braces.Initialised.{IsGiven, outcome_for}
use Rattle.c_grammar.specs.declared.trees.SyntaxNode.{SyntaxNode}
use Rattle.c_inits.specs.View.{Source, SyntaxPart, AnItem, Other, parts}
use Rattle.c_inits.specs.Syntax.{Designator, Init}
use Rattle.c_inits.specs.Designated.{designator_of}
use Rattle.c_initialise.specs.declared.c_braces.tree.InitNode.{InitNode}
use Rattle.c_initialise.specs.declared.c_braces.tree.InitEntry.{InitEntry}
use Rattle.c_initialise.specs.c_braces.Tree.{init_at}

-- what node i of a tree is to an initialiser
unfoldable pub part_at : Source → List SyntaxNode → ℕ → SyntaxPart
part_at s nodes i = get_or (parts s [] 0 nodes) i Other

-- what stands before a node
abbrev pub before : ℕ → (ℕ → SyntaxPart) → ℕ → SyntaxPart
before i part j = cond (nat_lt j i) (part j) Other

-- an item of a braced list, or one without an initialiser
abbrev pub IsItem : Table → List InitNode → SyntaxPart → Option InitEntry → Type 0
IsItem table inits part None = (ds : List Designator) × (part ≡ AnItem ds None)
IsItem table inits part (Some e) =
    (e.init < length inits)
    × (part ≡ AnItem (map designator_of e.designators.items) (Some (init_at table inits e.init)))

-- the items that last with the length, or the first node without a place
abbrev pub Answers : Table → (limit id : ℕ) → Init → Result Initialised ℕ → Type 0
Answers table limit id init (Ok made) = IsGiven (type_of table id) (outcome_for (shape_in table limit id) init) made
Answers table limit id init (Err bad) = outcome_for (shape_in table limit id) init ≡ NoPlace bad
