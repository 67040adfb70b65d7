-- How the items of frames stand where a library function calls back: the function that is called back on the one that
-- calls it, with pointers into what that one was given.
use Rattle.std.specs.Prelude.{◌≡◌, ◌⊎◌, ℕ, ⊤, List, [], ◌∷◌, ◌++◌, Option, Some, None, Contains}
use Rattle.c_types.specs.declared.key.ObjectKey.{ObjectKey}
use Rattle.c_types.specs.declared.key.ObjectKey.TheVariants.{Entity as EntityKey, Function as FunctionKey}
use Rattle.c_types.specs.declared.term.PathStep.{PathStep}
use Rattle.c_types.specs.declared.term.PathStep.TheVariants.{Index}
use Rattle.ref_cells.specs.declared.cells.Cell.{Cell}
use Rattle.ref_cells.specs.declared.cells.Cell.TheVariants.{Pointer}
use Rattle.ref_cells.specs.declared.cells.Value.{Value}
use Rattle.ref_elements.specs.Arguments.{argument}
use Rattle.ref_state.specs.declared.items.Item.{Item}
use Rattle.ref_state.specs.declared.items.Item.TheVariants.{Wait, Library}
use Rattle.ref_state.specs.declared.frames.Frame.{Frame}
use Rattle.covered_runs.specs.touched_runs.called_frames.Looked.{looked_by}

-- one path, or two elements of one array
abbrev pub AreBeside : List PathStep → List PathStep → Type 0
AreBeside p q =
    (p ≡ q)
    ⊎ ((front : List PathStep) × (i : ℕ) × (j : ℕ) × (p ≡ front ++ Index i ∷ []) × (q ≡ front ++ Index j ∷ []))

-- a pointer goes to where another one goes, or to another element of the array that that is in
abbrev pub LeadsBeside : Cell → Cell → Type 0
LeadsBeside (Pointer i p past) (Pointer j q over) = (i ≡ j) × AreBeside p q
LeadsBeside (Pointer i p past) cell = ⊥
LeadsBeside cell other = ⊤

-- each of a call's arguments that is a pointer leads so to one through which a library function looks at objects
abbrev pub AreOfArguments : ℕ → List Value → List Value → Type 0
AreOfArguments library given arguments =
    (k : ℕ) → (i : ℕ) × Contains (looked_by library) i × LeadsBeside (argument given k) (argument arguments i)

-- a function of the program
abbrev pub IsEntity : ObjectKey → Type 0
IsEntity f = (e : ℕ) × (f ≡ EntityKey e)

-- What a library function that is pending at node n stands on in a frame of function f: on a node that waits for the
-- call; on the library function that calls it back, at the same node; or on nothing, where it is the frame's own
-- function, which was kept for the program's end.
abbrev pub StandsOnCall : ObjectKey → ℕ → ℕ → List Value → List Item → Type 0
StandsOnCall f n k arguments [] = (f ≡ FunctionKey k) × (arguments ≡ [])
StandsOnCall f n k arguments (Wait m left values ∷ rest) = ⊤
StandsOnCall f n k arguments (Library m j others ∷ rest) = (m ≡ n) × AreOfArguments j arguments others × IsEntity f
StandsOnCall f n k arguments (item ∷ rest) = ⊥

-- each library function that is pending in a frame stands so
abbrev pub AreLayered : ObjectKey → List Item → Type 0
AreLayered f [] = ⊤
AreLayered f (Library n k arguments ∷ rest) = StandsOnCall f n k arguments rest × AreLayered f rest
AreLayered f (item ∷ rest) = AreLayered f rest

-- the top item waits at that node
abbrev pub IsCalling : ℕ → List Item → Type 0
IsCalling n (Wait m left values ∷ rest) = m ≡ n
IsCalling n items = ⊥

-- the top item is that library function, pending
abbrev pub IsPendingOn : ℕ → List Item → Type 0
IsPendingOn k (Library n j arguments ∷ rest) = j ≡ k
IsPendingOn k items = ⊥

-- a frame over others: the one below waits at the call that entered it, or is at the library function that did
abbrev pub StandsOver : Option ℕ → Option ℕ → List Frame → Type 0
StandsOver call by [] = ⊤
StandsOver (Some n) by (g ∷ rest) = IsCalling n g.items
StandsOver None (Some k) (g ∷ rest) = IsPendingOn k g.items × IsEntity g.function
StandsOver None None (g ∷ rest) = ⊥

-- the same of each frame
abbrev pub FramesLayered : List Frame → Type 0
FramesLayered [] = ⊤
FramesLayered (f ∷ rest) = AreLayered f.function f.items × StandsOver f.call f.by rest × FramesLayered rest
