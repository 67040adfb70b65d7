-- A valid unit: each node in its row, and each node and entity where it may stand.
use Rattle.std.specs.Prelude.{ℕ, ℤ, ◌≡◌, ◌≢◌, ◌<◌, ◌≤◌, ⊤, Bool, true, false, List, [], ◌∷◌, Option, Some, None}
use Rattle.std.specs.Prelude.{IfSome, slice_get, length, ◌⊎◌, All}
use Rattle.c_types.specs.Trees.{Ctype}
use Rattle.c_types.specs.Table.{type_of}
use Rattle.pta_base.specs.declared.place.Place.{Place}
use Rattle.core_tree.specs.declared.node.Unit.{Unit}
use Rattle.core_tree.specs.declared.node.Program.{Program}
use Rattle.core_tree.specs.declared.node.Node.{Node}
use Rattle.core_tree.specs.declared.node.Entity.{Entity}
use Rattle.core_tree.specs.declared.node.Linkage.TheVariants.{External}
use Rattle.core_tree.specs.declared.node.Storage.{Storage}
use Rattle.core_tree.specs.declared.node.Storage.TheVariants.{Static, Automatic, FunctionBody, Parameter, Declared}
use Rattle.core_tree.specs.declared.node.NodeKind.{NodeKind}
use Rattle.core_tree.specs.declared.node.NodeKind.TheVariants.{Named, Text, Literal, FunctionName, Deref, Member}
use Rattle.core_tree.specs.declared.node.NodeKind.TheVariants.{Number, NullValue, AddressOf, Decay, PointerAdd}
use Rattle.core_tree.specs.declared.node.NodeKind.TheVariants.{Convert, Upcast, Choose, CallNode, Arith, VarArgs, Block}
use Rattle.core_tree.specs.declared.node.NodeKind.TheVariants.{While, DoWhile, For, Switch, Case, Default, Label}
use Rattle.core_tree.specs.declared.node.NodeKind.TheVariants.{Goto, Break, Continue, Return, Initialise}
use Rattle.core_tree.specs.Typed.{CoreTrees, trees_of, trees_in, LacksLength, ValueNode, sort_of, type_at}
use Rattle.core_tree.specs.Typed.{IsInteger, IsPointer, IsAggregate}
use Rattle.core_tree.specs.Rows.{RowOf, IsFunction, Initialises}
use Rattle.type_rules.specs.Kinds.{IsEntryType}
use Rattle.type_rules.specs.Sizes.{HasSize, IsOpenIn, TagsHaveSizes, ResultHasSize}
pub use Rattle.core_tree.specs.Rows.{InitialisesEntity, Has}
pub use Rattle.core_tree.specs.Range.{node_at, entity_at, EachNode, EachEntity, SomeNode, SomeEntity, child_in}
pub use Rattle.core_tree.specs.Range.{child_at, IsChild, Under, here, below, named_by, listed_by, listed_in}
pub use Rattle.core_tree.specs.Range.{InRange, ChildOnce, OncePlaced, OnlyHolder, HoldsOnce, OnceHeld}
pub use Rattle.core_tree.specs.Linkages.{Linkages}
pub use Rattle.type_rules.specs.Sizes.{with_one, HasSignature}
pub use Rattle.type_rules.specs.Conversions.{result_of}

-- each node stands in the row of its kind
abbrev pub InRow : CoreTrees → Node → Type 0
InRow u node = RowOf u node.kind (type_of u.types node.ty.0) node.children

abbrev pub InRows : CoreTrees → Type 0
InRows u = EachNode u (λ n node. InRow u node)

abbrev pub IsFunctionEntity : CoreTrees → Entity → Type 0
IsFunctionEntity u entity = IsFunction (type_of u.types entity.ty.0)

abbrev pub IsFunctionIn : CoreTrees → Option Entity → Type 0
IsFunctionIn u None = ⊥
IsFunctionIn u (Some entity) = IsFunctionEntity u entity

-- an automatic object or a parameter has an owner, and each owner is a function
abbrev pub IsLocal : Storage → Type 0
IsLocal Automatic = ⊤
IsLocal Parameter = ⊤
IsLocal storage = ⊥

abbrev pub IsOwned : CoreTrees → Storage → Option ℕ → Type 0
IsOwned u storage None = IsLocal storage → ⊥
IsOwned u storage (Some f) = IsFunctionIn u (entity_at u f)

abbrev pub Owned : CoreTrees → Type 0
Owned u = EachEntity u (λ e entity. IsOwned u entity.storage entity.owner)

abbrev pub IsBlock : NodeKind → Type 0
IsBlock (Block es) = ⊤
IsBlock kind = ⊥

abbrev pub IsBlockIn : Option Node → Type 0
IsBlockIn None = ⊥
IsBlockIn (Some node) = IsBlock node.kind

-- a function's body is a block that is no node's child
pub record IsFunctionBody (u : CoreTrees) (entity : Entity) (b : ℕ) : Type 0 where
  pub function : IsFunctionEntity u entity
  pub storage : entity.storage ≡ FunctionBody
  pub block : IsBlockIn (node_at u b)
  pub top : EachNode u (λ n node. Has node.children b → ⊥)

-- an object's body is its own Initialise
pub record IsObjectBody (u : CoreTrees) (e : ℕ) (entity : Entity) (b : ℕ) : Type 0 where
  pub object : IsFunctionEntity u entity → ⊥
  pub storage : entity.storage ≢ FunctionBody
  pub initialises : Initialises u b e

-- no other entity has the body
abbrev pub OnlyBody : CoreTrees → ℕ → ℕ → Type 0
OnlyBody u e b = EachEntity u (λ d other. other.body ≡ Some b → d ≡ e)

abbrev pub HasBody : CoreTrees → ℕ → Entity → Option ℕ → Type 0
HasBody u e entity None = entity.storage ≢ FunctionBody
HasBody u e entity (Some b) = (IsFunctionBody u entity b ⊎ IsObjectBody u e entity b) × OnlyBody u e b

abbrev pub Bodied : CoreTrees → Type 0
Bodied u = EachEntity u (λ e entity. HasBody u e entity entity.body)

abbrev pub UnderBody : CoreTrees → Option ℕ → ℕ → Type 0
UnderBody u None n = ⊥
UnderBody u (Some b) n = Under u b n

abbrev pub InBodyOf : CoreTrees → Option Entity → ℕ → Type 0
InBodyOf u None n = ⊥
InBodyOf u (Some function) n = IsFunctionEntity u function × UnderBody u function.body n

-- the node stands in the body of that function
abbrev pub InBody : CoreTrees → ℕ → ℕ → Type 0
InBody u f n = InBodyOf u (entity_at u f) n

-- the function has a body, in which the node stands
abbrev pub IsAround : CoreTrees → ℕ → Entity → Type 0
IsAround u n entity = (entity.storage ≡ FunctionBody) × UnderBody u entity.body n

pub record InSomeBody (u : CoreTrees) (n : ℕ) : Type 0 where
  pub some : SomeEntity u (λ f entity. IsAround u n entity)

-- a local stands in its owner's body
abbrev pub InOwnersBody : CoreTrees → Option ℕ → ℕ → Type 0
InOwnersBody u None n = ⊥
InOwnersBody u (Some f) n = InBody u f n

abbrev pub InOwnerIn : CoreTrees → Option Entity → ℕ → Type 0
InOwnerIn u None n = ⊤
InOwnerIn u (Some entity) n = IsLocal entity.storage → InOwnersBody u entity.owner n

-- the names and literals of locals stand in their owner's body, and the list of what a function was passed past its
-- parameters in that function's
abbrev pub IsInOwner : CoreTrees → ℕ → NodeKind → Type 0
IsInOwner u n (Named e) = InOwnerIn u (entity_at u e) n
IsInOwner u n (Literal e) = InOwnerIn u (entity_at u e) n
IsInOwner u n (VarArgs e) = InBody u e n
IsInOwner u n kind = ⊤

abbrev pub InOwner : CoreTrees → Type 0
InOwner u = EachNode u (λ n node. IsInOwner u n node.kind)

abbrev pub IsLiteralOf : NodeKind → ℕ → Type 0
IsLiteralOf (Literal o) e = o ≡ e
IsLiteralOf kind e = ⊥

-- an entity that lives for the whole run or with its block
abbrev pub IsLasting : Option Entity → Type 0
IsLasting None = ⊥
IsLasting (Some entity) = (entity.storage ≡ Static) ⊎ (entity.storage ≡ Automatic)

-- no other Literal makes the entity
abbrev pub OnlyLiteral : CoreTrees → ℕ → ℕ → Type 0
OnlyLiteral u n e = EachNode u (λ m other. IsLiteralOf other.kind e → m ≡ n)

-- a literal's entity lives for the whole run or with its block, and one Literal alone makes it
abbrev pub IsLiteral : CoreTrees → ℕ → NodeKind → Type 0
IsLiteral u n (Literal e) = IsLasting (entity_at u e) × OnlyLiteral u n e
IsLiteral u n kind = ⊤

abbrev pub Literals : CoreTrees → Type 0
Literals u = EachNode u (λ n node. IsLiteral u n node.kind)

-- no Literal makes the entity
pub record NoLiteral (u : CoreTrees) (e : ℕ) : Type 0 where
  pub each : EachNode u (λ n node. IsLiteralOf node.kind e → ⊥)

abbrev pub IsNamedOrMade : NodeKind → ℕ → Type 0
IsNamedOrMade (Named o) e = o ≡ e
IsNamedOrMade (Initialise o paths) e = o ≡ e
IsNamedOrMade kind e = ⊥

-- the names and initialisers of an entity stand under that node
pub record NamesUnder (u : CoreTrees) (e at : ℕ) : Type 0 where
  pub each : EachNode u (λ n node. IsNamedOrMade node.kind e → Under u at n)

-- the node lists the entity, in its owner's body, and has the entity's names and initialiser under it
unfoldable pub IsLister : CoreTrees → ℕ → ℕ → ℕ → Node → Type 0
IsLister u e f at node = Has (listed_in node) e × InBody u f at × NamesUnder u e at

-- some node lists the entity
pub record HasLister (u : CoreTrees) (e f : ℕ) : Type 0 where
  pub some : SomeNode u (λ at node. IsLister u e f at node)

-- an automatic object that no literal makes is listed once, in its owner's body, and its names and its Initialise
-- stand under that list
pub record Listed (u : CoreTrees) (e f : ℕ) : Type 0 where
  pub lister : HasLister u e f
  pub once : OnceHeld u listed_in e

abbrev pub IsListed : CoreTrees → ℕ → Entity → Type 0
IsListed u e entity = entity.storage ≡ Automatic → NoLiteral u e → IfSome entity.owner (λ f. Listed u e f)

abbrev pub AllListed : CoreTrees → Type 0
AllListed u = EachEntity u (λ e entity. IsListed u e entity)

-- what a list holds: automatic objects of the function in whose body it stands, which no literal makes
abbrev pub IsListableIn : CoreTrees → ℕ → ℕ → Option Entity → Type 0
IsListableIn u n e None = ⊥
IsListableIn u n e (Some entity) = (entity.storage ≡ Automatic) × NoLiteral u e × InOwnersBody u entity.owner n

abbrev pub IsListable : CoreTrees → ℕ → ℕ → Type 0
IsListable u n e = IsListableIn u n e (entity_at u e)

abbrev pub ListsRight : CoreTrees → Type 0
ListsRight u = EachNode u (λ n node. All (λ e. IsListable u n e) (listed_by node.kind))

-- what an initialiser of a static object may hold
abbrev pub KindIs : CoreTrees → ℕ → NodeKind → List ℕ → Type 0
KindIs u n kind children =
    (node : Node) × (node_at u n ≡ Some node) × (node.kind ≡ kind) × (node.children ≡ children)

abbrev pub IsStaticIn : Option Entity → Type 0
IsStaticIn None = ⊥
IsStaticIn (Some entity) = IsLocal entity.storage → ⊥

-- no automatic object and no parameter
abbrev pub IsStaticEntity : CoreTrees → ℕ → Type 0
IsStaticEntity u e = IsStaticIn (entity_at u e)

abbrev pub IsNumber : NodeKind → Type 0
IsNumber (Number n) = ⊤
IsNumber kind = ⊥

-- kinds that make a fixed number of fixed numbers
abbrev pub MakesNumber : NodeKind → Type 0
MakesNumber (Arith op) = ⊤
MakesNumber Choose = ⊤
MakesNumber Convert = ⊤
MakesNumber kind = ⊥

pub data FixedNumber (u : CoreTrees) : ℕ → Type 0 where
  plain : {n : ℕ} {node : Node} → node_at u n ≡ Some node → IsNumber node.kind → FixedNumber u n
  made : {n : ℕ} {node : Node}
      → node_at u n ≡ Some node
      → MakesNumber node.kind
      → IsInteger (type_of u.types node.ty.0)
      → ((k c : ℕ) → slice_get node.children k ≡ Some c → FixedNumber u c)
      → FixedNumber u n

mutual
  pub data FixedPlace (u : CoreTrees) : ℕ → Type 0 where
    text : {n : ℕ} {bytes : List ℕ} → KindIs u n (Text bytes) [] → FixedPlace u n
    function : {n e : ℕ} → KindIs u n (FunctionName e) [] → FixedPlace u n
    object : {n e : ℕ} → KindIs u n (Named e) [] → IsStaticEntity u e → FixedPlace u n
    literal : {n e i : ℕ} → KindIs u n (Literal e) (i ∷ []) → IsStaticEntity u e → FixedPlace u n
    member : {n k p : ℕ} → KindIs u n (Member k) (p ∷ []) → FixedPlace u p → FixedPlace u n
    target : {n v : ℕ} → KindIs u n Deref (v ∷ []) → FixedPointer u v → FixedPlace u n

  pub data FixedPointer (u : CoreTrees) : ℕ → Type 0 where
    null : {n : ℕ} → KindIs u n NullValue [] → FixedPointer u n
    address : {n p : ℕ} → KindIs u n AddressOf (p ∷ []) → FixedPlace u p → FixedPointer u n
    decay : {n p : ℕ} → KindIs u n Decay (p ∷ []) → FixedPlace u p → FixedPointer u n
    upcast : {n v : ℕ} → KindIs u n Upcast (v ∷ []) → FixedPointer u v → FixedPointer u n
    converted : {n v : ℕ}
        → KindIs u n Convert (v ∷ [])
        → IsPointer (type_at u n)
        → FixedPointer u v
        → FixedPointer u n
    moved : {n v i : ℕ} {minus : Bool}
        → KindIs u n (PointerAdd minus) (v ∷ i ∷ [])
        → FixedPointer u v
        → FixedNumber u i
        → FixedPointer u n

abbrev pub IsFixed : CoreTrees → ℕ → Type 0
IsFixed u n = FixedNumber u n ⊎ FixedPointer u n

abbrev pub LivesForTheRun : Option Entity → Type 0
LivesForTheRun None = ⊥
LivesForTheRun (Some entity) = entity.storage ≡ Static

-- each value in the initialiser of a static object is fixed
abbrev pub HoldsFixed : CoreTrees → NodeKind → List ℕ → Type 0
HoldsFixed u (Initialise e paths) children = LivesForTheRun (entity_at u e) → All (λ c. IsFixed u c) children
HoldsFixed u kind children = ⊤

abbrev pub FixedStatics : CoreTrees → Type 0
FixedStatics u = EachNode u (λ n node. HoldsFixed u node.kind node.children)

abbrev pub IsLoop : NodeKind → Type 0
IsLoop While = ⊤
IsLoop DoWhile = ⊤
IsLoop (For es c a) = ⊤
IsLoop kind = ⊥

abbrev pub IsSwitch : NodeKind → Type 0
IsSwitch Switch = ⊤
IsSwitch kind = ⊥

-- a switch, or a loop
abbrev pub Encloses : Bool → NodeKind → Type 0
Encloses true kind = IsSwitch kind
Encloses false kind = IsLoop kind

-- a switch, or a loop, stands above the node
pub record Within (u : CoreTrees) (switch : Bool) (n : ℕ) : Type 0 where
  pub some : SomeNode u (λ top node. Encloses switch node.kind × Under u top n)

-- where a kind of node may stand
abbrev pub MayStand : CoreTrees → ℕ → NodeKind → Type 0
MayStand u n CallNode = InSomeBody u n
MayStand u n Return = InSomeBody u n
MayStand u n Break = InSomeBody u n × (Within u false n ⊎ Within u true n)
MayStand u n Continue = InSomeBody u n × Within u false n
MayStand u n (Case k) = InSomeBody u n × Within u true n
MayStand u n Default = InSomeBody u n × Within u true n
MayStand u n (Goto name) = InSomeBody u n
MayStand u n (Label name) = InSomeBody u n
MayStand u n kind = ⊤

abbrev pub Standing : CoreTrees → Type 0
Standing u = EachNode u (λ n node. MayStand u n node.kind)

abbrev pub IsLabel : List ℕ → NodeKind → Type 0
IsLabel name (Label other) = other ≡ name
IsLabel name kind = ⊥

-- the label at that node of the body
abbrev pub IsLabelOf : CoreTrees → ℕ → List ℕ → ℕ → NodeKind → Type 0
IsLabelOf u body name n kind = IsLabel name kind × Under u body n

-- no other node of the body is that label
pub record OnlyLabel (u : CoreTrees) (body : ℕ) (name : List ℕ) (n : ℕ) : Type 0 where
  pub each : EachNode u (λ m other. IsLabelOf u body name m other.kind → n ≡ m)

-- the label stands in the body exactly once
pub record LabelOnce (u : CoreTrees) (body : ℕ) (name : List ℕ) : Type 0 where
  pub some : SomeNode u (λ n node. IsLabelOf u body name n node.kind × OnlyLabel u body name n)

-- a returned value has its function's result type
abbrev pub ReturnsRight : CoreTrees → Entity → List ℕ → Type 0
ReturnsRight u entity (v ∷ []) = type_at u v ≡ result_of (type_of u.types entity.ty.0)
ReturnsRight u entity children = ⊤

-- what a body asks of a node that stands in it: the label of each goto, and the type of what is returned
abbrev pub FitsBody : CoreTrees → Entity → ℕ → NodeKind → List ℕ → Type 0
FitsBody u entity b (Goto name) children = LabelOnce u b name
FitsBody u entity b Return children = ReturnsRight u entity children
FitsBody u entity b kind children = ⊤

-- the node fits the function, if it stands in its body
pub record FitsFunction (u : CoreTrees) (n : ℕ) (node : Node) (entity : Entity) : Type 0 where
  pub fits : entity.storage ≡ FunctionBody
      → IfSome entity.body (λ b. Under u b n → FitsBody u entity b node.kind node.children)

-- each node fits the function in whose body it stands
pub record FitsFunctions (u : CoreTrees) (n : ℕ) (node : Node) : Type 0 where
  pub each : EachEntity u (λ e entity. FitsFunction u n node entity)

abbrev pub InFunctions : CoreTrees → Type 0
InFunctions u = EachNode u (λ n node. FitsFunctions u n node)

-- a type that has a size and a number of nodes
abbrev pub IsMeasured : CoreTrees → Ctype → Type 0
IsMeasured u t = HasSize u.types t

abbrev pub IsOpen : CoreTrees → Ctype → Type 0
IsOpen u t = IsOpenIn u.types t

-- an object has a size, or is only declared; and only one of external linkage lacks a length
pub record Sized (u : CoreTrees) (entity : Entity) : Type 0 where
  pub measured : IsMeasured u (with_one (type_of u.types entity.ty.0))
      ⊎ ((entity.storage ≡ Declared) × IsOpen u (type_of u.types entity.ty.0))
  pub length : LacksLength (type_of u.types entity.ty.0) → entity.linkage ≡ External

abbrev pub EntitySized : CoreTrees → Entity → Type 0
EntitySized u entity = IsFunctionEntity u entity ⊎ Sized u entity

abbrev pub ResultSized : CoreTrees → Entity → Type 0
ResultSized u entity = entity.storage ≡ FunctionBody → ResultHasSize u.types (type_of u.types entity.ty.0)

-- a value of structure or union type has a size
abbrev pub ValueSized : CoreTrees → Node → Type 0
ValueSized u node =
    sort_of node.kind ≡ ValueNode
    → IsAggregate (type_of u.types node.ty.0)
    → IsMeasured u (type_of u.types node.ty.0)

pub record Measured (u : CoreTrees) : Type 0 where
  pub objects : EachEntity u (λ e entity. EntitySized u entity)
  pub tags : TagsHaveSizes u.types
  pub values : EachNode u (λ n node. ValueSized u node)
  pub results : EachEntity u (λ e entity. ResultSized u entity)

-- a switch that stands between that switch and the case is that one
pub record IsInnermost (u : CoreTrees) (switch case n : ℕ) (kind : NodeKind) : Type 0 where
  pub same : IsSwitch kind → Under u switch n → Under u n case → n ≡ switch

pub record Innermost (u : CoreTrees) (switch case : ℕ) : Type 0 where
  pub each : EachNode u (λ n node. IsInnermost u switch case n node.kind)

-- the case stands in that switch, and in no switch within it
pub record IsCaseOf (u : CoreTrees) (switch case : ℕ) : Type 0 where
  pub under : Under u switch case
  pub innermost : Innermost u switch case

-- a case of that number, or `default` where there is none
abbrev pub IsCase : Option ℤ → NodeKind → Type 0
IsCase (Some x) (Case y) = y ≡ x
IsCase None Default = ⊤
IsCase x kind = ⊥

-- no other case of the switch has the number
pub record OnlyCase (u : CoreTrees) (s a : ℕ) (x : Option ℤ) : Type 0 where
  pub each : EachNode u (λ b other. IsCase x other.kind → IsCaseOf u s b → a ≡ b)

-- the case differs from the others of that switch, if it stands in it
unfoldable pub DiffersIn : CoreTrees → ℕ → Option ℤ → ℕ → NodeKind → Type 0
DiffersIn u a x s kind = IsSwitch kind → IsCaseOf u s a → OnlyCase u s a x

-- the case differs from the others of its switch
pub record DiffersInAll (u : CoreTrees) (a : ℕ) (x : Option ℤ) : Type 0 where
  pub each : EachNode u (λ s node. DiffersIn u a x s node.kind)

-- the cases of one switch differ, and one of them at most is `default`
abbrev pub CaseDiffers : CoreTrees → ℕ → NodeKind → Type 0
CaseDiffers u a (Case x) = DiffersInAll u a (Some x)
CaseDiffers u a Default = DiffersInAll u a None
CaseDiffers u a kind = ⊤

abbrev pub DistinctCases : CoreTrees → Type 0
DistinctCases u = EachNode u (λ n node. CaseDiffers u n node.kind)

-- the order of places: by unit, line and column
abbrev pub PlaceAtMost : Place → Place → Type 0
PlaceAtMost p q =
    (p.unit < q.unit) ⊎ ((p.unit ≡ q.unit) × ((p.line < q.line) ⊎ ((p.line ≡ q.line) × (p.column ≤ q.column))))

abbrev pub IsUseOf : NodeKind → ℕ → Type 0
IsUseOf (Named o) e = o ≡ e
IsUseOf (FunctionName o) e = o ≡ e
IsUseOf kind e = ⊥

-- a node at that place names the entity
abbrev pub IsUseAt : ℕ → Place → Node → Type 0
IsUseAt e p node = IsUseOf node.kind e × (node.place ≡ p)

pub record UsedAt (u : CoreTrees) (e : ℕ) (p : Place) : Type 0 where
  pub some : SomeNode u (λ n node. IsUseAt e p node)

-- no node before that place names the entity
pub record UsedFrom (u : CoreTrees) (e : ℕ) (p : Place) : Type 0 where
  pub each : EachNode u (λ n node. IsUseOf node.kind e → PlaceAtMost p node.place)

-- the least place of the nodes that name the entity, or none where there is none
abbrev pub IsUsed : CoreTrees → ℕ → Option Place → Type 0
IsUsed u e None = EachNode u (λ n node. IsUseOf node.kind e → ⊥)
IsUsed u e (Some p) = UsedAt u e p × UsedFrom u e p

abbrev pub UsesRight : CoreTrees → Type 0
UsesRight u = EachEntity u (λ e entity. IsUsed u e entity.used)

-- what units and programs have in common
pub record Valid (u : CoreTrees) : Type 0 where
  pub in_range : InRange u
  pub child_once : ChildOnce u
  pub rows : InRows u
  pub owned : Owned u
  pub bodied : Bodied u
  pub in_owner : InOwner u
  pub literals : Literals u
  pub listed : AllListed u
  pub lists : ListsRight u
  pub fixed : FixedStatics u
  pub standing : Standing u
  pub functions : InFunctions u
  pub cases : DistinctCases u
  pub uses : UsesRight u
  pub measured : Measured u

-- no other tag has the key
pub record OnlyKey (keys : List (Option (List ℕ))) (i : ℕ) (key : List ℕ) : Type 0 where
  pub each : (j : ℕ) (other : Option (List ℕ)) → slice_get keys j ≡ Some other → other ≡ Some key → i ≡ j

abbrev pub KeyedOnce : List (Option (List ℕ)) → ℕ → Option (List ℕ) → Type 0
KeyedOnce keys i None = ⊤
KeyedOnce keys i (Some key) = OnlyKey keys i key

-- one key or none for each tag, and no key twice
pub record Keyed (tags : ℕ) (keys : List (Option (List ℕ))) : Type 0 where
  pub each : length keys ≡ tags
  pub once : (i : ℕ) (key : Option (List ℕ)) → slice_get keys i ≡ Some key → KeyedOnce keys i key

pub record ValidUnit (unit : Unit) : Type 0 where
  pub trees : Valid (trees_of unit)
  pub keys : Keyed unit.types.tags unit.tags.items
  pub linkages : Linkages (trees_of unit)

-- a function with a body and without parameters has its type with the list (void) in the table
abbrev pub IsSigned : CoreTrees → Entity → Type 0
IsSigned u entity = entity.storage ≡ FunctionBody → HasSignature u.types (type_of u.types entity.ty.0)

-- an object that has its place has a length
abbrev pub HasLength : CoreTrees → Entity → Type 0
HasLength u entity =
    (entity.storage ≡ Static) ⊎ (entity.storage ≡ Automatic) → LacksLength (type_of u.types entity.ty.0) → ⊥

-- the units of an entity and of its place are the program's
abbrev pub InUnits : ℕ → Entity → Type 0
InUnits units entity = (entity.unit < units) × (entity.place.unit < units)

-- a function at which a program may be entered: of external linkage, with a body, of integers and pointers alone
pub record IsEntry (u : CoreTrees) (entity : Entity) : Type 0 where
  pub linkage : entity.linkage ≡ External
  pub storage : entity.storage ≡ FunctionBody
  pub type : IsEntryType (type_of u.types entity.ty.0)

-- that number is of an entity at which the program may be entered
abbrev pub IsEntryAt : CoreTrees → ℕ → Type 0
IsEntryAt u e = (entity : Entity) × (entity_at u e ≡ Some entity) × IsEntry u entity

pub record ValidProgram (program : Program) : Type 0 where
  pub trees : Valid (trees_in program)
  pub signatures : EachEntity (trees_in program) (λ e entity. IsSigned (trees_in program) entity)
  pub lengths : EachEntity (trees_in program) (λ e entity. HasLength (trees_in program) entity)
  pub entities : EachEntity (trees_in program) (λ e entity. InUnits (length program.names.items) entity)
  pub nodes : EachNode (trees_in program) (λ n node. node.place.unit < length program.names.items)
  pub entries : All (λ e. IsEntryAt (trees_in program) e) program.entries.items
