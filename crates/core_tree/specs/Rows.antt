-- One row for each kind of node: how it stands over its children.
use Rattle.std.specs.Prelude.{ℕ, ℤ, ◌≡◌, ◌≢◌, ◌+◌, Bool, true, false, ⊤, List, [], ◌∷◌, Option, Some, None}
use Rattle.std.specs.Prelude.{slice_get, length, reverse, ◌⊎◌, All}
use Rattle.c_types.specs.Trees.{Ctype, Ctypes, NoTypes, MoreTypes, VoidType, PointerTo, ArrayOf, FunctionFrom}
use Rattle.c_types.specs.declared.term.Form.{Form}
use Rattle.c_types.specs.declared.term.Form.TheVariants.{Fixed, Variadic, Unspecified}
use Rattle.c_types.specs.declared.term.PathStep.{PathStep}
use Rattle.c_types.specs.Paths.{type_at_path}
use Rattle.c_types.specs.Table.{type_of}
use Rattle.core_tree.specs.declared.node.Node.{Node}
use Rattle.core_tree.specs.declared.node.Entity.{Entity}
use Rattle.core_tree.specs.declared.node.Op.{Op}
use Rattle.core_tree.specs.declared.node.Op.TheVariants.{Multiply, Divide, Remainder, Plus, Minus, ShiftLeft}
use Rattle.core_tree.specs.declared.node.Op.TheVariants.{ShiftRight, Less, Greater, LessEqual, GreaterEqual, Equal}
use Rattle.core_tree.specs.declared.node.Op.TheVariants.{NotEqual, And, Xor, Or, Complement, Not}
use Rattle.core_tree.specs.declared.node.NodeKind.{NodeKind}
use Rattle.core_tree.specs.declared.node.NodeKind.TheVariants.{Named, Text, Literal, FunctionName, Deref, Member}
use Rattle.core_tree.specs.declared.node.NodeKind.TheVariants.{Number, NullValue, Fetch, AddressOf, Decay}
use Rattle.core_tree.specs.declared.node.NodeKind.TheVariants.{PointerAdd, Convert, Upcast, Assign, Update, Choose}
use Rattle.core_tree.specs.declared.node.NodeKind.TheVariants.{Sequence, CallNode, MemberOfValue, Arith, Expression}
use Rattle.core_tree.specs.declared.node.NodeKind.TheVariants.{Block, If, While, DoWhile, For, Switch, Case}
use Rattle.core_tree.specs.declared.node.NodeKind.TheVariants.{Default, Label, Goto, Break, Continue, Return}
use Rattle.core_tree.specs.declared.node.NodeKind.TheVariants.{Initialise, Skip, VarArgs, NextArg}
use Rattle.core_tree.specs.Typed.{CoreTrees, PlaceNode, ValueNode, sort_at, type_at, IsPlace, IsValue, IsStatement}
use Rattle.core_tree.specs.Typed.{IsInteger, IsPointer, IsScalar, IsStored, decayed, Holds, IsPromoted, IsPassed}
use Rattle.core_tree.specs.Typed.{LacksLength, IsList, IsVariadic}
use Rattle.type_rules.specs.Members.{IsMemberOf, width_of}
use Rattle.type_rules.specs.Sizes.{PointsToObject}
use Rattle.type_rules.specs.Conversions.{IsFirstOf}
pub use Rattle.type_rules.specs.Kinds.{IsFunction, IsArray, IsComparable, character, int, long}
pub use Rattle.type_rules.specs.Members.{tag_of, in_list, member_at}
pub use Rattle.type_rules.specs.Conversions.{Agree, Converts}

-- member k of a structure or union
abbrev pub IsMember : CoreTrees → Ctype → ℕ → Ctype → Type 0
IsMember u whole k t = IsMemberOf u.types whole k t

-- the width of a place that is a bit-field
abbrev pub width_at : CoreTrees → NodeKind → List ℕ → Option ℕ
width_at u (Member k) (p ∷ rest) = width_of (member_at u.types (tag_of (type_at u p)) k)
width_at u kind children = None

abbrev pub place_bits : CoreTrees → Option Node → Option ℕ
place_bits u None = None
place_bits u (Some n) = width_at u n.kind n.children

-- the type of an entity
abbrev pub entity_type : CoreTrees → Option Entity → Option Ctype
entity_type u None = None
entity_type u (Some e) = Some (type_of u.types e.ty.0)

abbrev pub IsEntityIn : CoreTrees → Option Entity → Ctype → Type 0
IsEntityIn u None t = ⊥
IsEntityIn u (Some entity) t = Agree t (type_of u.types entity.ty.0)

-- the entity has a type that agrees with this one
abbrev pub IsEntityOf : CoreTrees → ℕ → Ctype → Type 0
IsEntityOf u e t = IsEntityIn u (slice_get u.entities e) t

-- a value of integer type
abbrev pub IsNumeral : CoreTrees → ℕ → Type 0
IsNumeral u n = (sort_at u n ≡ ValueNode) × IsInteger (type_at u n)

-- a place of a variadic list
abbrev pub IsListPlace : CoreTrees → ℕ → Type 0
IsListPlace u n = (sort_at u n ≡ PlaceNode) × IsList (type_at u n)

-- what is tested by a condition
abbrev pub IsCondition : CoreTrees → ℕ → Type 0
IsCondition u n = (sort_at u n ≡ ValueNode) × IsScalar (type_at u n)

-- an argument past the parameters: a promoted value
abbrev pub IsFurther : CoreTrees → ℕ → Type 0
IsFurther u a = (sort_at u a ≡ ValueNode) × IsPassed (type_at u a)

-- a parameter's type for each argument, and promoted values past the last one of a variadic list
abbrev pub Arguments : CoreTrees → Ctypes → Form → List ℕ → Type 0
Arguments u NoTypes Fixed [] = ⊤
Arguments u NoTypes Variadic args = All (λ a. IsFurther u a) args
Arguments u NoTypes Unspecified args = All (λ a. IsFurther u a) args
Arguments u (MoreTypes t rest) Unspecified args = ⊥
Arguments u (MoreTypes t rest) f (a ∷ args) = IsValue u a t × Arguments u rest f args
Arguments u ps f args = ⊥

abbrev pub Calls : CoreTrees → Ctype → Ctype → List ℕ → Type 0
Calls u (PointerTo (FunctionFrom r ps f)) t args = (r ≡ t) × Arguments u ps f args
Calls u callee t args = ⊥

-- the operators of an assignment that computes
abbrev pub IsUpdate : Op → Type 0
IsUpdate Multiply = ⊤
IsUpdate Divide = ⊤
IsUpdate Remainder = ⊤
IsUpdate Plus = ⊤
IsUpdate Minus = ⊤
IsUpdate ShiftLeft = ⊤
IsUpdate ShiftRight = ⊤
IsUpdate And = ⊤
IsUpdate Xor = ⊤
IsUpdate Or = ⊤
IsUpdate op = ⊥

-- the operators that move a pointer
abbrev pub IsMove : Op → Type 0
IsMove Plus = ⊤
IsMove Minus = ⊤
IsMove op = ⊥

-- how an operator stands over one value
abbrev pub Unary : Op → Ctype → Ctype → Type 0
Unary Not a t = IsScalar a × (t ≡ int)
Unary Plus a t = IsPromoted a × (t ≡ a)
Unary Minus a t = IsPromoted a × (t ≡ a)
Unary Complement a t = IsPromoted a × (t ≡ a)
Unary op a t = ⊥

-- a comparison: promoted values of one type, or pointers of one type, to int
abbrev pub Compares : Ctype → Ctype → Ctype → Type 0
Compares a b t = IsComparable a × (a ≡ b) × (t ≡ int)

-- a computation over promoted values of one type
abbrev pub Computes : Ctype → Ctype → Ctype → Type 0
Computes a b t = IsPromoted a × (a ≡ b) × (t ≡ a)

-- a shift: the type is the left value's
abbrev pub Shifts : Ctype → Ctype → Ctype → Type 0
Shifts a b t = IsPromoted a × IsPromoted b × (t ≡ a)

-- a difference of numbers, or of pointers of one type
abbrev pub Subtracts : Ctype → Ctype → Ctype → Type 0
Subtracts (PointerTo a) b t = (PointerTo a ≡ b) × (t ≡ long)
Subtracts a b t = Computes a b t

-- how an operator stands over two values
abbrev pub Binary : Op → Ctype → Ctype → Ctype → Type 0
Binary Minus a b t = Subtracts a b t
Binary Not a b t = ⊥
Binary Complement a b t = ⊥
Binary ShiftLeft a b t = Shifts a b t
Binary ShiftRight a b t = Shifts a b t
Binary Less a b t = Compares a b t
Binary Greater a b t = Compares a b t
Binary LessEqual a b t = Compares a b t
Binary GreaterEqual a b t = Compares a b t
Binary Equal a b t = Compares a b t
Binary NotEqual a b t = Compares a b t
Binary op a b t = Computes a b t

abbrev pub PointsToComplete : CoreTrees → Ctype → Type 0
PointsToComplete u t = PointsToObject u.types t

-- from a pointer to a structure to a pointer to its first member
abbrev pub IsFirst : CoreTrees → Ctype → Ctype → Type 0
IsFirst u a t = IsFirstOf u.types a t

-- the node is the initialiser of that entity
abbrev pub InitialisesEntity : NodeKind → ℕ → Type 0
InitialisesEntity (Initialise o paths) e = o ≡ e
InitialisesEntity kind e = ⊥

abbrev pub InitialisesIn : Option Node → ℕ → Type 0
InitialisesIn None e = ⊥
InitialisesIn (Some n) e = InitialisesEntity n.kind e

abbrev pub Initialises : CoreTrees → ℕ → ℕ → Type 0
Initialises u n e = InitialisesIn (slice_get u.nodes n) e

-- a list has a number in some place
abbrev pub Has : List ℕ → ℕ → Type 0
Has list n = (k : ℕ) × (slice_get list k ≡ Some n)

-- the node is the initialiser of one of those entities
abbrev pub InitialisesOneOf : List ℕ → NodeKind → Type 0
InitialisesOneOf entities (Initialise o paths) = Has entities o
InitialisesOneOf entities kind = ⊥

abbrev pub IsFirstStatement : List ℕ → Option Node → Type 0
IsFirstStatement entities None = ⊥
IsFirstStatement entities (Some n) = InitialisesOneOf entities n.kind

abbrev pub IsExpressionNode : Option Node → Type 0
IsExpressionNode None = ⊥
IsExpressionNode (Some n) = n.kind ≡ Expression

-- one expression alone
abbrev pub IsOneExpression : CoreTrees → List ℕ → Type 0
IsOneExpression u (s ∷ []) = IsExpressionNode (slice_get u.nodes s)
IsOneExpression u first = ⊥

-- the first statements of a For: the initialisers of its objects, or one expression, or none
abbrev pub ForFirst : CoreTrees → List ℕ → List ℕ → Type 0
ForFirst u entities first =
    All (λ s. IsFirstStatement entities (slice_get u.nodes s)) first ⊎ IsOneExpression u first

-- a value for each path, of the type at that path
abbrev pub InitialValues : CoreTrees → Option Ctype → List (List PathStep) → List ℕ → Type 0
InitialValues u t [] [] = ⊤
InitialValues u t (path ∷ paths) (v ∷ values) =
    (sort_at u v ≡ ValueNode) × (type_at_path u.types t path ≡ Some (type_at u v)) × InitialValues u t paths values
InitialValues u t paths values = ⊥

-- places

abbrev pub NamedRow : CoreTrees → ℕ → Ctype → List ℕ → Type 0
NamedRow u e t [] = IsEntityOf u e t × (IsFunction t → ⊥)
NamedRow u e t children = ⊥

abbrev pub TextRow : List ℕ → Ctype → List ℕ → Type 0
TextRow bytes t [] = t ≡ ArrayOf character (Some (length bytes + 1))
TextRow bytes t children = ⊥

abbrev pub LiteralRow : CoreTrees → ℕ → Ctype → List ℕ → Type 0
LiteralRow u e t (i ∷ []) = (entity_type u (slice_get u.entities e) ≡ Some t) × Initialises u i e
LiteralRow u e t children = ⊥

abbrev pub FunctionNameRow : CoreTrees → ℕ → Ctype → List ℕ → Type 0
FunctionNameRow u e t [] = IsEntityOf u e t × IsFunction t
FunctionNameRow u e t children = ⊥

abbrev pub DerefRow : CoreTrees → Ctype → List ℕ → Type 0
DerefRow u t (v ∷ []) = IsValue u v (PointerTo t) × (t ≢ VoidType)
DerefRow u t children = ⊥

abbrev pub MemberRow : CoreTrees → ℕ → Ctype → List ℕ → Type 0
MemberRow u k t (p ∷ []) = (sort_at u p ≡ PlaceNode) × IsMember u (type_at u p) k t × (LacksLength t → ⊥)
MemberRow u k t children = ⊥

-- values

abbrev pub NumberRow : ℤ → Ctype → List ℕ → Type 0
NumberRow n t [] = Holds t n
NumberRow n t children = ⊥

abbrev pub NullRow : Ctype → List ℕ → Type 0
NullRow t [] = IsPointer t
NullRow t children = ⊥

abbrev pub FetchRow : CoreTrees → Ctype → List ℕ → Type 0
FetchRow u t (p ∷ []) = IsPlace u p t × IsStored t
FetchRow u t children = ⊥

abbrev pub AddressRow : CoreTrees → Ctype → List ℕ → Type 0
AddressRow u t (p ∷ []) =
    (sort_at u p ≡ PlaceNode) × (t ≡ PointerTo (type_at u p)) × (place_bits u (slice_get u.nodes p) ≡ None)
AddressRow u t children = ⊥

abbrev pub DecayRow : CoreTrees → Ctype → List ℕ → Type 0
DecayRow u t (p ∷ []) = (sort_at u p ≡ PlaceNode) × (decayed (type_at u p) ≡ Some t)
DecayRow u t children = ⊥

abbrev pub PointerAddRow : CoreTrees → Ctype → List ℕ → Type 0
PointerAddRow u t (v ∷ i ∷ []) = IsValue u v t × PointsToComplete u t × IsNumeral u i
PointerAddRow u t children = ⊥

abbrev pub ConvertRow : CoreTrees → Ctype → List ℕ → Type 0
ConvertRow u t (v ∷ []) = (sort_at u v ≡ ValueNode) × (type_at u v ≢ t) × Converts (type_at u v) t
ConvertRow u t children = ⊥

abbrev pub UpcastRow : CoreTrees → Ctype → List ℕ → Type 0
UpcastRow u t (v ∷ []) = (sort_at u v ≡ ValueNode) × IsFirst u (type_at u v) t
UpcastRow u t children = ⊥

abbrev pub AssignRow : CoreTrees → Ctype → List ℕ → Type 0
AssignRow u t (p ∷ v ∷ []) = IsPlace u p t × IsValue u v t × IsStored t
AssignRow u t children = ⊥

-- an integer by an operator of assignments, or a pointer moved
abbrev pub Updates : Op → Ctype → Type 0
Updates op t = (IsInteger t × IsUpdate op) ⊎ (IsPointer t × IsMove op)

abbrev pub UpdateRow : CoreTrees → Op → Ctype → List ℕ → Type 0
UpdateRow u op t (p ∷ v ∷ []) = IsPlace u p t × IsNumeral u v × Updates op t
UpdateRow u op t children = ⊥

abbrev pub ChooseRow : CoreTrees → Ctype → List ℕ → Type 0
ChooseRow u t (c ∷ a ∷ b ∷ []) = IsCondition u c × IsValue u a t × IsValue u b t
ChooseRow u t children = ⊥

abbrev pub SequenceRow : CoreTrees → Ctype → List ℕ → Type 0
SequenceRow u t (a ∷ b ∷ []) = (sort_at u a ≡ ValueNode) × IsValue u b t
SequenceRow u t children = ⊥

abbrev pub CallRow : CoreTrees → Ctype → List ℕ → Type 0
CallRow u t (c ∷ args) = (sort_at u c ≡ ValueNode) × Calls u (type_at u c) t args
CallRow u t children = ⊥

abbrev pub MemberOfValueRow : CoreTrees → ℕ → Ctype → List ℕ → Type 0
MemberOfValueRow u k t (v ∷ []) = (sort_at u v ≡ ValueNode) × IsMember u (type_at u v) k t × (IsArray t → ⊥)
MemberOfValueRow u k t children = ⊥

abbrev pub IsOverTwo : CoreTrees → Op → Ctype → ℕ → ℕ → Type 0
IsOverTwo u op t a b =
    (sort_at u a ≡ ValueNode) × (sort_at u b ≡ ValueNode) × Binary op (type_at u a) (type_at u b) t

abbrev pub ArithRow : CoreTrees → Op → Ctype → List ℕ → Type 0
ArithRow u op t (a ∷ []) = (sort_at u a ≡ ValueNode) × Unary op (type_at u a) t
ArithRow u op t (a ∷ b ∷ []) = IsOverTwo u op t a b
ArithRow u op t children = ⊥

abbrev pub IsVariadicIn : CoreTrees → Option Entity → Type 0
IsVariadicIn u None = ⊥
IsVariadicIn u (Some entity) = IsVariadic (type_of u.types entity.ty.0)

-- the list of what a variadic function was passed past its parameters (7.16.1.4)
abbrev pub VarArgsRow : CoreTrees → ℕ → Ctype → List ℕ → Type 0
VarArgsRow u e t [] = IsList t × IsVariadicIn u (slice_get u.entities e)
VarArgsRow u e t children = ⊥

-- the next argument of a list (7.16.1.1)
abbrev pub NextArgRow : CoreTrees → Ctype → List ℕ → Type 0
NextArgRow u t (p ∷ []) = IsListPlace u p × IsScalar t
NextArgRow u t children = ⊥

-- statements

abbrev pub ExpressionRow : CoreTrees → List ℕ → Type 0
ExpressionRow u (v ∷ []) = sort_at u v ≡ ValueNode
ExpressionRow u children = ⊥

abbrev pub BlockRow : CoreTrees → List ℕ → Type 0
BlockRow u statements = All (λ s. IsStatement u s) statements

abbrev pub IfRow : CoreTrees → List ℕ → Type 0
IfRow u (c ∷ s ∷ []) = IsCondition u c × IsStatement u s
IfRow u (c ∷ s ∷ o ∷ []) = IsCondition u c × IsStatement u s × IsStatement u o
IfRow u children = ⊥

abbrev pub WhileRow : CoreTrees → List ℕ → Type 0
WhileRow u (c ∷ s ∷ []) = IsCondition u c × IsStatement u s
WhileRow u children = ⊥

abbrev pub DoWhileRow : CoreTrees → List ℕ → Type 0
DoWhileRow u (s ∷ c ∷ []) = IsCondition u c × IsStatement u s
DoWhileRow u children = ⊥

-- the children of a For, from the last: body, what comes after a turn, condition, first statements
abbrev pub ForCondition : CoreTrees → List ℕ → Bool → List ℕ → Type 0
ForCondition u entities true [] = ⊥
ForCondition u entities true (c ∷ first) = IsCondition u c × ForFirst u entities (reverse first)
ForCondition u entities false first = ForFirst u entities (reverse first)

abbrev pub ForAfter : CoreTrees → List ℕ → Bool → Bool → List ℕ → Type 0
ForAfter u entities condition true [] = ⊥
ForAfter u entities condition true (v ∷ rest) = (sort_at u v ≡ ValueNode) × ForCondition u entities condition rest
ForAfter u entities condition false rest = ForCondition u entities condition rest

abbrev pub ForParts : CoreTrees → List ℕ → Bool → Bool → List ℕ → Type 0
ForParts u entities condition after [] = ⊥
ForParts u entities condition after (body ∷ rest) = IsStatement u body × ForAfter u entities condition after rest

abbrev pub ForRow : CoreTrees → List ℕ → Bool → Bool → List ℕ → Type 0
ForRow u entities condition after children = ForParts u entities condition after (reverse children)

abbrev pub SwitchRow : CoreTrees → List ℕ → Type 0
SwitchRow u (c ∷ s ∷ []) = IsNumeral u c × IsStatement u s
SwitchRow u children = ⊥

-- a case, a default or a label: one statement
abbrev pub LabelledRow : CoreTrees → List ℕ → Type 0
LabelledRow u (s ∷ []) = IsStatement u s
LabelledRow u children = ⊥

-- a statement without parts
abbrev pub LoneRow : List ℕ → Type 0
LoneRow [] = ⊤
LoneRow children = ⊥

abbrev pub ReturnRow : CoreTrees → List ℕ → Type 0
ReturnRow u [] = ⊤
ReturnRow u (v ∷ []) = sort_at u v ≡ ValueNode
ReturnRow u children = ⊥

abbrev pub InitialiseRow : CoreTrees → ℕ → List (List PathStep) → List ℕ → Type 0
InitialiseRow u e paths values = InitialValues u (entity_type u (slice_get u.entities e)) paths values

-- the row of each kind: node of type t over those children
abbrev pub RowOf : CoreTrees → NodeKind → Ctype → List ℕ → Type 0
RowOf u (Named e) t children = NamedRow u e t children
RowOf u (Text bytes) t children = TextRow bytes t children
RowOf u (Literal e) t children = LiteralRow u e t children
RowOf u (FunctionName e) t children = FunctionNameRow u e t children
RowOf u Deref t children = DerefRow u t children
RowOf u (Member k) t children = MemberRow u k t children
RowOf u (Number n) t children = NumberRow n t children
RowOf u NullValue t children = NullRow t children
RowOf u Fetch t children = FetchRow u t children
RowOf u AddressOf t children = AddressRow u t children
RowOf u Decay t children = DecayRow u t children
RowOf u (PointerAdd minus) t children = PointerAddRow u t children
RowOf u Convert t children = ConvertRow u t children
RowOf u Upcast t children = UpcastRow u t children
RowOf u Assign t children = AssignRow u t children
RowOf u (Update op post) t children = UpdateRow u op t children
RowOf u Choose t children = ChooseRow u t children
RowOf u Sequence t children = SequenceRow u t children
RowOf u CallNode t children = CallRow u t children
RowOf u (MemberOfValue k) t children = MemberOfValueRow u k t children
RowOf u (Arith op) t children = ArithRow u op t children
RowOf u (VarArgs e) t children = VarArgsRow u e t children
RowOf u NextArg t children = NextArgRow u t children
RowOf u Expression t children = ExpressionRow u children
RowOf u (Block entities) t children = BlockRow u children
RowOf u If t children = IfRow u children
RowOf u While t children = WhileRow u children
RowOf u DoWhile t children = DoWhileRow u children
RowOf u (For entities condition after) t children = ForRow u entities condition after children
RowOf u Switch t children = SwitchRow u children
RowOf u (Case n) t children = LabelledRow u children
RowOf u Default t children = LabelledRow u children
RowOf u (Label name) t children = LabelledRow u children
RowOf u (Goto name) t children = LoneRow children
RowOf u Break t children = LoneRow children
RowOf u Continue t children = LoneRow children
RowOf u Return t children = ReturnRow u children
RowOf u (Initialise e paths) t children = InitialiseRow u e paths children
RowOf u Skip t children = LoneRow children
