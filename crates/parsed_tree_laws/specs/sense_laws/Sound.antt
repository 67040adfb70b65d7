-- Core trees in which each node stands in the row of its kind, by its type and by what stands under it (C11 6.5,
-- 6.8).
use Rattle.std.specs.Prelude.{ℕ, ℤ, pos, ◌≡◌, ◌≢◌, ◌+◌, Bool, true, false, nat_lt, nat_le, ⊤, List, [], ◌∷◌, Option}
use Rattle.std.specs.Prelude.{Some, None, IsSome, length, reverse, slice_get, option_and_then, ◌⊎◌, All}
use Rattle.std.specs.Prelude.{if◌then◌else◌}
use Rattle.c_types.specs.Trees.{Ctype, Ctypes, NoTypes, MoreTypes, VoidType, IntegerType, PointerTo, ArrayOf}
use Rattle.c_types.specs.Trees.{FunctionFrom, StructureOf, UnionOf}
use Rattle.c_types.specs.declared.term.Form.{Form}
use Rattle.c_types.specs.declared.term.Form.TheVariants.{Fixed, Variadic, Unspecified}
use Rattle.c_types.specs.declared.term.PathStep.{PathStep}
use Rattle.c_types.specs.declared.term.PathStep.TheVariants.{Index, Member as MemberStep}
use Rattle.c_types.specs.Paths.{with_length}
use Rattle.c_conversions.specs.passed.core_tree.declared.node.Op.{Op}
use Rattle.c_conversions.specs.passed.core_tree.declared.node.NodeKind.{NodeKind}
use Rattle.c_conversions.specs.passed.core_tree.declared.node.NodeKind.TheVariants.{VarArgs, NextArg}
use Rattle.type_rules.specs.Kinds.{IsList, IsVariadic}
use Rattle.c_conversions.specs.passed.core_tree.declared.node.NodeKind.TheVariants.{Named, Text, Literal}
use Rattle.c_conversions.specs.passed.core_tree.declared.node.NodeKind.TheVariants.{FunctionName, Deref, Member}
use Rattle.c_conversions.specs.passed.core_tree.declared.node.NodeKind.TheVariants.{Number, NullValue, Fetch}
use Rattle.c_conversions.specs.passed.core_tree.declared.node.NodeKind.TheVariants.{AddressOf, Decay, PointerAdd}
use Rattle.c_conversions.specs.passed.core_tree.declared.node.NodeKind.TheVariants.{Convert, Upcast, Assign, Update}
use Rattle.c_conversions.specs.passed.core_tree.declared.node.NodeKind.TheVariants.{Choose, Sequence, CallNode}
use Rattle.c_conversions.specs.passed.core_tree.declared.node.NodeKind.TheVariants.{MemberOfValue, Arith}
use Rattle.c_conversions.specs.passed.core_tree.declared.node.NodeKind.TheVariants.{Expression, Block, If, While}
use Rattle.c_conversions.specs.passed.core_tree.declared.node.NodeKind.TheVariants.{DoWhile, For, Switch, Case}
use Rattle.c_conversions.specs.passed.core_tree.declared.node.NodeKind.TheVariants.{Default, Label, Goto, Break}
use Rattle.c_conversions.specs.passed.core_tree.declared.node.NodeKind.TheVariants.{Continue, Return, Initialise}
use Rattle.c_conversions.specs.passed.core_tree.declared.node.NodeKind.TheVariants.{Skip}
use Rattle.c_conversions.specs.passed.core_tree.Typed.{Sort, PlaceNode, ValueNode, StatementNode, sort_of}
use Rattle.c_conversions.specs.passed.core_tree.Typed.{IsInteger, IsPointer, IsScalar, IsStored, IsPassed}
use Rattle.c_conversions.specs.passed.core_tree.Typed.{LacksLength, decayed, Holds}
use Rattle.c_conversions.specs.passed.core_tree.Rows.{IsFunction, IsArray, int, Agree, Converts, Unary, Binary}
use Rattle.c_conversions.specs.passed.core_tree.Rows.{Updates, InitialisesEntity, InitialisesOneOf, character}
use Rattle.c_senses.specs.passed.c_consts.Core.{Core, Cores, Of, NoCores, MoreCores, kind_of, ctype_of, core_sort}
use Rattle.c_senses.specs.passed.c_inits.Made.{Part}
use Rattle.c_types.specs.Layout.{Extent}
use Rattle.c_senses.specs.Given.{Given, Fits, Refuses}
use Rattle.c_senses.specs.Literals.{unsigned_long}
use Rattle.c_senses.specs.World.{World, Meaning, Object, Function, TypeName, Tag, Value, extent, members_of}
use Rattle.c_senses.specs.Conversions.{place_width}
use Rattle.c_senses.specs.Objects.{part_at}

-- what stands under a node, in order
abbrev pub list_of : Cores → List Core
list_of NoCores = []
list_of (MoreCores c rest) = c ∷ list_of rest

-- 6.7.6.3p14: the list () names no parameter, in a type and in all of which it is made
abbrev pub IsListOf : Form → Ctypes → Type 0
IsListOf Unspecified (MoreTypes t rest) = ⊥
IsListOf form ps = ⊤

-- 6.2.5: an integer type has at most 8 bytes
abbrev pub IsSmall : Bool → Type 0
IsSmall true = ⊤
IsSmall false = ⊥

abbrev mutual
  pub IsProper : Ctype → Type 0
  IsProper (PointerTo to) = IsProper to
  IsProper (ArrayOf of n) = IsProper of
  IsProper (FunctionFrom r ps form) = IsProper r × AreProper ps × IsListOf form ps
  IsProper (IntegerType size rank signed) = IsSmall (nat_le size 8)
  IsProper t = ⊤

  pub AreProper : Ctypes → Type 0
  AreProper NoTypes = ⊤
  AreProper (MoreTypes t rest) = IsProper t × AreProper rest

abbrev pub IsPlaceCore : Core → Ctype → Type 0
IsPlaceCore c t = (core_sort c ≡ PlaceNode) × (ctype_of c ≡ t)

abbrev pub IsValueCore : Core → Ctype → Type 0
IsValueCore c t = (core_sort c ≡ ValueNode) × (ctype_of c ≡ t)

abbrev pub IsStatementCore : Core → Type 0
IsStatementCore c = core_sort c ≡ StatementNode

-- a value of integer type, and what is tested by a condition
abbrev pub IsNumeralCore : Core → Type 0
IsNumeralCore c = (core_sort c ≡ ValueNode) × IsInteger (ctype_of c)

abbrev pub IsConditionCore : Core → Type 0
IsConditionCore c = (core_sort c ≡ ValueNode) × IsScalar (ctype_of c)

-- 6.5.2.2: a value of the parameter's type for each parameter, and promoted values past them
abbrev pub IsFurtherCore : Core → Type 0
IsFurtherCore c = (core_sort c ≡ ValueNode) × IsPassed (ctype_of c)

abbrev pub AreArguments : Ctypes → Form → List Core → Type 0
AreArguments NoTypes Fixed [] = ⊤
AreArguments NoTypes Variadic args = All IsFurtherCore args
AreArguments NoTypes Unspecified args = All IsFurtherCore args
AreArguments (MoreTypes t rest) Unspecified args = ⊥
AreArguments (MoreTypes t rest) f (a ∷ args) = IsValueCore a t × AreArguments rest f args
AreArguments ps f args = ⊥

abbrev pub CallsWith : Ctype → Ctype → List Core → Type 0
CallsWith (PointerTo (FunctionFrom r ps f)) t args = (r ≡ t) × AreArguments ps f args
CallsWith callee t args = ⊥

-- the entity is a variadic function
abbrev pub IsVariadicOf : Option Ctype → Type 0
IsVariadicOf None = ⊥
IsVariadicOf (Some t) = IsVariadic t

-- a statement has no type
abbrev pub HasNoType : Sort → Ctype → Type 0
HasNoType StatementNode t = t ≡ VoidType
HasNoType sort t = ⊤

-- the first statements of a For: the initialisers of its objects, or one expression, or none
abbrev pub IsOneExpressionCore : List Core → Type 0
IsOneExpressionCore (c ∷ []) = kind_of c ≡ Expression
IsOneExpressionCore first = ⊥

abbrev pub IsForFirst : List ℕ → List Core → Type 0
IsForFirst entities first = All (λ c. InitialisesOneOf entities (kind_of c)) first ⊎ IsOneExpressionCore first

abbrev pub IsForCondition : List ℕ → Bool → List Core → Type 0
IsForCondition entities true [] = ⊥
IsForCondition entities true (c ∷ first) = IsConditionCore c × IsForFirst entities (reverse first)
IsForCondition entities false first = IsForFirst entities (reverse first)

abbrev pub IsForAfter : List ℕ → Bool → Bool → List Core → Type 0
IsForAfter entities condition true [] = ⊥
IsForAfter entities condition true (v ∷ rest) = (core_sort v ≡ ValueNode) × IsForCondition entities condition rest
IsForAfter entities condition false rest = IsForCondition entities condition rest

-- the parts of a For, from the last one
abbrev pub AreForParts : List ℕ → Bool → Bool → List Core → Type 0
AreForParts entities condition after [] = ⊥
AreForParts entities condition after (body ∷ rest) = IsStatementCore body × IsForAfter entities condition after rest

abbrev pub BinaryOver : Op → Ctype → Core → Core → Type 0
BinaryOver op t a b = (core_sort a ≡ ValueNode) × (core_sort b ≡ ValueNode) × Binary op (ctype_of a) (ctype_of b) t

-- a fact of a list by its form
abbrev pub IsEmpty : {A : Type 0} → List A → Type 0
IsEmpty [] = ⊤
IsEmpty list = ⊥

abbrev pub One : (Core → Type 0) → List Core → Type 0
One P (a ∷ []) = P a
One P under = ⊥

abbrev pub Two : (Core → Core → Type 0) → List Core → Type 0
Two P (a ∷ b ∷ []) = P a b
Two P under = ⊥

abbrev pub IfOver : List Core → Type 0
IfOver (c ∷ s ∷ []) = IsConditionCore c × IsStatementCore s
IfOver (c ∷ s ∷ o ∷ []) = IsConditionCore c × IsStatementCore s × IsStatementCore o
IfOver under = ⊥

abbrev pub ReturnOver : List Core → Type 0
ReturnOver [] = ⊤
ReturnOver (v ∷ []) = core_sort v ≡ ValueNode
ReturnOver under = ⊥

abbrev pub ArithOver : Op → Ctype → List Core → Type 0
ArithOver op t (a ∷ []) = (core_sort a ≡ ValueNode) × Unary op (ctype_of a) t
ArithOver op t (a ∷ b ∷ []) = BinaryOver op t a b
ArithOver op t under = ⊥

abbrev pub ChooseOver : Ctype → List Core → Type 0
ChooseOver t (c ∷ a ∷ b ∷ []) = IsConditionCore c × IsValueCore a t × IsValueCore b t
ChooseOver t under = ⊥

abbrev pub CallOver : Ctype → List Core → Type 0
CallOver t (c ∷ args) = (core_sort c ≡ ValueNode) × CallsWith (ctype_of c) t args
CallOver t under = ⊥

abbrev pub NumberOver : ℤ → Ctype → List Core → Type 0
NumberOver n t [] = Holds t n
NumberOver n t under = ⊥

abbrev pub NullOver : Ctype → List Core → Type 0
NullOver t [] = IsPointer t
NullOver t under = ⊥

abbrev pub TextOver : List ℕ → Ctype → List Core → Type 0
TextOver bytes t [] = t ≡ ArrayOf character (Some (length bytes + 1))
TextOver bytes t under = ⊥

-- the entity has a type that agrees with this one
abbrev pub AgreesWith : Option Ctype → Ctype → Type 0
AgreesWith None t = ⊥
AgreesWith (Some other) t = Agree t other

abbrev pub NamedOver : Option Ctype → Ctype → List Core → Type 0
NamedOver entity t [] = AgreesWith entity t × (IsFunction t → ⊥)
NamedOver entity t under = ⊥

abbrev pub FunctionNameOver : Option Ctype → Ctype → List Core → Type 0
FunctionNameOver entity t [] = AgreesWith entity t × IsFunction t
FunctionNameOver entity t under = ⊥

module _ (w : World) where
  -- member k of a complete structure or union
  pub record IsPartOf (whole : Ctype) (k : ℕ) (t : Ctype) : Type 0 where
    pub part : Part
    pub stands : part_at (members_of w whole) k ≡ Some part
    pub type : part.type ≡ t

  abbrev pub PointsToSized : Ctype → Type 0
  PointsToSized (PointerTo to) = IsSome (extent w to)
  PointsToSized t = ⊥

  -- from a pointer to a structure to a pointer to its first member
  abbrev pub IsFirstPart : Ctype → Ctype → Type 0
  IsFirstPart (PointerTo (StructureOf tag)) (PointerTo first) = IsPartOf (StructureOf tag) 0 first
  IsFirstPart a t = ⊥

  -- the type at the end of a path, or none where the path leaves the type
  abbrev pub type_of_part : Option (List Part) → ℕ → Option Ctype
  type_of_part None k = None
  type_of_part (Some parts) k = option_and_then (λ m. with_length m.type) (slice_get parts k)

  abbrev pub step_type : Ctype → PathStep → Option Ctype
  step_type (ArrayOf of (Some n)) (Index i) = if nat_lt i n then Some of else None
  step_type (StructureOf tag) (MemberStep k) = type_of_part (w.members tag) k
  step_type (UnionOf tag) (MemberStep k) = type_of_part (w.members tag) k
  step_type t step = None

  abbrev pub step_below : Option Ctype → PathStep → Option Ctype
  step_below None step = None
  step_below (Some t) step = step_type t step

  abbrev pub type_down : Option Ctype → List PathStep → Option Ctype
  type_down t [] = t
  type_down t (step ∷ rest) = type_down (step_below t step) rest

  abbrev pub InitialOver : Option Ctype → List (List PathStep) → List Core → Type 0
  InitialOver t [] [] = ⊤
  InitialOver t (path ∷ paths) (v ∷ values) =
      (core_sort v ≡ ValueNode) × (type_down t path ≡ Some (ctype_of v)) × InitialOver t paths values
  InitialOver t paths values = ⊥

  -- the row of each kind, over the types of entities: a node of type t over those parts
  abbrev pub RowOver : (ℕ → Option Ctype) → NodeKind → Ctype → List Core → Type 0
  RowOver entities (Named e) t under = NamedOver (entities e) t under
  RowOver entities (Text bytes) t under = TextOver bytes t under
  RowOver entities (Literal e) t under = One (λ i. (entities e ≡ Some t) × InitialisesEntity (kind_of i) e) under
  RowOver entities (FunctionName e) t under = FunctionNameOver (entities e) t under
  RowOver entities Deref t under = One (λ v. IsValueCore v (PointerTo t) × (t ≢ VoidType)) under
  RowOver entities (Member k) t under =
      One (λ p. (core_sort p ≡ PlaceNode) × IsPartOf (ctype_of p) k t × (LacksLength t → ⊥)) under
  RowOver entities (Number n) t under = NumberOver n t under
  RowOver entities NullValue t under = NullOver t under
  RowOver entities Fetch t under = One (λ p. IsPlaceCore p t × IsStored t) under
  RowOver entities AddressOf t under =
      One (λ p. (core_sort p ≡ PlaceNode) × (t ≡ PointerTo (ctype_of p)) × (place_width w p ≡ None)) under
  RowOver entities Decay t under = One (λ p. (core_sort p ≡ PlaceNode) × (decayed (ctype_of p) ≡ Some t)) under
  RowOver entities (PointerAdd minus) t under =
      Two (λ v i. IsValueCore v t × PointsToSized t × IsNumeralCore i) under
  RowOver entities Convert t under =
      One (λ v. (core_sort v ≡ ValueNode) × (ctype_of v ≢ t) × Converts (ctype_of v) t) under
  RowOver entities Upcast t under = One (λ v. (core_sort v ≡ ValueNode) × IsFirstPart (ctype_of v) t) under
  RowOver entities Assign t under = Two (λ p v. IsPlaceCore p t × IsValueCore v t × IsStored t) under
  RowOver entities (Update op post) t under = Two (λ p v. IsPlaceCore p t × IsNumeralCore v × Updates op t) under
  RowOver entities Choose t under = ChooseOver t under
  RowOver entities Sequence t under = Two (λ a b. (core_sort a ≡ ValueNode) × IsValueCore b t) under
  RowOver entities CallNode t under = CallOver t under
  RowOver entities (MemberOfValue k) t under =
      One (λ v. (core_sort v ≡ ValueNode) × IsPartOf (ctype_of v) k t × (IsArray t → ⊥)) under
  RowOver entities (Arith op) t under = ArithOver op t under
  RowOver entities (VarArgs e) t under = IsEmpty under × IsList t × IsVariadicOf (entities e)
  RowOver entities NextArg t under =
      One (λ p. (core_sort p ≡ PlaceNode) × IsList (ctype_of p) × IsScalar t) under
  RowOver entities Expression t under = One (λ v. core_sort v ≡ ValueNode) under
  RowOver entities (Block es) t under = All IsStatementCore under
  RowOver entities If t under = IfOver under
  RowOver entities While t under = Two (λ c s. IsConditionCore c × IsStatementCore s) under
  RowOver entities DoWhile t under = Two (λ s c. IsConditionCore c × IsStatementCore s) under
  RowOver entities (For es condition after) t under = AreForParts es condition after (reverse under)
  RowOver entities Switch t under = Two (λ c s. IsNumeralCore c × IsStatementCore s) under
  RowOver entities (Case n) t under = One IsStatementCore under
  RowOver entities Default t under = One IsStatementCore under
  RowOver entities (Label name) t under = One IsStatementCore under
  RowOver entities (Goto name) t under = IsEmpty under
  RowOver entities Break t under = IsEmpty under
  RowOver entities Continue t under = IsEmpty under
  RowOver entities Return t under = ReturnOver under
  RowOver entities (Initialise e paths) t under = InitialOver (entities e) paths under
  RowOver entities Skip t under = IsEmpty under

module _ (w : World) (entities : ℕ → Option Ctype) where
  -- a tree is sound where each of its nodes stands in its row
  abbrev mutual
    pub Sound : Core → Type 0
    Sound (Of kind place type under) =
        RowOver w entities kind type (list_of under) × IsProper type × HasNoType (sort_of kind) type
        × AllSound under

    pub AllSound : Cores → Type 0
    AllSound NoCores = ⊤
    AllSound (MoreCores c rest) = Sound c × AllSound rest

  abbrev pub AreSound : List Core → Type 0
  AreSound [] = ⊤
  AreSound (c ∷ rest) = Sound c × AreSound rest

  -- a sound value, and one of that type
  abbrev pub SoundValue : Core → Type 0
  SoundValue c = Sound c × (core_sort c ≡ ValueNode)

  abbrev pub SoundOf : Ctype → Core → Type 0
  SoundOf t c = Sound c × IsValueCore c t

-- what a row gives, if it gives something, is so
abbrev pub Gives : {A : Type 0} → (A → Type 0) → Given A → Type 0
Gives P (Fits x) = P x
Gives P (Refuses kind node) = ⊤

-- what a name means: the type of an object or a function agrees with its entity's, and an enumerator's value is in
-- the range of int
abbrev pub SoundMeaning : (ℕ → Option Ctype) → Meaning → Type 0
SoundMeaning entities (Object e t) = IsProper t × AgreesWith (entities e) t × (IsFunction t → ⊥)
SoundMeaning entities (Function e t) = IsProper t × AgreesWith (entities e) t × IsFunction t
SoundMeaning entities (TypeName t) = IsProper t
SoundMeaning entities (Tag tag) = ⊤
SoundMeaning entities (Value n) = Holds int n

-- what the declarations of a name alone don't say of it: its entity's type agrees with its own
abbrev pub MeaningFits : (ℕ → Option Ctype) → Meaning → Type 0
MeaningFits entities (Object e t) = AgreesWith (entities e) t
MeaningFits entities (Function e t) = AgreesWith (entities e) t
MeaningFits entities m = ⊤

-- 7.16.1.4: the function whose last parameter a name declares is variadic
abbrev pub FurtherIsVariadic : World → (ℕ → Option Ctype) → Type 0
FurtherIsVariadic w entities = (leaf function : ℕ) → w.further leaf ≡ Some function → IsVariadicOf (entities function)

-- what the declarations around an expression give
pub record SoundWorld (w : World) (entities : ℕ → Option Ctype) : Type 0 where
  pub parts : (tag : ℕ) (members : List Part) (k : ℕ) (m : Part)
      → w.members tag ≡ Some members
      → slice_get members k ≡ Some m
      → IsProper m.type
  pub names : (leaf : ℕ) (m : Meaning) → w.meaning leaf ≡ Some m → SoundMeaning entities m
  pub further : FurtherIsVariadic w entities
  pub aligns : (t : Ctype) (e : Extent) → IsProper t → extent w t ≡ Some e → Holds unsigned_long (pos e.align)

-- what the declarations around an expression give by themselves, with no word on entities
abbrev pub ProperMeaning : Meaning → Type 0
ProperMeaning (Object e t) = IsProper t × (IsFunction t → ⊥)
ProperMeaning (Function e t) = IsProper t × IsFunction t
ProperMeaning (TypeName t) = IsProper t
ProperMeaning (Tag tag) = ⊤
ProperMeaning (Value n) = Holds int n

pub record ProperWorld (w : World) : Type 0 where
  pub parts : (tag : ℕ) (members : List Part) (k : ℕ) (m : Part)
      → w.members tag ≡ Some members
      → slice_get members k ≡ Some m
      → IsProper m.type
  pub names : (leaf : ℕ) (m : Meaning) → w.meaning leaf ≡ Some m → ProperMeaning m
  pub aligns : (t : Ctype) (e : Extent) → IsProper t → extent w t ≡ Some e → Holds unsigned_long (pos e.align)
