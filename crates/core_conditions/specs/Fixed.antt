-- One step of the definitions of fixed values, by the kind of the node.
use Rattle.std.specs.Prelude.{ℕ, ◌+◌, IsTrue, ⊤, List, [], ◌∷◌, Option, Some, None, All}
use Rattle.c_types.specs.Trees.{Ctype}
use Rattle.c_types.specs.Table.{type_of}
use Rattle.core_tree.specs.declared.node.Node.{Node}
use Rattle.core_tree.specs.declared.node.NodeKind.{NodeKind}
use Rattle.core_tree.specs.declared.node.NodeKind.TheVariants.{Named, Text, Literal, FunctionName, Deref, Member}
use Rattle.core_tree.specs.declared.node.NodeKind.TheVariants.{Number, NullValue, AddressOf, Decay, PointerAdd}
use Rattle.core_tree.specs.declared.node.NodeKind.TheVariants.{Convert, Upcast, Choose, Arith}
use Rattle.core_tree.specs.Typed.{CoreTrees, IsInteger, IsPointer}
use Rattle.core_conditions.specs.declared.fixed.NumberLeft.{NumberLeft}
use Rattle.core_conditions.specs.declared.fixed.NumberLeft.TheVariants.{Told, Below}
use Rattle.core_conditions.specs.declared.fixed.Part.{Part}
use Rattle.core_conditions.specs.declared.fixed.Part.TheVariants.{Told as ToldPart, Place, Pointer}
use Rattle.core_tree.specs.Valid.{FixedNumber, FixedPlace, FixedPointer, IsStaticEntity}

abbrev pub NumberStep : CoreTrees → Ctype → NodeKind → List ℕ → Type 0
NumberStep u t (Number x) children = ⊤
NumberStep u t (Arith op) children = IsInteger t × All (λ c. FixedNumber u c) children
NumberStep u t Choose children = IsInteger t × All (λ c. FixedNumber u c) children
NumberStep u t Convert children = IsInteger t × All (λ c. FixedNumber u c) children
NumberStep u t kind children = ⊥

abbrev pub NumberStepAt : CoreTrees → Option Node → Type 0
NumberStepAt u None = ⊥
NumberStepAt u (Some node) = NumberStep u (type_of u.types node.ty.0) node.kind node.children

abbrev pub PlaceStep : CoreTrees → NodeKind → List ℕ → Type 0
PlaceStep u (Text bytes) [] = ⊤
PlaceStep u (FunctionName e) [] = ⊤
PlaceStep u (Named e) [] = IsStaticEntity u e
PlaceStep u (Literal e) (i ∷ []) = IsStaticEntity u e
PlaceStep u (Member k) (p ∷ []) = FixedPlace u p
PlaceStep u Deref (v ∷ []) = FixedPointer u v
PlaceStep u kind children = ⊥

abbrev pub PlaceStepAt : CoreTrees → Option Node → Type 0
PlaceStepAt u None = ⊥
PlaceStepAt u (Some node) = PlaceStep u node.kind node.children

abbrev pub PointerStep : CoreTrees → Ctype → NodeKind → List ℕ → Type 0
PointerStep u t NullValue [] = ⊤
PointerStep u t AddressOf (p ∷ []) = FixedPlace u p
PointerStep u t Decay (p ∷ []) = FixedPlace u p
PointerStep u t Upcast (v ∷ []) = FixedPointer u v
PointerStep u t Convert (v ∷ []) = IsPointer t × FixedPointer u v
PointerStep u t (PointerAdd minus) (v ∷ i ∷ []) = FixedPointer u v × FixedNumber u i
PointerStep u t kind children = ⊥

abbrev pub PointerStepAt : CoreTrees → Option Node → Type 0
PointerStepAt u None = ⊥
PointerStepAt u (Some node) = PointerStep u (type_of u.types node.ty.0) node.kind node.children

-- what is left of a number holds
abbrev pub NumberSays : CoreTrees → NumberLeft → Type 0
NumberSays u (Told b) = IsTrue b
NumberSays u (Below c) = FixedNumber u c

-- 0 where nothing is left, and above the node that is
abbrev pub number_rank : NumberLeft → ℕ
number_rank (Told b) = 0
number_rank (Below c) = c + 1

-- what is left of a place or a pointer holds
abbrev pub PartSays : CoreTrees → Part → Type 0
PartSays u (ToldPart b) = IsTrue b
PartSays u (Place p) = FixedPlace u p
PartSays u (Pointer v) = FixedPointer u v

-- 0 where nothing is left, and above the node that is
abbrev pub part_rank : Part → ℕ
part_rank (ToldPart b) = 0
part_rank (Place p) = p + 1
part_rank (Pointer v) = v + 1
