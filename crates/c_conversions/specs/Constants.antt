-- Trees whose constants can be computed: each node of a kind of which constants are made stands in its row.
use Rattle.std.specs.Prelude.{ℤ, ◌≡◌, ◌≢◌, ⊤}
use Rattle.c_types.specs.Trees.{Ctype}
use Rattle.core_tree.specs.declared.node.Op.{Op}
use Rattle.core_tree.specs.declared.node.NodeKind.{NodeKind}
use Rattle.core_tree.specs.declared.node.NodeKind.TheVariants.{Number, Choose, Convert, Arith}
use Rattle.core_tree.specs.Typed.{ValueNode, Holds, IsScalar}
use Rattle.core_tree.specs.Rows.{Unary, Binary, Converts}
use Rattle.c_consts.specs.Core.{Core, Cores, Of, NoCores, MoreCores, ctype_of, core_sort}

abbrev pub IsValueOf : Core → Ctype → Type 0
IsValueOf c t = (core_sort c ≡ ValueNode) × (ctype_of c ≡ t)

abbrev pub IsTested : Core → Type 0
IsTested c = (core_sort c ≡ ValueNode) × IsScalar (ctype_of c)

abbrev pub NumberOver : ℤ → Ctype → Cores → Type 0
NumberOver n t NoCores = Holds t n
NumberOver n t under = ⊥

abbrev pub OperatorOver : Op → Ctype → Cores → Type 0
OperatorOver op t (MoreCores a NoCores) = (core_sort a ≡ ValueNode) × Unary op (ctype_of a) t
OperatorOver op t (MoreCores a (MoreCores b NoCores)) = (core_sort a ≡ ValueNode)
    × (core_sort b ≡ ValueNode)
    × Binary op (ctype_of a) (ctype_of b) t
OperatorOver op t under = ⊥

abbrev pub ChoiceOver : Ctype → Cores → Type 0
ChoiceOver t (MoreCores c (MoreCores a (MoreCores b NoCores))) = IsTested c × IsValueOf a t × IsValueOf b t
ChoiceOver t under = ⊥

abbrev pub ConvertedOver : Ctype → Cores → Type 0
ConvertedOver t (MoreCores v NoCores) = (core_sort v ≡ ValueNode) × (ctype_of v ≢ t) × Converts (ctype_of v) t
ConvertedOver t under = ⊥

-- the row of a node of such a kind, over the trees under it; nothing is asked of a node of another kind
abbrev pub ConstantOver : NodeKind → Ctype → Cores → Type 0
ConstantOver (Number n) t under = NumberOver n t under
ConstantOver (Arith op) t under = OperatorOver op t under
ConstantOver Choose t under = ChoiceOver t under
ConstantOver Convert t under = ConvertedOver t under
ConstantOver kind t under = ⊤

abbrev mutual
  pub HasRows : Core → Type 0
  HasRows (Of kind place t under) = ConstantOver kind t under × HaveRows under

  pub HaveRows : Cores → Type 0
  HaveRows NoCores = ⊤
  HaveRows (MoreCores c rest) = HasRows c × HaveRows rest
