-- From a node down its first operands.
use Rattle.std.specs.Prelude.{ℕ, zero, suc, ℤ, pos, ◌≡◌, Bool, true, false, List, [], ◌∷◌, Option, Some, None}
use Rattle.std.specs.Prelude.{slice_get, Result, Ok, Err}
use Rattle.c_types.specs.Table.{Table, type_of}
use Rattle.core_tree.specs.declared.node.Node.{Node}
use Rattle.core_tree.specs.declared.node.Op.{Op}
use Rattle.core_tree.specs.declared.node.NodeKind.{NodeKind}
use Rattle.core_tree.specs.declared.node.NodeKind.TheVariants.{Number}
use Rattle.c_consts.specs.declared.fault.ConstFault.TheVariants.{NotConstant}
use Rattle.core_tree.specs.Typed.{Holds, type_at}
use Rattle.c_types.specs.Trees.{Ctype, IntegerType}
use Rattle.core_tree.specs.Typed.{half_of}
use Rattle.c_consts.specs.declared.fault.ConstFault.{ConstFault}
use Rattle.c_consts.specs.Core.{Core, Cores, Stands, StandAll}
use Rattle.c_consts.specs.Nodes.{bare}
use Rattle.c_consts.specs.Operators.{Step, step_at, Operand, Operands}
use Rattle.c_consts.specs.Answer.{Value, Form, Written, Formless, form_of, rest_of, answer, answers, located}

-- the first operand of a node that has a constant's form
abbrev pub operand_of : Form → List ℕ → Option ℕ
operand_of (Written n) children = None
operand_of Formless children = None
operand_of form [] = None
operand_of form (a ∷ more) = Some a

abbrev pub head_of : List ℕ → Option ℕ
head_of [] = None
head_of (a ∷ more) = Some a

abbrev pub first_in : Table → Option Node → Option ℕ
first_in types None = None
first_in types (Some node) = operand_of (form_of node.kind (type_of types node.ty.0)) node.children

abbrev pub first_operand : Table → List Node → ℕ → Option ℕ
first_operand types nodes i = first_in types (slice_get nodes i)

-- so many first operands down from i is j
abbrev pub Leads : Table → List Node → ℕ → ℕ → ℕ → Type 0
Leads types nodes i zero j = i ≡ j
Leads types nodes i (suc k) j = (m : ℕ) × (first_operand types nodes i ≡ Some m) × Leads types nodes m k j

-- what a node without a first operand gives
abbrev pub last_by : ℕ → NodeKind → Result ℤ ConstFault
last_by i (Number n) = Ok n
last_by i kind = Err (NotConstant i)

abbrev pub last_in : ℕ → Option Node → Result ℤ ConstFault
last_in i None = Err (NotConstant i)
last_in i (Some node) = last_by i node.kind

-- a number that the node's type holds
abbrev pub HeldAt : Table → List Node → ℕ → ℤ → Type 0
HeldAt types nodes i v = Holds (type_at (bare types nodes) i) v

-- what an operator gives at a node, where its value is asked for, and 0 where the form alone is
abbrev pub asked_at : Bool → ℕ → Step → Result ℤ ConstFault
asked_at true i step = step_at i step
asked_at false i step = Ok (pos 0)

-- the node has a first operand, whose type holds the number x
pub record StartsWith (types : Table) (nodes : List Node) (i : ℕ) (x : ℤ) : Type 0 where
  pub operand : ℕ
  pub first : first_operand types nodes i ≡ Some operand
  pub held : HeldAt types nodes operand x

-- the node so many first operands down has a type that holds the number x
pub record StartsBelow (types : Table) (nodes : List Node) (i k : ℕ) (x : ℤ) : Type 0 where
  pub below : ℕ
  pub leads : Leads types nodes i k below
  pub held : HeldAt types nodes below x

-- what is found at a node is that result
pub record IsAnswer (types : Table) (nodes : List Node) (i : ℕ) (live : Bool)
    (result : Result ℤ ConstFault) : Type 0 where
  pub tree : (c : Core) → Stands types nodes i c → result ≡ located nodes i (answer c live)

-- what is found there, where the first operand has the value x
pub record IsRest (types : Table) (nodes : List Node) (i : ℕ) (live : Bool) (x : ℤ)
    (result : Result ℤ ConstFault) : Type 0 where
  pub tree : (n : Node) (a : ℕ) (more : List ℕ) (cs : Cores)
      → slice_get nodes i ≡ Some n
      → n.children ≡ a ∷ more
      → StandAll types nodes more cs
      → result
      ≡ located nodes i
      (rest_of (form_of n.kind (type_of types n.ty.0)) (type_of types n.ty.0) live x (answers cs))

-- what is found there, where the node so many first operands down has the value x
pub record IsClimbed (types : Table) (nodes : List Node) (i k : ℕ) (live : Bool) (x : ℤ)
    (result : Result ℤ ConstFault) : Type 0 where
  pub tree : (j : ℕ) (d c : Core)
      → Leads types nodes i k j
      → Stands types nodes j d
      → answer d live ≡ Value x
      → Stands types nodes i c
      → result ≡ located nodes i (answer c live)

abbrev pub OperandIn : Op → Ctype → ℤ → Type 0
OperandIn op (IntegerType size rank signed) x = Operand op signed (half_of size) x
OperandIn op type x = Unit {0}

abbrev pub OperandsIn : Op → Ctype → ℤ → ℤ → Type 0
OperandsIn op (IntegerType size rank signed) x y = Operands op signed (half_of size) x y
OperandsIn op type x y = Unit {0}

-- the node has so many operands, and these are the ones behind the first
pub record HasOne (nodes : List Node) (i : ℕ) : Type 0 where
  pub node : Node
  pub at : slice_get nodes i ≡ Some node
  pub first : ℕ
  pub children : node.children ≡ first ∷ []

pub record HasTwo (nodes : List Node) (i b : ℕ) : Type 0 where
  pub node : Node
  pub at : slice_get nodes i ≡ Some node
  pub first : ℕ
  pub children : node.children ≡ first ∷ b ∷ []

pub record HasThree (nodes : List Node) (i a b : ℕ) : Type 0 where
  pub node : Node
  pub at : slice_get nodes i ≡ Some node
  pub first : ℕ
  pub children : node.children ≡ first ∷ a ∷ b ∷ []

-- the node is of that kind
pub record IsOfKind (nodes : List Node) (i : ℕ) (kind : NodeKind) : Type 0 where
  pub node : Node
  pub at : slice_get nodes i ≡ Some node
  pub is : node.kind ≡ kind
