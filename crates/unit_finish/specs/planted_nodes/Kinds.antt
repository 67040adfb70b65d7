-- Which kinds of nodes hold nothing, or no list.
use Rattle.std.specs.Prelude.{⊤}
use Rattle.core_tree.specs.declared.node.NodeKind.{NodeKind}
use Rattle.core_tree.specs.declared.node.NodeKind.TheVariants.{Named, Text, Literal, FunctionName, Member, Number}
use Rattle.core_tree.specs.declared.node.NodeKind.TheVariants.{PointerAdd, Update, MemberOfValue, Arith, Block, For}
use Rattle.core_tree.specs.declared.node.NodeKind.TheVariants.{Case, Label, Goto, Initialise, VarArgs}

abbrev pub IsPlain : NodeKind → Type 0
IsPlain (Text bytes) = ⊥
IsPlain (Block entities) = ⊥
IsPlain (For entities condition after) = ⊥
IsPlain (Label name) = ⊥
IsPlain (Goto name) = ⊥
IsPlain (Initialise entity paths) = ⊥
IsPlain kind = ⊤

abbrev pub IsBare : NodeKind → Type 0
IsBare (Named entity) = ⊥
IsBare (Literal entity) = ⊥
IsBare (FunctionName entity) = ⊥
IsBare (VarArgs entity) = ⊥
IsBare (Member member) = ⊥
IsBare (MemberOfValue member) = ⊥
IsBare (Number number) = ⊥
IsBare (Case number) = ⊥
IsBare (Arith op) = ⊥
IsBare (PointerAdd minus) = ⊥
IsBare (Update op post) = ⊥
IsBare kind = IsPlain kind
