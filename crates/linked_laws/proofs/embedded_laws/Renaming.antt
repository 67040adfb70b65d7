-- Kinds with other numbers for the entities that they name.
use Rattle.std.proofs.Common.{◌≡◌, ℕ, ℤ, Bool, true, false, List, map, Option, Some, None, refl, ap}
use Rattle.core_tree.specs.declared.node.NodeKind.{NodeKind}
use Rattle.core_tree.specs.declared.node.NodeKind.TheVariants.{Named, Literal, FunctionName, Block, While, DoWhile, For, Switch, Label, Initialise}
use Rattle.core_tree.specs.Range.{listed_by}
use Rattle.core_tree.specs.Rows.{InitialisesEntity}
use Rattle.core_tree.specs.Valid.{IsBlock, IsLiteralOf, IsNamedOrMade, IsUseOf, IsSwitch, IsLoop, Encloses, IsLabel, IsCase}
use Rattle.unit_link.specs.Places.{kind_renamed}

pub listed_renamed : (f : ℕ → ℕ) (kind : NodeKind) → listed_by (kind_renamed f kind) ≡ map f (listed_by kind)
listed_renamed f (Block es) = refl
listed_renamed f (For es c a) = refl
listed_renamed f kind = refl

pub block_to : (f : ℕ → ℕ) (kind : NodeKind) → IsBlock kind → IsBlock (kind_renamed f kind)
block_to f (Block es) b = tt
block_to f kind b = absurd b

pub initialises_to : (f : ℕ → ℕ) (kind : NodeKind) (e : ℕ) → InitialisesEntity kind e → InitialisesEntity (kind_renamed f kind) (f e)
initialises_to f (Initialise o paths) e b = ap f b
initialises_to f kind e b = absurd b

pub literal_to : (f : ℕ → ℕ) (kind : NodeKind) (e : ℕ) → IsLiteralOf kind e → IsLiteralOf (kind_renamed f kind) (f e)
literal_to f (Literal o) e b = ap f b
literal_to f kind e b = absurd b

pub literal_back : (f : ℕ → ℕ) (kind : NodeKind) (e : ℕ) → IsLiteralOf (kind_renamed f kind) e → (o : ℕ) × IsLiteralOf kind o × (f o ≡ e)
literal_back f (Literal o) e b = (o, refl, b)
literal_back f (Named o) e b = absurd b
literal_back f (FunctionName o) e b = absurd b
literal_back f (Block es) e b = absurd b
literal_back f (For es c a) e b = absurd b
literal_back f (Initialise o paths) e b = absurd b
literal_back f kind e b = absurd b

pub made_back : (f : ℕ → ℕ) (kind : NodeKind) (e : ℕ) → IsNamedOrMade (kind_renamed f kind) e → (o : ℕ) × IsNamedOrMade kind o × (f o ≡ e)
made_back f (Named o) e b = (o, refl, b)
made_back f (Initialise o paths) e b = (o, refl, b)
made_back f (Literal o) e b = absurd b
made_back f (FunctionName o) e b = absurd b
made_back f (Block es) e b = absurd b
made_back f (For es c a) e b = absurd b
made_back f kind e b = absurd b

pub use_to : (f : ℕ → ℕ) (kind : NodeKind) (e : ℕ) → IsUseOf kind e → IsUseOf (kind_renamed f kind) (f e)
use_to f (Named o) e b = ap f b
use_to f (FunctionName o) e b = ap f b
use_to f kind e b = absurd b

pub use_back : (f : ℕ → ℕ) (kind : NodeKind) (e : ℕ) → IsUseOf (kind_renamed f kind) e → (o : ℕ) × IsUseOf kind o × (f o ≡ e)
use_back f (Named o) e b = (o, refl, b)
use_back f (FunctionName o) e b = (o, refl, b)
use_back f (Literal o) e b = absurd b
use_back f (Initialise o paths) e b = absurd b
use_back f (Block es) e b = absurd b
use_back f (For es c a) e b = absurd b
use_back f kind e b = absurd b

pub switch_to : (f : ℕ → ℕ) (kind : NodeKind) → IsSwitch kind → IsSwitch (kind_renamed f kind)
switch_to f Switch b = tt
switch_to f kind b = absurd b

pub switch_back : (f : ℕ → ℕ) (kind : NodeKind) → IsSwitch (kind_renamed f kind) → IsSwitch kind
switch_back f (Named o) b = b
switch_back f (FunctionName o) b = b
switch_back f (Literal o) b = b
switch_back f (Initialise o paths) b = b
switch_back f (Block es) b = b
switch_back f (For es c a) b = b
switch_back f kind b = b

loop_to : (f : ℕ → ℕ) (kind : NodeKind) → IsLoop kind → IsLoop (kind_renamed f kind)
loop_to f While b = tt
loop_to f DoWhile b = tt
loop_to f (For es c a) b = tt
loop_to f kind b = absurd b

pub encloses_to : (f : ℕ → ℕ) (switch : Bool) (kind : NodeKind) → Encloses switch kind → Encloses switch (kind_renamed f kind)
encloses_to f true kind b = switch_to f kind b
encloses_to f false kind b = loop_to f kind b

pub label_to : (f : ℕ → ℕ) (name : List ℕ) (kind : NodeKind) → IsLabel name kind → IsLabel name (kind_renamed f kind)
label_to f name (Label other) b = b
label_to f name kind b = absurd b

pub label_back : (f : ℕ → ℕ) (name : List ℕ) (kind : NodeKind) → IsLabel name (kind_renamed f kind) → IsLabel name kind
label_back f name (Named o) b = b
label_back f name (FunctionName o) b = b
label_back f name (Literal o) b = b
label_back f name (Initialise o paths) b = b
label_back f name (Block es) b = b
label_back f name (For es c a) b = b
label_back f name kind b = b

pub case_back : (f : ℕ → ℕ) (x : Option ℤ) (kind : NodeKind) → IsCase x (kind_renamed f kind) → IsCase x kind
case_back f (Some x) (Named o) b = b
case_back f (Some x) (FunctionName o) b = b
case_back f (Some x) (Literal o) b = b
case_back f (Some x) (Initialise o paths) b = b
case_back f (Some x) (Block es) b = b
case_back f (Some x) (For es c a) b = b
case_back f (Some x) kind b = b
case_back f None (Named o) b = b
case_back f None (FunctionName o) b = b
case_back f None (Literal o) b = b
case_back f None (Initialise o paths) b = b
case_back f None (Block es) b = b
case_back f None (For es c a) b = b
case_back f None kind b = b
