-- What a library function leaves of the memory where it calls back or keeps a function.
use Rattle.std.specs.Prelude.{ℕ, ◌≡◌, List, Option, IfOk}
use Rattle.c_types.specs.declared.key.ObjectKey.{ObjectKey}
use Rattle.c_types.specs.declared.term.TypeId.{TypeId}
use Rattle.c_types.specs.Table.{Table}
use Rattle.ref_cells.specs.declared.cells.Value.{Value}
use Rattle.ref_cells.specs.declared.instance.Instance.{Instance}
use Rattle.ref_elements.specs.declared.outcome.Next.{Next}
use Rattle.ref_elements.specs.declared.outcome.Next.TheVariants.{Calls, Keeps}
use Rattle.ref_elements.specs.Outcomes.{Effect}
use Rattle.ref_lib.specs.Effects.{effect}

-- a call that goes on so has left the memory as it was
abbrev pub IsCalm : List Instance → List Instance → Next → Type 0
IsCalm before after (Calls callee arguments) = after ≡ before
IsCalm before after (Keeps cell) = after ≡ before
IsCalm before after next = Unit {0}

abbrev pub LeavesCalm : List Instance → Effect → Type 0
LeavesCalm memory given = IfOk given (λ e. IsCalm memory e.memory e.outcome.next)

-- so is every effect
abbrev pub EffectCalm : Type 0
EffectCalm =
    (table : Table) (memory : List Instance) (function : ℕ) (key : ObjectKey) (fixed : Option TypeId)
    (result : TypeId) (arguments : List Value) (word : ℕ)
    → LeavesCalm memory (effect table memory function key fixed result arguments word)
