-- What holds of each answer of steps, one after another.
use Rattle.std.proofs.Common.{Bool, true, false, cond, List, None, Result, Ok, Err, IfOk, length}
use Rattle.c_types.specs.Table.{Table}
use Rattle.ref_cells.specs.declared.cells.Reason.{Reason}
use Rattle.ref_cells.specs.declared.instance.Instance.{Instance}
use Rattle.ref_elements.specs.Outcomes.{Effect}
use Rattle.ref_elements.specs.Runs.{◌>>=◌}
use Rattle.ref_lib.specs.memory_laws.Kept.{Follows}

-- a step of which something is known, and what follows from that
pub and_then : {A B : Type 0} (r : Result A Reason) (f : A → Result B Reason) (P : A → Type 0) (Q : B → Type 0) → IfOk r P → ((x : A) → P x → IfOk (f x) Q) → IfOk (r >>= f) Q
and_then (Ok x) f P Q h g = g x h
and_then (Err e) f P Q h g = tt

-- any step
pub after_any : {A B : Type 0} (r : Result A Reason) (f : A → Result B Reason) (Q : B → Type 0) → ((x : A) → IfOk (f x) Q) → IfOk (r >>= f) Q
after_any (Ok x) f Q g = g x
after_any (Err e) f Q g = tt

-- one way or the other
pub either : {B : Type 0} (b : Bool) (x y : Result B Reason) (Q : B → Type 0) → IfOk x Q → IfOk y Q → IfOk (cond b x y) Q
either true x y Q h g = h
either false x y Q h g = g

-- an effect after which no instance has ended
abbrev pub Leaves : Table → List Instance → Effect → Type 0
Leaves table memory given = IfOk given (λ e. Follows (length table.terms) None memory e.memory)
