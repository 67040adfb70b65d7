-- Lists of parameters.
use Rattle.std.proofs.Common.{arith, ◌≡◌, ℕ, zero, suc, ◌<◌, ◌≤◌, true, false, List, [], ◌∷◌, length, Option, Some, None, slice_get, refl, ap}
use Rattle.c_types.specs.Trees.{Ctype, NoTypes, tree_at, trees_at, grow}
use Rattle.c_types.specs.declared.term.Term.{Term}
use Rattle.c_types.specs.declared.term.Term.TheVariants.{Void, Bool as BoolTerm, Integer, Floating, VaList, Pointer, Array, Function, Structure, Union}
use Rattle.c_types.specs.declared.term.TypeId.{TypeId}
use Rattle.c_senses.specs.World.{World, has_size}
use Rattle.c_senses.specs.Objects.{count_of, at_least, is_returned}
use Rattle.core_nodes.proofs.Growing.{builds_on, knows_on}
use Rattle.value_rows.specs.Calls.{types_after, first_type}

abbrev tree_in : List Ctype → Option TypeId → Option Ctype
tree_in trees None = None
tree_in trees (Some id) = Some (tree_at trees id.0)

after_none : (k : ℕ) → types_after k NoTypes ≡ NoTypes
after_none zero = refl
after_none (suc k) = after_none k

pub parameter_is : (trees : List Ctype) (ids : List TypeId) (k : ℕ) → first_type (types_after k (trees_at trees ids)) ≡ tree_in trees (slice_get ids k)
parameter_is trees [] k = ap first_type (after_none k)
parameter_is trees (id ∷ ids) zero = refl
parameter_is trees (id ∷ ids) (suc k) = parameter_is trees ids k

pub no_parameter : (k : ℕ) → first_type (types_after k NoTypes) ≡ None
no_parameter k = ap first_type (after_none k)

pub count_is : (trees : List Ctype) (ids : List TypeId) → count_of (trees_at trees ids) ≡ length ids
count_is trees [] = refl
count_is trees (id ∷ ids) = ap suc (count_is trees ids)

pub at_least_so : (m n : ℕ) → m ≤ n → at_least m n ≡ true
at_least_so zero n h = refl
at_least_so (suc m) zero h = absurd (omega arith)
at_least_so (suc m) (suc n) h = at_least_so m n (omega arith)

pub at_least_not : (m n : ℕ) → n < m → at_least m n ≡ false
at_least_not zero n h = absurd (omega arith)
at_least_not (suc m) zero h = refl
at_least_not (suc m) (suc n) h = at_least_not m n (omega arith)

-- a type that isn't void is returned where it has a size
pub returned_sized : (w : World) (trees : List Ctype) (term : Term) → (term ≡ Void → ⊥) → is_returned w (grow trees term) ≡ has_size w (grow trees term)
returned_sized w trees Void h = absurd (h refl)
returned_sized w trees BoolTerm h = refl
returned_sized w trees (Integer size rank signed) h = refl
returned_sized w trees Floating h = refl
returned_sized w trees VaList h = refl
returned_sized w trees (Pointer to) h = refl
returned_sized w trees (Array of length) h = refl
returned_sized w trees (Function result parameters form) h = refl
returned_sized w trees (Structure tag) h = refl
returned_sized w trees (Union tag) h = refl

pub ruleset signatures = (builds_on, knows_on, parameter_is, no_parameter, count_is, at_least_so, at_least_not)
