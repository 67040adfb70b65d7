-- Work: how many steps a family asks for where each of its facts passes each edge once, and each fact that a rule
-- demands outright is added once.
use Rattle.std.specs.Prelude.{◌≡◌, ℕ, zero, suc, ◌+◌, ◌≤◌, ◌==◌, ◌&&◌, ◌↔◌, Bool, false, cond, List, Contains}
use Rattle.std.specs.Prelude.{sum_by, count_by, slice_get, is_some}
use Rattle.std.specs.Option.{option_map_or}
use Rattle.sol_model.specs.declared.system.System.{System}
use Rattle.sol_model.specs.declared.system.CallSite.{CallSite}
use Rattle.sol_model.specs.declared.system.Constraint.{Constraint}
use Rattle.sol_model.specs.declared.system.Constraint.TheVariants.{Address, Field}
use Rattle.sol_model.specs.Families.{Family, IsInside}
use Rattle.sol_model.specs.Places.{field_of}
use Rattle.sol_model.specs.Solutions.{IsEdge}
use Rattle.sol_model.specs.Systems.{location_count}
use Rattle.edge_book.specs.Edges.{AreApart}

-- how many of the numbers below n pass a test
abbrev pub count_below : ℕ → (ℕ → Bool) → ℕ
count_below zero test = 0
count_below (suc n) test = count_below n test + cond (test n) 1 0

-- how many locations a row has
abbrev pub size : System → Family → ℕ → ℕ
size S F row = count_below (location_count S) (F row)

-- whether the function of a number is a target of a call
abbrev pub is_target : System → Family → CallSite → ℕ → Bool
is_target S F call number =
    option_map_or (λ function. F call.callee function.location && (function.signature == call.signature))
    (slice_get S.functions number) false

-- how many facts a constraint asks for: one for an Address, and one for each location of its row for which a Field
-- gives one
abbrev pub asked_by : System → Family → Constraint → ℕ
asked_by S F (Address row location) = 1
asked_by S F (Field from to ty member) =
    count_below (location_count S) (λ whole. F from whole && is_some (field_of S whole ty member))
asked_by S F _ = 0

-- how many targets of a call its `fresh` names; it names no function twice
abbrev pub fresh_targets : System → Family → CallSite → ℕ
fresh_targets S F call = count_by (λ pair. is_target S F call pair.0) call.fresh

abbrev pub fact_work : System → Family → ℕ
fact_work S F = sum_by (asked_by S F) S.constraints + sum_by (fresh_targets S F) S.calls

-- the sum of the sizes of the sources of edges
abbrev pub edge_work : System → Family → List (ℕ × ℕ) → ℕ
edge_work S F edges = sum_by (λ edge. size S F edge.0) edges

-- n is the work of the family: the sum over all edges that rules demand, each pair of rows counted once, of the
-- size of the edge's source, and the facts that are asked for outright
pub record IsWork (S : System) (F : Family) (n : ℕ) : Type 0 where
  pub edges : List (ℕ × ℕ)
  pub once : AreApart edges
  pub all : (a b : ℕ) → (Contains edges (a, b) ↔ IsEdge S F a b)
  pub sum : n ≡ edge_work S F edges + fact_work S F

-- a family inside another has no more work; so families with the same facts have the same
abbrev pub WorkGrows : Type 0
WorkGrows = (S : System) (F G : Family) (n m : ℕ) → IsInside F G → IsWork S F n → IsWork S G m → n ≤ m

abbrev pub OneWork : Type 0
OneWork = (S : System) (F : Family) (n m : ℕ) → IsWork S F n → IsWork S F m → n ≡ m
