-- A small table passes the tests.
use Rattle.std.proofs.Common.{◌≡◌, ℕ, ◌<◌, true, Option, Some, None, length, refl}
use Rattle.std.specs.Prelude.{IfSome}
use Rattle.std.proofs.lemmas.Bool.{and_parts}
use Rattle.c_types.specs.declared.term.TypeId.{TypeId}
use Rattle.c_types.specs.Table.{Table, type_of, extent_in}
use Rattle.c_senses.specs.Limits.{is_small}
use Rattle.unit_worlds.specs.unit_limits.Small.{IsSmallTable, AreSmallFrom, is_small_completed, has_element}

small_from : (types : Table) → IsSmallTable types → (from : ℕ) → AreSmallFrom types from
small_from types h from = record { each = λ id low high. h.small id high }

-- the types from a number on, and the one that a node completes, are small
pub tested : (types : Table) → IsSmallTable types → (from : ℕ) (completed : Option TypeId) → IfSome completed (λ ty. ty.0 < length types.terms) → AreSmallFrom types from × (is_small_completed types completed ≡ true)
tested types h from None within = (small_from types h from, refl)
tested types h from (Some ty) within =
    (small_from types h from, (and_parts (is_small (extent_in types (type_of types ty.0))) (has_element (extent_in types) (type_of types ty.0)) (h.small ty.0 within)).0)
