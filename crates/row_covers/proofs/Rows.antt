-- Which rows and locations sets have.
use Rattle.std.proofs.Common.{arith, ℕ, zero, suc, ◌+◌, ◌*◌, ◌/◌, ◌<◌, ◌≤◌, ◌^◌, ◌⊎◌, inl, inr, length}
use Rattle.std.proofs.lemmas.Bool.{cases_lt}
use Rattle.sol_model.specs.declared.system.System.{System}
use Rattle.sol_model.specs.declared.rows.Rows.{Rows}
use Rattle.sol_model.specs.Families.{Has, members}
use Rattle.sol_model.specs.Systems.{IsValid, Fits, location_count, width_of}
use Rattle.sol_model.proofs.Fitting.{fact_known}

-- a system has fewer than 2^32 locations
one_wide : (count : ℕ) → 1 ≤ count → 1 ≤ (count + 63) / 64
one_wide count h = omega arith

product : (rows width : ℕ) → 1 ≤ width → rows ≤ rows * width
product zero width h = omega arith
product (suc rows) width h = (let below = product rows width h in omega arith)

few_locations : (system : System) → IsValid system → location_count system < 2 ^ 32
few_locations system valid = elim (cases_lt (location_count system) 1) [
  | inl lt ↦ omega arith
  | inr ge ↦
      let rows = valid.rows in
      let size = valid.size in
      let wide = product system.rows (width_of system) (one_wide (location_count system) ge) in
      omega arith
]

pub small_location : (system : System) (rows : Rows) → IsValid system → Fits system rows → (row l : ℕ) → Has (members rows) row l → l < 2 ^ 32
small_location system rows valid fits row l h = (let few = few_locations system valid in let known = (fact_known system rows fits row l h).1 in omega arith)

-- a system has no row past all numbers of 32 bits
pub no_such_row : (system : System) (rows : Rows) → IsValid system → Fits system rows → (row l : ℕ) → Has (members rows) row l → row < 4294967295
no_such_row system rows valid fits row l h =
    let known = fact_known system rows fits row l h in
    let size = valid.size in
    let here = known.1 in
    let wide = product system.rows (width_of system) (one_wide (location_count system) (omega arith)) in
    let at = known.0 in
    omega arith
