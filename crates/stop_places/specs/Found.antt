-- What the members of callees' rows are to the calls of a signature.
use Rattle.std.specs.Prelude.{◌≡◌, ℕ, ◌==◌, ◌||◌, ◌↔◌, ◌⊎◌, Bool, true, false, IsTrue, if◌then◌else◌, List}
use Rattle.std.specs.Prelude.{Option, Some}
use Rattle.std.specs.Prelude.{None, ◌<◌, length, slice_get, slice_index_or, option_and_then}
use Rattle.std.specs.List.{list_any}
use Rattle.std.specs.Option.{option_map_or}
use Rattle.std.specs.Str.{bytes_eq}
use Rattle.sol_model.specs.declared.system.System.{System}
use Rattle.sol_model.specs.declared.system.LocationFact.{LocationFact}
use Rattle.sol_model.specs.declared.system.CallSite.{CallSite}
use Rattle.sol_model.specs.declared.system.Function.{Function}
use Rattle.sol_model.specs.Families.{Family}
use Rattle.lib_summaries.specs.Table.{name_of}
use Rattle.stop_places.specs.declared.targets.Found.{Found}
use Rattle.stop_places.specs.declared.targets.Found.TheVariants.{Stranger, Own, Library}
use Rattle.stop_places.specs.declared.targets.Judged.{Judged}
use Rattle.stop_places.specs.Targets.{HasStranger, ReachesSomeLibrary, ReachesWalker, ReachesEnder, walkers}
use Rattle.stop_places.specs.Targets.{enders}

-- a function of the program or of the library
abbrev pub found_by : Option ℕ → Found
found_by None = Own
found_by (Some k) = Library k

abbrev pub found_in : ℕ → Option Function → Found
found_in signature None = Stranger
found_in signature (Some function) =
    if function.signature == signature then found_by function.library else Stranger

-- the number of the function at a location, and the function
abbrev pub function_number : System → ℕ → Option ℕ
function_number system location =
    option_and_then (λ (fact : LocationFact). fact.function) (slice_get system.locations location)

abbrev pub function_at : System → ℕ → Option Function
function_at system location = option_and_then (slice_get system.functions) (function_number system location)

-- what a location is to the calls of a signature
abbrev pub found_at : System → ℕ → ℕ → Found
found_at system signature location = found_in signature (function_at system location)

-- the library function of a number has one of these names
abbrev pub is_named : List (List ℕ) → ℕ → Bool
is_named names k = option_map_or (λ name. list_any (λ other. bytes_eq other name) names) (name_of k) false

abbrev pub is_library : Found → Bool
is_library (Library k) = true
is_library found = false

abbrev pub is_walker : Found → Bool
is_walker (Library k) = is_named walkers k
is_walker found = false

abbrev pub is_bad : Found → Bool
is_bad Stranger = true
is_bad Own = false
is_bad (Library k) = is_named enders k

-- what was found so far, with one location more
abbrev pub joined : Judged → Found → Judged
joined judged found = record {
  library = judged.library || is_library found;
  mismatch = judged.mismatch || is_walker found;
  bad = judged.bad || is_bad found;
}

-- what a list of locations is to them
pub record AreJudged (system : System) (signature : ℕ) (locations : List ℕ) (judged : Judged) : Type 0 where
  pub library : judged.library ≡ list_any (λ l. is_library (found_at system signature l)) locations
  pub mismatch : judged.mismatch ≡ list_any (λ l. is_walker (found_at system signature l)) locations
  pub bad : judged.bad ≡ list_any (λ l. is_bad (found_at system signature l)) locations

-- what was found of a call
pub record IsJudged (system : System) (F : Family) (call : CallSite) (judged : Judged) : Type 0 where
  pub library : IsTrue judged.library ↔ ReachesSomeLibrary system F call
  pub mismatch : IsTrue judged.mismatch ↔ ReachesWalker system F call
  pub bad : IsTrue judged.bad ↔ (HasStranger system F call ⊎ ReachesEnder system F call)

-- what is found where there is no call
abbrev pub nothing : Judged
nothing = record { library = false; mismatch = false; bad = false }

-- for each of the first so many calls
pub record EachJudged (system : System) (F : Family) (count : ℕ) (list : List Judged) : Type 0 where
  pub each : length list ≡ count
  pub right : (number : ℕ)
      → number < count
      → (call : CallSite)
      → slice_get system.calls number ≡ Some call
      → IsJudged system F call (slice_index_or list number nothing)
