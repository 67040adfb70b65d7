-- Which instance a call of a library function ends.
use Rattle.std.specs.Prelude.{ℕ, List, Option, Some, None, if◌then◌else◌}
use Rattle.ref_cells.specs.declared.cells.Value.{Value}
use Rattle.ref_cells.specs.declared.instance.Instance.{Instance}
use Rattle.ref_elements.specs.Arguments.{argument}
use Rattle.ref_elements.specs.Objects.{is_odd}
use Rattle.ref_lib.specs.ref_alloc.Allocation.{heap_at}
use Rattle.ref_lib.specs.declared.rows.Making.TheVariants.{Realloc, Free}
use Rattle.ref_lib.specs.declared.rows.Row.{Row}
use Rattle.ref_lib.specs.declared.rows.Row.TheVariants.{Makes}

-- free ends what its argument points to, realloc too unless its word is odd, and no other function ends one
abbrev pub ended_by : List Instance → Option Row → List Value → ℕ → Option ℕ
ended_by memory (Some (Makes Free)) arguments word = heap_at memory (argument arguments 0)
ended_by memory (Some (Makes Realloc)) arguments word = if is_odd word then None
    else heap_at memory (argument arguments 0)
ended_by memory row arguments word = None
