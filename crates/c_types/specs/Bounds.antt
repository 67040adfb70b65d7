-- What the code keeps of an extent: numbers, of which those past 2^63 count as 2^63.
use Rattle.std.specs.Prelude.{ℕ, ◌^◌, ◌*◌, Option, Some, None, length, min}
use Rattle.c_types.specs.declared.layout.Bounds.{Bounds}
use Rattle.c_types.specs.Layout.{Extent}

-- a number past 2 ^ 63 counts as 2 ^ 63
abbrev pub cap : ℕ → ℕ
cap n = min n (2 ^ 63)

abbrev pub bounds : Extent → Bounds
bounds e = record { size = cap e.size; align = e.align; nodes = cap (length e.nodes) }

abbrev pub bounds_or : Option Extent → Option Bounds
bounds_or None = None
bounds_or (Some e) = Some (bounds e)

-- the bounds of so many
abbrev pub bounds_times : Option ℕ → Option Bounds → Option Bounds
bounds_times None b = None
bounds_times (Some n) None = None
bounds_times (Some n) (Some b) = Some (record b { size = cap (n * b.size) })
