-- Types that declarations give one after another.
use Rattle.std.specs.Prelude.{Option, Some, None}
use Rattle.c_types.specs.Trees.{Ctype}
use Rattle.c_senses.specs.Entities.{together}

-- a type with one more, where there is one
abbrev pub with_own : Option Ctype → Option Ctype → Option Ctype
with_own so_far None = so_far
with_own None (Some t) = Some t
with_own (Some a) (Some t) = Some (together a t)
