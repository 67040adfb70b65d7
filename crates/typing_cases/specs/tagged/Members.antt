-- Members of complete types.
use Rattle.std.specs.Prelude.{ℕ, ◌≡◌, ◌<◌, List, Some, length, slice_get}
use Rattle.c_types.specs.declared.term.MemberTerm.{MemberTerm}
use Rattle.c_types.specs.Table.{Table, type_of}
use Rattle.c_types.specs.Made.{IsComplete, HasBits}

abbrev pub Fits : Table → MemberTerm → Type 0
Fits table m =
    (m.ty.0 < length table.terms) × IsComplete table (type_of table m.ty.0) × HasBits (type_of table m.ty.0) m.bits

abbrev pub AllFit : Table → List MemberTerm → Type 0
AllFit table members = (k : ℕ) (m : MemberTerm) → slice_get members k ≡ Some m → Fits table m
