-- Members that a structure or union may be completed with (C11 6.7.2.1).
use Rattle.std.specs.Prelude.{ℕ, Bool, true, false, ◌&&◌, ◌||◌, not, nat_lt, nat_le, List, [], ◌∷◌, Option, Some}
use Rattle.std.specs.Prelude.{None, is_some}
use Rattle.c_types.specs.Trees.{Ctype, ArrayOf}
use Rattle.c_types.specs.Layout.{Extent}
use Rattle.c_inits.specs.Made.{Part}
use Rattle.c_senses.specs.Tags.{bits_in}

-- a width from 1 to the bits of an integer type
abbrev pub width_in : Option ℕ → ℕ → Bool
width_in None bits = false
width_in (Some most) bits = nat_lt 0 bits && nat_le bits most

abbrev pub bits_fit : Ctype → Option ℕ → Bool
bits_fit t None = true
bits_fit t (Some bits) = width_in (bits_in t) bits

abbrev pub is_none_left : List Part → Bool
is_none_left [] = true
is_none_left (m ∷ rest) = false

module _ (extents : Ctype → Option Extent) where
  -- an array without a length, of a complete type
  abbrev pub is_flexible : Ctype → Bool
  is_flexible (ArrayOf of None) = is_some (extents of)
  is_flexible t = false

  -- a complete type; or, at the end of a structure with another member, an array without a length
  abbrev pub type_fits : (is_union first last : Bool) → Ctype → Bool
  type_fits is_union first last t = is_some (extents t) || (not is_union && (not first && (last && is_flexible t)))

  abbrev pub takes_member : (is_union first last : Bool) → Part → Bool
  takes_member is_union first last m = bits_fit m.type m.bits && type_fits is_union first last m.type

  abbrev pub takes : (is_union first : Bool) → List Part → Bool
  takes is_union first [] = true
  takes is_union first (m ∷ rest) = takes_member is_union first (is_none_left rest) m && takes is_union false rest
