-- What the declarations around an expression give.
use Rattle.std.specs.Prelude.{ℕ, zero, suc, ◌==◌, Bool, true, false, ◌&&◌, List, [], ◌∷◌, ℤ, Option, Some, None}
use Rattle.std.specs.Prelude.{is_some, if◌then◌else◌}
use Rattle.std.specs.Str.{bytes_eq}
use Rattle.c_inits.specs.passed.c_types.declared.term.Form.{Form}
use Rattle.c_inits.specs.passed.c_types.declared.term.Form.TheVariants.{Fixed, Variadic, Unspecified}
use Rattle.c_inits.specs.passed.c_types.Trees.{Ctype, Ctypes, NoTypes, MoreTypes, VoidType, BoolType, IntegerType}
use Rattle.c_inits.specs.passed.c_types.Trees.{FloatingType, VaListType, PointerTo, ArrayOf, FunctionFrom}
use Rattle.c_inits.specs.passed.c_types.Trees.{StructureOf, UnionOf}
use Rattle.c_inits.specs.passed.c_types.Layout.{Extent, Look, extent_of}
use Rattle.c_inits.specs.passed.c_types.Table.{size_below}
use Rattle.c_inits.specs.Made.{Part, Look as Fillable}

-- what a use of a name means: an object or a function, with the type that its visible declarations give together; a
-- type; a tag; or an enumerator's value
pub data Meaning : Type 0 where
  Object : (entity : ℕ) (type : Ctype) → Meaning
  Function : (entity : ℕ) (type : Ctype) → Meaning
  TypeName : (type : Ctype) → Meaning
  Tag : (tag : ℕ) → Meaning
  Value : (value : ℤ) → Meaning

-- what each use means, by its leaf; the members of each complete tag, what they take, and what can be initialised
-- in them; how many tags there are at most; which entities may be named here, and whether a function may be called;
-- the name of the function whose body is read; and of the last parameter of a variadic function that function's
-- entity
pub record World : Type 0 where
  pub meaning : ℕ → Option Meaning
  pub members : ℕ → Option (List Part)
  pub look : Look
  pub fillable : Fillable
  pub tags : ℕ
  pub may_name : ℕ → Bool
  pub may_call : Bool
  pub own_name : Option (List ℕ)
  pub further : ℕ → Option ℕ

-- what a type takes
abbrev pub extent : World → Ctype → Option Extent
extent w t = extent_of w.look t

-- a complete object type has a size
abbrev pub has_size : World → Ctype → Bool
has_size w t = is_some (size_below (extent w t))

-- the members of a structure or union, where it is complete
abbrev pub members_of : World → Ctype → Option (List Part)
members_of w (StructureOf tag) = w.members tag
members_of w (UnionOf tag) = w.members tag
members_of w t = None

-- one form, one type
abbrev pub same_form : Form → Form → Bool
same_form Fixed Fixed = true
same_form Variadic Variadic = true
same_form Unspecified Unspecified = true
same_form a b = false

abbrev pub same_length : Option ℕ → Option ℕ → Bool
same_length None None = true
same_length (Some a) (Some b) = a == b
same_length a b = false

abbrev pub same_sign : Bool → Bool → Bool
same_sign true true = true
same_sign false false = true
same_sign a b = false

abbrev mutual
  pub same_type : Ctype → Ctype → Bool
  same_type VoidType VoidType = true
  same_type BoolType BoolType = true
  same_type (IntegerType size rank signed) (IntegerType size' rank' signed') =
      (size == size') && ((rank == rank') && same_sign signed signed')
  same_type FloatingType FloatingType = true
  same_type VaListType VaListType = true
  same_type (PointerTo a) (PointerTo b) = same_type a b
  same_type (ArrayOf a m) (ArrayOf b n) = same_length m n && same_type a b
  same_type (FunctionFrom r ps f) (FunctionFrom s qs g) = same_form f g && (same_type r s && same_types ps qs)
  same_type (StructureOf a) (StructureOf b) = a == b
  same_type (UnionOf a) (UnionOf b) = a == b
  same_type a b = false

  pub same_types : Ctypes → Ctypes → Bool
  same_types NoTypes NoTypes = true
  same_types (MoreTypes a as') (MoreTypes b bs) = same_type a b && same_types as' bs
  same_types a b = false

-- where the member of a name stands: a way of positions, one for each level. A list's own names come first, then
-- its unnamed members in order, each one whole before the next. Unnamed members nest no deeper than there are tags.
abbrev pub has_name : List ℕ → Option (List ℕ) → Bool
has_name name None = false
has_name name (Some own) = bytes_eq own name

abbrev pub own_position : List ℕ → ℕ → List Part → Option ℕ
own_position name k [] = None
own_position name k (m ∷ rest) = if has_name name m.name then Some k else own_position name (suc k) rest

abbrev pub or_else : {A : Type 0} → Option A → Option A → Option A
or_else None other = other
or_else (Some x) other = Some x

abbrev pub one_step : Option ℕ → Option (List ℕ)
one_step None = None
one_step (Some k) = Some (k ∷ [])

abbrev pub step_into : ℕ → Option (List ℕ) → Option (List ℕ)
step_into k None = None
step_into k (Some way) = Some (k ∷ way)

-- in the unnamed members of a list, over the search in a type
abbrev pub in_unnamed : (Ctype → Option (List ℕ)) → ℕ → List Part → Option (List ℕ)
in_unnamed search k [] = None
in_unnamed search k (m ∷ rest) =
    or_else (elim m.name [ None ↦ step_into k (search m.type) | Some own ↦ None ]) (in_unnamed search (suc k) rest)

abbrev pub in_members : (Ctype → Option (List ℕ)) → List ℕ → Option (List Part) → Option (List ℕ)
in_members search name None = None
in_members search name (Some members) =
    or_else (one_step (own_position name 0 members)) (in_unnamed search 0 members)

abbrev pub way_within : World → ℕ → List ℕ → Ctype → Option (List ℕ)
way_within w zero name t = None
way_within w (suc depth) name t = in_members (way_within w depth name) name (members_of w t)

abbrev pub way_to : World → List ℕ → Ctype → Option (List ℕ)
way_to w name t = way_within w (suc w.tags) name t
