-- What has a shape.
use Rattle.std.proofs.Common.{arith, IsSome, ◌≡◌, ◌≤◌, ℕ, refl, ap, ◌∙◌, Option, Some, None, is_some, Bool, true, false, map}
use Rattle.std.specs.Option.{option_map}
use Rattle.c_types.specs.Trees.{Ctype, VoidType, BoolType, IntegerType, FloatingType, VaListType, PointerTo, ArrayOf, FunctionFrom, StructureOf, UnionOf}
use Rattle.c_types.specs.Table.{Table, members_in}
use Rattle.c_types.specs.Made.{IsMade}
use Rattle.c_inits.specs.Shapes.{Shape, Elements, Structured, Overlaid}
use Rattle.c_inits.specs.Made.{Look, shape_of, shape_for, fields_of}
use Rattle.c_inits.specs.Tables.{fillable, part_of, or_void, lacks_length}
use Rattle.c_inits.proofs.Fillable.{filled}
use Rattle.c_inits.specs.Syntax.{Init, init_node}
use Rattle.c_inits.specs.Initial.{NoPlace, initial}
use Rattle.c_initialise.specs.c_braces.Initialised.{outcome_for}
use Rattle.c_initialise.proofs.c_braces.Wide.{width}

mapped_some : {A B : Type 0} (f : A → B) (o : Option A) → is_some (option_map f o) ≡ is_some o
mapped_some f None = refl
mapped_some f (Some x) = refl

pub array_shape : (look : Look) (of : Ctype) (n : ℕ) → is_some (shape_of look (ArrayOf of (Some n))) ≡ is_some (shape_of look of)
array_shape look of n = mapped_some (λ s. Elements (ArrayOf of (Some n)) s n) (shape_of look of)

pub open_shape : (look : Look) (limit : ℕ) (of : Ctype) → is_some (shape_for look limit (ArrayOf of None)) ≡ is_some (shape_of look of)
open_shape look limit of = mapped_some (λ s. Elements (ArrayOf of None) s limit) (shape_of look of)

pub plain_shape : (look : Look) (limit : ℕ) (t : Ctype) → lacks_length t ≡ false → is_some (shape_for look limit t) ≡ is_some (shape_of look t)
plain_shape look limit VoidType e = refl
plain_shape look limit BoolType e = refl
plain_shape look limit (IntegerType size rank signed) e = refl
plain_shape look limit FloatingType e = refl
plain_shape look limit VaListType e = refl
plain_shape look limit (PointerTo to) e = refl
plain_shape look limit (ArrayOf of None) e = cc
plain_shape look limit (ArrayOf of (Some n)) e = refl
plain_shape look limit (FunctionFrom result parameters form) e = refl
plain_shape look limit (StructureOf tag) e = refl
plain_shape look limit (UnionOf tag) e = refl

module _ (table : Table) (made : IsMade table) (tag : ℕ) where
  fields_there : is_some (fillable table tag) ≡ is_some (members_in table tag)
  fields_there = ap is_some (filled table made tag) ∙ mapped_some (λ ms. fields_of (fillable table) 0 (map (part_of table) ms)) (members_in table tag)

  pub structure_shape : is_some (shape_of (fillable table) (StructureOf tag)) ≡ is_some (members_in table tag)
  structure_shape = mapped_some (Structured (StructureOf tag)) (fillable table tag) ∙ fields_there

  pub union_shape : is_some (shape_of (fillable table) (UnionOf tag)) ≡ is_some (members_in table tag)
  union_shape = mapped_some (Overlaid (UnionOf tag)) (fillable table tag) ∙ fields_there

-- an array without a length has no more elements than the limit
open_elements : (of : Ctype) (limit : ℕ) (o : Option Shape) → width (or_void (option_map (λ s. Elements (ArrayOf of None) s limit) o)) ≤ limit
open_elements of limit None = omega arith
open_elements of limit (Some s) = omega arith

pub open_width : (look : Look) (limit : ℕ) (t : Ctype) → lacks_length t ≡ true → width (or_void (shape_for look limit t)) ≤ limit
open_width look limit VoidType e = cc
open_width look limit BoolType e = cc
open_width look limit (IntegerType size rank signed) e = cc
open_width look limit FloatingType e = cc
open_width look limit VaListType e = cc
open_width look limit (PointerTo to) e = cc
open_width look limit (ArrayOf of None) e = open_elements of limit (shape_of look of)
open_width look limit (ArrayOf of (Some n)) e = cc
open_width look limit (FunctionFrom result parameters form) e = cc
open_width look limit (StructureOf tag) e = cc
open_width look limit (UnionOf tag) e = cc

pub has_none : (o : Option Shape) (init : Init) (b : Bool) → b ≡ is_some o → b ≡ false → outcome_for o init ≡ NoPlace (init_node init)
has_none None init b e f = refl
has_none (Some s) init b e f = cc

pub has_some : (o : Option Shape) (b : Bool) → b ≡ is_some o → b ≡ true → IsSome o
has_some None b e f = cc
has_some (Some s) b e f = refl

pub with_shape : (o : Option Shape) (init : Init) → IsSome o → initial (or_void o) init ≡ outcome_for o init
with_shape None init h = cc
with_shape (Some s) init h = refl
