-- How deep a shape is.
use Rattle.std.proofs.Common.{arith, ◌≡◌, ◌<◌, ◌≤◌, ℕ, suc, max, cond, eqb, Bool, true, false, ap, ◌∙◌, [], Option, Some}
use Rattle.c_inits.specs.Shapes.{Shape, Fields, Scalar, Elements, Structured, Overlaid, NoFields, Field}
use Rattle.c_inits.specs.Parts.{shape_in}
use Rattle.c_inits.specs.Designated.{HasFields}

abbrev mutual
  pub depth : Shape → ℕ
  depth (Scalar type) = 0
  depth (Elements type of length) = suc (depth of)
  depth (Structured type list) = suc (fields_depth list)
  depth (Overlaid type list) = suc (fields_depth list)

  pub fields_depth : Fields → ℕ
  fields_depth NoFields = 0
  fields_depth (Field name number shape rest) = max (depth shape) (fields_depth rest)

some_is : {A : Type 0} (x y : A) → ◌≡◌ {A = Option A} (Some x) (Some y) → x ≡ y
some_is x y e = cc

-- a field is no deeper than all fields
pub field_depth : (fs : Fields) (m : ℕ) (s : Shape) → shape_in fs m [] ≡ Some s → depth s ≤ fields_depth fs
field_depth NoFields m s e = cc
field_depth (Field name number shape rest) m s e = pick (eqb number m) e (λ h. field_depth rest m s h)
  where
    pick : (b : Bool) → cond b (Some shape) (shape_in rest m []) ≡ Some s → (shape_in rest m [] ≡ Some s → depth s ≤ fields_depth rest) → depth s ≤ max (depth shape) (fields_depth rest)
    pick true h later = let same : depth shape ≡ depth s = ap depth (some_is shape s h) in grind (arith, same)
    pick false h later = let le : depth s ≤ fields_depth rest = later h in grind (arith, le)

pub part_depth : (s t : Shape) (fs : Fields) (m : ℕ) → HasFields s fs → shape_in fs m [] ≡ Some t → depth t < depth s
part_depth (Scalar type) t fs m h e = absurd h
part_depth (Elements type of length) t fs m h e = absurd h
part_depth (Structured type list) t fs m h e = let le = field_depth list m t (ap (λ l. shape_in l m []) h ∙ e) in omega (arith, le)
part_depth (Overlaid type list) t fs m h e = let le = field_depth list m t (ap (λ l. shape_in l m []) h ∙ e) in omega (arith, le)
