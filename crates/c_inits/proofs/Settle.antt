-- The first sub-object that an expression initialises.
use Rattle.std.proofs.Common.{arith, ◌≡◌, ◌<◌, ℕ, suc, List, ◌∷◌, length, ap, sym, ◌∙◌, Some, Bool, true, false}
use Rattle.c_types.specs.Trees.{Ctype}
use Rattle.c_types.specs.Table.{Table}
use Rattle.c_inits.specs.Shapes.{Shape, Path, SubObject, from, inner, onward}
use Rattle.c_inits.specs.Initial.{fits, first_fit, first_of}
use Rattle.c_inits.specs.Tables.{type_shape}
use Rattle.c_inits.specs.Cursor.{IsAt, sub_object}
use Rattle.c_inits.proofs.Onward.{onward_head, chosen, chosen_not}

-- one that doesn't fit is passed over
pub passes : (t : Ctype) (text : Bool) (xs ys : List SubObject) (s : SubObject) (test : Bool) → test ≡ fits t text s.shape → test ≡ false → xs ≡ s ∷ ys → first_fit t text xs ≡ first_fit t text ys
passes t text xs ys s test e unfit h = ap (first_fit t text) h ∙ chosen_not (fits t text s.shape) (Some s) (first_fit t text ys) (sym e ∙ unfit)

-- one that fits is the place
pub takes : (table : Table) (limit : ℕ) (t : Ctype) (text : Bool) (root : Shape) (path : Path) (id : ℕ) (test : Bool) → test ≡ fits t text (type_shape table limit id) → test ≡ true → IsAt table limit root path id →
    first_fit t text (from root path) ≡ Some (sub_object table limit path id)
takes table limit t text root path id test e fit at =
    ap (first_fit t text) (onward_head inner root path (type_shape table limit id) at.here)
    ∙ chosen (fits t text (type_shape table limit id)) (Some (sub_object table limit path id)) (first_fit t text (onward inner root path)) (sym e ∙ fit)

pub shorter : (xs ys : List SubObject) (s : SubObject) → xs ≡ s ∷ ys → length ys < length xs
shorter xs ys s h = let n : length xs ≡ suc (length ys) = ap length h in omega (arith, n)

-- the present one comes first
pub first_here : (table : Table) (limit : ℕ) (root : Shape) (path : Path) (id : ℕ) → IsAt table limit root path id → first_of (from root path) ≡ Some (sub_object table limit path id)
first_here table limit root path id at = ap first_of (onward_head inner root path (type_shape table limit id) at.here)
