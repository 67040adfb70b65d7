-- The types of parts.
use Rattle.std.proofs.Common.{arith, ◌≡◌, ◌<◌, ◌≤◌, ◌+◌, ℕ, zero, suc, refl, ap, sym, ◌∙◌, List, [], ◌∷◌, length, drop, drop-cons, add-one, get_or, Option, Some, None}
use Rattle.c_types.specs.declared.term.PathStep.{PathStep}
use Rattle.c_types.specs.declared.term.PathStep.TheVariants.{Member}
use Rattle.c_types.specs.Trees.{Ctype, VoidType, BoolType, IntegerType, FloatingType, VaListType, PointerTo, ArrayOf, FunctionFrom, StructureOf, UnionOf}
use Rattle.c_inits.specs.Made.{Part}
use Rattle.c_senses.specs.World.{World, members_of}
use Rattle.c_senses.specs.Objects.{part_at}
use Rattle.c_senses.specs.Initialised.{type_below, type_along}

abbrev type_of_part : Option Part → Option Ctype
type_of_part o = elim o [ None ↦ None | Some m ↦ Some m.type ]

member_below : (w : World) (t : Ctype) (k : ℕ) → type_below w t (Member k) ≡ type_of_part (part_at (members_of w t) k)
member_below w VoidType k = refl
member_below w BoolType k = refl
member_below w (IntegerType size rank signed) k = refl
member_below w FloatingType k = refl
member_below w VaListType k = refl
member_below w (PointerTo to) k = refl
member_below w (ArrayOf of n) k = refl
member_below w (FunctionFrom r ps f) k = refl
member_below w (StructureOf tag) k = refl
member_below w (UnionOf tag) k = refl

pub below_member : (w : World) (t : Ctype) (step : PathStep) (k : ℕ) (o : Option Part) (r : Option Ctype) → step ≡ Member k → part_at (members_of w t) k ≡ o → type_of_part o ≡ r → r ≡ type_below w t step
below_member w t step k o r is at e = sym (ap (type_below w t) is ∙ member_below w t k ∙ ap type_of_part at ∙ e)

-- no type has no parts
pub along_none : (w : World) (path : List PathStep) → type_along w None path ≡ None
along_none w [] = refl
along_none w (step ∷ path) = refl

drop_past : (xs : List PathStep) (k : ℕ) → length xs ≤ k → drop k xs ≡ []
drop_past [] zero le = refl
drop_past [] (suc k) le = refl
drop_past (x ∷ xs) zero le = absurd (omega (arith, le))
drop_past (x ∷ xs) (suc k) le = drop_past xs k (omega (arith, le))

-- one step off a path
pub along_step : (w : World) (t : Ctype) (path : List PathStep) (k : ℕ) (d : PathStep) (o : Option Ctype) → k < length path → o ≡ type_below w t (get_or path k d) → type_along w o (drop (k + 1) path) ≡ type_along w (Some t) (drop k path)
along_step w t path k d o lt e =
    let off : drop k path ≡ get_or path k d ∷ drop (k + 1) path = drop-cons path k d lt ∙ ap (λ j. get_or path k d ∷ drop j path) (sym (add-one k)) in
    ap (λ (x : Option Ctype). type_along w x (drop (k + 1) path)) e ∙ sym (ap (type_along w (Some t)) off)

pub along_end : (w : World) (t : Ctype) (path : List PathStep) (k : ℕ) → length path ≤ k → Some t ≡ type_along w (Some t) (drop k path)
along_end w t path k le = sym (ap (type_along w (Some t)) (drop_past path k le))
