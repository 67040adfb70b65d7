-- Types of one name that agree.
use Rattle.std.specs.Prelude.{◌≡◌, ⊤, true, List, [], ◌∷◌, ◌++◌, Option, Some, None}
use Rattle.c_types.specs.declared.term.Form.TheVariants.{Unspecified}
use Rattle.c_types.specs.Trees.{Ctype, ArrayOf, FunctionFrom}
use Rattle.core_tree.specs.Rows.{Agree}
use Rattle.c_senses.specs.Entities.{agree, together, all_together}

-- the same type, or one that lacks the length or the parameters that the other has
abbrev pub Below : Ctype → Ctype → Type 0
Below (ArrayOf a None) (ArrayOf b n) = a ≡ b
Below (FunctionFrom r ps Unspecified) (FunctionFrom q qs f) = r ≡ q
Below a b = a ≡ b

-- each type agrees with what those before it give together
abbrev pub AllAgree : Option Ctype → List Ctype → Type 0
AllAgree so_far [] = ⊤
AllAgree None (t ∷ rest) = AllAgree (Some t) rest
AllAgree (Some a) (t ∷ rest) = (agree a t ≡ true) × AllAgree (Some (together a t)) rest

abbrev pub AllBelow : List Ctype → Ctype → Type 0
AllBelow [] whole = ⊤
AllBelow (t ∷ rest) whole = Below t whole × AllBelow rest whole

pub record TypesJoined : Type 0 where
  pub last : (so_far : Option Ctype) (ts : List Ctype) (t whole : Ctype)
      → all_together so_far (ts ++ t ∷ []) ≡ Some whole
      → Agree whole t
  pub below : (ts : List Ctype) (whole : Ctype)
      → AllAgree None ts
      → all_together None ts ≡ Some whole
      → AllBelow ts whole
  pub agrees : (a b whole : Ctype) → Below a whole → Below b whole → Agree a b
