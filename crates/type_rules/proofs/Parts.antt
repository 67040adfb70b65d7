-- A path that has left a type stays out of it.
use Rattle.std.proofs.Common.{arith, ◌≡◌, ℕ, ◌+◌, ◌<◌, ◌≤◌, List, [], ◌∷◌, Option, Some, None, length, get_or, drop, refl, ap, ◌∙◌}
use Rattle.std.proofs.Common.{All}
use Rattle.std.proofs.lemmas.List.{at_drop_more}
use Rattle.std.proofs.lemmas.List.Elements.{All-head, All-tail, All-cons}
use Rattle.c_types.specs.declared.term.PathStep.{PathStep}
use Rattle.c_types.specs.Table.{Table}
use Rattle.c_types.specs.Paths.{part_type, type_at_path}
use Rattle.c_types.specs.Trees.{Ctype, NoTypes, FunctionFrom, tree_at, trees_at}
use Rattle.c_types.specs.declared.term.TypeId.{TypeId}
use Rattle.c_types.specs.declared.term.Form.{Form}
use Rattle.type_rules.specs.Kinds.{IsScalar, AreScalars}
use Rattle.type_rules.specs.Sizes.{HasSignature}

pub none_below : (table : Table) (rest : List PathStep) → type_at_path table None rest ≡ None
none_below table [] = refl
none_below table (step ∷ rest) = none_below table rest

-- a path whose next step leaves the type
pub left_at : (table : Table) (t : Ctype) (path : List PathStep) (k : ℕ) (d : PathStep) → k < length path → part_type table t (get_or path k d) ≡ None → type_at_path table (Some t) (drop k path) ≡ None
left_at table t path k d h e =
    at_drop_more (λ (rest : List PathStep). type_at_path table (Some t) rest) path k d h
    ∙ (ap (λ (o : Option Ctype). type_at_path table o (drop (k + 1) path)) e ∙ none_below table (drop (k + 1) path))

-- a function with a parameter isn't one without
pub more_types : (trees : List Ctype) (ids : List TypeId) → 1 ≤ length ids → trees_at trees ids ≡ NoTypes → ⊥
more_types trees [] h e = absurd (omega arith)
more_types trees (id ∷ rest) h e = cc

-- so it asks for no signature
pub listed_signature : (table : Table) (trees : List Ctype) (ids : List TypeId) (r : Ctype) (f : Form) → 1 ≤ length ids → HasSignature table (FunctionFrom r (trees_at trees ids) f)
listed_signature table trees [] r f h = absurd (omega arith)
listed_signature table trees (id ∷ rest) r f h = tt

-- types of a list one by one, and as the list of a function's parameters
pub listed_scalars : (trees : List Ctype) (ids : List TypeId) → All (λ (id : TypeId). IsScalar (tree_at trees id.0)) ids → AreScalars (trees_at trees ids)
listed_scalars trees [] h = tt
listed_scalars trees (id ∷ rest) h = (
  All-head (λ (x : TypeId). IsScalar (tree_at trees x.0)) id rest h,
  listed_scalars trees rest (All-tail (λ (x : TypeId). IsScalar (tree_at trees x.0)) id rest h),
)

pub scalars_listed : (trees : List Ctype) (ids : List TypeId) → AreScalars (trees_at trees ids) → All (λ (id : TypeId). IsScalar (tree_at trees id.0)) ids
scalars_listed trees [] h = λ k d lt. absurd (omega (arith, lt))
scalars_listed trees (id ∷ rest) h =
    All-cons (λ (x : TypeId). IsScalar (tree_at trees x.0)) id rest h.0 (scalars_listed trees rest h.1)
