-- Promotions and common types.
use Rattle.std.proofs.Common.{◌≡◌, ℕ, Bool, true, false, cond, refl, ap, ◌∙◌}
use Rattle.c_types.specs.Trees.{Ctype, VoidType, BoolType, IntegerType, FloatingType, VaListType, PointerTo, ArrayOf, FunctionFrom, StructureOf, UnionOf}
use Rattle.c_senses.specs.passed.c_consts.Core.{Core, ctype_of}
use Rattle.c_senses.specs.World.{same_type}
use Rattle.c_senses.specs.Conversions.{made, common, converted}
use Rattle.core_nodes.proofs.Growing.{builds_on, knows_on}
use Rattle.core_nodes.proofs.SameTypes.{type_same}

-- a value of that type stays as it is
pub made_self : (t : Ctype) (v : Core) → t ≡ ctype_of v → made t v ≡ v
made_self t v e =
    let same : same_type (ctype_of v) t ≡ true = ap (same_type (ctype_of v)) e ∙ type_same (ctype_of v) in
    ap (λ (b : Bool). cond b v (converted t v)) same

pub common_left : (a b : Ctype) → ((size rank : ℕ) (signed : Bool) → a ≡ IntegerType size rank signed → ⊥) → common a b ≡ a
common_left (IntegerType size rank signed) b h = absurd (h size rank signed refl)
common_left VoidType b h = refl
common_left BoolType b h = refl
common_left FloatingType b h = refl
common_left VaListType b h = refl
common_left (PointerTo to) b h = refl
common_left (ArrayOf of n) b h = refl
common_left (FunctionFrom r ps f) b h = refl
common_left (StructureOf tag) b h = refl
common_left (UnionOf tag) b h = refl

pub common_right : (a b : Ctype) → ((size rank : ℕ) (signed : Bool) → b ≡ IntegerType size rank signed → ⊥) → common a b ≡ a
common_right (IntegerType size rank true) (IntegerType other r g) h = absurd (h other r g refl)
common_right (IntegerType size rank false) (IntegerType other r g) h = absurd (h other r g refl)
common_right (IntegerType size rank true) b h = refl
common_right (IntegerType size rank false) b h = refl
common_right a b h = refl

pub ruleset integers = (builds_on, knows_on, common_left, common_right, made_self)
