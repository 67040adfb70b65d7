-- Parts that stand for no core tree, or for no type.
use Rattle.std.proofs.Common.{◌≡◌, ℕ, Some, None, refl, ap}
use Rattle.pta_base.specs.declared.kind.Kind.TheVariants.{Operand}
use Rattle.c_types.specs.Trees.{Ctype}
use Rattle.c_consts.specs.Core.{Core}
use Rattle.c_senses.specs.Given.{Given, Fits, Refuses, ◌>>=◌}
use Rattle.c_senses.specs.World.{World}
use Rattle.c_senses.specs.Conversions.{value_of}
use Rattle.c_senses.specs.Sense.{Sense, IsCore, IsType, core_of, value_in, type_of_sense}
use Rattle.c_results.specs.Parts.{core_in, type_in}

pub core_none : (at : ℕ) (x : Sense) → core_in x ≡ None → core_of at x ≡ Refuses Operand at
core_none at (IsCore c) e = cc
core_none at x e = refl

pub core_some : (at : ℕ) (x : Sense) (c : Core) → core_in x ≡ Some c → core_of at x ≡ Fits c
core_some at (IsCore d) c e = let same : d ≡ c = cc in ap Fits same
core_some at x c e = cc

pub type_none : (at : ℕ) (x : Sense) → type_in x ≡ None → type_of_sense at x ≡ Refuses Operand at
type_none at (IsType t) e = cc
type_none at x e = refl

pub type_some : (at : ℕ) (x : Sense) (t : Ctype) → type_in x ≡ Some t → type_of_sense at x ≡ Fits t
type_some at (IsType d) t e = let same : d ≡ t = cc in ap Fits same
type_some at x t e = cc

pub value_none : (w : World) (at : ℕ) (x : Sense) → core_in x ≡ None → value_in w at x ≡ Refuses Operand at
value_none w at x e = ap (λ (g : Given Core). g >>= value_of w at) (core_none at x e)

pub value_some : (w : World) (at : ℕ) (x : Sense) (c : Core) → core_in x ≡ Some c → value_in w at x ≡ value_of w at c
value_some w at x c e = ap (λ (g : Given Core). g >>= value_of w at) (core_some at x c e)
