-- Parts of a compound literal.
use Rattle.std.specs.Prelude.{ℕ, ◌≡◌, Option, Some, None}
use Rattle.pta_base.specs.declared.kind.Kind.{Kind}
use Rattle.c_types.specs.Trees.{Ctype}
use Rattle.c_consts.specs.Core.{Core}
use Rattle.c_senses.specs.Tree.{Source, has_sign, children_at, first_where}
use Rattle.c_senses.specs.Given.{Given, Refuses, ◌>>=◌}
use Rattle.c_senses.specs.Conversions.{typed}
use Rattle.c_senses.specs.Sense.{Sense, fits}

-- the first leaf of a sign among a node's children, or the node itself
abbrev pub sign_or : Source → ℕ → ℕ → ℕ
sign_or s sign node = elim (first_where (has_sign s sign) (children_at s node)) [ None ↦ node | Some leaf ↦ leaf ]

-- why an expression of a type is refused, if it is
abbrev pub IsTypedAs : Ctype → Option Kind → Type 0
IsTypedAs t None = (at : ℕ) (g : Given Core) → typed at t g ≡ g
IsTypedAs t (Some kind) = (at : ℕ) (g : Given Core) → typed at t g ≡ Refuses kind at

-- a tree as a sense
abbrev pub fitting : Given Core → Given Sense
fitting g = g >>= fits
