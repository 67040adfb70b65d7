-- Specifiers of tags by what is known of them.
use Rattle.std.proofs.Common.{◌≡◌, ℕ, Bool, true, false, not, refl, sym, ap}
use Rattle.pta_base.specs.declared.kind.Kind.TheVariants.{Operand}
use Rattle.core_tree.specs.Rows.{int}
use Rattle.c_senses.specs.Tree.{Source}
use Rattle.c_senses.specs.Given.{Fits, given_if}
use Rattle.c_senses.specs.World.{World}
use Rattle.c_senses.specs.Sense.{Sense, IsType}
use Rattle.c_senses.specs.Tags.{enum_row, named_tag, tag_fits}

pub enum_by : (w : World) (s : Source) (sense : ℕ → Sense) (at : ℕ) (b : Bool) → b ≡ tag_fits s at → enum_row w s sense at ≡ given_if b Operand (named_tag s at) (Fits (IsType int))
enum_by w s sense at b e = sym (ap (λ (x : Bool). given_if x Operand (named_tag s at) (Fits (IsType int))) e)

pub not_true : (b : Bool) → not b ≡ true → false ≡ b
not_true true e = cc
not_true false e = refl

pub not_false : (b : Bool) → not b ≡ false → true ≡ b
not_false true e = refl
not_false false e = cc
