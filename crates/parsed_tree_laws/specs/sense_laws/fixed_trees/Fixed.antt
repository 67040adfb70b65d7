-- That a node which stands by a fixed tree is fixed.
use Rattle.std.specs.Prelude.{ℕ, ◌≡◌, Bool, true, false, Some}
use Rattle.c_conversions.specs.passed.core_tree.declared.node.Unit.{Unit}
use Rattle.c_conversions.specs.passed.core_tree.Typed.{trees_of}
use Rattle.c_conversions.specs.passed.core_tree.Valid.{InRows, IsStaticEntity, IsFixed}
use Rattle.c_senses.specs.passed.c_consts.Core.{Core}
use Rattle.c_senses.specs.Initialised.{is_fixed}
use Rattle.c_senses.specs.Right.{Numbering, StandsBy}

-- where the entities that aren't automatic by their leaves aren't so by their numbers
abbrev pub TreesAreFixed : Type 0
TreesAreFixed =
    (n : Numbering) (u : Unit) (automatic : ℕ → Bool) → InRows (trees_of u)
    → ((d e : ℕ) → n d ≡ Some e → automatic d ≡ false → IsStaticEntity (trees_of u) e)
    → (c : Core) (i : ℕ) → StandsBy n u i c → is_fixed automatic c ≡ true → IsFixed (trees_of u) i
