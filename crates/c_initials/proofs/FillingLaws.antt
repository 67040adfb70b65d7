-- What can be initialised goes on being so while types are added.
use Rattle.std.proofs.Common.{◌≡◌, ℕ, refl, ap, sym, ◌∙◌, List, map, Option, Some, None}
use Rattle.std.specs.Option.{option_map}
use Rattle.c_types.specs.declared.term.MemberTerm.{MemberTerm}
use Rattle.c_types.specs.Table.{Table, members_in}
use Rattle.c_types.specs.Made.{IsMade}
use Rattle.core_tree.specs.declared.node.Unit.{Unit}
use Rattle.c_inits.specs.Shapes.{Fields}
use Rattle.c_inits.specs.Made.{Part, fields_of}
use Rattle.c_inits.specs.Tables.{part_of, parts_in, fillable}
use Rattle.c_inits.proofs.Fillable.{filled, only_fillable}
use Rattle.c_senses.specs.World.{World}
use Rattle.core_nodes.specs.Standing.{Builds}
use Rattle.c_initials.specs.Filling.{Fills}

by_parts : (table : Table) (f : List Part → Fields) (o : Option (List MemberTerm)) → option_map (λ ms. f (map (part_of table) ms)) o ≡ option_map f (parts_in table o)
by_parts table f None = refl
by_parts table f (Some ms) = refl

-- 6.7.9: what can be initialised in each tag is what its members say, and those stay
pub fillable_kept : (old new : Unit) → Builds old new → IsMade old.types → IsMade new.types → (tag : ℕ) → fillable new.types tag ≡ fillable old.types tag
fillable_kept old new b made_old made_new tag =
    only_fillable old.types made_old (fillable new.types)
    (λ t.
    filled new.types made_new t ∙ by_parts new.types (fields_of (fillable new.types) 0) (members_in new.types t)
    ∙ ap (option_map (fields_of (fillable new.types) 0)) (b.parts t) ∙ sym (by_parts old.types (fields_of (fillable new.types) 0) (members_in old.types t)))
    tag

pub fills_on : (w : World) (old new : Unit) → Builds old new → IsMade old.types → IsMade new.types → Fills w old → Fills w new
fills_on w old new b made_old made_new f = record { fillable = λ tag. f.fillable tag ∙ sym (fillable_kept old new b made_old made_new tag) }
