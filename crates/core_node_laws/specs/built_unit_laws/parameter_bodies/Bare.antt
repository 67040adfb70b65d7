-- Parameters of a unit that is made of the senses of a whole tree.
use Rattle.std.specs.Prelude.{◌≡◌, List, None}
use Rattle.core_tree.specs.declared.node.Unit.{Unit}
use Rattle.core_tree.specs.declared.node.Storage.TheVariants.{Parameter}
use Rattle.core_tree.specs.Typed.{trees_of}
use Rattle.core_tree.specs.Range.{EachEntity}
use Rattle.c_senses.specs.Tree.{Source}
use Rattle.c_senses.specs.Sense.{Sense}
use Rattle.c_senses.specs.Right.{Numbering}
use Rattle.core_node_laws.specs.standing_laws.Standing.{IsGrown, IsMade}

-- nothing initialises a parameter
abbrev pub ParametersBare : Type 0
ParametersBare =
    (s : Source) (senses : List Sense) (numbering : Numbering) (u : Unit)
    → IsGrown s
    → IsMade s senses numbering u
    → EachEntity (trees_of u) (λ e entity. entity.storage ≡ Parameter → entity.body ≡ None)
