-- What names without linkage mean.
use Rattle.std.specs.Prelude.{ℕ, ◌≡◌, true, false, take, List, Some}
use Rattle.c_senses.specs.Tree.{Source, is_name, paired}
use Rattle.c_senses.specs.World.{Meaning}
use Rattle.c_senses.specs.Entities.{is_linked}
use Rattle.c_senses.specs.Sense.{Sense, sense_in}
use Rattle.c_senses.specs.Rows.{world_at}
use Rattle.core_node_laws.specs.built_unit_laws.built_rows.PassedOn.{MeaningFits}
use Rattle.core_node_laws.specs.built_unit_laws.built_rows.Rows.{types_declared}

abbrev pub PlainNamesFit : Type 0
PlainNamesFit =
    (s : Source) (senses : List Sense) (i n x : ℕ) (m : Meaning)
    → paired s.uses n ≡ Some x
    → is_linked s (sense_in senses) x ≡ false
    → is_name s x ≡ true
    → (world_at s (take i senses) i).meaning n ≡ Some m → MeaningFits (types_declared s senses) m
