-- What the rest of the unit says of an initialiser, by what was made for the nodes.
use Rattle.std.specs.Prelude.{ℕ, ℤ, pos, negsuc, ◌≡◌, ◌<◌, true, All, length, None}
use Rattle.c_types.specs.Trees.{VoidType}
use Rattle.c_types.specs.Table.{type_of}
use Rattle.c_inits.specs.View as view
use Rattle.c_senses.specs.World.{World}
use Rattle.c_senses.specs.Sense.{sense_in}
use Rattle.c_senses.specs.Initialised.{seen, past_every_array}
use Rattle.core_nodes.specs.Standing.{IsReady}
use Rattle.c_results.specs.Standing.{senses_made, IsWithin}
use Rattle.tree_reads.specs.Sources.{source_read}
use Rattle.c_initialise.specs.declared.facts.Source.{Source}

-- a world in which nothing is declared: what is seen of an initialiser asks none
abbrev pub no_world : World
no_world = record {
  meaning = λ leaf. None;
  members = λ tag. None;
  look = λ tag. None;
  fillable = λ tag. None;
  tags = 0;
  may_name = λ e. true;
  may_call = true;
  own_name = None;
  further = λ leaf. None;
}

-- what the definitions see, over the senses of what was made
abbrev pub told : Source → view.Source
told source =
    seen no_world (source_read source.syntax.now) (sense_in (senses_made source.unit.now source.results.now))

-- the value of an index; a negative one is past every array
abbrev pub index_told : ℤ → ℕ
index_told (pos k) = k
index_told (negsuc k) = past_every_array

-- what was made stands in the unit, and void is one of its types
pub record AreKnown (source : Source) : Type 0 where
  pub ready : IsReady source.unit.now
  pub results : All (IsWithin source.unit.now) source.results.now
  pub void : type_of source.unit.now.types source.void.0 ≡ VoidType
  pub there : source.void.0 < length source.unit.now.types.terms
