-- What maps say of the leaves of tags.
use Rattle.std.specs.Prelude.{ℕ, ◌≡◌}
use Rattle.tree_reads.specs.leaf_maps.Numbers.{number_at}
use Rattle.c_senses.specs.Tree.{Source, paired}
use Rattle.c_tags.specs.tag_numbers.Firsts.{first_for}
use Rattle.unit_keys.specs.declared.given_keys.declaring.Declaring.{Declaring}

-- the maps say what each leaf of a tag means
pub record Declares (s : Source) (d : Declaring) : Type 0 where
  pub uses : (leaf : ℕ) → number_at d.uses leaf ≡ paired s.uses leaf
  pub firsts : (leaf : ℕ) → number_at d.firsts leaf ≡ first_for s.declared.tags leaf
