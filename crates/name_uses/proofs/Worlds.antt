-- Worlds around a node.
use Rattle.std.proofs.Common.{ℕ, List, [], ◌∷◌, refl}
use Rattle.std.specs.Option.{option_copied}
use Rattle.core_tree.specs.declared.node.Unit.{Unit}
use Rattle.c_senses.specs.Tree.{Source}
use Rattle.c_senses.specs.Sense.{Sense, sense_in}
use Rattle.c_senses.specs.Rows.{world_at}
use Rattle.expression_rows.specs.declared.around.Around.{Around}
use Rattle.expression_rows.specs.Fitting.{FirstFits, FitsAround}
use Rattle.expression_rows.proofs.Keeping.{named_world, named_calls, identifier_fits}
use Rattle.name_uses.specs.Around.{IsWorldAt}

-- what the declarations before a node give
pub world_is : (s : Source) (senses : List Sense) (i : ℕ) → IsWorldAt (world_at s senses i) s (sense_in senses) i
world_is s senses i = record { meaning = λ leaf. refl; may_name = λ entity. refl; may_call = refl; own_name = refl; further = λ v leaf. refl }

-- a world that fits whatever is looked up
first_named : (u : Unit) (s : Source) (sense : ℕ → Sense) (children : List ℕ) (around : Around) → FirstFits (named_world u around.first around.may_call (option_copied around.own_name) around.further) u s sense children around
first_named u s sense [] around = tt
first_named u s sense (first ∷ rest) around = λ k. identifier_fits u s sense first rest around

pub around_named : (u : Unit) (s : Source) (sense : ℕ → Sense) (production : ℕ) (children : List ℕ) (around : Around) → FitsAround (named_world u around.first around.may_call (option_copied around.own_name) around.further) u s sense production children around
around_named u s sense production children around = record {
  primary = λ e. first_named u s sense children around;
  post = λ e. named_calls u around.may_call (option_copied around.own_name) around.further around.first;
}
