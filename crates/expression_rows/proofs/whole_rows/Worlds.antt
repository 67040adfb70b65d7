-- A unit's own members and layouts, where no name means anything.
use Rattle.std.proofs.Common.{ℕ, Ok, Err, Result, IfOk, true, map, None, [], refl, subst}
use Rattle.core_tree.specs.declared.node.Unit.{Unit}
use Rattle.c_types.specs.Table.{members_in, look_in}
use Rattle.c_inits.specs.Made.{looked_up, laid_out}
use Rattle.c_inits.specs.Tables.{tag_parts}
use Rattle.c_consts.specs.Core.{Core}
use Rattle.c_senses.specs.Given.{Given}
use Rattle.c_senses.specs.Tree.{Source}
use Rattle.c_senses.specs.World.{World}
use Rattle.core_nodes.specs.Standing.{core_at, parts_in, Knows, Made}
use Rattle.core_nodes.specs.declared.fault.CheckFault.{CheckFault}
use Rattle.parsed_tree_laws.specs.sense_laws.Sound.{Gives}

pub bare_world : Unit → World
bare_world u = record {
  meaning = λ i. None;
  members = λ tag. parts_in u.types (members_in u.types tag);
  look = look_in u.types;
  fillable = looked_up (laid_out [] (map (tag_parts u.types) u.types.completed));
  tags = u.types.tags;
  may_name = λ e. true;
  may_call = true;
  own_name = None;
  further = λ leaf. None;
}

pub knows_itself : (u : Unit) → Knows (bare_world u) u
unfolding bare_world
knows_itself u = record { members = λ tag. refl; extents = λ t. refl; tags = refl }

-- what is made of a row keeps what each of the row's trees has
pub made_has : (P : Core → Type 0) (u : Unit) (r : Result ℕ CheckFault) (g : Given Core) → Made u r g → Gives P g → IfOk r (λ i. P (core_at u i))
made_has P u (Ok i) g m h = subst (Gives P) m h
made_has P u (Err fault) g m h = tt

-- a source of nothing
pub bare_source : Source
bare_source = record {
  unit = 0;
  text = [];
  tokens = [];
  nodes = [];
  uses = [];
  declared = record { ordinary = []; tags = []; scopes = [] };
  tag_number = λ i. i;
}
