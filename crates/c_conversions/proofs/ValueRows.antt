-- The value of an expression has the expression's constants.
use Rattle.std.proofs.Common.{◌≡◌, ◌||◌, ℕ, Bool, true, false, Option, Some, None, Result, Ok, Err, IfOk, refl, subst}
use Rattle.pta_base.specs.declared.kind.Kind.TheVariants.{Operand}
use Rattle.c_types.specs.Trees.{Ctype}
use Rattle.c_types.specs.Table.{look_in, members_in}
use Rattle.core_tree.specs.declared.node.Unit.{Unit}
use Rattle.core_tree.specs.declared.node.NodeKind.TheVariants.{Fetch, Decay}
use Rattle.core_tree.specs.Typed.{Sort, NoNode, PlaceNode, ValueNode, StatementNode, decayed}
use Rattle.c_consts.specs.Core.{Core, ctype_of, core_sort, place_of, over}
use Rattle.core_nodes.specs.passed.c_senses.Given.{Fits, given_if}
use Rattle.core_nodes.specs.passed.c_senses.World.{World}
use Rattle.core_nodes.specs.passed.c_senses.Conversions.{value_of, value_of_sort, fetched_or_decayed, is_fetched, is_list, operand_of}
use Rattle.core_nodes.specs.Standing.{core_at, Made, Knows, parts_in}
use Rattle.core_nodes.specs.declared.fault.CheckFault.{CheckFault}
use Rattle.c_conversions.specs.Constants.{HasRows}

-- a world of what a unit's types say
abbrev world_of : Unit → World
world_of u = record {
  meaning = λ leaf. None;
  members = λ tag. parts_in u.types (members_in u.types tag);
  look = look_in u.types;
  fillable = λ tag. None;
  tags = u.types.tags;
  may_name = λ entity. true;
  may_call = true;
  own_name = None;
  further = λ leaf. None;
}

knows_own : (u : Unit) → Knows (world_of u) u
knows_own u = record { members = λ tag. refl; extents = λ t. refl; tags = refl }

module _ (w : World) (at : ℕ) (c d : Core) (rows : HasRows c) where
  fetched_rows : (b : Bool) → given_if b Operand at (Fits (over Fetch (place_of c) (ctype_of c) c)) ≡ Fits d → HasRows d
  fetched_rows true e = let same : over Fetch (place_of c) (ctype_of c) c ≡ d = cc in subst HasRows same (tt, (rows, tt))
  fetched_rows false e = cc

  place_rows : (o : Option Ctype) → fetched_or_decayed w at c o ≡ Fits d → HasRows d
  place_rows (Some t) e = let same : over Decay (place_of c) t c ≡ d = cc in subst HasRows same (tt, (rows, tt))
  place_rows None e = fetched_rows (is_fetched w (operand_of (ctype_of c)) || is_list (ctype_of c)) e

  sort_rows : (s : Sort) → value_of_sort w at c s ≡ Fits d → HasRows d
  sort_rows NoNode e = cc
  sort_rows PlaceNode e = place_rows (decayed (ctype_of c)) e
  sort_rows ValueNode e = let same : c ≡ d = cc in subst HasRows same rows
  sort_rows StatementNode e = cc

  pub value_rows : value_of w at c ≡ Fits d → HasRows d
  value_rows e = sort_rows (core_sort c) e

-- what is made of an expression that has them
pub value_keeps : (u v : Unit) (at node : ℕ) (r : Result ℕ CheckFault) → HasRows (core_at u node) → ((w : World) → Knows w u → Made v r (value_of w at (core_at u node))) → IfOk r (λ i. HasRows (core_at v i))
value_keeps u v at node (Ok i) rows made = value_rows (world_of u) at (core_at u node) (core_at v i) rows (made (world_of u) (knows_own u))
value_keeps u v at node (Err e) rows made = tt
