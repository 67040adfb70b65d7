-- The parts of a linked program are told apart.
use Rattle.std.proofs.Common.{◌≡◌, ℕ, List, [], ◌∷◌}
use Rattle.std.specs.List.{AllZip}
use Rattle.c_types.specs.Made.{IsMade, AreNamed}
use Rattle.core_tree.specs.declared.node.Unit.{Unit}
use Rattle.core_tree.specs.declared.node.Program.{Program}
use Rattle.obj_space.specs.Space.{DistinctNames, locations_in}
use Rattle.unit_link.specs.Linked.{IsOfName, LinkedAt}
use Rattle.unit_link.specs.Needs.{AreLinkable}
use Rattle.linked_laws.specs.location_laws.name_laws.Named.{HasNames}
use Rattle.linked_laws.proofs.location_laws.name_laws.Whole.{distinct}
use Rattle.linked_laws.proofs.link_laws.Wholeness.{named_once, defines_main}
use Rattle.linked_laws.specs.location_laws.named_laws.Whole.{Starts, IsWhole}
use Rattle.linked_laws.proofs.location_laws.named_laws.Defined.{used_defined}
use Rattle.linked_laws.specs.location_laws.named_laws.Units.{AreNamedUnits}
use Rattle.linked_laws.proofs.location_laws.named_laws.Moved.{unit_names, entities_right, told_apart, nodes_right}
use Rattle.linked_laws.proofs.location_laws.named_laws.Members.{members_right}

pub linked_names : {entered : List (List ℕ)} (units : List Unit) (p : Program) → AreLinkable units → AreNamedUnits units → LinkedAt entered units p → IsMade p.types → AreNamed p.types → HasNames p
linked_names units p links each h made named = record {
  units = unit_names units p links each h;
  entities = entities_right units p links each h;
  apart = told_apart units p links each h;
  nodes = nodes_right units p links each h;
  members = members_right units p each h made named;
}

pub linked_distinct : {entered : List (List ℕ)} (units : List Unit) (p : Program) → AreLinkable units → AreNamedUnits units → LinkedAt entered units p → IsMade p.types → AreNamed p.types → DistinctNames (locations_in p)
linked_distinct units p links each h made named = distinct p (linked_names units p links each h made named)

-- where names are given, there are entries
none_named : (R : List ℕ → ℕ → Type 0) (name : List ℕ) (rest : List (List ℕ)) (entries : List ℕ) → AllZip R (name ∷ rest) entries → entries ≡ [] → ⊥
none_named R name rest [] h none = h
none_named R name rest (e ∷ more) h none = cc

starts : {entered : List (List ℕ)} (units : List Unit) (p : Program) → LinkedAt entered units p → Starts p
starts {entered = []} units p h none = defines_main units p h
starts {entered = name ∷ rest} units p h none = absurd (none_named (IsOfName p) name rest p.entries.items h.entries none)

pub linked_whole : {entered : List (List ℕ)} (units : List Unit) (p : Program) → AreLinkable units → AreNamedUnits units → LinkedAt entered units p → IsMade p.types → AreNamed p.types → IsWhole p
linked_whole units p links each h made named = record {
  once = named_once units p h;
  names = linked_distinct units p links each h made named;
  used = used_defined units p h links each;
  start = starts units p h;
}
