-- Programs that are one, but for numbers, with the same locations in the same order.
use Rattle.std.specs.List.{AllZip}
use Rattle.core_tree.specs.declared.node.Program.{Program}
use Rattle.obj_space.specs.Space.{locations_in}
use Rattle.twin_report_laws.specs.outcome_laws.twin_programs.One.{Numbers, LeadsTo}
use Rattle.twin_report_laws.specs.outcome_laws.twin_words.Words.{IsSound}
use Rattle.twin_report_laws.specs.outcome_laws.twin_locations.Same.{SameLocation}

-- what is known of two programs
pub record ArePaired (p q : Program) (to back : Numbers) : Type 0 where
  pub lead : LeadsTo p q to back
  pub again : LeadsTo q p back to
  pub sound : IsSound p
  pub other_sound : IsSound q
  pub order : AllZip (SameLocation to) (locations_in p) (locations_in q)
  pub order_back : AllZip (SameLocation back) (locations_in q) (locations_in p)

-- the same the other way round
abbrev pub flipped : (p q : Program) (to back : Numbers) → ArePaired p q to back → ArePaired q p back to
flipped p q to back h = record {
  lead = h.again;
  again = h.lead;
  sound = h.other_sound;
  other_sound = h.sound;
  order = h.order_back;
  order_back = h.order;
}
