-- A program that is linked from valid units is right.
use Rattle.std.proofs.Common.{ℕ, List}
use Rattle.core_tree.specs.declared.node.Unit.{Unit}
use Rattle.core_tree.specs.declared.node.Program.{Program}
use Rattle.c_types.specs.Made.{IsMade, AreNamed}
use Rattle.link_merge.specs.Tags.{AreMade}
use Rattle.unit_link.specs.Linked.{LinkedAt}
use Rattle.unit_link.specs.Needs.{AreLinkable}
use Rattle.linked_laws.proofs.main_laws.Mains.{start_body, linked_entries}
use Rattle.linked_laws.proofs.call_laws.Values.{calls_of_values}
use Rattle.linked_laws.specs.merged_laws.Merged.{AreTables, AreSizes}
use Rattle.linked_laws.proofs.merged_laws.Fitting.{tags_fit}
use Rattle.linked_laws.proofs.node_laws.Rows.{linked_rows}
use Rattle.linked_laws.proofs.return_laws.Returns.{linked_returns}
use Rattle.linked_laws.proofs.initial_laws.Initials.{linked_initials}
use Rattle.unit_report.specs.unit_system.Right.{IsRight}

pub right_of : {entered : List (List ℕ)} (units : List Unit) (p : Program) → AreLinkable units → AreMade units → IsMade p.types → AreNamed p.types → LinkedAt entered units p → IsRight p
right_of units p linkable told made named h =
    let tables : AreTables units = record { made = told.made; named = told.named } in
    let sizes : AreSizes units = record { each = λ u x at. (linkable.valid u x at).trees.measured.tags } in
    let m = start_body units p linkable h in
    record {
      body = record { number = m.0; entity = m.1; entity_is = m.2; storage = m.3 };
      values = calls_of_values units p linkable h;
      tags = tags_fit units h.numbers p.types tables sizes made named h.types;
      rows = linked_rows units p linkable tables h;
      returns = linked_returns units p linkable h;
      initials = linked_initials units p linkable tables h;
      entered = (linked_entries units p linkable h).each;
    }
