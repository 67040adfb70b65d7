use Rattle.std.proofs.Common.{ℕ, List, sym, subst, arith}
use Rattle.core_tree.specs.declared.node.Unit.{Unit}
use Rattle.core_tree.specs.declared.node.Program.{Program}
use Rattle.link_model.specs.link_types.Starts.{AreSums}
use Rattle.unit_link.specs.link_program.Checked.{joined_by}
use Rattle.unit_link.specs.link_program.Merging.{AreMerged}
use Rattle.link_units.specs.link_whole.Entities.{AreEntitiesOf}
use Rattle.link_units.specs.link_whole.Entries.{IsEntryOf, HasEntryOf}
use Rattle.link_units.proofs.link_whole.Entering.{entries_stand}
use Rattle.core_tree.specs.declared.node.Entity.{Entity}
use Rattle.std.specs.Prelude.{All}
use Rattle.std.specs.List.{AllZip}
use Rattle.link_units.specs.Nodes.{node_counts_of}
use Rattle.link_units.proofs.Growing.{are_merged_grown}
use Rattle.link_units.proofs.Noding.{units_placeable}
use Rattle.link_units.proofs.Typing.{in_range_all}
use Rattle.link_units.proofs.Whole.{linked_all}
use Rattle.link_merge.specs.Tags.{AreMade}
use Rattle.linked_laws.specs.merged_laws.Merged.{AreTables}
use Rattle.linked_laws.proofs.valid_laws.Whole.{linked_valid}
use Rattle.link_units.proofs.linking.link_merged.Goals as goal

pub entities_of-requires-clause-merged : goal.entities_of-requires-clause-merged
entities_of-requires-clause-merged c =
    let units = c.args.units.items in
    subst (λ (l : List Unit). AreMerged l c.args.type_starts.now c.ready.new.types) (sym c.as_slice-3.ensures.value)
    (are_merged_grown units c.args.type_starts.now c.args.merged c.ready.new.types c.type_count-old.ensures.made c.in_ok-ready.ensures.grown c.requires.merged)

pub names_and_nodes-requires-clause-placeable : goal.names_and_nodes-requires-clause-placeable
names_and_nodes-requires-clause-placeable c =
    let units = c.args.units.items in
    let merged = are_merged_grown units c.args.type_starts.now c.args.merged c.ready.new.types c.type_count-old.ensures.made c.in_ok-ready.ensures.grown c.requires.merged in
    let h = subst (λ (l : List Unit). AreEntitiesOf c.args.entries.now (joined_by l c.ready.new.types c.args.type_starts.now) c.in_ok-entities.entities.items c.in_ok-entities.numbers) c.as_slice-3.ensures.value c.in_ok-entities.ensures in
    let count = c.type_count-now.ensures.count in
    units_placeable units c.args.type_starts.now c.in_ok-entities.numbers c.ready.new.types c.requires.linkable merged (omega arith) h.numbers

pub entry_numbers-requires : goal.entry_numbers-requires
entry_numbers-requires c =
    let units = c.args.units.items in
    let j = joined_by units c.ready.new.types c.args.type_starts.now in
    let p : Program = record { names = c.in_ok-names.names; types = c.ready.new.types; nodes = c.in_ok-names.nodes; entities = c.in_ok-entities.entities; entries = c.in_ok-node_starts.node_starts } in
    let h = subst (λ (l : List Unit). AreEntitiesOf c.args.entries.now (joined_by l c.ready.new.types c.args.type_starts.now) c.in_ok-entities.entities.items c.in_ok-entities.numbers) c.as_slice-3.ensures.value c.in_ok-entities.ensures in
    subst (λ (l : List Entity). All (λ (name : List ℕ). HasEntryOf l name) c.args.entries.now) (sym c.as_slice-4.ensures.value) (entries_stand j c.in_ok-entities.numbers p c.args.entries.now h)

pub returns-clause-linked : goal.returns-clause-linked
returns-clause-linked c =
    let entries = subst (λ (l : List Entity). AllZip (IsEntryOf l) c.args.entries.now c.in_ok-entered.entered.items) c.as_slice-4.ensures.value c.in_ok-entered.ensures in
    let units = c.args.units.items in
    let starts = c.as_slice-first.result.now in
    let n = c.in_ok-entities.numbers in
    let p : Program = record { names = c.in_ok-names.names; types = c.ready.new.types; nodes = c.in_ok-names.nodes; entities = c.in_ok-entities.entities; entries = c.in_ok-entered.entered } in
    let merged = are_merged_grown units c.args.type_starts.now c.args.merged c.ready.new.types c.type_count-old.ensures.made c.in_ok-ready.ensures.grown c.requires.merged in
    let h = subst (λ (l : List Unit). AreEntitiesOf c.args.entries.now (joined_by l c.ready.new.types c.args.type_starts.now) c.in_ok-entities.entities.items n) c.as_slice-3.ensures.value c.in_ok-entities.ensures in
    let own = subst (λ (l : List Unit). AreSums (node_counts_of l) c.in_ok-node_starts.node_starts.items) c.as_slice-2.ensures.value c.in_ok-node_starts.ensures in
    let sums = subst (λ (l : List ℕ). AreSums (node_counts_of units) l) (sym c.as_slice-first.ensures.value) own in
    linked_all units c.args.type_starts.now starts n p c.requires.linkable c.in_ok-ready.ensures.ready merged sums h c.in_ok-names.ensures.names c.in_ok-names.ensures.nodes entries

pub returns-clause-range : goal.returns-clause-range
returns-clause-range c =
    let entries = subst (λ (l : List Entity). AllZip (IsEntryOf l) c.args.entries.now c.in_ok-entered.entered.items) c.as_slice-4.ensures.value c.in_ok-entered.ensures in
    let units = c.args.units.items in
    let starts = c.as_slice-first.result.now in
    let n = c.in_ok-entities.numbers in
    let p : Program = record { names = c.in_ok-names.names; types = c.ready.new.types; nodes = c.in_ok-names.nodes; entities = c.in_ok-entities.entities; entries = c.in_ok-entered.entered } in
    let merged = are_merged_grown units c.args.type_starts.now c.args.merged c.ready.new.types c.type_count-old.ensures.made c.in_ok-ready.ensures.grown c.requires.merged in
    let h = subst (λ (l : List Unit). AreEntitiesOf c.args.entries.now (joined_by l c.ready.new.types c.args.type_starts.now) c.in_ok-entities.entities.items n) c.as_slice-3.ensures.value c.in_ok-entities.ensures in
    let own = subst (λ (l : List Unit). AreSums (node_counts_of l) c.in_ok-node_starts.node_starts.items) c.as_slice-2.ensures.value c.in_ok-node_starts.ensures in
    let sums = subst (λ (l : List ℕ). AreSums (node_counts_of units) l) (sym c.as_slice-first.ensures.value) own in
    let linked = linked_all units c.args.type_starts.now starts n p c.requires.linkable c.in_ok-ready.ensures.ready merged sums h c.in_ok-names.ensures.names c.in_ok-names.ensures.nodes entries in
    in_range_all units c.args.type_starts.now starts n p c.requires.linkable linked merged sums h c.in_ok-names.ensures.nodes

pub returns-clause-valid : goal.returns-clause-valid
returns-clause-valid c =
    let entries = subst (λ (l : List Entity). AllZip (IsEntryOf l) c.args.entries.now c.in_ok-entered.entered.items) c.as_slice-4.ensures.value c.in_ok-entered.ensures in
    let units = c.args.units.items in
    let starts = c.as_slice-first.result.now in
    let n = c.in_ok-entities.numbers in
    let p : Program = record { names = c.in_ok-names.names; types = c.ready.new.types; nodes = c.in_ok-names.nodes; entities = c.in_ok-entities.entities; entries = c.in_ok-entered.entered } in
    let merged = are_merged_grown units c.args.type_starts.now c.args.merged c.ready.new.types c.type_count-old.ensures.made c.in_ok-ready.ensures.grown c.requires.merged in
    let h = subst (λ (l : List Unit). AreEntitiesOf c.args.entries.now (joined_by l c.ready.new.types c.args.type_starts.now) c.in_ok-entities.entities.items n) c.as_slice-3.ensures.value c.in_ok-entities.ensures in
    let own = subst (λ (l : List Unit). AreSums (node_counts_of l) c.in_ok-node_starts.node_starts.items) c.as_slice-2.ensures.value c.in_ok-node_starts.ensures in
    let sums = subst (λ (l : List ℕ). AreSums (node_counts_of units) l) (sym c.as_slice-first.ensures.value) own in
    let linked = linked_all units c.args.type_starts.now starts n p c.requires.linkable c.in_ok-ready.ensures.ready merged sums h c.in_ok-names.ensures.names c.in_ok-names.ensures.nodes entries in
    let range = in_range_all units c.args.type_starts.now starts n p c.requires.linkable linked merged sums h c.in_ok-names.ensures.nodes in
    let told = subst AreMade c.as_slice.ensures.value c.tables_told.ensures in
    let tables : AreTables units = record { made = told.made; named = told.named } in
    linked_valid units p c.requires.linkable tables c.requires.filled linked (record { nodes = range.types; entities = range.entity_types }) c.type_count-now.ensures.made c.type_count-now.ensures.named
