use Rattle.std.proofs.Common.{List, sym, subst}
use Rattle.link_model.specs.link_types.Leaders.{AreNumbers}
use Rattle.link_model.specs.link_types.Starts.{AreSums}
use Rattle.unit_link.specs.link_program.Alike.{AreAlike}
use Rattle.unit_link.specs.link_program.Rows.{all_entities, label_of, counts_of}
use Rattle.unit_link.proofs.link_program.Numbering.{one_number, only_numbers}
use Rattle.unit_link.proofs.link_program.numbers.entity_numbers.Goals as goal

pub returns-clause-one : goal.returns-clause-one
returns-clause-one c =
    let sums = rw (c.as_slice.ensures.value, c.in_ok-counts.ensures.counts) at c.in_ok-starts.ensures in
    let alike = rw (c.as_slice-2.ensures.value, c.in_ok-labels.ensures) at c.in_ok-leaders.ensures.alike in
    let are = rw c.as_slice-3.ensures.value at c.in_ok-numbers.ensures in
    one_number c.args.units.now c.in_ok-starts.starts.items c.in_ok-leaders.leaders.items c.in_ok-numbers.numbers.items c.in_ok-numbers.count sums alike c.in_ok-leaders.ensures.leaders are

pub returns-clause-only : goal.returns-clause-only
returns-clause-only c =
    let sums = rw (c.as_slice.ensures.value, c.in_ok-counts.ensures.counts) at c.in_ok-starts.ensures in
    let alike = rw (c.as_slice-2.ensures.value, c.in_ok-labels.ensures) at c.in_ok-leaders.ensures.alike in
    let are = rw c.as_slice-3.ensures.value at c.in_ok-numbers.ensures in
    only_numbers c.args.units.now c.in_ok-starts.starts.items c.in_ok-leaders.leaders.items c.in_ok-numbers.numbers.items c.in_ok-numbers.count sums alike c.in_ok-leaders.ensures.leaders are
