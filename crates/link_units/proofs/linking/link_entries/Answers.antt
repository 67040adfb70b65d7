use Rattle.std.proofs.Common.{List, sym, subst}
use Rattle.core_tree.specs.declared.node.Unit.{Unit}
use Rattle.link_merge.specs.Tags.{AreKept}
use Rattle.link_units.proofs.Wanting.{err_no_main}
use Rattle.link_units.proofs.linking.link_entries.Goals as goal

pub merge-requires : goal.merge-requires
merge-requires c = subst (λ (l : List Unit). AreKept l) (sym c.as_slice.ensures.value) (record { each = λ u x at. (c.requires.linkable.valid u x at).keys })

pub returns-clause-main : goal.returns-clause-main
returns-clause-main c = err_no_main c.args.entries.now c.args.units.items c.link_merged.result c.requires.some c.link_merged.ensures.linked
