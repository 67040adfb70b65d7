use Rattle.std.proofs.Common.{ℕ, List, sym, subst}
use Rattle.link_merge.specs.Counted.{AreLeadersOf, AreCounted}
use Rattle.link_merge.proofs.Beginning.{tags_of_units, leaders_right, classes_right, leaders_many, counted_right}
use Rattle.link_merge.proofs.merging.labelled.Goals as goal

pub counted-requires-clause-tags : goal.counted-requires-clause-tags
counted-requires-clause-tags c = tags_of_units c.args.units.now c.args.tag_starts.now c.args.tags.now c.requires.tags

pub counted-requires-clause-leaders : goal.counted-requires-clause-leaders
counted-requires-clause-leaders c =
    subst (λ (l : List ℕ). AreLeadersOf c.args.tags.now l) (sym c.as_slice.ensures.value) (leaders_right c.args.units.now c.args.tag_starts.now c.in_ok-first.first.items c.args.tags.now c.requires.tags c.in_ok-first.ensures.labelled c.in_ok-first.ensures.leaders)

pub returns-clause-classes : goal.returns-clause-classes
returns-clause-classes c = classes_right c.args.units.now c.args.tag_starts.now c.in_ok-first.first.items c.args.tags.now c.requires.tags c.in_ok-first.ensures.labelled c.in_ok-first.ensures.leaders

pub returns-clause-leaders : goal.returns-clause-leaders
returns-clause-leaders c = leaders_many c.args.units.now c.args.tags.now c.in_ok-first.first.items c.in_ok-first.ensures.labelled

pub returns-clause-counts : goal.returns-clause-counts
returns-clause-counts c =
    counted_right c.args.units.now c.args.tag_starts.now c.in_ok-first.first.items c.args.tags.now c.in_ok-lists.lists.items c.requires.kept c.requires.sums c.requires.tags c.in_ok-first.ensures.labelled
    (subst (λ (l : List ℕ). AreCounted c.args.units.now c.args.tags.now l c.in_ok-lists.lists.items) c.as_slice.ensures.value c.in_ok-lists.ensures)

pub returns-clause-many : goal.returns-clause-many
returns-clause-many c = c.in_ok-lists.ensures.all
