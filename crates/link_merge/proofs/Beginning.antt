-- From labels to the table of all units.
use Rattle.std.proofs.Common.{◌≡◌, ℕ, List, length, sym, ◌∙◌, Option}
use Rattle.c_types.specs.Table.{Table}
use Rattle.core_tree.specs.declared.node.Unit.{Unit}
use Rattle.link_model.specs.declared.item.Item.{Item}
use Rattle.link_model.specs.link_types.Joined.{tag_in}
use Rattle.link_model.specs.link_types.Leaders.{AreLeaders}
use Rattle.link_model.specs.link_types.Starts.{AreSums}
use Rattle.unit_link.specs.link_program.Merging.{AreMerged}
use Rattle.link_merge.specs.Tags.{AreKept, AreTags, tag_counts_of, AreLabelled}
use Rattle.link_merge.specs.Counted.{AreOfTags, AreLeadersOf, AreCounted}
use Rattle.link_merge.specs.Classes.{AreClasses, AreCountedAs, AreCollected, IsSettled}
use Rattle.link_merge.specs.Complete.{AreListed}
use Rattle.link_merge.proofs.Labelled.{first_classes, leaders_of_tags, counted_as}
use Rattle.link_merge.proofs.Merged.{are_merged}
use Rattle.link_merge.proofs.Places.{starts_right}
use Rattle.link_merge.proofs.Rounding.{starts_of_numbers}

pub tags_of_units : (units : List Unit) (starts : List ℕ) (tags : List Item) → AreTags units starts tags → AreOfTags units tags
tags_of_units units starts tags are = record { each = λ g a at. (are.each g a at).0 }

pub leaders_right : (units : List Unit) (starts leaders : List ℕ) (tags : List Item) → AreTags units starts tags → AreLabelled units tags leaders → AreLeaders leaders → AreLeadersOf tags leaders
leaders_right units starts leaders tags are labelled lead = leaders_of_tags units starts leaders tags are labelled lead

pub classes_right : (units : List Unit) (starts leaders : List ℕ) (tags : List Item) → AreTags units starts tags → AreLabelled units tags leaders → AreLeaders leaders → AreClasses units starts leaders
classes_right units starts leaders tags are labelled lead = first_classes units starts leaders tags are labelled lead

pub leaders_many : (units : List Unit) (tags : List Item) (leaders : List ℕ) → AreLabelled units tags leaders → length leaders ≡ length tags
leaders_many units tags leaders labelled = labelled.alike.all ∙ labelled.labels_are.many

pub counted_right : (units : List Unit) (starts leaders : List ℕ) (tags : List Item) (counted : List (Option ℕ)) → AreKept units → AreSums (tag_counts_of units) starts → AreTags units starts tags → AreLabelled units tags leaders → AreCounted units tags leaders counted → AreCountedAs units starts counted
counted_right units starts leaders tags counted kept sums are labelled counts = counted_as units starts leaders tags counted _ (starts_right units starts sums) kept are labelled counts

pub merged_right : (units : List Unit) (type_starts starts numbers : List ℕ) (tags : List Item) (counted : List (Option ℕ)) (table now : Table) → AreCollected units type_starts starts tags counted → IsSettled units type_starts starts numbers table → length numbers ≡ length tags
    → now.terms ≡ table.terms → now.tags ≡ table.tags → AreListed units type_starts (tag_in starts numbers) now (length units) → AreMerged units type_starts now
merged_right units type_starts starts numbers tags counted table now h settled many terms now_tags lists =
    are_merged units type_starts starts numbers tags counted table now h.made h.tags_are h.counts (starts_of_numbers units type_starts starts numbers tags counted h many) settled (sym settled.all ∙ many) terms now_tags lists
