-- Sizes after merging.
use Rattle.linked_laws.specs.sized_laws.Sizes.{SizesKept, MergedSized}
use Rattle.linked_laws.proofs.sized_laws.Moving.{complete_moved, sized_moved}
use Rattle.linked_laws.proofs.sized_laws.Tagged.{tags_sized}

pub sizes_kept : SizesKept
sizes_kept units n table tables made merged u x is = record {
  complete = complete_moved units n table tables made merged u x is;
  sized = sized_moved units n table tables made merged u x is;
}

pub merged_sized : MergedSized
merged_sized = tags_sized
