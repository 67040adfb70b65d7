use Rattle.std.proofs.Common.{◌<◌, ℕ, List, Option, All, length, sym, subst}
use Rattle.link_model.specs.link_types.Joined.{AreStarts, tag_in}
use Rattle.link_merge.specs.Complete.{AreListed}
use Rattle.link_merge.specs.Classes.{AreCollected, AreShown}
use Rattle.link_merge.proofs.Beginning.{merged_right}
use Rattle.link_merge.proofs.Rounding.{starts_of_numbers}
use Rattle.link_merge.proofs.merging.merged_in.Goals as goal

pub settled-requires-clause-collected : goal.settled-requires-clause-collected
settled-requires-clause-collected c =
    subst (λ (l : List (Option ℕ)). AreCollected c.args.units.now c.args.type_starts.now c.args.tag_starts.now c.args.tags.now l) (sym c.as_slice-lists.ensures.value) (record {
      kept = c.requires.kept;
      made = c.requires.made;
      sums = c.requires.sums;
      type_sums = c.requires.type_sums;
      tags_are = c.requires.tags;
      many = c.in_ok-first.ensures.many;
      counts = c.in_ok-first.ensures.counts;
      few = c.requires.few;
    })

pub complete_all-requires-clause-starts : goal.complete_all-requires-clause-starts
complete_all-requires-clause-starts c =
    let counted = c.in_ok-first.counted.items in
    let h : AreCollected c.args.units.now c.args.type_starts.now c.args.tag_starts.now c.args.tags.now counted = record {
      kept = c.requires.kept;
      made = c.requires.made;
      sums = c.requires.sums;
      type_sums = c.requires.type_sums;
      tags_are = c.requires.tags;
      many = c.in_ok-first.ensures.many;
      counts = c.in_ok-first.ensures.counts;
      few = c.requires.few;
    } in
    subst (λ (l : List ℕ). AreStarts c.args.units.now c.args.tag_starts.now (length l)) (sym c.as_slice-list.ensures.value)
    (starts_of_numbers c.args.units.now c.args.type_starts.now c.args.tag_starts.now c.in_ok-types.numbers.items c.args.tags.now counted h c.in_ok-types.ensures.many)

pub complete_all-requires-clause-known : goal.complete_all-requires-clause-known
complete_all-requires-clause-known c = subst (λ (l : List ℕ). All (λ k. k < c.in_ok-types.types.tags) l) (sym c.as_slice-list.ensures.value) c.in_ok-types.ensures.known

pub complete_all-requires-clause-shown : goal.complete_all-requires-clause-shown
complete_all-requires-clause-shown c = subst (λ (l : List ℕ). AreShown c.args.units.now c.args.type_starts.now (tag_in c.args.tag_starts.now l) c.in_ok-types.types) (sym c.as_slice-list.ensures.value) c.in_ok-types.ensures.settled.shown

pub returns : goal.returns
returns c =
    let counted = c.in_ok-first.counted.items in
    let h : AreCollected c.args.units.now c.args.type_starts.now c.args.tag_starts.now c.args.tags.now counted = record {
      kept = c.requires.kept;
      made = c.requires.made;
      sums = c.requires.sums;
      type_sums = c.requires.type_sums;
      tags_are = c.requires.tags;
      many = c.in_ok-first.ensures.many;
      counts = c.in_ok-first.ensures.counts;
      few = c.requires.few;
    } in
    let done = c.in_ok-complete_all.ensures in
    merged_right c.args.units.now c.args.type_starts.now c.args.tag_starts.now c.in_ok-types.numbers.items c.args.tags.now counted c.in_ok-types.types c.complete_all.new.types h c.in_ok-types.ensures.settled c.in_ok-types.ensures.many done.terms done.tags
    (subst (λ (l : List ℕ). AreListed c.args.units.now c.args.type_starts.now (tag_in c.args.tag_starts.now l) c.complete_all.new.types (length c.args.units.now)) c.as_slice-list.ensures.value done.listed)
