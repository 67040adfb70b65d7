use Rattle.std.proofs.Common.{◌≡◌, ◌+◌, List, ℕ, length, ap, subst, ◌∙◌, arith}
use Rattle.std.proofs.lemmas.List.{length-map}
use Rattle.core_tree.specs.declared.node.Unit.{Unit}
use Rattle.link_merge.specs.Kids.{all_kids}
use Rattle.link_merge.specs.Parted.{lists_of}
use Rattle.link_merge.proofs.Rounding.{of_tags, counted_within}
use Rattle.link_merge.proofs.refine.kids_in.Goals as goal

pub kids_of-requires : goal.kids_of-requires
kids_of-requires c =
    let units = c.args.units.now in
    let types = c.requires.type_sums.all in
    let type_count = length-map units (λ (x : Unit). length x.types.terms) in
    let sums = c.requires.sums.all in
    let tag_count = length-map units (λ (x : Unit). x.types.tags) in
    let nodes = ap length (c.as_slice.ensures.value ∙ c.in_ok-nodes.ensures) ∙ length-map c.args.type_starts.now (λ s. length c.args.tags.now + s) in
    record {
      tags = of_tags units c.args.type_starts.now c.args.tag_starts.now c.args.tags.now c.args.counted.now c.requires;
      counted = counted_within units c.args.type_starts.now c.args.tag_starts.now c.args.tags.now c.args.counted.now c.requires;
      nodes = omega arith;
      starts = omega arith;
    }

pub returns : goal.returns
returns c =
    subst (λ (ns : List ℕ). lists_of c.in_ok-lists.lists.items ≡ all_kids c.args.units.now ns c.args.tag_starts.now c.args.tags.now c.args.counted.now) (c.as_slice.ensures.value ∙ c.in_ok-nodes.ensures) c.in_ok-lists.ensures
