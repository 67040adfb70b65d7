use Rattle.std.proofs.Common.{◌<◌, ℕ, List, All, length, sym, subst, ◌∙◌}
use Rattle.link_merge.specs.Parted.{lists_of, IsSplit}
use Rattle.link_merge.proofs.Splitting.{list_read, members_all, parted_next}
use Rattle.link_merge.proofs.parted.look_at.Goals as goal

pub split-requires-clause-nodes : goal.split-requires-clause-nodes
split-requires-clause-nodes c =
    let first = c.args.first.now in
    let there = list_read c.args.members.now c.args.which c.index-members-at.result c.if-at-members.false c.index-members-at.is in
    subst (λ n. All (λ x. x < n) c.as_slice-list.result.now) (sym c.requires.parted.all)
    (members_all first (lists_of c.args.members.now) (length first) c.args.which c.as_slice-list.result.now c.requires.members (there ∙ sym c.as_slice-list.ensures.value))

pub returns : goal.returns
returns c =
    let first = c.args.first.now in
    let kids = lists_of c.args.kids.now in
    let lists = lists_of c.args.members.now in
    let there = list_read c.args.members.now c.args.which c.index-members-at.result c.if-at-members.false c.index-members-at.is in
    let split = subst (λ (xs : List ℕ). IsSplit c.args.class.now.items c.split.new.class.items kids xs) (c.as_slice-list.ensures.value ∙ sym there) c.in_ok-changed.ensures in
    parted_next first kids lists c.args.class.now.items c.split.new.class.items c.args.which c.requires.members c.requires.kids c.requires.parted split
