use Rattle.std.proofs.Common.{List, ℕ, Option, length, ap, subst}
use Rattle.unit_link.specs.link_program.Alike.{AreAlike}
use Rattle.link_merge.specs.Keys.{keys_of}
use Rattle.link_merge.specs.Parted.{lists_of, IsRenumbered}
use Rattle.link_merge.proofs.Splitting.{split_right, keys_given}
use Rattle.link_merge.proofs.split.split.Goals as goal

pub returns : goal.returns
returns c =
    let kids = lists_of c.args.kids.now in
    let leads = c.in_ok-leads.leads.items in
    let given = ap keys_of c.as_slice-2.ensures.value in
    let alike = subst (λ (ks : List (Option (List ℕ))). AreAlike ks leads) given c.in_ok-leads.ensures.alike in
    let renumbered = subst (λ (xs : List ℕ). IsRenumbered c.args.class.now.items c.renumber.new.class.items c.args.list.now xs (length c.args.list.now)) c.as_slice-3.ensures.value c.in_ok-changed.ensures in
    split_right c.args.class.now.items c.renumber.new.class.items kids c.args.list.now leads (keys_of c.in_ok-keys.keys.items)
    (keys_given c.args.class.now.items c.as_slice.result.now kids c.args.list.now (keys_of c.in_ok-keys.keys.items) c.as_slice.ensures.value c.in_ok-keys.ensures) alike c.in_ok-leads.ensures.leaders renumbered
