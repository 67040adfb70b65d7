use Rattle.std.proofs.Common.{◌≡◌, ◌+◌, List, ℕ, length, get_or, refl, sym, subst, arith}
use Rattle.link_merge.specs.Parted.{lists_of, MembersUpTo}
use Rattle.link_merge.proofs.Splitting.{members_more}
use Rattle.link_merge.proofs.members.members_of.Goals as goal

pub loop-here-preserved : goal.loop-here-preserved
loop-here-preserved c =
    let first = c.args.first.now in
    let i = c.loop-here.here in
    let many = c.loop-here.invariant.many in
    let within = c.requires.within i 0 c.loop-here-test.true in
    subst (λ (ls : List (List ℕ)). MembersUpTo first ls (i + 1)) (sym c.in_ok-add_node.ensures) (members_more first (lists_of c.loop-here.lists.items) i (get_or first i 0) c.loop-here.invariant refl (omega arith))

pub returns : goal.returns
returns c =
    let first = c.args.first.now in
    let e : c.loop-here.here ≡ length first = omega arith in
    subst (λ n. MembersUpTo first (lists_of c.loop-here.lists.items) n) e c.loop-here.invariant
