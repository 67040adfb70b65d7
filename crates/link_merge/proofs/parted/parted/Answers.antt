use Rattle.std.proofs.Common.{List, ℕ, sym, subst}
use Rattle.link_merge.specs.Parted.{lists_of, AreParted}
use Rattle.link_merge.proofs.Splitting.{parted_begun}
use Rattle.link_merge.proofs.parted.parted.Goals as goal

pub returns-then-not-are_nodes : goal.returns-then-not-are_nodes
returns-then-not-are_nodes c =
    let first = c.args.first.now in
    let kids = lists_of c.args.kids.now in
    subst (λ (xs : List ℕ). AreParted first kids xs) (sym c.in_ok-class.ensures.items) (parted_begun first kids c.requires.itself)

pub loop-init : goal.loop-init
loop-init c =
    let first = c.args.first.now in
    let kids = lists_of c.args.kids.now in
    subst (λ (xs : List ℕ). AreParted first kids xs) (sym c.in_ok-class.ensures.items) (parted_begun first kids c.requires.itself)
