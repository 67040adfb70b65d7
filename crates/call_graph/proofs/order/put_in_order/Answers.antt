use Rattle.std.proofs.Common.{◌≡◌, Contains, subst, sym}
use Rattle.std.specs.List.{dedup}
use Rattle.std.proofs.lemmas.List.Filters.{dedup_is}
use Rattle.std.proofs.lemmas.List.Kept.{Contains-dedup, Contains-from_dedup}
use Rattle.std.proofs.lemmas.List.Sorted.{Contains-permutation, IsPermutation-sym}
use Rattle.call_graph.specs.Order.{IsInOrder}
use Rattle.call_graph.proofs.Ordered.{same_pair, same_pair_is, same_pair_equiv, ordered_dedup}
use Rattle.call_graph.proofs.order.put_in_order.Goals as goal

pub returns-clause-ordered : goal.returns-clause-ordered
returns-clause-ordered c =
    let left : c.dedup.new.self.items ≡ dedup same_pair c.sort_unstable.new.self.items = dedup_is same_pair c.sort_unstable.new.self.items c.dedup.new.self.items c.dedup.ensures.filtered in
    subst IsInOrder (sym left) (ordered_dedup c.sort_unstable.new.self.items c.sort_unstable.ensures.sorted)

pub returns-clause-same : goal.returns-clause-same
returns-clause-same c pair =
    let left : c.dedup.new.self.items ≡ dedup same_pair c.sort_unstable.new.self.items = dedup_is same_pair c.sort_unstable.new.self.items c.dedup.new.self.items c.dedup.ensures.filtered in (
      (λ h. Contains-permutation c.sort_unstable.new.self.items c.args.pairs.now.items pair (IsPermutation-sym c.args.pairs.now.items c.sort_unstable.new.self.items c.sort_unstable.ensures.permutation)
          (Contains-from_dedup same_pair c.sort_unstable.new.self.items pair (subst (λ xs. Contains xs pair) left h))),
      (λ h. subst (λ xs. Contains xs pair) (sym left)
          (Contains-dedup same_pair_equiv same_pair_is c.sort_unstable.new.self.items pair (Contains-permutation c.args.pairs.now.items c.sort_unstable.new.self.items pair c.sort_unstable.ensures.permutation h))),
    )
