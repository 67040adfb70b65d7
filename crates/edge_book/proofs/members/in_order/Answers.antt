use Rattle.std.proofs.Common.{ℕ, List, Contains, sym, subst}
use Rattle.std.specs.List.Sorted.{IsStrictlySortedBy}
use Rattle.std.proofs.lemmas.List.Filters.{dedup_is}
use Rattle.std.proofs.lemmas.List.Kept.{Contains-dedup, Contains-from_dedup, IsStrictlySortedBy-dedup}
use Rattle.std.proofs.lemmas.List.Sorted.{Contains-permutation, IsPermutation-sym}
use Rattle.edge_book.specs.Edges.{same_pair, pair_order}
use Rattle.edge_book.proofs.Pairs.{pair_equiv, pair_exact, pair_total, pair_ties}
use Rattle.edge_book.proofs.members.in_order.Goals as goal

pub returns-clause-order : goal.returns-clause-order
returns-clause-order c =
    let sorted = c.sort_unstable.new.self.items in
    subst (λ (xs : List (ℕ × ℕ)). IsStrictlySortedBy pair_order xs) (sym (dedup_is same_pair sorted c.dedup.new.self.items c.dedup.ensures.filtered))
    (IsStrictlySortedBy-dedup pair_total pair_ties sorted c.sort_unstable.ensures.sorted)

pub returns-clause-same : goal.returns-clause-same
returns-clause-same c pair =
    let old = c.args.pairs.now.items in
    let sorted = c.sort_unstable.new.self.items in
    let is = dedup_is same_pair sorted c.dedup.new.self.items c.dedup.ensures.filtered in (
      λ h. Contains-permutation sorted old pair (IsPermutation-sym old sorted c.sort_unstable.ensures.permutation) (Contains-from_dedup same_pair sorted pair (subst (λ (xs : List (ℕ × ℕ)). Contains xs pair) is h)),
      λ h. subst (λ (xs : List (ℕ × ℕ)). Contains xs pair) (sym is) (Contains-dedup pair_equiv pair_exact sorted pair (Contains-permutation old sorted pair c.sort_unstable.ensures.permutation h)),
    )
