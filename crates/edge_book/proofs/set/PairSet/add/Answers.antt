use Rattle.std.proofs.Common.{Contains, sym, ◌∙◌}
use Rattle.std.proofs.lemmas.Map.Views.{hash_set_contains_iff}
use Rattle.edge_book.proofs.Pairs.{pair_equiv, pair_exact, apart, told}
use Rattle.edge_book.proofs.set.PairSet.add.Goals as goal

pub returns-then-not-branch-clause-new : goal.returns-then-not-branch-clause-new
returns-then-not-branch-clause-new c =
    let iff = hash_set_contains_iff pair_equiv pair_exact c.self.inside.pairs (c.args.one, c.args.other) in
    rw (← c.self.view_is) (told _ _ (Contains c.self.inside.pairs.keys (c.args.one, c.args.other)) (sym c.if-not-branch.true ∙ c.in_ok-insert.ensures.added) iff.0 iff.1)

pub invariant_of-self : goal.invariant_of-self
invariant_of-self c = apart c.insert.new.self.keys c.insert.ensures.unique

pub invariant_of-self-2 : goal.invariant_of-self-2
invariant_of-self-2 c = apart c.insert.new.self.keys c.insert.ensures.unique

pub returns-clause-once : goal.returns-clause-once
returns-clause-once c = apart c.insert.new.self.keys c.insert.ensures.unique
