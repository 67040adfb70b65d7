use Rattle.std.proofs.Common.{ℕ, ◌+◌, Bool, length, cond, ◌∙◌, ap}
use Rattle.edge_book.proofs.Taking.{took_one, longer}
use Rattle.edge_book.proofs.book.PairBook.add_one.Goals as goal

pub returns-then-branch-clause-ok : goal.returns-then-branch-clause-ok
returns-then-branch-clause-ok c =
    let old = c.args.self.now in
    let new = c.add.new.self in
    let b = c.in_ok-add.field-0 in
    let p : ℕ × ℕ = (c.args.from, c.args.to) in
    (took_one old new p b c.in_ok-add.ensures.added c.in_ok-add.ensures.new, longer old new p b c.in_ok-add.ensures.added ∙ ap (λ (x : Bool). length old + cond x 1 0) c.if-branch.true)

pub returns-else-branch-clause-ok : goal.returns-else-branch-clause-ok
returns-else-branch-clause-ok c =
    let old = c.args.self.now in
    let new = c.add.new.self in
    let b = c.in_ok-add.field-0 in
    let p : ℕ × ℕ = (c.args.from, c.args.to) in
    (took_one old new p b c.in_ok-add.ensures.added c.in_ok-add.ensures.new, longer old new p b c.in_ok-add.ensures.added ∙ ap (λ (x : Bool). length old + cond x 1 0) c.if-branch.false)
