use Rattle.std.proofs.Common.{rules, ◌≡◌, ◌+◌, true, false, None, is_some}
use Rattle.tree_reads.specs.leaf_maps.Numbers.{number_at}
use Rattle.carried_trees.specs.declared.literals.OwnLiterals.{OwnLiterals}
use Rattle.carried_trees.proofs.Listing.{none_of, listed_again, listed_new}
use Rattle.carried_trees.proofs.literals.note.Goals as goal

pub returns-then-is_some-clause-numbered : goal.returns-then-is_some-clause-numbered
returns-then-is_some-clause-numbered c = λ nodes from first count node h there kind at.
    let own = c.args.own.now in
    let a = c.get.ensures in
    let b = c.is_some.ensures in
    let d = c.if-is_some.true in
    let e : is_some (number_at own.numbers c.args.leaf) ≡ true = cc in
    listed_again nodes from first count own node c.args.leaf h there kind e

pub returns-clause-numbered : goal.returns-clause-numbered
returns-clause-numbered c = λ nodes from first count node h there kind at.
    let own = c.args.own.now in
    let new : OwnLiterals = record { numbers = c.add.new.self; list = c.push.new.self; next = c.in-Some.after } in
    let a = c.get.ensures in
    let b = c.is_some.ensures in
    let d = c.if-is_some.false in
    let e : is_some (number_at own.numbers c.args.leaf) ≡ false = cc in
    let none : number_at own.numbers c.args.leaf ≡ None = none_of (number_at own.numbers c.args.leaf) e in
    let added = rw none at c.in_ok-add.ensures.here in
    let next : c.in-Some.after ≡ own.next + 1 = search rules in
    listed_new nodes from first count own new node c.args.leaf c.args.at h there kind at none added c.in_ok-add.ensures.others c.in_ok-push.ensures.items next
