use Rattle.std.proofs.Common.{◌≡◌, length, sym, ◌∙◌, eqb-true}
use Rattle.sol_model.specs.Families.{members}
use Rattle.new_members.proofs.Unread.{no_reader, same_edges, same_facts}
use Rattle.new_members.proofs.renewing.renew.Goals as goal

pub returns-then-is_empty-clause-book : goal.returns-then-is_empty-clause-book
returns-then-is_empty-clause-book c =
    let none : length c.targets.result.now ≡ 0 = eqb-true (length c.targets.result.now) 0 (sym c.is_empty.ensures ∙ c.if-is_empty.true) in
    same_edges c.args.system.now (members c.args.rows.now) (members c.take_row.new.rows) c.args.grown.now.row c.args.grown.now.words.now (λ r l. (c.take_row.ensures.has r l).0) c.requires.known
    (no_reader c.args.system.now c.args.grown.now.row c.args.readers.now c.targets.result.now none c.targets.ensures c.requires.readers) c.args.book.now

pub returns-then-is_empty-clause-facts : goal.returns-then-is_empty-clause-facts
returns-then-is_empty-clause-facts c =
    let none : length c.targets.result.now ≡ 0 = eqb-true (length c.targets.result.now) 0 (sym c.is_empty.ensures ∙ c.if-is_empty.true) in
    same_facts c.args.system.now (members c.args.rows.now) (members c.take_row.new.rows) c.args.grown.now.row c.args.grown.now.words.now (λ r l. (c.take_row.ensures.has r l).0) c.requires.known
    (no_reader c.args.system.now c.args.grown.now.row c.args.readers.now c.targets.result.now none c.targets.ensures c.requires.readers) c.args.facts.now.items
