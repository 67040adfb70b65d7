use Rattle.std.proofs.Common.{sym, ap, ◌∙◌}
use Rattle.c_senses.specs.Names.{linked_before}
use Rattle.name_chains.proofs.Linked.{listed-none}
use Rattle.name_chains.proofs.Finding.{kept, none_kept, linked_is}
use Rattle.name_chains.proofs.reading.linked_link.Goals as goal

pub returns-in-Some-clause-link : goal.returns-in-Some-clause-link
returns-in-Some-clause-link c = λ s n h. (kept n s c.args.chains.now c.args.leaf h c.in-Some.seen c.in-Some.ensures).seen.linked_is

pub returns-in-Some-clause-list : goal.returns-in-Some-clause-list
returns-in-Some-clause-list c = λ s n h. linked_is n s c.args.chains.now c.args.leaf h c.in-Some.seen (kept n s c.args.chains.now c.args.leaf h c.in-Some.seen c.in-Some.ensures)

pub returns-in-None-clause-list : goal.returns-in-None-clause-list
returns-in-None-clause-list c = λ s n h. listed-none c.args.chains.now.links.items ∙ sym (ap (linked_before s) (none_kept n s c.args.chains.now c.args.leaf h c.in-None.ensures))
