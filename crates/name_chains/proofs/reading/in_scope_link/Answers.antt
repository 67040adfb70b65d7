use Rattle.std.proofs.Common.{sym, ap, ◌∙◌}
use Rattle.c_senses.specs.Names.{before_in_scope}
use Rattle.name_chains.proofs.Linked.{listed-none}
use Rattle.name_chains.proofs.Finding.{kept, none_kept, in_scope_is}
use Rattle.name_chains.proofs.reading.in_scope_link.Goals as goal

pub returns-in-Some-clause-link : goal.returns-in-Some-clause-link
returns-in-Some-clause-link c = λ s n h. (kept n s c.args.chains.now c.args.leaf h c.in-Some.seen c.in-Some.ensures).seen.in_scope_is

pub returns-in-Some-clause-list : goal.returns-in-Some-clause-list
returns-in-Some-clause-list c = λ s n h. in_scope_is n s c.args.chains.now c.args.leaf h c.in-Some.seen (kept n s c.args.chains.now c.args.leaf h c.in-Some.seen c.in-Some.ensures)

pub returns-in-None-clause-list : goal.returns-in-None-clause-list
returns-in-None-clause-list c = λ s n h. listed-none c.args.chains.now.own.items ∙ sym (ap (before_in_scope s) (none_kept n s c.args.chains.now c.args.leaf h c.in-None.ensures))
