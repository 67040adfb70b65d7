use Rattle.std.proofs.Common.{sym}
use Rattle.name_chains.proofs.Finding.{kept, none_kept, entry_is}
use Rattle.name_chains.proofs.reading.declared_at.Goals as goal

pub returns-in-Some : goal.returns-in-Some
returns-in-Some c = λ s n h. entry_is n s c.args.chains.now c.args.leaf h c.in-Some.seen (kept n s c.args.chains.now c.args.leaf h c.in-Some.seen c.in-Some.ensures)

pub returns-in-None : goal.returns-in-None
returns-in-None c = λ s n h. sym (none_kept n s c.args.chains.now c.args.leaf h c.in-None.ensures)
