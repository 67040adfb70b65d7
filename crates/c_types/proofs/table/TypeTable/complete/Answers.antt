use Rattle.c_types.proofs.MadeLemmas.{extent_kept}
use Rattle.c_types.proofs.table.TypeTable.complete.Goals as goal

pub returns-clause-kept : goal.returns-clause-kept
returns-clause-kept c t e h =
    let made = c.in_ok-complete_tag.ensures.made in
    rw c.in_ok-complete_tag.ensures.ok (extent_kept c.args.self.now (record { tag = c.args.tag; members = c.args.members.items }) made c.requires.incomplete c.requires.stands c.requires.members t e h)
