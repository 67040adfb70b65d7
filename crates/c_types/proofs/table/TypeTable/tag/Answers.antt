use Rattle.std.proofs.Common.{arith, ◌≡◌, length}
use Rattle.c_types.proofs.Found.{fresh_tag}
use Rattle.c_types.proofs.Layouts.{right_tagged, tags_or_not}
use Rattle.c_types.proofs.table.TypeTable.tag.Goals as goal
use Rattle.c_types.proofs.table.TypeTable.tag.Goals.{in-Ok, in-Err}

pub invariant_of-self : goal.invariant_of-self
invariant_of-self c = record {
  right = rw c.push.ensures.items (tags_or_not _ _ _ _ _ c.self.invariant.right (right_tagged _ _ _ c.self.invariant.right (omega arith)));
  index = c.self.invariant.index;
}

pub returns-clause-fresh : goal.returns-clause-fresh
returns-clause-fresh c =
    elim c.match-push.branch [ in-Ok w ↦ rw w.result-is (let last : c.len-tag.result ≡ length c.self.inside.tags.items = omega arith in rw (← c.self.view_is, last) (fresh_tag c.self.inside.entries.items c.self.inside.tags.items c.self.inside.completed.items c.self.invariant.right)) | in-Err w ↦ rw w.result-is tt ]
