use Rattle.mod_ref.proofs.Touching.{ground_is}
use Rattle.mod_ref.proofs.whole.effects.Goals as goal

pub first_rows-requires-clause-nodes : goal.first_rows-requires-clause-nodes
first_rows-requires-clause-nodes c = (c.is_numbered.ensures c.if-not-is_numbered.false).3

pub first_rows-requires-clause-entities : goal.first_rows-requires-clause-entities
first_rows-requires-clause-entities c = (c.is_numbered.ensures c.if-not-is_numbered.false).0

pub both-requires-clause-ground : goal.both-requires-clause-ground
both-requires-clause-ground c =
    ground_is _ c.requires.range c.requires.system c.requires.valid c.requires.fits (rw c.as_slice-owners.ensures.value c.in_ok-listed.ensures) (rw c.as_slice-starts.ensures.value c.in_ok-numbers.ensures)
    (c.is_numbered.ensures c.if-not-is_numbered.false).1

pub returns : goal.returns
returns c = record {
  owners = c.in_ok-listed.listed.items;
  around = c.in_ok-listed.ensures;
  reads = rw c.as_slice-owners.ensures.value at c.in_ok-effects.ensures.reads;
  writes = rw c.as_slice-owners.ensures.value at c.in_ok-effects.ensures.writes;
}
