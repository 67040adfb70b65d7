use Rattle.c_meanings.proofs.linkage.is_internal.Goals as goal

pub is_internal_after-requires-clause-seen : goal.is_internal_after-requires-clause-seen
is_internal_after-requires-clause-seen c = c.nothing_seen-seen.ensures c.args.syntax.now c.args.results.now c.args.names.now

pub returns : goal.returns
returns c = c.is_internal_after.ensures.internal
