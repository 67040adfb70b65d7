use Rattle.std.proofs.Common.{arith, ◌+◌, sym, subst}
use Rattle.c_structures.specs.declared.names.MemberNames.{MemberNames}
use Rattle.c_structures.specs.Before.{Covers}
use Rattle.c_structures.proofs.Covering.{covers_some, covers_none}
use Rattle.c_structures.proofs.before.with_node.Goals as goal
use Rattle.c_structures.proofs.before.with_node.Goals.{in-Some+in_ok-add_all, in_default}

pub returns-clause-covers : goal.returns-clause-covers
returns-clause-covers c = λ covers. elim c.match-members_at.branch [
  | in-Some+in_ok-add_all w ↦
      subst (λ (names : MemberNames). Covers c.args.results.now c.args.nodes.now (record { done = c.args.cursor.done + 1; names = names })) (sym w.names-is)
      (covers_some c.args.results.now c.args.nodes.now c.args.cursor w.add_all.new.self w.in-Some.members.now c.requires (omega (arith, c.if-node-len.false, c.len.ensures)) w.in-Some.ensures.seen w.in_ok-add_all.ensures covers)
  | in_default w ↦
      subst (λ (names : MemberNames). Covers c.args.results.now c.args.nodes.now (record { done = c.args.cursor.done + 1; names = names })) (sym w.names-is)
      (covers_none c.args.results.now c.args.nodes.now c.args.cursor c.requires (omega (arith, c.if-node-len.false, c.len.ensures)) w.in_default.ensures.seen covers)
]
