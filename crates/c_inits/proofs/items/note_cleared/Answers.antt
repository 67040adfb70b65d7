use Rattle.c_inits.proofs.Keys.{updated}
use Rattle.c_inits.proofs.items.note_cleared.Goals as goal
use Rattle.c_inits.proofs.items.note_cleared.Goals.{in-Ok, in-Err}

pub returns : goal.returns
returns c = elim c.match-insert.branch [
  | in-Ok w ↦ let h = rw w.in-Ok.is at c.insert.ensures.updates in rw w.result-is (updated c.args.cleared.now c.insert.new.self c.args.key h)
  | in-Err w ↦ rw w.result-is tt
]
