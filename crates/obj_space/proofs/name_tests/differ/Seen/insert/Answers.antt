use Rattle.std.proofs.Common.{◌∙◌}
use Rattle.c_types.proofs.Keys.{shown_lookup, shown_others}
use Rattle.obj_space.proofs.name_tests.differ.Seen.insert.Goals as goal
use Rattle.obj_space.proofs.name_tests.differ.Seen.insert.Goals.{in-Ok, in-Err}

pub returns-clause-here : goal.returns-clause-here
returns-clause-here c =
    elim c.match-insert.branch [
      | in-Ok w ↦ rw w.result-is (shown_lookup c.insert.new.self.entries c.args.name.items ∙ w.in-Ok.ensures.updates.1)
      | in-Err w ↦ rw w.result-is tt
    ]

pub returns-clause-others : goal.returns-clause-others
returns-clause-others c =
    elim c.match-insert.branch [
      | in-Ok w ↦ rw w.result-is (λ q apart. rw (← c.self.view_is) (shown_others c.self.inside.locations.entries c.insert.new.self.entries c.args.name w.in-Ok.ensures.updates.3 q apart))
      | in-Err w ↦ rw w.result-is tt
    ]
