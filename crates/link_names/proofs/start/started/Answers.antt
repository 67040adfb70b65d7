use Rattle.link_names.specs.Scene.{joined_of}
use Rattle.link_names.proofs.Starting.{not_empty, entered_then}
use Rattle.link_names.proofs.start.started.Goals as goal

pub returns-then-not-is_empty : goal.returns-then-not-is_empty
returns-then-not-is_empty c = entered_then (joined_of c.args.scene.now) c.args.scene.now.declared.now c.args.entries.now c.entered.result (not_empty c.args.entries.now c.is_empty.result c.is_empty.ensures c.if-not-is_empty.true) c.entered.ensures
