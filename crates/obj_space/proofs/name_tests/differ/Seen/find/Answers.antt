use Rattle.std.proofs.Common.{◌∙◌, sym}
use Rattle.c_types.proofs.Keys.{shown_lookup}
use Rattle.obj_space.proofs.name_tests.differ.Seen.find.Goals as goal

pub returns : goal.returns
returns c =
    rw (← c.self.view_is) (c.copied.ensures ∙ (c.get.ensures.value ∙ sym (shown_lookup c.self.inside.locations.entries c.args.name.now)))
