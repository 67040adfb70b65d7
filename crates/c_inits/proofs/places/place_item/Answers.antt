use Rattle.std.proofs.Common.{◌∙◌, ap, map, None, Option}
use Rattle.c_inits.specs.declared.cursor.Expression.{Expression}
use Rattle.c_inits.specs.Initial.{starts}
use Rattle.c_inits.specs.Tables.{type_shape}
use Rattle.c_inits.specs.Cursor.{path_of}
use Rattle.c_inits.specs.Designated.{designator_of}
use Rattle.c_inits.specs.Places.{before_of, placing, or_nowhere}
use Rattle.c_inits.proofs.Settle.{first_here}
use Rattle.c_inits.proofs.places.place_item.Goals as goal

pub returns-in-Ok-None-clause-place : goal.returns-in-Ok-None-clause-place
returns-in-Ok-None-clause-place c =
    let table = c.args.types.now in
    let whole = type_shape table c.args.limit c.args.root.0 in
    let start = starts whole (before_of c.args.started (path_of c.args.frames.now.items)) (map designator_of c.args.designators.now) in
    let h = rw c.in-Ok-None.is-0 at c.in_ok-start.ensures.start in (
      ap (λ (v : Option Expression). placing table c.args.node v start) c.in-Ok-None.is-1 ∙ ap (placing table c.args.node None) h.0
          ∙ ap (or_nowhere c.args.node) (first_here table c.args.limit whole (path_of c.begin_item.new.frames.items) c.in-Ok-None.id.0 h.1),
      h.1,
    )
