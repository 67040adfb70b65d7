use Rattle.std.proofs.Common.{sym, ◌∙◌}
use Rattle.obj_space.specs.View.{view_of}
use Rattle.row_numbers.proofs.PlacedLemmas.{put_free, put_taken, put_nowhere}
use Rattle.row_numbers.proofs.functions.put.Goals as goal

pub returns-then-is_none : goal.returns-then-is_none
returns-then-is_none c keys was =
    put_free (view_of c.args.space.now) keys c.args.key _ _ was c.in-Some.l c.index.result.now (sym c.first.ensures.value ∙ c.in-Some.is) c.in-Some.ensures.within c.index.ensures c.if-is_none.ensures

pub returns-else-is_none : goal.returns-else-is_none
returns-else-is_none c keys was =
    put_taken (view_of c.args.space.now) keys c.args.key _ _ was c.in-Some.l c.index.result.now (sym c.first.ensures.value ∙ c.in-Some.is) c.in-Some.ensures.within c.index.ensures c.if-is_none.ensures

pub returns-in_default : goal.returns-in_default
returns-in_default c keys was = put_nowhere (view_of c.args.space.now) keys c.args.key _ _ was (sym c.first.ensures.value ∙ c.in_default.is)
