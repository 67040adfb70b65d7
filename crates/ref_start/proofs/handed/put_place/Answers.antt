-- Another id or number has the place that it had.
use Rattle.std.proofs.Common.{Bool, Some, cond, ap, ◌∙◌}
use Rattle.obj_space.specs.Found.{kept_at}
use Rattle.obj_space.proofs.Indexed.{is_eq-pair}
use Rattle.ref_start.proofs.handed.put_place.Goals as goal

pub returns-in-Ok-clause-ok : goal.returns-in-Ok-clause-ok
returns-in-Ok-clause-ok c = λ other j.
    c.in-Ok.ensures.updates.0 (other, j)
    ∙ ap (λ (b : Bool). cond b (Some c.args.at) (kept_at c.args.places.now other j)) (is_eq-pair c.args.id other c.args.k j)
