use Rattle.std.proofs.Common.{Some, cond, ap, ◌∙◌}
use Rattle.obj_space.specs.Found.{kept_at}
use Rattle.obj_space.proofs.Indexed.{is_eq-pair}
use Rattle.obj_space.proofs.firsts.put.Goals as goal

pub returns : goal.returns
returns c = λ k n.
    c.in_ok-insert.ensures.updates.0 (k, n)
    ∙ ap (λ b. cond b (Some c.args.l) (kept_at c.args.firsts.now k n)) (is_eq-pair c.args.kind k c.args.number n)
