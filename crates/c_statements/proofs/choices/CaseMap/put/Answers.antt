use Rattle.std.proofs.Common.{Bool, Some, cond, ◌==◌, ◌&&◌, ◌∙◌, ap, to_z-of_z}
use Rattle.std.specs.Ordering.{int_eq}
use Rattle.c_statements.specs.Labels.{case_at}
use Rattle.c_statements.proofs.Choosing.{key_same}
use Rattle.c_statements.proofs.choices.CaseMap.put.Goals as goal

pub returns : goal.returns
returns c = λ other sought.
    let found = simp (to_z-of_z c.ranges.number) at (c.in_ok-insert.ensures.updates.0 (other, sought)) in
    found
    ∙ (ap (λ (b : Bool). cond b (Some c.args.case) (case_at c.self.inside.entries.entries other sought)) (key_same c.args.switch other c.args.number sought)
    ∙ ap (λ es. cond ((c.args.switch == other) && int_eq c.args.number sought) (Some c.args.case) (case_at es other sought)) c.self.view_is)
