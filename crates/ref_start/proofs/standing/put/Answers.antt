use Rattle.std.proofs.Common.{ℕ, Bool, Some, cond, nat_eq, ◌&&◌, ap, ◌∙◌}
use Rattle.obj_space.specs.Found.{kind_of, number_of, kept_for}
use Rattle.obj_space.proofs.Indexed.{is_eq-pair}
use Rattle.ref_start.proofs.standing.put.Goals as goal

pub returns-in-Ok : goal.returns-in-Ok
returns-in-Ok c = λ other.
    let before = kept_for c.args.standing.now other in
    c.in-Ok.ensures.updates.0 (kind_of other, number_of other)
    ∙ (ap (λ (b : Bool). cond b (Some c.args.i) before) (is_eq-pair c.pair_of-pair.result.0 (kind_of other) c.pair_of-pair.result.1 (number_of other))
    ∙ (ap (λ (k : ℕ). cond (nat_eq k (kind_of other) && nat_eq c.pair_of-pair.result.1 (number_of other)) (Some c.args.i) before) c.pair_of-pair.ensures.kind
    ∙ ap (λ (k : ℕ). cond (nat_eq (kind_of c.args.key) (kind_of other) && nat_eq k (number_of other)) (Some c.args.i) before) c.pair_of-pair.ensures.number))
