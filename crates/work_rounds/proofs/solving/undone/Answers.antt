use Rattle.std.proofs.Common.{◌≡◌, ℕ, ◌*◌, ap, ◌∙◌}
use Rattle.sol_model.specs.Systems.{width_of}
use Rattle.work_rounds.proofs.solving.undone.Goals as goal

pub returns-clause-fits : goal.returns-clause-fits
returns-clause-fits c =
    let none = c.in_ok-done.ensures.nothing in
    let width : c.row_width.result ≡ width_of c.args.system.now = c.row_width.ensures in
    record {
      width = c.in_ok-done.ensures.width ∙ width;
      words = c.in_ok-done.ensures.length ∙ ap (λ (n : ℕ). c.args.system.now.rows * n) width;
      no_others = λ row location h. absurd (none row location h);
    }
