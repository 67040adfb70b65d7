use Rattle.std.proofs.Common.{arith, ◌≡◌, ◌∙◌, sym, ap, ℕ, true, false, get_or, append-nil}
use Rattle.std.specs.Prelude.{◌==◌, not, Vec}
use Rattle.std.specs.declared.alloc.Global.{Global}
use Rattle.std.proofs.lemmas.Bool.Decides.{nat_tests}
use Rattle.sol_model.specs.declared.system.Constraint.{Constraint}
use Rattle.sol_model.specs.declared.system.Constraint.TheVariants.{Copy}
use Rattle.constraints.proofs.StartLemmas.{picked_more}
use Rattle.constraints.proofs.start.push_given.Goals as goal
use Rattle.constraints.proofs.start.push_given.Goals.{then-row-none+in_ok-push, else-row-none}

pub loop-row-preserved : goal.loop-row-preserved
loop-row-preserved c =
    let i = c.loop-row.row-index in
    let x = get_or c.args.rows.now i 0 in
    let copy = λ (row : ℕ). Copy row c.args.outside in
    let other = λ (row : ℕ). not (row == c.args.none) in
    elim c.if-row-none.branch [
      | then-row-none+in_ok-push w ↦
          let passes : other x ≡ true = grind (arith, nat_tests, w.if-row-none.true) in
          picked_more {Y = Constraint} copy other c.args.rows.now i 0 true c.args.list.now.items c.loop-row.list.items c.if-row-none.list.items c.loop-row-test.true passes
          (ap (λ (list : Vec Constraint Global). list.items) w.list-is ∙ w.in_ok-push.ensures.items) c.loop-row.invariant
      | else-row-none w ↦
          let fails : other x ≡ false = grind (arith, nat_tests, w.if-row-none.false) in
          picked_more {Y = Constraint} copy other c.args.rows.now i 0 false c.args.list.now.items c.loop-row.list.items c.if-row-none.list.items c.loop-row-test.true fails
          (ap (λ (list : Vec Constraint Global). list.items) w.list-is ∙ sym (append-nil c.loop-row.list.items)) c.loop-row.invariant
    ]
