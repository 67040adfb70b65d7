use Rattle.std.proofs.Common.{ℕ, Option, OnOk, sym, subst}
use Rattle.sol_model.specs.Rules.{TargetEdge}
use Rattle.edge_book.specs.Edges.{only, Gains}
use Rattle.edge_book.proofs.effects.put_target.Goals as goal

pub returns-in-None : goal.returns-in-None
returns-in-None c =
    subst (λ (library : Option ℕ). OnOk c.put_plain.result (Gains c.args.pairs.now.items c.put_plain.new.pairs.items (TargetEdge c.args.system.now (only c.args.call.now.callee c.args.location) c.args.call.now c.args.number c.args.function.now library))) (sym c.in-None.is) c.put_plain.ensures

pub returns-in-Some : goal.returns-in-Some
returns-in-Some c =
    subst (λ (library : Option ℕ). OnOk c.put_effects.result (Gains c.args.pairs.now.items c.put_effects.new.pairs.items (TargetEdge c.args.system.now (only c.args.call.now.callee c.args.location) c.args.call.now c.args.number c.args.function.now library))) (sym c.in-Some.is) c.put_effects.ensures
