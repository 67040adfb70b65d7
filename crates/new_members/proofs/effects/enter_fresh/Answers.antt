use Rattle.std.proofs.Common.{sym, subst}
use Rattle.edge_book.specs.Edges.{Gains}
use Rattle.pta_base.specs.declared.effect.Effect.{Effect}
use Rattle.sol_model.specs.Rules.{EffectFact}
use Rattle.new_members.proofs.effects.enter_fresh.Goals as goal

pub returns-in_ok-put_fresh-in-GivesNew : goal.returns-in_ok-put_fresh-in-GivesNew
returns-in_ok-put_fresh-in-GivesNew c =
    subst (λ (e : Effect). Gains c.args.facts.now.items c.put_fresh.new.facts.items (EffectFact c.args.call.now c.args.number e)) (sym c.in-GivesNew.is) c.in_ok-put_fresh-in-GivesNew.ensures

pub returns-in_ok-put_fresh-in-GivesObject : goal.returns-in_ok-put_fresh-in-GivesObject
returns-in_ok-put_fresh-in-GivesObject c =
    subst (λ (e : Effect). Gains c.args.facts.now.items c.put_fresh-in-GivesObject.new.facts.items (EffectFact c.args.call.now c.args.number e)) (sym c.in-GivesObject.is) c.in_ok-put_fresh-in-GivesObject.ensures
