use Rattle.std.proofs.Common.{Some, sym, ap, ◌∙◌, arith}
use Rattle.std.proofs.lemmas.Option.{slice_get-get_or}
use Rattle.mod_ref.specs.Ground.{setting_in}
use Rattle.mod_ref.proofs.Reaching.{around_found}
use Rattle.mod_ref.proofs.ground.Ground.function_around.Goals as goal

pub returns : goal.returns
returns c =
    around_found (setting_in c.args.self.now) c.args.self.now.system.now c.args.n c.in_ok-entity.entity c.in_ok-location.location c.location_fact.result c.requires.ground.valid
    (slice_get-get_or _ c.args.n _ (omega (arith, c.requires.ground.owners, c.requires.node)) ∙ ap Some c.in_ok-entity.was)
    (sym c.first.ensures.value ∙ c.in_ok-location.was) c.location_fact.ensures.value
