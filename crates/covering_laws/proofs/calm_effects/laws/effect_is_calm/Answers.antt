use Rattle.covering_laws.proofs.calm_effects.Calm.{effect_is_calm}
use Rattle.covering_laws.proofs.calm_effects.laws.effect_is_calm.Goals as goal

pub returns : goal.returns
returns c = effect_is_calm
