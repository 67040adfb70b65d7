use Rattle.ref_lib.proofs.memory_laws.Effects.{effect_leaves}
use Rattle.ref_lib.proofs.memory_laws.laws.effect_follows.Goals as goal

pub returns : goal.returns
returns c table memory function key fixed result arguments word named made known h =
    effect_leaves table named made memory known function key fixed result arguments word h
