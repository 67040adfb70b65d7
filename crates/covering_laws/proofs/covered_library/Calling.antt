-- The effect of a library function, said of the program as it is solved.
use Rattle.c_types.specs.declared.term.TypeId.{TypeId}
use Rattle.covering_laws.specs.covered_library.Laws.{EffectsCovered}
use Rattle.covering_laws.proofs.covered_library.Table.{effect_in}

pub effects_covered : EffectsCovered
effects_covered s n node site target function library memory key fixed result arguments word e call all few counts needs h =
    let r = effect_in s.program s.space s.system s.is_system s.family s.closed s.grounds call.number n node site call.at call.of_call target function call.is_target library call.fact memory all (λ (id : TypeId). few id.0) counts key fixed result arguments word needs e h in
    record { row = r.0; row_is = r.1; effect_in = r.2; backs = r.3 }
