use Rattle.std.proofs.Common.{◌≡◌, true}
use Rattle.c_types.specs.Table.{type_of}
use Rattle.core_nodes.proofs.Growing.{builds_on, knows_on}
use Rattle.c_senses.specs.Sense as sense
use Rattle.c_senses.specs.Declarators.{derived_once}
use Rattle.c_results.specs.Standing.{derivation_seen}
use Rattle.c_declarators.specs.Limited.{parameters_limited, small_once}
use Rattle.c_declarators.proofs.Deriving.{derived_step, same_seen, seen_at}
use Rattle.std.proofs.Common.{ap, sym, ◌∙◌}
use Rattle.init_rows.proofs.TypeLaws.{once_more}
use Rattle.init_rows.proofs.types.derived_type.Goals as goal

pub loop-derivation-preserved : goal.loop-derivation-preserved
loop-derivation-preserved c =
    let old = c.args.unit.now in
    let mid = c.loop-derivation.unit in
    let new = c.derived_once.new.unit in
    let inv = c.loop-derivation.invariant in
    let ds = c.args.derivations.now in
    let i = c.loop-derivation.derivation-index in
    let d = c.derivation-item.result in
    let t = type_of mid.types c.loop-derivation.made.0 in
    let builds = builds_on old mid new inv.builds c.in-Ok.ensures.builds in
    let seen = same_seen old mid inv.builds ds i d c.requires.derivations c.loop-derivation-test.true c.derivation-item.is in
    let again = same_seen old new builds ds i d c.requires.derivations c.loop-derivation-test.true c.derivation-item.is in
    let t' = type_of new.types c.in-Ok.more.0 in
    let is : t' ≡ derived_once (derivation_seen old.types d) t = c.in-Ok.ensures.made ∙ ap (λ (x : sense.Derivation). derived_once x t) seen in
    let is' : t' ≡ derived_once (derivation_seen new.types d) t = is ∙ ap (λ (x : sense.Derivation). derived_once x t) (sym again) in
    record {
      ready = c.in-Ok.ensures.ready;
      builds = builds;
      within = c.in-Ok.ensures.within;
      rest = derived_step old mid inv.builds ds i d _ _ _ c.requires.derivations c.loop-derivation-test.true c.derivation-item.is c.in-Ok.ensures.made inv.rest;
      limited = λ w knows base parameters.
          let p = seen_at (λ (x : sense.Derivation). parameters_limited w x ≡ true) old.types ds i d c.loop-derivation-test.true c.derivation-item.is parameters in
          once_more w (derivation_seen old.types d) t t' c.loop-derivation.limited c.stays_small-small.result c.both-limited.result p is (inv.limited w knows base parameters)
          (c.stays_small-small.ensures w t (knows_on w old new builds knows) is' ∙ ap (λ (x : sense.Derivation). small_once w x t) again) c.both-limited.ensures;
    }

pub returns-in-Err-clause-builds : goal.returns-in-Err-clause-builds
returns-in-Err-clause-builds c = builds_on c.args.unit.now c.loop-derivation.unit c.derived_once.new.unit c.loop-derivation.invariant.builds c.in-Err.ensures.builds
