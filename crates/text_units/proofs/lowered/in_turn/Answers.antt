use Rattle.std.proofs.Common.{◌≡◌, ℕ, ◌+◌, ◌<◌, List, length, drop, sym, subst, arith}
use Rattle.std.specs.Prelude.{zip}
use Rattle.core_tree.specs.declared.node.Unit.{Unit}
use Rattle.text_units.specs.Answers.{NamedText, names_of}
use Rattle.text_units.proofs.Refused.{IsLoweredTo, unit_at, no_unit_left, lowered_first, lowered_next, lowered_all, refused_here}
use Rattle.text_units.proofs.lowered.in_turn.Goals as goal

pub loop-at-init : goal.loop-at-init
loop-at-init g c =
    let texts : List NamedText = zip (names_of c.args.names.now) c.args.texts.now in
    let here : c.args.first + 0 ≡ c.args.first = omega arith in
    let Q : List Unit → Type 0 = λ units. IsLoweredTo c.args.first texts texts (c.args.first + 0) units in
    record { lowered = subst Q (sym c.new-units.ensures.items) (lowered_first c.args.first (c.args.first + 0) texts here) }

pub loop-at-preserved : goal.loop-at-preserved
loop-at-preserved g c =
    let at : ℕ = c.loop-at.at in
    let within : at < length c.args.names.now = omega arith in
    let found = unit_at c.args.names.now c.args.texts.now at c.index-texts-at.result c.name_at.result.now c.as_slice.result.now
    c.requires.count within c.name_at.ensures c.index-texts-at.is c.as_slice.ensures in record {
      lowered = lowered_next c.args.first at (zip (names_of c.args.names.now) c.args.texts.now) (c.name_at.result.now, c.as_slice.result.now) c.loop-at.units.items c.push.new.self.items c.in-Ok.unit c.loop-at.invariant.lowered found
          c.in-Ok.ensures.right c.in_ok-push-in-Ok.ensures.items;
    }

pub returns-in-Err-clause-refused : goal.returns-in-Err-clause-refused
returns-in-Err-clause-refused g c =
    let at : ℕ = c.loop-at.at in
    let within : at < length c.args.names.now = omega arith in
    let found = unit_at c.args.names.now c.args.texts.now at c.index-texts-at.result c.name_at.result.now c.as_slice.result.now
    c.requires.count within c.name_at.ensures c.index-texts-at.is c.as_slice.ensures in
    refused_here c.args.first at (zip (names_of c.args.names.now) c.args.texts.now) (c.name_at.result.now, c.as_slice.result.now) c.loop-at.units.items c.in-Err.fault c.loop-at.invariant.lowered found c.in-Err.ensures.refused

pub returns-clause-right : goal.returns-clause-right
returns-clause-right g c =
    let texts : List NamedText = zip (names_of c.args.names.now) c.args.texts.now in
    lowered_all c.args.first texts (drop c.loop-at.at texts) (c.args.first + c.loop-at.at) c.loop-at.units.items c.loop-at.invariant.lowered
    (no_unit_left c.args.names.now c.args.texts.now c.loop-at.at c.loop-at-test.false)
