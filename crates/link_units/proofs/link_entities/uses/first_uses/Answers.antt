use Rattle.std.proofs.Common.{◌≡◌, Option, Some, None, get_or, sym, subst, ◌∙◌, arith}
use Rattle.std.proofs.lemmas.Option.{slice_get-get_or}
use Rattle.core_tree.specs.declared.node.Entity.{Entity}
use Rattle.link_names.specs.declared.declared.Declared.{Declared}
use Rattle.link_names.proofs.Gathering.{first_within}
use Rattle.link_units.specs.link_entities.Uses.{IsEarlier}
use Rattle.link_units.proofs.link_entities.Using.{uses_more}
use Rattle.link_units.proofs.link_entities.uses.first_uses.Goals as goal

some_one : {X : Type 0} → {x y : X} → ◌≡◌ {A = Option X} (Some x) (Some y) → x ≡ y
some_one h = cc

pub keep_earlier-requires : goal.keep_earlier-requires
keep_earlier-requires c =
    let s = c.args.scene.now in
    let ds = s.declared.now in
    let i = c.loop-here.here in
    let within = first_within s.units.now ds c.args.firsts.now i _ c.requires.scene.declared c.requires.firsts c.loop-here-test.true (slice_get-get_or ds i (record { unit = 0; line = 0; column = 0; number = 0 }) c.loop-here-test.true) in
    let all = c.loop-here.invariant.all in
    omega arith

pub loop-here-preserved : goal.loop-here-preserved
loop-here-preserved c =
    let s = c.args.scene.now in
    let ds = s.declared.now in
    let i = c.loop-here.here in
    let d : Declared = get_or ds i (record { unit = 0; line = 0; column = 0; number = 0 }) in
    let list = c.loop-here.list.items in
    let kept = c.keep_earlier.ensures in
    uses_more s.units.now ds c.args.firsts.now list c.keep_earlier.new.list.items i d kept.0 c.requires.scene.declared c.requires.firsts c.loop-here-test.true
    (slice_get-get_or ds i (record { unit = 0; line = 0; column = 0; number = 0 }) c.loop-here-test.true) c.loop-here.invariant
    (λ x at. subst (λ (y : Entity). IsEarlier (get_or list (get_or c.args.firsts.now i 0) None) y.used kept.0) (some_one (sym c.entity_of.ensures ∙ at)) kept.2)
    kept.1
