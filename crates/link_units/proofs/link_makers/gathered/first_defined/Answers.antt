use Rattle.std.proofs.Common.{◌≡◌, Option, Some, None, List, length, take, get_or, set, sym, ap, subst, ◌∙◌, arith}
use Rattle.std.specs.Option.{option_map_or}
use Rattle.std.proofs.lemmas.Option.{slice_get-get_or}
use Rattle.std.proofs.lemmas.List.{take_all}
use Rattle.core_tree.specs.declared.node.Entity.{Entity}
use Rattle.link_names.specs.declared.declared.Declared.{Declared}
use Rattle.link_names.specs.Externals.{is_defined, item_of}
use Rattle.link_names.specs.Scene.{joined_of}
use Rattle.link_names.proofs.Gathering.{first_within}
use Rattle.link_units.specs.link_makers.Gathered.{AreGathered, first_passing}
use Rattle.link_units.proofs.link_makers.Gathers.{gathered_more}
use Rattle.link_units.proofs.link_makers.gathered.first_defined.Goals as goal

pub keep_first-requires : goal.keep_first-requires
keep_first-requires c =
    let s = c.args.scene.now in
    let ds = s.declared.now in
    let i = c.loop-here.here in
    let within = first_within s.units.now ds c.args.firsts.now i _ c.requires.scene.declared c.requires.firsts c.loop-here-test.true (slice_get-get_or ds i (record { unit = 0; line = 0; column = 0; number = 0 }) c.loop-here-test.true) in
    let all = c.loop-here.invariant.all in
    omega arith

pub loop-here-preserved : goal.loop-here-preserved
loop-here-preserved c =
    let s = c.args.scene.now in
    let ds = s.declared.now in
    let i = c.loop-here.here in
    let d : Declared = get_or ds i (record { unit = 0; line = 0; column = 0; number = 0 }) in
    let f = get_or c.args.firsts.now i 0 in
    let list = c.loop-here.list.items in
    let passes = c.is_defined-placed.ensures in
    gathered_more s.units.now ds (λ (o : Option Declared) (e : Declared). first_passing o (is_defined (joined_of s) (item_of e)) e) None c.args.firsts.now list c.keep_first.new.list.items i d
    c.requires.scene.declared c.requires.firsts c.loop-here-test.true (slice_get-get_or ds i (record { unit = 0; line = 0; column = 0; number = 0 }) c.loop-here-test.true) c.loop-here.invariant
    (c.keep_first.ensures ∙ ap (λ b. set list f (first_passing (get_or list f None) b d)) passes)

pub returns : goal.returns
returns c =
    let s = c.args.scene.now in
    let ds = s.declared.now in
    subst (λ (l : List Declared). AreGathered s.units.now ds (λ (o : Option Declared) (e : Declared). first_passing o (is_defined (joined_of s) (item_of e)) e) None l c.loop-here.list.items) (take_all c.loop-here.here ds (omega arith)) c.loop-here.invariant
