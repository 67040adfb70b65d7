use Rattle.std.proofs.Common.{◌≡◌, ◌<◌, ◌-◌, ◌∙◌, sym, ap, Option, Some, None, MatchOption, Vec, Global, map, ℕ, reverse, arith}
use Rattle.std.proofs.lemmas.Result.{IfOk-weaker}
use Rattle.c_types.specs.Table.{type_of}
use Rattle.c_senses.specs.World.{World, in_unnamed, way_within}
use Rattle.c_operators.specs.c_members.Worlds.{IsWorldOf, part_of}
use Rattle.c_operators.proofs.c_members.Levels.{level_own, level_unnamed, pass_named, pass_unnamed, take_unnamed, past_all, front}
use Rattle.c_operators.proofs.c_members.ways.+ways.Goals as goal
use Rattle.c_operators.proofs.c_members.ways.+ways.Goals.{way_in_unnamed-then-is_none+in_ok-way+in_default, way_in_unnamed-else-is_none}

pub way_in_unnamed-returns-in-Some : goal.way_in_unnamed-returns-in-Some
way_in_unnamed-returns-in-Some t c = λ w h.
    let i = c.loop-position.position in
    let search = way_within w c.args.depth c.args.name.now in
    let found = rw c.in-Some.is at (c.in_ok-way.ensures w h) in
    sym (c.loop-position.invariant w h)
    ∙ (take_unnamed search c.args.types.now c.args.members.now i c.index-members-position.result (reverse c.in-Some.way.items) c.loop-position-test.true c.index-members-position.is c.if-is_none.ensures found
    ∙ ap Some (sym (front i c.push_step.new.way.items c.in-Some.way.items c.in_ok-push_step.ensures)))

pub way_in_unnamed-loop-position-preserved : goal.way_in_unnamed-loop-position-preserved
way_in_unnamed-loop-position-preserved t c = λ w h.
    let i = c.loop-position.position in
    let search = way_within w c.args.depth c.args.name.now in
    let table = c.args.types.now in
    let members = c.args.members.now in
    let m = c.index-members-position.result in
    elim c.if-is_none.branch [
      | way_in_unnamed-then-is_none+in_ok-way+in_default x ↦
          let none = rw x.in_default.is at (x.in_ok-way.ensures w h) in
          sym (pass_unnamed search table members i m c.loop-position-test.true c.index-members-position.is x.if-is_none.ensures none) ∙ c.loop-position.invariant w h
      | way_in_unnamed-else-is_none x ↦
          sym (pass_named search table members i m c.loop-position-test.true c.index-members-position.is x.if-is_none.ensures) ∙ c.loop-position.invariant w h
    ]

pub way_in_unnamed-returns : goal.way_in_unnamed-returns
way_in_unnamed-returns t c = λ w h.
    sym (c.loop-position.invariant w h) ∙ past_all (way_within w c.args.depth c.args.name.now) c.args.types.now c.args.members.now c.loop-position.position c.loop-position-test.false

pub way_within-returns-in-None-own_position : goal.way_within-returns-in-None-own_position
way_within-returns-in-None-own_position t c =
    let table = c.args.types.now in
    let name = c.args.name.now in
    let depth = c.args.depth in
    let members = c.in-Some.members.now in
    let whole = type_of table c.args.whole.0 in
    let some : 0 < depth = omega arith in
    let P : Option (Vec ℕ Global) → Type 0 = λ found. (w : World) → IsWorldOf w table → MatchOption found (in_unnamed (way_within w (depth - 1) name) 0 (map (part_of table) members) ≡ None) (λ way. in_unnamed (way_within w (depth - 1) name) 0 (map (part_of table) members) ≡ Some (reverse way.items)) in
    let Q : Option (Vec ℕ Global) → Type 0 = λ found. (w : World) → IsWorldOf w table → MatchOption found (way_within w depth name whole ≡ None) (λ way. way_within w depth name whole ≡ Some (reverse way.items)) in
    let deeper : (found : Option (Vec ℕ Global)) → P found → Q found = λ found p w h. rw (level_unnamed w table name depth whole members h some c.in-Some.ensures.list (sym c.own_position.ensures ∙ c.in-None-own_position.is)) (p w h) in
    IfOk-weaker _ P Q deeper c.way_in_unnamed.ensures

pub way_within-returns-in_ok-one_step-in-Some-own_position : goal.way_within-returns-in_ok-one_step-in-Some-own_position
way_within-returns-in_ok-one_step-in-Some-own_position t c =
    let whole = type_of c.args.types.now c.args.whole.0 in
    let some : 0 < c.args.depth = omega arith in
    let one = c.in_ok-one_step-in-Some-own_position.ensures in
    λ w h.
    level_own w c.args.types.now c.args.name.now c.args.depth whole c.in-Some.members.now c.in-Some-own_position.position h some c.in-Some.ensures.list (sym c.own_position.ensures ∙ c.in-Some-own_position.is)
    ∙ ap (λ xs. Some (reverse xs)) (sym one)
