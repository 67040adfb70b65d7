use Rattle.std.proofs.Common.{arith, ◌<◌, ◌+◌, ℕ, sym, ap, ◌∙◌, subst, List, [], ◌∷◌, ◌++◌, Err, length, map, drop}
use Rattle.std.proofs.lemmas.List.Elements.{All-same, All-push, All-weaker}
use Rattle.c_types.specs.Trees.{Ctype}
use Rattle.c_types.specs.Table.{type_of}
use Rattle.c_inits.specs.declared.items.InitItem.{InitItem}
use Rattle.c_inits.specs.Items.{placed_of}
use Rattle.c_senses.specs.Sense.{Sense, sense_in}
use Rattle.c_senses.specs.Initialised.{placed_cores}
use Rattle.core_nodes.specs.Standing.{cores_at}
use Rattle.core_nodes.proofs.Growing.{builds_on}
use Rattle.core_nodes.proofs.Failing.{made_same}
use Rattle.c_conversions.specs.Constants.{HaveRows}
use Rattle.c_results.specs.Standing.{senses_made}
use Rattle.c_results.proofs.Keeping.{mades_kept, withins_kept}
use Rattle.tree_reads.specs.Sources.{source_read}
use Rattle.c_initials.specs.Scope.{item_given}
use Rattle.c_initials.proofs.PlacedLaws.{told_on, constants_kept, cores_kept, rows_pushed, item_off, one_more, one_refused, none_left, items_past}
use Rattle.c_initials.proofs.placing.placed_values.Goals as goal

pub placed_value-requires-clause-results : goal.placed_value-requires-clause-results
placed_value-requires-clause-results c = withins_kept c.args.unit.now c.loop-item.unit c.loop-item.invariant.builds c.args.scope.now.results.now c.requires.results

pub placed_value-requires-clause-rows : goal.placed_value-requires-clause-rows
placed_value-requires-clause-rows c = constants_kept c.args.unit.now c.loop-item.unit c.loop-item.invariant.builds c.args.scope.now.results.now c.requires.results c.requires.rows

pub returns-in_err-push-in-Ok-clause-builds : goal.returns-in_err-push-in-Ok-clause-builds
returns-in_err-push-in-Ok-clause-builds c = builds_on c.args.unit.now c.loop-item.unit c.placed_value.new.unit c.loop-item.invariant.builds c.placed_value.ensures.builds

pub returns-in-Err-clause-builds : goal.returns-in-Err-clause-builds
returns-in-Err-clause-builds c = builds_on c.args.unit.now c.loop-item.unit c.placed_value.new.unit c.loop-item.invariant.builds c.placed_value.ensures.builds

pub returns-in-Err-clause-made : goal.returns-in-Err-clause-made
returns-in-Err-clause-made c = λ w told.
    let u = c.args.unit.now in
    let l = c.loop-item.unit in
    let new = c.placed_value.new.unit in
    let s = source_read c.args.scope.now.syntax.now in
    let results = c.args.scope.now.results.now in
    let sense = sense_in (senses_made u results) in
    let static = c.args.is_static in
    let t = type_of u.types c.args.whole.0 in
    let here = type_of l.types c.args.whole.0 in
    let items = c.args.items.now in
    let k = c.loop-item.item-index in
    let item = c.item-item.result in
    let p = placed_of item in
    let rest = map placed_of (drop (k + 1) items) in
    let standing = c.loop-item.invariant.builds in
    let off = item_off items k item c.loop-item-test.true ∙ ap (λ (x : InitItem). placed_of x ∷ rest) (sym c.item-item.is) in
    let same = ap (λ (q : Ctype). item_given w s sense static q p) (sym (standing.types c.args.whole.0 c.requires.whole))
    ∙ ap (λ (list : List Sense). item_given w s (sense_in list) static here p) (sym (mades_kept u l standing results c.requires.results)) in
    one_refused w s sense static t (placed_cores w s sense static t (map placed_of items)) (map placed_of (drop k items)) rest p l c.loop-item.values (c.loop-item.invariant.rest w told) off new new c.in-Err.fault
    (made_same new (Err c.in-Err.fault) _ _ (sym same) (c.in-Err.ensures.made w (told_on w u l c.args.scope.now standing told)))

pub loop-item-preserved : goal.loop-item-preserved
loop-item-preserved c =
    let u = c.args.unit.now in
    let l = c.loop-item.unit in
    let new = c.placed_value.new.unit in
    let values = c.loop-item.values in
    let i = c.in-Ok.value in
    let grown = c.placed_value.ensures.builds in
    let pushed = c.in_ok-push-in-Ok.ensures.ok in
    let kept = cores_kept l new grown values c.loop-item.invariant.within in
    record {
      ready = c.placed_value.ensures.ready;
      builds = builds_on u l new c.loop-item.invariant.builds grown;
      within = All-same (λ (j : ℕ). j < length new.nodes.items) c.push.new.self (values ++ i ∷ []) pushed
          (All-push (λ (j : ℕ). j < length new.nodes.items) values i
          (All-weaker (λ (j : ℕ). j < length l.nodes.items) (λ (j : ℕ). j < length new.nodes.items) (λ j h. omega (arith, h, grown.more)) values c.loop-item.invariant.within)
          c.in-Ok.ensures.within);
      rows = subst (λ (list : List ℕ). HaveRows (cores_at new list)) (sym pushed) (rows_pushed new values i (subst HaveRows (sym kept) c.loop-item.invariant.rows) c.in-Ok.ensures.rows);
      rest = λ w told.
          let s = source_read c.args.scope.now.syntax.now in
          let results = c.args.scope.now.results.now in
          let sense = sense_in (senses_made u results) in
          let static = c.args.is_static in
          let t = type_of u.types c.args.whole.0 in
          let here = type_of l.types c.args.whole.0 in
          let items = c.args.items.now in
          let k = c.loop-item.item-index in
          let item = c.item-item.result in
          let p = placed_of item in
          let rest = map placed_of (drop (k + 1) items) in
          let standing = c.loop-item.invariant.builds in
          let off = item_off items k item c.loop-item-test.true ∙ ap (λ (x : InitItem). placed_of x ∷ rest) (sym c.item-item.is) in
          let same = ap (λ (q : Ctype). item_given w s sense static q p) (sym (standing.types c.args.whole.0 c.requires.whole))
          ∙ ap (λ (list : List Sense). item_given w s (sense_in list) static here p) (sym (mades_kept u l standing results c.requires.results)) in
          one_more w s sense static t (placed_cores w s sense static t (map placed_of items)) (map placed_of (drop k items)) rest p l values (c.loop-item.invariant.rest w told) off new i c.push.new.self
          (same ∙ c.in-Ok.ensures.made w (told_on w u l c.args.scope.now standing told)) kept pushed;
    }

pub returns-clause-made : goal.returns-clause-made
returns-clause-made c = λ w told.
    let u = c.args.unit.now in
    let s = source_read c.args.scope.now.syntax.now in
    let sense = sense_in (senses_made u c.args.scope.now.results.now) in
    let static = c.args.is_static in
    let t = type_of u.types c.args.whole.0 in
    let items = c.args.items.now in
    let k = c.loop-item.item-index in
    none_left w s sense static t (placed_cores w s sense static t (map placed_of items)) (map placed_of (drop k items)) c.loop-item.unit c.loop-item.values (c.loop-item.invariant.rest w told) (items_past items k c.loop-item-test.false)
