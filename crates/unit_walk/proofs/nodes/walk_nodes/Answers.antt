use Rattle.std.proofs.Common.{arith, ◌≡◌, ◌∙◌, ◌+◌, ℕ, List, [], ◌∷◌, ◌++◌, All, Err, length, length-append, refl, sym, ap, subst}
use Rattle.c_results.specs.declared.made.Made.{Made}
use Rattle.c_senses.specs.Given.{Fits}
use Rattle.c_senses.specs.Sense.{Sense, sense_in}
use Rattle.c_senses.specs.Rows.{world_at, AreSenses}
use Rattle.c_initials.specs.Filling.{Fills}
use Rattle.c_results.specs.Standing.{sense_made, senses_made, IsWithin, Rowed}
use Rattle.statement_rows.specs.Told.{IsTold}
use Rattle.unit_walk.proofs.filling_laws.Worlds.{fills_first}
use Rattle.struct_rows.proofs.Growing.{tag_types_grow}
use Rattle.unit_worlds.specs.Growing.{Grows, completed_at}
use Rattle.c_declarators.specs.Limited.{AreLimited}
use Rattle.unit_walk.specs.unit_rows.Along.{AreAlong}
use Rattle.unit_walk.specs.unit_rows.Standing.{Stand, AreMade, source_known, nodes_known}
use Rattle.unit_walk.proofs.Keeping.{entities_grown, once_grown}
use Rattle.unit_walk.proofs.Walking.{stand_empty, made_empty, Whole, length_made, made_there, stand_more, along_more, senses_with, fills_more}
use Rattle.unit_walk.proofs.Stopping.{refused_before}
use Rattle.unit_walk.proofs.nodes.walk_nodes.Goals as goal

pub loop-at-init : goal.loop-at-init
loop-at-init c =
    let u = c.args.unit.now in
    let k = c.args.known.now in
    let s = source_known k in
    let none = c.in_ok-results.ensures in
    record {
      stand = subst (Stand (nodes_known k) u) (sym none) (stand_empty (nodes_known k) u c.requires.ready);
      long = ap length none;
      entities = refl;
      made = subst (AreMade s u) (sym none) (made_empty s u c.requires.open (c.requires.count ∙ c.requires.known.tags.count));
      fills = subst (λ (l : List Made). Fills (world_at s (senses_made u l) 0) u) (sym none) (fills_first s u 0 c.requires.open);
      types = c.requires.types;
      once = c.requires.once;
      told =
          subst (λ (l : List Made). IsTold (world_at s (senses_made u l) 0) s (sense_in (senses_made u l)) 0 c.no_choices-choices.result) (sym none)
          (c.no_choices-choices.ensures (world_at s (senses_made u []) 0) s (sense_in (senses_made u [])) c.requires.known.spelled);
      along = subst (λ (l : List Made). AreAlong k.numbered.now.syntax k.names.now u l c.in-Ok.along) (sym none) (c.in-Ok.ensures.along k.numbered.now.syntax);
      table = c.type_count-count.ensures.made;
    }

pub loop-at-preserved : goal.loop-at-preserved
loop-at-preserved c =
    let u = c.loop-at.unit in
    let v = c.row.new.unit in
    let k = c.args.known.now in
    let s = source_known k in
    let at = c.loop-at.at in
    let rs = c.loop-at.results in
    let more = c.push.new.self in
    let m = c.in-Ok-row.made in
    let senses = senses_made u rs in
    let inv = c.loop-at.invariant in
    let ok = c.in-Ok-row.ensures in
    let items = c.in_ok-push-in-Ok-row.ensures.items in
    let grows = ok.grows in
    let es = completed_at s (sense_in senses) at in
    let table = c.type_count-types.ensures.made in
    let pushed = senses_with s u v rs more m at items inv.stand.within grows in
    record {
      stand = stand_more (nodes_known k) u v es grows ok.ready rs more m items inv.stand ok.within ok.keeps;
      long = ap length items ∙ (length-append rs (m ∷ []) ∙ ap (λ (n : ℕ). n + 1) inv.long);
      entities = entities_grown u v es grows ∙ inv.entities;
      made = made_there s u v rs more m at inv.made c.requires.known.ordered items inv.long inv.stand.within (omega (arith, c.loop-at-test.true, c.requires.end)) ok.row grows;
      fills = fills_more s u v rs more m at c.requires.known.ordered items inv.long inv.stand.within inv.table table grows inv.fills;
      types = tag_types_grow s u v es grows inv.types;
      once = once_grown u v es grows inv.once;
      told =
          subst (λ (t : List Sense). IsTold (world_at s t (at + 1)) s (sense_in t) (at + 1) c.note.new.choices) (sym pushed)
          (c.in_ok-note.ensures.told (world_at s senses at) (world_at s (senses ++ sense_made v m ∷ []) (at + 1)) k.bound.now.uses.items senses (sense_made v m)
          pushed (length_made u rs ∙ inv.long) inv.told);
      along = along_more k.numbered.now.syntax k.names.now v rs more m c.row.new.along items ok.along;
      table = table;
    }

pub note-requires-clause-results : goal.note-requires-clause-results
note-requires-clause-results c =
    let u = c.loop-at.unit in
    let v = c.row.new.unit in
    let k = c.args.known.now in
    let s = source_known k in
    let at = c.loop-at.at in
    let rs = c.loop-at.results in
    let more = c.push.new.self in
    let m = c.in-Ok-row.made in
    let inv = c.loop-at.invariant in
    let ok = c.in-Ok-row.ensures in
    let items = c.in_ok-push-in-Ok-row.ensures.items in
    let grows = ok.grows in
    let stand = stand_more (nodes_known k) u v (completed_at s (sense_in (senses_made u rs)) at) grows ok.ready rs more m items inv.stand ok.within ok.keeps in
    stand.within

pub returns-in-Err-clause-walked : goal.returns-in-Err-clause-walked
returns-in-Err-clause-walked c =
    let u = c.loop-at.unit in
    let v = c.row.new.unit in
    let s = source_known c.args.known.now in
    let at = c.loop-at.at in
    let rs = c.loop-at.results in
    let inv = c.loop-at.invariant in
    refused_before s u rs inv.made at inv.long (omega (arith, c.loop-at-test.true, c.requires.end)) c.args.end (omega (arith, c.loop-at-test.true)) v c.in-Err.fault c.in-Err.ensures.row

pub returns-clause-walked : goal.returns-clause-walked
returns-clause-walked c =
    let inv = c.loop-at.invariant in
    let ends : c.loop-at.at ≡ c.args.end = omega (arith, c.loop-at.auto.at-end, c.loop-at-test.false) in
    record { made = inv.made; long = inv.long ∙ ends }

pub row-requires-clause-senses : goal.row-requires-clause-senses
row-requires-clause-senses c =
    c.loop-at.invariant.made.senses

pub row-requires-clause-readable : goal.row-requires-clause-readable
row-requires-clause-readable c = c.requires.readable c.loop-at.at

pub row-requires-clause-limits : goal.row-requires-clause-limits
row-requires-clause-limits c =
    let u = c.loop-at.unit in
    let s = source_known c.args.known.now in
    let rs = c.loop-at.results in
    let inv = c.loop-at.invariant in
    let long : length (senses_made u rs) ≡ c.loop-at.at = length_made u rs ∙ inv.long in
    let here : AreLimited (world_at s (senses_made u rs) c.loop-at.at) (senses_made u rs) =
    subst (λ (i : ℕ). AreLimited (world_at s (senses_made u rs) i) (senses_made u rs)) long (c.requires.limits c.requires.known.tags.differ (senses_made u rs) inv.made.senses) in
    here

pub row-requires-clause-long : goal.row-requires-clause-long
row-requires-clause-long c = c.loop-at.invariant.long

pub returns-clause-types : goal.returns-clause-types
returns-clause-types c = c.loop-at.invariant.types
