-- One object more is made.
use Rattle.std.proofs.Common.{arith, ◌≡◌, ℕ, ◌+◌, ◌++◌, List, length, length-append, map, take, refl, ap, sym, ◌∙◌}
use Rattle.std.proofs.lemmas.List.{append-nil, take_all}
use Rattle.std.specs.List.{range_with_len}
use Rattle.core_tree.specs.Seen.{core_of}
use Rattle.ref_blocks.specs.Blocks.{unset_object}
use Rattle.ref_blocks.proofs.Ended.{entered_by, entered_known}
use Rattle.ref_blocks.proofs.Entered.{own_more, fresh_more, fresh_count}
use Rattle.ref_blocks.proofs.blocks.enter.Goals as goal

pub loop-e-init : goal.loop-e-init
loop-e-init c = record {
  own = sym (append-nil c.args.doors.now.own);
  fresh = sym (append-nil c.args.doors.now.fresh);
  ended = refl;
}

pub loop-e-preserved : goal.loop-e-preserved
loop-e-preserved c =
    let u = core_of c.args.trees.now in
    let old = c.args.doors.now in
    let i = c.loop-e.e-index in
    let objects = c.objects_of-objects.result.now in
    let count : length c.loop-e.doors.fresh ≡ length old.fresh + i = ap length c.loop-e.invariant.fresh ∙ length-append old.fresh (map (unset_object u) (take i objects)) ∙ ap (λ (k : ℕ). length old.fresh + k) (fresh_count (unset_object u) objects i (omega arith)) in
    record {
      own = own_more (length c.args.memory.now + length old.fresh) i (length c.args.memory.now + length c.loop-e.doors.fresh) old.own c.loop-e.doors.own _ c.loop-e.invariant.own c.in_ok-make_object.ensures.own (omega arith);
      fresh = fresh_more (unset_object u) objects i 0 old.fresh c.loop-e.doors.fresh _ c.loop-e-test.true c.loop-e.invariant.fresh c.in_ok-make_object.ensures.fresh;
      ended = c.in_ok-make_object.ensures.ended ∙ c.loop-e.invariant.ended;
    }

pub returns : goal.returns
returns c =
    let u = core_of c.args.trees.now in
    let old = c.args.doors.now in
    let i = c.loop-e.e-index in
    let objects = c.objects_of-objects.result.now in
    let q = c.objects_of-objects.ensures in
    let e : i ≡ length objects = omega arith in
    let own = c.loop-e.invariant.own ∙ ap (λ (k : ℕ). old.own ++ range_with_len (length c.args.memory.now + length old.fresh) k) (e ∙ ap length q) in
    let fresh = c.loop-e.invariant.fresh ∙ ap (λ (w : List ℕ). old.fresh ++ map (unset_object u) w) (take_all i objects c.loop-e-test.false ∙ q) in
    record {
      ended = entered_known u c.args.block c.args.memory.now old c.loop-e.doors c.requires.ended fresh c.loop-e.invariant.ended;
      blocks = entered_by u c.args.block c.args.memory.now old c.loop-e.doors c.requires.ended own fresh c.loop-e.invariant.ended;
    }
