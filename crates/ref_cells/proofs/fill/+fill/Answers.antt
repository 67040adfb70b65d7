use Rattle.std.proofs.Common.{ℕ, ◌+◌, ◌<◌, [], ◌∷◌, ◌++◌, length, drop, map, slice_get, get_or, sym, ap, ◌∙◌, arith, rules, List}
use Rattle.c_types.specs.declared.term.MemberTerm.{MemberTerm}
use Rattle.c_types.specs.declared.term.PathStep.{PathStep}
use Rattle.c_types.specs.declared.term.PathStep.TheVariants.{Member}
use Rattle.c_types.specs.Table.{type_of}
use Rattle.ref_cells.specs.Cells.{seen, joined, under}
use Rattle.ref_cells.specs.Values.{active, filled_by, filled_to}
use Rattle.ref_cells.proofs.Fills.{cut_back, element_step, types_from, member_step_on, active_some, active_none}
use Rattle.ref_cells.proofs.fill.+fill.Goals as goal

pub fill_active-returns-in_ok-list_place-in-Some-clause-cells :
    goal.fill_active-returns-in_ok-list_place-in-Some-clause-cells
fill_active-returns-in_ok-list_place-in-Some-clause-cells t c =
    let table = c.args.filling.now.types.now in
    let types = map (λ (m : MemberTerm). type_of table m.ty.0) c.args.members.now in
    let fill = filled_to table c.args.filling.now.marked c.args.levels in
    let member = fill (type_of table c.in-Some.ty.0) (seen c.in_ok-part-in-Some.deeper c.in_ok-part-in-Some.part.now) in
    let front = c.as_slice.ensures.value ∙ c.in_ok-fill_below-in-Some.ensures.front in
    active_some fill (active (seen c.args.depth c.args.cells.now)) (type_of table c.in-Some.ty.0) (slice_get types (active (seen c.args.depth c.args.cells.now))) (seen c.args.depth c.args.cells.now) (seen c.in_ok-part-in-Some.deeper c.in_ok-part-in-Some.part.now) c.args.out.now.items c.list_place.new.out.items c.args.front.now.items c.as_slice.result.now
    (front ∙ c.in_ok-part-in-Some.ensures.front ∙ ap (λ (k : ℕ). c.args.front.now.items ++ Member k ∷ []) c.active-k.ensures)
    (c.in_ok-part-in-Some.ensures.cells ∙ ap (λ (k : ℕ). under (Member k) (seen c.args.depth c.args.cells.now)) c.active-k.ensures)
    (ap (slice_get types) (sym c.active-k.ensures) ∙ sym c.in-Some.ensures.value)
    (c.in_ok-list_place-in-Some.ensures c.args.out.now.items member (search rules)
    (c.in_ok-fill_below-in-Some.ensures.cells ∙ ap (λ (p : List PathStep). c.args.out.now.items ++ joined p member) (sym front)))

pub fill_active-returns-in-None-clause-cells : goal.fill_active-returns-in-None-clause-cells
fill_active-returns-in-None-clause-cells t c =
    let table = c.args.filling.now.types.now in
    let types = map (λ (m : MemberTerm). type_of table m.ty.0) c.args.members.now in
    active_none (filled_to table c.args.filling.now.marked c.args.levels) (active (seen c.args.depth c.args.cells.now)) (slice_get types (active (seen c.args.depth c.args.cells.now))) (seen c.args.depth c.args.cells.now) c.args.out.now.items c.args.front.now.items
    (ap (slice_get types) (sym c.active-k.ensures) ∙ sym c.in-None.ensures.value)

pub fill_elements-loop-i-preserved : goal.fill_elements-loop-i-preserved
fill_elements-loop-i-preserved t c =
    let table = c.args.filling.now.types.now in
    record {
      front = c.truncate.ensures.items ∙ cut_back _ _ _ _ _ _ c.loop-i.invariant.steps c.loop-i.invariant.front c.in_ok-part.ensures.front c.in_ok-fill.ensures.front;
      steps = c.loop-i.invariant.steps;
      cells = element_step (filled_by table c.args.filling.now.marked (filled_to table c.args.filling.now.marked c.args.levels) (type_of table c.args.of.0)) c.loop-i.i (seen c.args.depth c.args.cells.now) (seen c.in_ok-part.deeper c.in_ok-part.part.now) c.args.out.now.items c.loop-i.out.items c.fill.new.out.items c.args.front.now.items c.loop-i.front.items c.enter.new.front.items c.loop-i.invariant.front c.in_ok-part.ensures.front c.in_ok-part.ensures.cells c.loop-i.invariant.cells c.in_ok-fill.ensures.cells;
    }

pub fill_members-loop-k-preserved : goal.fill_members-loop-k-preserved
fill_members-loop-k-preserved t c =
    let table = c.args.filling.now.types.now in
    let types = map (λ (m : MemberTerm). type_of table m.ty.0) c.args.members.now in
    let lt : c.loop-k.k < length c.args.members.now = omega arith in
    let at = types_from (λ (m : MemberTerm). type_of table m.ty.0) c.args.members.now c.loop-k.k c.index-members-k.result lt in
    record {
      front = c.truncate.ensures.items ∙ cut_back _ _ _ _ _ _ c.loop-k.invariant.steps c.loop-k.invariant.front c.in_ok-part.ensures.front c.in_ok-fill_below.ensures.front;
      steps = c.loop-k.invariant.steps;
      cells = member_step_on (filled_to table c.args.filling.now.marked c.args.levels) c.loop-k.k (type_of table (get_or c.args.members.now c.loop-k.k c.index-members-k.result).ty.0) (drop c.loop-k.k types) (drop (c.loop-k.k + 1) types) (seen c.args.depth c.args.cells.now) (seen c.in_ok-part.deeper c.in_ok-part.part.now) c.loop-k.out.items c.fill_below.new.out.items _ c.args.front.now.items c.loop-k.front.items c.enter.new.front.items
          c.loop-k.invariant.front
          (c.in_ok-part.ensures.front ∙ ap (λ (k : ℕ). c.loop-k.front.items ++ Member k ∷ []) c.in_ok-step.ensures)
          (c.in_ok-part.ensures.cells ∙ ap (λ (k : ℕ). under (Member k) (seen c.args.depth c.args.cells.now)) c.in_ok-step.ensures)
          at
          c.loop-k.invariant.cells
          c.in_ok-fill_below.ensures.cells;
    }
