use Rattle.std.proofs.Common.{arith, ◌≡◌, ◌∙◌, ℕ, List, Option, None, Some, length, get_or, sym, ap, subst}
use Rattle.core_tree.specs.declared.node.Node.{Node}
use Rattle.unit_finish.specs.declared.unit_parts.declared.Declared.{Declared}
use Rattle.unit_finish.specs.planted_nodes.Grown.{IsWhole}
use Rattle.unit_finish.specs.planted_nodes.Placed.{ArePlaced}
use Rattle.unit_finish.specs.planted_nodes.Copied.{copies_to, with_places}
use Rattle.unit_finish.proofs.planted_nodes.Anew.{are_planted, all_within}
use Rattle.unit_finish.proofs.planted_nodes.planting.plant.Goals as goal

pub overflow_cast-total : goal.overflow_cast-total
overflow_cast-total c = omega (arith, c.len-total.ensures, c.in_ok-bodies.ensures.whole.fit)

pub copies-requires-clause-few : goal.copies-requires-clause-few
copies-requires-clause-few c = let same = ap length c.as_slice-4.ensures.value in omega (arith, same, c.in_ok-bodies.ensures.whole.fit)

pub with_places-requires-clause-within : goal.with_places-requires-clause-within
with_places-requires-clause-within c = λ e at h.
    let plan = c.places.new.plan in
    let read : get_or c.in_ok-bodies.bodies.items e None ≡ Some at = sym (ap (λ (l : List (Option ℕ)). get_or l e None) c.as_slice-6.ensures.value) ∙ h in
    let within = all_within c.as_slice.result.now plan.origins.items plan.starts.items c.as_slice-2.result.now c.in_ok-bodies.bodies.items c.in_ok-bodies.ensures.placed e at read in
    omega (arith, c.len-total.ensures, within)

pub returns-clause-planted : goal.returns-clause-planted
returns-clause-planted c =
    let nodes = c.args.nodes.items in
    let list = c.args.list.items in
    let plan = c.places.new.plan in
    let o = plan.origins.items in
    let s = plan.starts.items in
    let bodies = c.in_ok-bodies.bodies.items in
    let whole : IsWhole nodes o s plan.met.items = subst (λ (l : List Node). IsWhole l o s plan.met.items) c.as_slice.ensures.value c.in_ok-bodies.ensures.whole in
    let placed : ArePlaced nodes list (length list) bodies o s = subst (λ (l : List Node). ArePlaced l list (length list) bodies o s) c.as_slice.ensures.value (subst (λ (l : List Declared). ArePlaced c.as_slice.result.now l (length l) bodies o s) c.as_slice-2.ensures.value c.in_ok-bodies.ensures.placed) in
    let total : c.len-total.result ≡ length o = omega (arith, c.len-total.ensures) in
    let copied : c.in_ok-new.new.items ≡ copies_to nodes o s (length o) =
    c.in_ok-new.ensures
    ∙ (ap (λ (l : List Node). copies_to l c.as_slice-4.result.now c.as_slice-5.result.now (length c.as_slice-4.result.now)) c.as_slice-3.ensures.value
    ∙ (ap (λ (l : List ℕ). copies_to nodes l c.as_slice-5.result.now (length l)) c.as_slice-4.ensures.value ∙ ap (λ (l : List ℕ). copies_to nodes o l (length o)) c.as_slice-5.ensures.value)) in
    let moved : c.in_ok-list.list.items ≡ with_places (length o) list bodies =
    c.in_ok-list.ensures ∙ (ap (λ (n : ℕ). with_places n list c.as_slice-6.result.now) total ∙ ap (with_places (length o) list) c.as_slice-6.ensures.value) in
    are_planted nodes o s plan.met.items list bodies whole placed (record { nodes = c.in_ok-new.new; list = c.in_ok-list.list }) copied moved
