use Rattle.std.proofs.Common.{arith, ◌≡◌, ◌∙◌, ℕ, ◌+◌, ◌<◌, List, [], ◌∷◌, length, length-append, get_or, refl, sym, ap, subst}
use Rattle.std.proofs.lemmas.List.{get_or_at}
use Rattle.unit_finish.specs.planted_nodes.Grown.{IsGrown, AreMet, GrowsFrom}
use Rattle.unit_finish.proofs.planted_nodes.Positions.{none_grows, grown_more, met_more, grows_more, visit_grown, visit_met, visit_grows, visit_longer, visit_kept, visit_covered}
use Rattle.unit_finish.proofs.planted_nodes.growing.grow.Goals as goal

pub loop-plan-init : goal.loop-plan-init
loop-plan-init c =
    let nodes = c.args.nodes.now in
    let o = c.args.plan.now.origins.items in
    let s = c.args.plan.now.starts.items in
    let met = c.args.plan.now.met.items in
    let root = c.args.root in
    let w = c.requires in
    let e = c.in_ok-push.ensures.items in
    let long : length c.push.new.self.items ≡ length o + 1 = ap length e ∙ length-append o (root ∷ []) in
    record {
      grown = subst (λ (l : List ℕ). IsGrown nodes l s) (sym e) (grown_more nodes o s (root ∷ []) w.grown);
      are_met = subst (λ (l : List ℕ). AreMet nodes l s met) (sym e) (met_more nodes o s (root ∷ []) w.grown met w.are_met);
      grows = subst (λ (l : List ℕ). GrowsFrom o s l s) (sym e) (grows_more nodes o s (root ∷ []) w.grown o s (none_grows o s));
      few = omega (arith, long, c.len-at.ensures, c.if-at.false);
      root = ap (λ (l : List ℕ). get_or l (length o) 0) e ∙ get_or_at o root [] 0 (length o) refl;
      within = omega (arith, long);
      covered = λ q lt few. absurd (omega (arith, lt, few, long));
    }

pub loop-plan-preserved : goal.loop-plan-preserved
loop-plan-preserved c =
    let nodes = c.args.nodes.now in
    let first = c.args.plan.now.origins.items in
    let begun = c.args.plan.now.starts.items in
    let o = c.loop-plan.plan.origins.items in
    let s = c.loop-plan.plan.starts.items in
    let met = c.loop-plan.plan.met.items in
    let new_o = c.visit.new.plan.origins.items in
    let new_s = c.visit.new.plan.starts.items in
    let new_met = c.visit.new.plan.met.items in
    let i = c.loop-plan.invariant in
    let next : length s < length o = omega (arith, c.loop-plan-test.true, c.len.ensures, c.len-in-loop-plan.ensures) in
    let v = c.in_ok-visit.ensures in
    let long = visit_longer nodes o s new_o new_s met new_met i.grown i.are_met next v.origins v.starts v.met in
    record {
      grown = visit_grown nodes o s new_o new_s met new_met i.grown i.are_met next v.origins v.starts v.met;
      are_met = visit_met nodes o s new_o new_s met new_met i.grown i.are_met next v.origins v.starts v.met;
      grows = visit_grows nodes o s new_o new_s met new_met i.grown i.are_met next v.origins v.starts v.met first begun i.grows;
      few = v.few;
      root = visit_kept nodes o s new_o new_s met new_met i.grown i.are_met next v.origins v.starts v.met (length first) i.within ∙ i.root;
      within = omega (arith, i.within, long);
      covered = λ q lt few. visit_covered nodes o s new_o new_s met new_met i.grown i.are_met next v.origins v.starts v.met q few (λ less. i.covered q lt less);
    }
