use Rattle.std.proofs.Common.{◌≡◌, ℕ, List, All, refl, sym, subst, arith}
use Rattle.std.proofs.lemmas.List.{take_all}
use Rattle.std.proofs.lemmas.List.Elements.{All-more}
use Rattle.std.proofs.lemmas.Option.{get_or_from_slice_get, slice_get_within}
use Rattle.sol_model.specs.declared.system.Constraint.{Constraint}
use Rattle.sol_model.specs.Systems.{location_count}
use Rattle.row_share.specs.share_laws.Onward.{LeadsOn}
use Rattle.row_share.proofs.row_classes.onward.copies_lead_on.Goals as goal

pub loop-i-preserved : goal.loop-i-preserved
loop-i-preserved c =
    let S = c.args.system.now in
    let same : c.len-locations.result ≡ location_count S = omega arith in
    All-more (LeadsOn (location_count S)) S.constraints c.loop-i.i c.constraint_at.result (slice_get_within S.constraints c.loop-i.i c.constraint_at.result c.constraint_at.ensures.value) c.loop-i.invariant
    (subst (LeadsOn (location_count S)) (sym (get_or_from_slice_get S.constraints c.loop-i.i c.constraint_at.result c.constraint_at.result c.constraint_at.ensures.value)) (subst (λ (n : ℕ). LeadsOn n c.constraint_at.result) same (c.leads_on.ensures.0 c.if-not-leads_on.false)))

pub returns : goal.returns
returns c = (
  λ _. subst (λ (constraints : List Constraint). All (LeadsOn (location_count c.args.system.now)) constraints) (take_all c.loop-i.i c.args.system.now.constraints (omega arith)) c.loop-i.invariant,
  λ _. refl,
)
