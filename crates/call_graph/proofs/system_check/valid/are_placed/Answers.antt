use Rattle.std.proofs.Common.{◌≡◌, ◌<◌, Some, slice_get, refl, sym, ◌∙◌, subst, inl, inr, arith}
use Rattle.std.proofs.lemmas.Bool.{cases_lt}
use Rattle.std.proofs.lemmas.Option.{same_Some, slice_get_within}
use Rattle.sol_model.specs.declared.system.LocationFact.{LocationFact}
use Rattle.call_graph.specs.system_check.Owners.{IsPlaced}
use Rattle.call_graph.proofs.system_check.valid.are_placed.Goals as goal

pub loop-location-preserved : goal.loop-location-preserved
loop-location-preserved c k fact h at = elim (cases_lt k c.loop-location.location) [
  | inl lt ↦ c.loop-location.invariant k fact lt at
  | inr ge ↦
      (let here : c.loop-location.location ≡ k = omega arith in
      let there : slice_get c.args.system.now.locations c.loop-location.location ≡ Some fact = subst (λ i. slice_get c.args.system.now.locations i ≡ Some fact) (sym here) at in
      let same : c.fact_at-fact.result ≡ fact = same_Some _ _ (sym c.fact_at-fact.ensures ∙ there) in
      subst (λ i. IsPlaced c.args.system.now i fact) here
      (subst (λ (f : LocationFact). IsPlaced c.args.system.now c.loop-location.location f) same (c.is_placed.ensures.0 c.if-not-is_placed.false)))
]

pub returns : goal.returns
returns c = (
  (λ _ location fact at.
      let within = slice_get_within c.args.system.now.locations location fact at in
      let below : location < c.loop-location.location = omega arith in
      c.loop-location.invariant location fact below at),
  (λ _. refl),
)
