use Rattle.std.proofs.Common.{◌≡◌, ℕ, List, Some, slice_get, sym, ◌∙◌, ap, subst}
use Rattle.std.proofs.lemmas.Option.{same_Some}
use Rattle.c_types.specs.declared.key.ObjectKey.{ObjectKey}
use Rattle.core_tree.specs.declared.node.Entity.{Entity}
use Rattle.row_numbers.specs.Objects.{entity_key}
use Rattle.mod_ref.specs.Direct.{IsFilled, IsOfEntity, filled_by}
use Rattle.mod_ref.specs.Gains.{In}
use Rattle.mod_ref.specs.Ground.{setting_in}
use Rattle.mod_ref.specs.Places.{IsUnder}
use Rattle.mod_ref.proofs.Gaining.{gains_as}
use Rattle.mod_ref.proofs.bodies.add_filled.Goals as goal

pub returns-clause-gains : goal.returns-clause-gains
returns-clause-gains c =
    let g = c.args.ground.now in
    let e : ℕ = c.in-Some.e in
    let filled : filled_by c.args.access c.args.node.now.kind ≡ Some e = sym c.filled_by.ensures ∙ c.in-Some.is in
    let first : (setting_in g).space.first (entity_key e (slice_get (setting_in g).trees.entities e)) ≡ Some c.in-Some-first.first =
    ap (λ (es : List Entity). (setting_in g).space.first (entity_key e (slice_get es e))) (sym c.as_slice.ensures.value)
    ∙ (ap (λ (key : ObjectKey). (setting_in g).space.first key) (sym c.entity_key.ensures) ∙ (sym c.first.ensures.value ∙ c.in-Some-first.is)) in
    gains_as c.args.touched.now c.insert_under.new.touched (In c.args.row (IsUnder g.system.now c.in-Some-first.first))
    (In c.args.row (IsFilled (setting_in g) g.system.now c.args.access c.args.node.now.kind))
    c.insert_under.ensures.gains
    (λ r location h. (h.0, (e, filled, (c.in-Some-first.first, first, h.1))))
    (λ r location h.
    let of = h.1 in
    let same : of.0 ≡ e = same_Some _ _ (sym of.1 ∙ filled) in
    let own = subst (λ x. IsOfEntity (setting_in g) g.system.now x location) same of.2 in
    let place : own.0 ≡ c.in-Some-first.first = same_Some _ _ (sym own.1 ∙ first) in
    (h.0, subst (λ l. IsUnder g.system.now l location) place own.2))
