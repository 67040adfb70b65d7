use Rattle.std.proofs.Common.{◌≡◌, ℕ, List, Some, Contains, sym, ◌∙◌, ap, subst}
use Rattle.edge_book.proofs.Gaining.{gains_same}
use Rattle.pta_base.specs.declared.effect.Effect.{Effect}
use Rattle.sol_model.specs.Families.{members}
use Rattle.sol_model.specs.Rules.{first_row, EffectEdge}
use Rattle.new_members.specs.News.{PairsOf, BackEdge}
use Rattle.new_members.proofs.effects.enter_effect.Goals as goal

pub returns-in_ok-put_between-in-GivesArgument : goal.returns-in_ok-put_between-in-GivesArgument
returns-in_ok-put_between-in-GivesArgument c =
    let call = c.args.call.now in
    let E : Effect → ℕ → ℕ → Type 0 = EffectEdge c.args.system.now (members c.args.rows.now) call c.args.number in
    let to_is : c.first_row-to.result ≡ first_row call.result = c.first_row-to.ensures.value ∙ ap first_row c.as_slice.ensures in
    gains_same c.args.pairs.now.items c.put_between.new.pairs.items (λ a b. (c.argument_row-from.result ≡ Some a) × (c.first_row-to.result ≡ Some b)) (E c.args.effect)
    (λ a b h. subst (λ (e : Effect). E e a b) (sym c.in-GivesArgument.is) (sym c.argument_row-from.ensures.value ∙ h.0, sym to_is ∙ h.1))
    (λ a b h. let k = subst (λ (e : Effect). E e a b) c.in-GivesArgument.is h in (c.argument_row-from.ensures.value ∙ k.0, to_is ∙ k.1))
    c.in_ok-put_between-in-GivesArgument.ensures

pub returns-in_ok-put_copies-in-Copies : goal.returns-in_ok-put_copies-in-Copies
returns-in_ok-put_copies-in-Copies c =
    let call = c.args.call.now in
    let S = c.args.system.now in
    let E : Effect → ℕ → ℕ → Type 0 = EffectEdge S (members c.args.rows.now) call c.args.number in
    let tos = c.as_slice-in-Copies.result.now in
    let froms = c.as_slice-in-Copies-2.result.now in
    gains_same c.args.pairs.now.items c.put_copies.new.pairs.items (PairsOf S tos froms) (E c.args.effect)
    (λ a b h. subst (λ (e : Effect). E e a b) (sym c.in-Copies.is) (
      h.0,
      h.2.0,
      (c.in_ok-tos-in-Copies.ensures.has h.0).0 (subst (λ (xs : List ℕ). Contains xs h.0) c.as_slice-in-Copies.ensures.value h.1),
      (c.in_ok-froms-in-Copies.ensures.has h.2.0).0 (subst (λ (xs : List ℕ). Contains xs h.2.0) c.as_slice-in-Copies-2.ensures.value h.2.1),
      h.2.2,
    ))
    (λ a b h. let k = subst (λ (e : Effect). E e a b) c.in-Copies.is h in (
      k.0,
      subst (λ (xs : List ℕ). Contains xs k.0) (sym c.as_slice-in-Copies.ensures.value) ((c.in_ok-tos-in-Copies.ensures.has k.0).1 k.2),
      (k.1, subst (λ (xs : List ℕ). Contains xs k.1) (sym c.as_slice-in-Copies-2.ensures.value) ((c.in_ok-froms-in-Copies.ensures.has k.1).1 k.3), k.4),
    ))
    c.in_ok-put_copies-in-Copies.ensures

pub returns-in_ok-put_stores-in-StoresInto : goal.returns-in_ok-put_stores-in-StoresInto
returns-in_ok-put_stores-in-StoresInto c =
    let call = c.args.call.now in
    let E : Effect → ℕ → ℕ → Type 0 = EffectEdge c.args.system.now (members c.args.rows.now) call c.args.number in
    let tos = c.as_slice-in-StoresInto.result.now in
    gains_same c.args.pairs.now.items c.put_stores.new.pairs.items (λ a b. Contains tos b × (c.argument_row-from-in-StoresInto.result ≡ Some a)) (E c.args.effect)
    (λ a b h. subst (λ (e : Effect). E e a b) (sym c.in-StoresInto.is)
    (let r = (c.in_ok-tos-in-StoresInto.ensures.has b).0 (subst (λ (xs : List ℕ). Contains xs b) c.as_slice-in-StoresInto.ensures.value h.0) in
    (r.0, sym c.argument_row.ensures.value ∙ r.1, r.2, sym c.argument_row-from-in-StoresInto.ensures.value ∙ h.1)))
    (λ a b h. let k = subst (λ (e : Effect). E e a b) c.in-StoresInto.is h in (
      subst (λ (xs : List ℕ). Contains xs b) (sym c.as_slice-in-StoresInto.ensures.value) ((c.in_ok-tos-in-StoresInto.ensures.has b).1 (k.0, c.argument_row.ensures.value ∙ k.1, k.2)),
      c.argument_row-from-in-StoresInto.ensures.value ∙ k.3,
    ))
    c.in_ok-put_stores-in-StoresInto.ensures

pub returns-in_ok-put_backs-in-CallsBack : goal.returns-in_ok-put_backs-in-CallsBack
returns-in_ok-put_backs-in-CallsBack c =
    let call = c.args.call.now in
    let S = c.args.system.now in
    let E : Effect → ℕ → ℕ → Type 0 = EffectEdge S (members c.args.rows.now) call c.args.number in
    let backs = c.as_slice-in-CallsBack.result.now in
    let passed = c.in-CallsBack.passed in
    gains_same c.args.pairs.now.items c.put_backs.new.pairs.items (λ a b. (location : ℕ) × Contains backs location × BackEdge S call passed location a b) (E c.args.effect)
    (λ a b h. subst (λ (e : Effect). E e a b) (sym c.in-CallsBack.is)
    (let r = (c.in_ok-backs-in-CallsBack.ensures.has h.0).0 (subst (λ (xs : List ℕ). Contains xs h.0) c.as_slice-in-CallsBack.ensures.value h.1) in
    let back = h.2 in
    (back.0, back.1, record { known = back.2; reached = (r.0, sym c.argument_row-in-CallsBack.ensures.value ∙ r.1, subst (λ (l : ℕ). Rattle.sol_model.specs.Families.Has (members c.args.rows.now) r.0 l) (sym back.3) r.2); agrees = back.4 }, back.5)))
    (λ a b h. let k = subst (λ (e : Effect). E e a b) c.in-CallsBack.is h in
    let is = k.2 in (
      (k.1).location,
      subst (λ (xs : List ℕ). Contains xs (k.1).location) (sym c.as_slice-in-CallsBack.ensures.value)
          ((c.in_ok-backs-in-CallsBack.ensures.has (k.1).location).1 (is.reached.0, c.argument_row-in-CallsBack.ensures.value ∙ is.reached.1, is.reached.2)),
      (k.0, k.1, is.known, Rattle.std.proofs.Common.refl, is.agrees, k.3),
    ))
    c.in_ok-put_backs-in-CallsBack.ensures
