use Rattle.std.proofs.Common.{◌≡◌, ◌⊎◌, ℕ, List, Some, Contains, sym, ◌∙◌, subst, inl, inr}
use Rattle.edge_book.proofs.Gaining.{gains_same, gains_both}
use Rattle.pta_base.specs.declared.effect.Effect.{Effect}
use Rattle.sol_model.specs.Families.{members}
use Rattle.new_members.specs.News.{PairsOf, BackEdge, NewEdge}
use Rattle.new_members.proofs.effects.renew_effect.Goals as goal

pub returns-in_ok-put_copies-in-Copies-2 : goal.returns-in_ok-put_copies-in-Copies-2
returns-in_ok-put_copies-in-Copies-2 c =
    let call = c.args.call.now in
    let S = c.args.system.now in
    let E : Effect → ℕ → ℕ → Type 0 = NewEdge S (members c.args.rows.now) call c.args.number c.args.news.now.row c.args.news.now.new.now in
    let old = c.args.pairs.now.items in
    let mid = c.put_copies.new.pairs.items in
    let new = c.put_copies-in-Copies.new.pairs.items in
    let new_tos = c.news_of-new_tos.result.now in
    let froms = c.as_slice.result.now in
    let tos = c.as_slice-in-Copies.result.now in
    let new_froms = c.news_of-new_froms.result.now in
    gains_same old new (λ a b. PairsOf S new_tos froms a b ⊎ PairsOf S tos new_froms a b) (E c.args.effect)
    (λ a b h. subst (λ (e : Effect). E e a b) (sym c.in-Copies.is) (elim h [
      | inl p ↦ inl (let n = (c.news_of-new_tos.ensures.has p.0).0 p.1 in (
        p.0,
        (sym c.argument_row.ensures.value ∙ n.0, n.1),
        (p.2.0, (c.in_ok-froms-in-Copies.ensures.has p.2.0).0 (subst (λ (xs : List ℕ). Contains xs p.2.0) c.as_slice.ensures.value p.2.1), p.2.2),
      ))
      | inr p ↦ inr (let n = (c.news_of-new_froms.ensures.has p.2.0).0 p.2.1 in (
        p.0,
        (c.in_ok-tos-in-Copies.ensures.has p.0).0 (subst (λ (xs : List ℕ). Contains xs p.0) c.as_slice-in-Copies.ensures.value p.1),
        (p.2.0, (sym c.argument_row-in-Copies.ensures.value ∙ n.0, n.1), p.2.2),
      ))
    ]))
    (λ a b h. elim (subst (λ (e : Effect). E e a b) c.in-Copies.is h) [
      | inl k ↦ inl (
        k.0,
        (c.news_of-new_tos.ensures.has k.0).1 (c.argument_row.ensures.value ∙ k.1.0, k.1.1),
        (k.2.0, subst (λ (xs : List ℕ). Contains xs k.2.0) (sym c.as_slice.ensures.value) ((c.in_ok-froms-in-Copies.ensures.has k.2.0).1 k.2.1), k.2.2),
      )
      | inr k ↦ inr (
        k.0,
        subst (λ (xs : List ℕ). Contains xs k.0) (sym c.as_slice-in-Copies.ensures.value) ((c.in_ok-tos-in-Copies.ensures.has k.0).1 k.1),
        (k.2.0, (c.news_of-new_froms.ensures.has k.2.0).1 (c.argument_row-in-Copies.ensures.value ∙ k.2.1.0, k.2.1.1), k.2.2),
      )
    ])
    (gains_both old mid new (PairsOf S new_tos froms) (PairsOf S tos new_froms) c.in_ok-put_copies-in-Copies.ensures c.in_ok-put_copies-in-Copies-2.ensures)

pub returns-in_ok-put_stores-in-StoresInto : goal.returns-in_ok-put_stores-in-StoresInto
returns-in_ok-put_stores-in-StoresInto c =
    let call = c.args.call.now in
    let E : Effect → ℕ → ℕ → Type 0 = NewEdge c.args.system.now (members c.args.rows.now) call c.args.number c.args.news.now.row c.args.news.now.new.now in
    let tos = c.news_of.result.now in
    gains_same c.args.pairs.now.items c.put_stores.new.pairs.items (λ a b. Contains tos b × (c.argument_row-from.result ≡ Some a)) (E c.args.effect)
    (λ a b h. subst (λ (e : Effect). E e a b) (sym c.in-StoresInto.is)
    (let r = (c.news_of.ensures.has b).0 h.0 in ((sym c.argument_row-in-StoresInto.ensures.value ∙ r.0, r.1), sym c.argument_row-from.ensures.value ∙ h.1)))
    (λ a b h. let k = subst (λ (e : Effect). E e a b) c.in-StoresInto.is h in
    ((c.news_of.ensures.has b).1 (c.argument_row-in-StoresInto.ensures.value ∙ k.0.0, k.0.1), c.argument_row-from.ensures.value ∙ k.1))
    c.in_ok-put_stores-in-StoresInto.ensures

pub returns-in_ok-put_backs-in-CallsBack : goal.returns-in_ok-put_backs-in-CallsBack
returns-in_ok-put_backs-in-CallsBack c =
    let call = c.args.call.now in
    let S = c.args.system.now in
    let E : Effect → ℕ → ℕ → Type 0 = NewEdge S (members c.args.rows.now) call c.args.number c.args.news.now.row c.args.news.now.new.now in
    let backs = c.news_of-backs.result.now in
    gains_same c.args.pairs.now.items c.put_backs.new.pairs.items (λ a b. (location : ℕ) × Contains backs location × BackEdge S call c.in-CallsBack.passed location a b) (E c.args.effect)
    (λ a b h. subst (λ (e : Effect). E e a b) (sym c.in-CallsBack.is)
    (let r = (c.news_of-backs.ensures.has h.0).0 h.1 in (h.0, (sym c.argument_row-in-CallsBack.ensures.value ∙ r.0, r.1), h.2)))
    (λ a b h. let k = subst (λ (e : Effect). E e a b) c.in-CallsBack.is h in
    (k.0, (c.news_of-backs.ensures.has k.0).1 (c.argument_row-in-CallsBack.ensures.value ∙ k.1.0, k.1.1), k.2))
    c.in_ok-put_backs-in-CallsBack.ensures
