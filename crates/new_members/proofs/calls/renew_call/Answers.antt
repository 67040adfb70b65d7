use Rattle.std.proofs.Common.{◌⊎◌, ℕ, List, Some, Contains, OnOk, sym, ap, ◌∙◌, subst, inl, inr, arith}
use Rattle.std.proofs.lemmas.Option.{same_Some}
use Rattle.edge_book.specs.Edges.{Gains}
use Rattle.edge_book.proofs.Gaining.{gains_both, gains_same}
use Rattle.sol_model.specs.declared.system.CallSite.{CallSite}
use Rattle.sol_model.specs.Families.{members}
use Rattle.new_members.specs.News.{Takes, EnteredEdge, LibraryEdge, LibraryFact, NewLibraryEdge, NewCallEdge, NewCallFact}
use Rattle.new_members.proofs.Answering.{on_ok, any_ok}
use Rattle.new_members.proofs.Through.{takes_same, takes_both}
use Rattle.new_members.proofs.calls.renew_call.Goals as goal

pub returns-clause-book : goal.returns-clause-book
returns-clause-book c site at =
    let S = c.args.system.now in
    let G = members c.args.rows.now in
    let call : CallSite = c.call_at-call.result.now in
    let E : CallSite → ℕ → ℕ → Type 0 = λ s. NewCallEdge S G s c.args.number c.args.news.now.row c.args.news.now.new.now in
    let old = c.args.book.now in
    let half = c.enter_plain.new.book in
    let new = c.add_all.new.book in
    let none = c.new-pairs.result.items in
    let mid = c.enter_libraries.new.pairs.items in
    let both = c.renew_libraries.new.pairs.items in
    let entered = c.news_of-entered.result.now in
    let reached = c.as_slice.result.now in
    let pairs = c.as_slice-2.result.now in
    let A : ℕ → ℕ → Type 0 = λ a b. (location : ℕ) × Contains entered location × EnteredEdge S call c.args.number location a b in
    let B : ℕ → ℕ → Type 0 = λ a b. Contains pairs (a, b) in
    let X : ℕ → ℕ → Type 0 = λ a b. (location : ℕ) × Contains entered location × LibraryEdge S G call location a b in
    let Y : ℕ → ℕ → Type 0 = λ a b. (location : ℕ) × Contains reached location × NewLibraryEdge S G call c.args.news.now.row c.args.news.now.new.now location a b in
    let gathered = gains_both none mid both X Y c.in_ok-enter_libraries.ensures.pairs c.in_ok-renew_libraries.ensures in
    subst (λ (s : CallSite). OnOk c.add_all.result (Takes old new (E s))) (same_Some call site (sym c.call_at-call.ensures.value ∙ at))
    (on_ok c.add_all.result (Takes half new B) (Takes old new (E call))
    (λ t. takes_same old new (λ a b. A a b ⊎ B a b) (E call)
    (λ a b h. elim h [
      | inl p ↦ inl (p.0, (let n = (c.news_of-entered.ensures.has p.0).0 p.1 in (same_Some call.callee c.args.news.now.row n.0, n.1)), p.2)
      | inr q ↦ inr (elim ((gathered a b).0 (subst (λ (xs : List (ℕ × ℕ)). Contains xs (a, b)) c.as_slice-2.ensures.value q)) [
        | inl fails ↦ absurd (let n = subst (λ (xs : List (ℕ × ℕ)). Contains xs (a, b)) c.new-pairs.ensures.items fails in let l = n.1 in omega arith)
        | inr some ↦ elim some [
          | inl p ↦ inl (p.0, (let n = (c.news_of-entered.ensures.has p.0).0 p.1 in (same_Some call.callee c.args.news.now.row n.0, n.1)), p.2)
          | inr p ↦ inr (p.0, (c.in_ok-reached.ensures.has p.0).0 (subst (λ (xs : List ℕ). Contains xs p.0) c.as_slice.ensures.value p.1), p.2)
        ]
      ])
    ])
    (λ a b h. elim h [
      | inl k ↦ inl (k.0, (c.news_of-entered.ensures.has k.0).1 (ap Some k.1.0, k.1.1), k.2)
      | inr m ↦ inr (subst (λ (xs : List (ℕ × ℕ)). Contains xs (a, b)) (sym c.as_slice-2.ensures.value) ((gathered a b).1 (inr (elim m [
        | inl k ↦ inl (k.0, (c.news_of-entered.ensures.has k.0).1 (ap Some k.1.0, k.1.1), k.2)
        | inr k ↦ inr (k.0, subst (λ (xs : List ℕ). Contains xs k.0) (sym c.as_slice.ensures.value) ((c.in_ok-reached.ensures.has k.0).1 k.1), k.2)
      ]))))
    ])
    (takes_both old half new A B (c.in_ok-enter_plain.ensures call c.call_at-call.ensures.value) t))
    c.add_all.ensures)

pub returns-clause-facts : goal.returns-clause-facts
returns-clause-facts c site at =
    let S = c.args.system.now in
    let call : CallSite = c.call_at-call.result.now in
    let old = c.args.facts.now.items in
    let new = c.enter_libraries.new.facts.items in
    let entered = c.news_of-entered.result.now in
    any_ok c.add_all.result (Gains old new (NewCallFact S site c.args.news.now.row c.args.news.now.new.now))
    (subst (λ (s : CallSite). Gains old new (NewCallFact S s c.args.news.now.row c.args.news.now.new.now)) (same_Some call site (sym c.call_at-call.ensures.value ∙ at))
    (gains_same old new (λ a b. (location : ℕ) × Contains entered location × LibraryFact S call location a b) (NewCallFact S call c.args.news.now.row c.args.news.now.new.now)
    (λ a b p. (p.0, (let n = (c.news_of-entered.ensures.has p.0).0 p.1 in (same_Some call.callee c.args.news.now.row n.0, n.1)), p.2))
    (λ a b k. (k.0, (c.news_of-entered.ensures.has k.0).1 (ap Some k.1.0, k.1.1), k.2))
    c.in_ok-enter_libraries.ensures.facts))
