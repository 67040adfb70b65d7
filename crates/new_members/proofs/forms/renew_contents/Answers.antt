use Rattle.std.proofs.Common.{ℕ, List, Some, Contains, sym, ap, subst, inl, inr, arith}
use Rattle.std.proofs.lemmas.Option.{same_Some}
use Rattle.edge_book.proofs.Gaining.{gains_both}
use Rattle.sol_model.specs.Families.{members}
use Rattle.new_members.specs.News.{Takes, PairsOf, NewContentsEdge}
use Rattle.new_members.proofs.Answering.{on_ok}
use Rattle.new_members.proofs.Through.{takes_same}
use Rattle.new_members.proofs.forms.renew_contents.Goals as goal

pub returns : goal.returns
returns c =
    let S = c.args.system.now in
    let G = members c.args.rows.now in
    let E = NewContentsEdge S G c.args.to c.args.from c.args.news.now.row c.args.news.now.new.now in
    let old = c.args.book.now in
    let new = c.add_all.new.book in
    let none = c.new-pairs.result.items in
    let mid = c.put_copies.new.pairs.items in
    let both = c.put_copies-2.new.pairs.items in
    let new_tos = c.news_of.result.now in
    let froms = c.as_slice.result.now in
    let tos = c.as_slice-2.result.now in
    let new_froms = c.news_of-2.result.now in
    let pairs = c.as_slice-3.result.now in
    let gathered = gains_both none mid both (PairsOf S new_tos froms) (PairsOf S tos new_froms) c.in_ok-put_copies.ensures c.in_ok-put_copies-2.ensures in
    on_ok c.add_all.result (Takes old new (λ a b. Contains pairs (a, b))) (Takes old new E)
    (takes_same old new (λ a b. Contains pairs (a, b)) E
    (λ a b h. elim ((gathered a b).0 (subst (λ (xs : List (ℕ × ℕ)). Contains xs (a, b)) c.as_slice-3.ensures.value h)) [
      | inl fails ↦ absurd (let n = subst (λ (xs : List (ℕ × ℕ)). Contains xs (a, b)) c.new-pairs.ensures.items fails in let l = n.1 in omega arith)
      | inr some ↦ elim some [
        | inl p ↦ inl (let n = (c.news_of.ensures.has p.0).0 p.1 in (
          p.0,
          (same_Some c.args.to c.args.news.now.row n.0, n.1),
          (p.2.0, (c.in_ok-froms.ensures.has p.2.0).0 (subst (λ (xs : List ℕ). Contains xs p.2.0) c.as_slice.ensures.value p.2.1), p.2.2),
        ))
        | inr p ↦ inr (let n = (c.news_of-2.ensures.has p.2.0).0 p.2.1 in (
          p.0,
          (c.in_ok-tos.ensures.has p.0).0 (subst (λ (xs : List ℕ). Contains xs p.0) c.as_slice-2.ensures.value p.1),
          (p.2.0, (same_Some c.args.from c.args.news.now.row n.0, n.1), p.2.2),
        ))
      ]
    ])
    (λ a b h. subst (λ (xs : List (ℕ × ℕ)). Contains xs (a, b)) (sym c.as_slice-3.ensures.value) ((gathered a b).1 (inr (elim h [
      | inl k ↦ inl (
        k.0,
        (c.news_of.ensures.has k.0).1 (ap Some k.1.0, k.1.1),
        (k.2.0, subst (λ (xs : List ℕ). Contains xs k.2.0) (sym c.as_slice.ensures.value) ((c.in_ok-froms.ensures.has k.2.0).1 k.2.1), k.2.2),
      )
      | inr k ↦ inr (
        k.0,
        subst (λ (xs : List ℕ). Contains xs k.0) (sym c.as_slice-2.ensures.value) ((c.in_ok-tos.ensures.has k.0).1 k.1),
        (k.2.0, (c.news_of-2.ensures.has k.2.0).1 (ap Some k.2.1.0, k.2.1.1), k.2.2),
      )
    ])))))
    c.add_all.ensures
