use Rattle.std.proofs.Common.{◌≡◌, ℕ, List, drop, get_or, sym, ◌∙◌, ap, subst, inl, inr}
use Rattle.std.proofs.lemmas.Bool.{false≢true}
use Rattle.stop_places.specs.Loose.{parameter_count, further, IsSomeLoose, LooseCall}
use Rattle.stop_places.specs.Sight.{solution_in}
use Rattle.stop_places.proofs.Loosening.{first_item, rest_whole}
use Rattle.stop_places.proofs.loose.is_loose_call.Goals as goal

pub returns-then-some_loose : goal.returns-then-some_loose
returns-then-some_loose c =
    let x = solution_in c.args.sight.now in
    let xs : List ℕ = c.args.children.now in
    let front = first_item xs c.in-len1-up.len_at_least in
    let rest : c.past.result.now ≡ further x.trees (get_or xs 0 0) (drop 1 xs) =
    c.past.ensures ∙ (ap (drop c.parameter_count-named.result) (rest_whole xs) ∙ ap (λ k. drop k (drop 1 xs)) (c.parameter_count-named.ensures ∙ ap parameter_count c.type_id.ensures.value))
    in
    (λ h. subst (LooseCall x c.args.n) (sym front) (inl (subst (IsSomeLoose x.trees) rest (c.some_loose.ensures.0 h))), λ l. c.if-some_loose.true)

pub returns-else-loose-n : goal.returns-else-loose-n
returns-else-loose-n c =
    let x = solution_in c.args.sight.now in
    let xs : List ℕ = c.args.children.now in
    let n : ℕ = c.args.n in
    let front = first_item xs c.in-len1-up.len_at_least in
    let rest : c.past.result.now ≡ further x.trees (get_or xs 0 0) (drop 1 xs) =
    c.past.ensures ∙ (ap (drop c.parameter_count-named.result) (rest_whole xs) ∙ ap (λ k. drop k (drop 1 xs)) (c.parameter_count-named.ensures ∙ ap parameter_count c.type_id.ensures.value))
    in (
      λ h. subst (LooseCall x n) (sym front) (inr (c.judged_at.ensures.library.0 c.if-judged_at.true, inr (subst (IsSomeLoose x.trees) (rest_whole xs) (c.some_loose-else-loose-n.ensures.0 h)))),
      λ l. elim (subst (LooseCall x n) front l) [
        | inl a ↦ absurd (false≢true (sym c.if-some_loose.false ∙ c.some_loose.ensures.1 (subst (IsSomeLoose x.trees) (sym rest) a)))
        | inr b ↦ elim b.1 [
          | inl own ↦ absurd (false≢true (sym c.if-loose-n.false ∙ (c.requires.loose.right n c.requires.node).1 own))
          | inr some ↦ c.some_loose-else-loose-n.ensures.1 (subst (IsSomeLoose x.trees) (sym (rest_whole xs)) some)
        ]
      ],
    )

pub returns-else-judged_at : goal.returns-else-judged_at
returns-else-judged_at c =
    let x = solution_in c.args.sight.now in
    let xs : List ℕ = c.args.children.now in
    let n : ℕ = c.args.n in
    let front = first_item xs c.in-len1-up.len_at_least in
    let rest : c.past.result.now ≡ further x.trees (get_or xs 0 0) (drop 1 xs) =
    c.past.ensures ∙ (ap (drop c.parameter_count-named.result) (rest_whole xs) ∙ ap (λ k. drop k (drop 1 xs)) (c.parameter_count-named.ensures ∙ ap parameter_count c.type_id.ensures.value))
    in (
      λ h. absurd (false≢true (sym c.if-judged_at.false ∙ h)),
      λ l. elim (subst (LooseCall x n) front l) [
        | inl a ↦ absurd (false≢true (sym c.if-some_loose.false ∙ c.some_loose.ensures.1 (subst (IsSomeLoose x.trees) (sym rest) a)))
        | inr b ↦ c.judged_at.ensures.library.1 b.0
      ],
    )
