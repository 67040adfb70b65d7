use Rattle.std.proofs.Common.{arith, ◌≡◌, ◌<◌, ◌≤◌, ◌+◌, ℕ, ◌∙◌, sym, subst, take, length, inl, inr}
use Rattle.std.proofs.lemmas.Bool.{cases_lt}
use Rattle.c_inits.specs.Items.{knows}
use Rattle.c_inits.proofs.Keys.{tested, prefix_at, last_prefix}
use Rattle.c_inits.proofs.items.is_cleared.Goals as goal

-- what holds below a number and of it holds up to it
up_to : (P : ℕ → Type 0) (k : ℕ) → ((n : ℕ) → n < k → P n) → P k → (n : ℕ) → n < k + 1 → P n
up_to P k below here n lt =
    elim (cases_lt n k) [
      | inl l ↦ below n l
      | inr g ↦ let e : k ≡ n = omega arith in subst P e here
    ]

pub loop-end-preserved : goal.loop-end-preserved
loop-end-preserved c =
    up_to _ c.loop-end.end c.loop-end.invariant (sym (tested c.args.cleared.now (take c.loop-end.end c.args.path.now)) ∙ (sym c.contains.ensures ∙ c.if-contains.false))

pub returns-then-contains : goal.returns-then-contains
returns-then-contains c =
    let le : c.loop-end.end ≤ length c.args.path.now = omega (arith, c.loop-end-test.true) in
    sym (prefix_at (knows c.args.cleared.now) c.args.path.now c.loop-end.end le (sym (tested c.args.cleared.now (take c.loop-end.end c.args.path.now)) ∙ sym c.contains.ensures ∙ c.if-contains.true))

pub returns : goal.returns
returns c =
    c.contains-2.ensures ∙ tested c.args.cleared.now c.args.path.now
    ∙ sym (last_prefix (knows c.args.cleared.now) c.args.path.now (λ n lt. c.loop-end.invariant n (omega (arith, lt, c.loop-end-test.false))))
