use Rattle.std.proofs.Common.{◌≡◌, ℕ, ◌+◌, List, [], ◌∷◌, ◌++◌, Contains, Vec, Global, sym, ap, ◌∙◌, subst, inl, inr, arith}
use Rattle.std.specs.Int.{bit_at}
use Rattle.std.proofs.lemmas.Bool.{cases_eq}
use Rattle.std.proofs.lemmas.Nat.Bits.{shr_and_one}
use Rattle.std.proofs.lemmas.List.Elements.{Contains-append_left, Contains-push, Contains-push_cases}
use Rattle.new_members.proofs.Bits.{Grows}
use Rattle.new_members.proofs.lists.put_bits.Goals as goal
use Rattle.new_members.proofs.lists.put_bits.Goals.{then-word-k-eq1+in_ok-push, else-word-k-eq1}

grows_yes : (old mid : List ℕ) (word base k : ℕ) → bit_at word k ≡ 1 → Grows old mid word base k → Grows old (mid ++ (base + k) ∷ []) word base (k + 1)
grows_yes old mid word base k holds g location = (
  λ h. elim (Contains-push_cases mid (base + k) location h) [
    | inl m ↦ elim ((g location).0 m) [ inl o ↦ inl o | inr b ↦ (let l = b.1 in inr (b.0, omega arith, b.2, b.3)) ]
    | inr e ↦ inr (k, omega arith, holds, sym e)
  ],
  λ h. elim h [
    | inl o ↦ Contains-append_left mid ((base + k) ∷ []) location ((g location).1 (inl o))
    | inr b ↦ elim (cases_eq b.0 k) [
      | inl e ↦ subst (Contains (mid ++ (base + k) ∷ [])) (let f = b.3 in omega arith) (Contains-push mid (base + k))
      | inr ne ↦ (let l = b.1 in Contains-append_left mid ((base + k) ∷ []) location ((g location).1 (inr (b.0, omega arith, b.2, b.3))))
    ]
  ],
)

grows_no : (old mid : List ℕ) (word base k : ℕ) → (bit_at word k ≡ 1 → ⊥) → Grows old mid word base k → Grows old mid word base (k + 1)
grows_no old mid word base k fails g location = (
  λ h. elim ((g location).0 h) [ inl o ↦ inl o | inr b ↦ (let l = b.1 in inr (b.0, omega arith, b.2, b.3)) ],
  λ h. (g location).1 (elim h [
    | inl o ↦ inl o
    | inr b ↦ elim (cases_eq b.0 k) [
      | inl e ↦ absurd (fails (subst (λ (x : ℕ). bit_at word x ≡ 1) e b.2))
      | inr ne ↦ (let l = b.1 in inr (b.0, omega arith, b.2, b.3))
    ]
  ]),
)

pub loop-k-init : goal.loop-k-init
loop-k-init c location = (λ h. inl h, λ h. elim h [ inl o ↦ o | inr b ↦ absurd (let l = b.1 in omega arith) ])

pub loop-k-preserved : goal.loop-k-preserved
loop-k-preserved c =
    let P : List ℕ → Type 0 = λ xs. Grows c.args.list.now.items xs c.args.word c.args.base (c.loop-k.k + 1) in
    elim c.if-word-k-eq1.branch [
      | then-word-k-eq1+in_ok-push w ↦ subst P (sym (ap (λ (v : Vec ℕ Global). v.items) w.list-is ∙ w.in_ok-push.ensures.items))
          (grows_yes c.args.list.now.items c.loop-k.list.items c.args.word c.args.base c.loop-k.k (sym (shr_and_one _ _) ∙ w.if-word-k-eq1.true) c.loop-k.invariant)
      | else-word-k-eq1 w ↦ subst P (sym (ap (λ (v : Vec ℕ Global). v.items) w.list-is))
          (grows_no c.args.list.now.items c.loop-k.list.items c.args.word c.args.base c.loop-k.k (λ h. w.if-word-k-eq1.false (shr_and_one _ _ ∙ h)) c.loop-k.invariant)
    ]

pub returns : goal.returns
returns c = let n = c.loop-k-test.false in let m = c.loop-k.auto.k-end in subst (Grows c.args.list.now.items c.loop-k.list.items c.args.word c.args.base) (omega arith) c.loop-k.invariant
