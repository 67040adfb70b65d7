use Rattle.std.proofs.Common.{◌≡◌, ◌↔◌, ℕ, ◌+◌, ◌<◌, ◌≤◌, List, [], ◌∷◌, ◌++◌, length, get_or, Some, slice_get, Contains, Vec, Global, sym, ap, ◌∙◌, subst, inl, inr, arith}
use Rattle.std.proofs.lemmas.Bool.{cases_eq}
use Rattle.std.proofs.lemmas.Option.{same_Some, slice_get-get_or}
use Rattle.std.proofs.lemmas.List.Elements.{All-contains, Contains-append_left, Contains-push, Contains-push_cases}
use Rattle.sol_model.specs.Systems.{IsLocation}
use Rattle.sol_model.proofs.Members.{Contains-at, at_Contains}
use Rattle.new_members.proofs.Answering.{all_of}
use Rattle.new_members.proofs.lists.fresh_members.Goals as goal
use Rattle.new_members.proofs.lists.fresh_members.Goals.{then-pair-number+in_ok-push, else-pair-number}

abbrev So : List (ℕ × ℕ) → ℕ → List ℕ → ℕ → Type 0
So fresh number list i = (location : ℕ) → Contains list location ↔ ((k : ℕ) × (k < i) × (slice_get fresh k ≡ Some (number, location)))

so_none : (fresh : List (ℕ × ℕ)) (number : ℕ) → So fresh number [] 0
so_none fresh number location = (λ h. absurd (let l = h.1 in omega arith), λ h. absurd (let l = h.1 in omega arith))

so_yes : (fresh : List (ℕ × ℕ)) (number i : ℕ) (list : List ℕ) (pair : ℕ × ℕ) → slice_get fresh i ≡ Some pair → pair.0 ≡ number → So fresh number list i → So fresh number (list ++ pair.1 ∷ []) (i + 1)
so_yes fresh number i list pair at e so location = (
  λ h. elim (Contains-push_cases list pair.1 location h) [
    | inl o ↦ (let p = (so location).0 o in let l = p.1 in (p.0, omega arith, p.2))
    | inr n ↦ (i, omega arith, at ∙ (λ j. Some (e j, n j)))
  ],
  λ h. elim (cases_eq h.0 i) [
    | inl s ↦ (let same : pair ≡ (number, location) = same_Some pair (number, location) (sym at ∙ ap (slice_get fresh) (sym s) ∙ h.2) in
        subst (Contains (list ++ pair.1 ∷ [])) (ap (λ (p : ℕ × ℕ). p.1) same) (Contains-push list pair.1))
    | inr ne ↦ (let l = h.1 in Contains-append_left list (pair.1 ∷ []) location ((so location).1 (h.0, omega arith, h.2)))
  ],
)

so_no : (fresh : List (ℕ × ℕ)) (number i : ℕ) (list : List ℕ) (pair : ℕ × ℕ) → slice_get fresh i ≡ Some pair → (pair.0 ≡ number → ⊥) → So fresh number list i → So fresh number list (i + 1)
so_no fresh number i list pair at ne so location = (
  λ h. (let p = (so location).0 h in let l = p.1 in (p.0, omega arith, p.2)),
  λ h. elim (cases_eq h.0 i) [
    | inl s ↦ absurd (ne (ap (λ (p : ℕ × ℕ). p.0) (same_Some pair (number, location) (sym at ∙ ap (slice_get fresh) (sym s) ∙ h.2))))
    | inr apart ↦ (let l = h.1 in (so location).1 (h.0, omega arith, h.2))
  ],
)

pub loop-pair-init : goal.loop-pair-init
loop-pair-init c = subst (λ (xs : List ℕ). So c.args.call.now.fresh c.args.number xs 0) (sym c.new-list.ensures.items) (so_none c.args.call.now.fresh c.args.number)

pub loop-pair-preserved : goal.loop-pair-preserved
loop-pair-preserved c =
    let fresh = c.args.call.now.fresh in
    let items = c.as_slice-pair-items.result.now in
    let i : ℕ = c.loop-pair.pair-index in
    let pair : ℕ × ℕ = get_or items i (0, 0) in
    let at : slice_get fresh i ≡ Some pair = ap (λ (xs : List (ℕ × ℕ)). slice_get xs i) (sym c.as_slice-pair-items.ensures) ∙ slice_get-get_or items i (0, 0) c.loop-pair-test.true in
    let P : List ℕ → Type 0 = λ xs. So fresh c.args.number xs (i + 1) in
    elim c.if-pair-number.branch [
      | then-pair-number+in_ok-push w ↦ subst P (sym (ap (λ (v : Vec ℕ Global). v.items) w.list-is ∙ w.in_ok-push.ensures.items))
          (so_yes fresh c.args.number i c.loop-pair.list.items pair at w.if-pair-number.true c.loop-pair.invariant)
      | else-pair-number w ↦ subst P (sym (ap (λ (v : Vec ℕ Global). v.items) w.list-is))
          (so_no fresh c.args.number i c.loop-pair.list.items pair at w.if-pair-number.false c.loop-pair.invariant)
    ]

so_all : (fresh : List (ℕ × ℕ)) (number i : ℕ) (list : List ℕ) → length fresh ≤ i → So fresh number list i → (location : ℕ) → (Contains list location ↔ Contains fresh (number, location))
so_all fresh number i list past so location = (
  λ h. (let p = (so location).0 h in Contains-at fresh p.0 (number, location) p.2),
  λ h. (so location).1 (let w = at_Contains fresh (number, location) h in let l = w.1 in (w.0, omega arith, w.2)),
)

pub returns-clause-has : goal.returns-clause-has
returns-clause-has c = so_all c.args.call.now.fresh c.args.number c.loop-pair.pair-index c.loop-pair.list.items
    (let n = c.loop-pair-test.false in let e = ap (λ (xs : List (ℕ × ℕ)). length xs) c.as_slice-pair-items.ensures in omega arith) c.loop-pair.invariant

pub returns-clause-known : goal.returns-clause-known
returns-clause-known c = all_of (IsLocation c.args.system.now) c.loop-pair.list.items (λ location h.
    let p = (c.loop-pair.invariant location).0 h in
    (All-contains (λ (pair : ℕ × ℕ). (pair.0 < length c.args.system.now.functions) × IsLocation c.args.system.now pair.1) c.args.call.now.fresh (c.args.number, location) c.requires.call.fresh (Contains-at c.args.call.now.fresh p.0 (c.args.number, location) p.2)).1)
