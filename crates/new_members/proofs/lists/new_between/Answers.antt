use Rattle.std.proofs.Common.{◌≡◌, ℕ, ◌+◌, ◌<◌, ◌≤◌, ◌^◌, List, get_or, Vec, Global, refl, sym, ap, ◌∙◌, subst, arith}
use Rattle.std.proofs.lemmas.List.{get_or_past}
use Rattle.new_members.proofs.Bits.{Lists, IsListed, listed_none, listed_word, listed_same, listed_end}
use Rattle.new_members.proofs.lists.new_between.Goals as goal
use Rattle.new_members.proofs.lists.new_between.Goals.{then-k-without, else-k-without, then-new-ne0+in_ok-put_bits, else-new-ne0}

pub loop-k-init : goal.loop-k-init
loop-k-init c = record {
  ordered = c.requires.range.0;
  from = omega arith;
  listed = subst (λ (xs : List ℕ). Lists xs (IsListed c.args.words.now c.args.without.now c.args.first c.args.first)) (sym c.new-list.ensures.items) (listed_none c.args.words.now c.args.without.now c.args.first);
}

pub loop-k-preserved : goal.loop-k-preserved
loop-k-preserved c =
    let words = c.args.words.now in
    let without = c.args.without.now in
    let k : ℕ = c.loop-k.k in
    let held : ℕ = c.if-k-without.held in
    let held_is : held ≡ get_or without k 0 = elim c.if-k-without.branch [
      | then-k-without w ↦ w.held-is
      | else-k-without w ↦ w.held-is ∙ sym (get_or_past without k 0 w.if-k-without.false)
    ] in
    let small : get_or words k 0 < 2 ^ 64 = omega (arith, c.type_inv.words k) in
    let held_small : held < 2 ^ 64 = subst (λ (x : ℕ). x < 2 ^ 64) (sym held_is) (let f : get_or without k 0 < 2 ^ 64 = omega (arith, c.type_inv.without k) in f) in
    let from : c.args.first ≤ k = c.loop-k.invariant.from in
    let P : List ℕ → Type 0 = λ xs. Lists xs (IsListed words without c.args.first (k + 1)) in record {
      ordered = (let n = c.loop-k-test.true in omega arith);
      from = omega arith;
      listed = elim c.if-new-ne0.branch [
        | then-new-ne0+in_ok-put_bits w ↦ subst P (sym (ap (λ (v : Vec ℕ Global). v.items) w.list-is))
            (listed_word words without c.loop-k.list.items w.put_bits.new.list.items c.args.first k (get_or words k 0) held from refl held_is small held_small c.loop-k.invariant.listed w.in_ok-put_bits.ensures)
        | else-new-ne0 w ↦ subst P (sym (ap (λ (v : Vec ℕ Global). v.items) w.list-is))
            (listed_same words without c.loop-k.list.items c.args.first k (get_or words k 0) held from refl held_is small held_small w.if-new-ne0.false c.loop-k.invariant.listed)
      ];
    }

pub returns : goal.returns
returns c = listed_end c.args.words.now c.args.without.now c.loop-k.list.items c.args.first c.loop-k.k c.args.end c.loop-k.invariant.ordered (let n = c.loop-k-test.false in omega arith) c.loop-k.invariant.listed
