use Rattle.std.proofs.Common.{◌≡◌, ℕ, ◌+◌, ◌<◌, ◌≤◌, List, Vec, Global, get_or, refl, sym, ◌∙◌, ap, subst, arith}
use Rattle.sol_model.specs.Systems.{location_count}
use Rattle.row_share.specs.share_laws.Renumbering.{new_row}
use Rattle.row_share.proofs.share_laws.Numbers.{representative_small, own_small, is_own_at}
use Rattle.row_share.proofs.share_laws.Numbering.{AreNumbersBelow, numbers_push, own_not, own_is, below_not, other_not}
use Rattle.row_share.proofs.reducing.renumber.Goals as goal
use Rattle.row_share.proofs.reducing.renumber.Goals.{then-old-locations+in_ok-push, else-old-locations+then-representative-old+in_ok-push-2, else-old-locations+else-representative-old+in_ok-push-3}

pub overflow_add-rows : goal.overflow_add-rows
overflow_add-rows c =
    let s = own_small (location_count c.args.system.now) c.args.share.now c.loop-old.old in
    let i = c.loop-old.invariant.rows in
    let t = c.loop-old-test.true in
    let f = c.if-old-locations.false in
    omega arith

pub new_row-new-requires : goal.new_row-new-requires
new_row-new-requires c =
    let s = representative_small c.args.system.now c.args.share.now c.requires.classes c.loop-old.old c.loop-old-test.true in
    let long = c.loop-old.invariant.numbers.count in
    let f = c.if-representative-old.false in
    let e = c.of-representative.ensures in
    let v = c.as_slice.ensures.len in
    omega arith

pub loop-old-preserved : goal.loop-old-preserved
loop-old-preserved c =
    let start = location_count c.args.system.now in
    let of = c.args.share.now in
    let old = c.loop-old.old in
    let small : (k : ℕ) → k < old + 1 → get_or of k 0 ≤ k = λ k lt. representative_small c.args.system.now of c.requires.classes k (let t = c.loop-old-test.true in omega arith) in
    elim c.if-old-locations.branch [
      | then-old-locations+in_ok-push w ↦ (let low : old < start = (let t = w.if-old-locations.true in omega arith) in record {
        numbers = subst (λ (xs : List ℕ). AreNumbersBelow start of xs (old + 1)) (sym (ap (λ (v : Vec ℕ Global). v.items) w.row-is ∙ w.in_ok-push.ensures.items))
            (numbers_push start of c.loop-old.row.items old old c.loop-old.invariant.numbers small (λ _. refl) (λ above _. absurd (omega arith)) (λ above _. absurd (omega arith)));
        rows = w.rows-is ∙ c.loop-old.invariant.rows ∙ ap (λ (m : ℕ). start + m) (sym (own_not start of old (below_not start of old low)));
      })
      | else-old-locations+then-representative-old+in_ok-push-2 w ↦ (let high : start ≤ old = (let t = w.if-old-locations.false in omega arith) in
          let is : get_or of old 0 ≡ old = sym c.of-representative.ensures ∙ w.if-representative-old.true in record {
            numbers = subst (λ (xs : List ℕ). AreNumbersBelow start of xs (old + 1)) (sym (ap (λ (v : Vec ℕ Global). v.items) w.row-is ∙ w.in_ok-push-2.ensures.items))
                (numbers_push start of c.loop-old.row.items old c.loop-old.rows c.loop-old.invariant.numbers small (λ lt. absurd (omega arith)) (λ _ _. c.loop-old.invariant.rows) (λ _ less. absurd (omega arith)));
            rows = w.rows-is ∙ (let r = c.loop-old.invariant.rows in let o = own_is start of old (is_own_at start of old high is) in omega arith);
          })
      | else-old-locations+else-representative-old+in_ok-push-3 w ↦ (let high : start ≤ old = (let t = w.if-old-locations.false in omega arith) in
          let apart : get_or of old 0 ≡ old → ⊥ = λ e. w.if-representative-old.false (c.of-representative.ensures ∙ e) in record {
            numbers = subst (λ (xs : List ℕ). AreNumbersBelow start of xs (old + 1)) (sym (ap (λ (v : Vec ℕ Global). v.items) w.row-is ∙ w.in_ok-push-3.ensures.items))
                (numbers_push start of c.loop-old.row.items old w.new_row-new.result c.loop-old.invariant.numbers small (λ lt. absurd (omega arith)) (λ _ own. absurd (apart own))
                (λ _ _. w.new_row-new.ensures ∙ ap (λ (xs : List ℕ). new_row xs c.of-representative.result) w.as_slice.ensures.value ∙ ap (new_row c.loop-old.row.items) c.of-representative.ensures));
            rows = w.rows-is ∙ c.loop-old.invariant.rows ∙ ap (λ (m : ℕ). start + m) (sym (own_not start of old (other_not start of old apart)));
          })
    ]
