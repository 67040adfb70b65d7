use Rattle.std.proofs.Common.{◌≡◌, ℕ, ◌+◌, ◌<◌, List, Vec, Global, sym, ap, ◌∙◌, subst, inl, inr, arith}
use Rattle.sol_model.proofs.Fitting.{row_held}
use Rattle.set_rows.specs.Calls.{system_of, view, IsOf}
use Rattle.round_pieces.proofs.Ending.{sound_range}
use Rattle.round_settling.proofs.Steps.{carried_others}
use Rattle.round_settling.proofs.Rests.{Kept, kept_start, kept_done, kept_more, all_in, one_more}
use Rattle.round_settling.proofs.growth.still_grown.Goals as goal
use Rattle.round_settling.proofs.growth.still_grown.Goals.{then-has_more+in_ok-push, else-has_more}

pub loop-row-init : goal.loop-row-init
loop-row-init c = record {
  own = c.requires.own;
  kept = subst (λ (xs : List ℕ). Kept c.args.done.now 0 (view c.args.seat.now) (view c.args.seat.now) xs) (sym c.new-left.ensures.items) (kept_start c.args.done.now (view c.args.seat.now));
}

pub row_words-requires : goal.row_words-requires
row_words-requires c = row_held (system_of c.args.table.now) c.args.done.now c.requires.fits c.loop-row.row (let e = c.requires.rows in let l = c.loop-row-test.true in omega arith)

pub has_more-requires-clause-row : goal.has_more-requires-clause-row
has_more-requires-clause-row c = let e = c.requires.rows in let l = c.loop-row-test.true in omega arith

pub loop-row-preserved : goal.loop-row-preserved
loop-row-preserved c =
    let t = c.args.table.now in
    let S = system_of t in
    let done = c.args.done.now in
    let row : ℕ = c.loop-row.row in
    let words = c.row_words.result.now in
    let v = view c.args.seat.now in
    let u = view c.loop-row.seat in
    let w = view c.has_more.new.seat in
    let left = c.loop-row.left.items in
    let ens = c.has_more.ensures in
    let inv = c.loop-row.invariant in
    let others = carried_others S u w row inv.own.1 ens.own.1 ens.others in
    let P : List ℕ → Type 0 = λ xs. record { own : IsOf t c.has_more.new.seat; kept : Kept done (row + 1) v w xs } in
    elim c.if-has_more.branch [
      | then-has_more+in_ok-push x ↦
          (let some = ens.some x.if-has_more.true in
          let one = one_more S w row some.0 words ens.own.1 some.1 some.2 in
          subst P (sym (ap (λ (g : Vec ℕ Global). g.items) x.left-is ∙ x.in_ok-push.ensures.items)) record {
            own = ens.own;
            kept = kept_more done row v u w left inv.kept ens.view ens.sound others (one.0, one.1, λ h. one.2 ((c.row_words.ensures.has one.0).0 h));
          })
      | else-has_more x ↦
          subst P (sym (ap (λ (g : Vec ℕ Global). g.items) x.left-is)) record {
            own = ens.own;
            kept = kept_done done row v u w left inv.kept ens.view ens.sound others (λ l h. (c.row_words.ensures.has l).1 (all_in S w row l words ens.own.1 (ens.none x.if-has_more.false) h));
          }
    ]

pub returns-clause-rest : goal.returns-clause-rest
returns-clause-rest c row location h =
    let S = system_of c.args.table.now in
    let kept = c.loop-row.invariant.kept in
    elim (kept.rest row location h) [
      | inl there ↦ inl there
      | inr other ↦ elim other [
        | inl listed ↦ inr listed
        | inr past ↦ absurd (let lt = (sound_range S (view c.loop-row.seat) row location c.requires.valid c.loop-row.invariant.own.1 (kept.sound c.requires.sound) h).0 in
            let e = c.requires.rows in let n = c.loop-row-test.false in omega arith)
      ]
    ]

pub returns-clause-view : goal.returns-clause-view
returns-clause-view c = c.loop-row.invariant.kept.more

pub returns-clause-sound : goal.returns-clause-sound
returns-clause-sound c = c.loop-row.invariant.kept.sound c.requires.sound

pub returns-clause-grown : goal.returns-clause-grown
returns-clause-grown c = c.loop-row.invariant.kept.grown

pub returns-in_err-push-clause-sound : goal.returns-in_err-push-clause-sound
returns-in_err-push-clause-sound c = c.has_more.ensures.sound (c.loop-row.invariant.kept.sound c.requires.sound)
