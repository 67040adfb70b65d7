use Rattle.std.proofs.Common.{◌≡◌, ◌+◌, ◌<◌, ◌≤◌, inl, inr, arith}
use Rattle.std.proofs.lemmas.Bool.{cases_lt}
use Rattle.mod_ref.specs.Gains.{In}
use Rattle.mod_ref.specs.Places.{IsUnder}
use Rattle.mod_ref.proofs.Gaining.{gains_as, gains_same, gains_then, rows_kept}
use Rattle.mod_ref.proofs.inserting.insert_under.Goals as goal

pub insert-requires-clause-rows : goal.insert-requires-clause-rows
insert-requires-clause-rows c = rows_kept c.args.system.now c.args.touched.now c.loop-i.touched _ c.requires.rows c.loop-i.invariant

pub loop-i-init : goal.loop-i-init
loop-i-init c = gains_same _ _ (λ r node h. let le = h.1.0 in let lt = h.1.1 in absurd (omega arith))

pub loop-i-preserved : goal.loop-i-preserved
loop-i-preserved c =
    let at = c.args.location in
    let i = c.loop-i.i in
    gains_then c.args.touched.now c.loop-i.touched c.insert.new.touched
    (In c.args.row (λ node. (at ≤ node) × (node < at + i))) (In c.args.row (λ node. node ≡ at + i)) (In c.args.row (λ node. (at ≤ node) × (node < at + (i + 1))))
    c.loop-i.invariant c.insert.ensures.gains
    (λ r node h. let le = h.1.0 in let lt = h.1.1 in (h.0, (omega arith, omega arith)))
    (λ r node h. let e = h.1 in (h.0, (omega arith, omega arith)))
    (λ r node h. let le = h.1.0 in let lt = h.1.1 in elim (cases_lt node (at + i)) [ inl less ↦ inl (h.0, (le, less)) | inr ge ↦ inr (h.0, omega arith) ])

pub returns-clause-gains : goal.returns-clause-gains
returns-clause-gains c =
    let i = c.loop-i.i in
    let end = c.loop-i-test.false in
    let up = c.loop-i.auto.i-end in
    let is = c.extent_at-i-end.ensures.value in
    gains_as c.args.touched.now c.loop-i.touched (In c.args.row (λ node. (c.args.location ≤ node) × (node < c.args.location + i))) (In c.args.row (IsUnder c.args.system.now c.args.location))
    c.loop-i.invariant
    (λ r node h. let le = h.1.0 in let lt = h.1.1 in (h.0, (le, omega arith)))
    (λ r node h. let le = h.1.0 in let lt = h.1.1 in (h.0, (le, omega arith)))

pub returns-clause-rows : goal.returns-clause-rows
returns-clause-rows c = rows_kept c.args.system.now c.args.touched.now c.loop-i.touched _ c.requires.rows c.loop-i.invariant
