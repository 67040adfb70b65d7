use Rattle.std.proofs.Common.{◌≡◌, ◌≤◌, ℕ, length, get_or, Contains, refl, subst}
use Rattle.std.proofs.lemmas.Option.{slice_get-get_or}
use Rattle.mod_ref.specs.Gains.{In}
use Rattle.mod_ref.specs.Places.{IsUnder}
use Rattle.mod_ref.proofs.Gaining.{gains_as, gains_in_listed, gains_in_next, gains_none, rows_kept}
use Rattle.mod_ref.proofs.library_calls.insert_fresh.Goals as goal

pub loop-i-init : goal.loop-i-init
loop-i-init c = gains_none _ _

pub insert_pair-requires-clause-object : goal.insert_pair-requires-clause-object
insert_pair-requires-clause-object c = let lt = rw c.as_slice-fresh.ensures at c.loop-i-test.true in rw c.as_slice-fresh.ensures ((c.requires.call.fresh c.loop-i.i (0, 0) lt).1)

pub insert_pair-requires-clause-rows : goal.insert_pair-requires-clause-rows
insert_pair-requires-clause-rows c = rows_kept c.args.system.now c.args.touched.now c.loop-i.touched _ c.requires.rows c.loop-i.invariant

pub returns-clause-rows : goal.returns-clause-rows
returns-clause-rows c = rows_kept c.args.system.now c.args.touched.now c.loop-i.touched _ c.requires.rows c.loop-i.invariant

pub loop-i-preserved : goal.loop-i-preserved
loop-i-preserved c =
    let fresh = c.args.call.now.fresh in
    gains_in_next fresh c.args.row (λ (pair : ℕ × ℕ) node. (pair.0 ≡ c.args.number) × IsUnder c.args.system.now pair.1 node) c.loop-i.i (get_or fresh c.loop-i.i (0, 0)) c.args.touched.now c.loop-i.touched c.insert_pair.new.touched
    (slice_get-get_or fresh c.loop-i.i (0, 0) (rw c.as_slice-fresh.ensures at c.loop-i-test.true)) c.loop-i.invariant (rw c.as_slice-fresh.ensures at c.insert_pair.ensures.gains)

pub returns-clause-gains : goal.returns-clause-gains
returns-clause-gains c =
    let all : length c.args.call.now.fresh ≤ c.loop-i.i = rw c.as_slice-fresh.ensures at c.loop-i-test.false in
    gains_as c.args.touched.now c.loop-i.touched
    (In c.args.row (λ node. (pair : ℕ × ℕ) × Contains c.args.call.now.fresh pair × ((pair.0 ≡ c.args.number) × IsUnder c.args.system.now pair.1 node)))
    (In c.args.row (λ node. (object : ℕ) × Contains c.args.call.now.fresh (c.args.number, object) × IsUnder c.args.system.now object node))
    (gains_in_listed c.args.call.now.fresh c.args.row (λ (pair : ℕ × ℕ) node. (pair.0 ≡ c.args.number) × IsUnder c.args.system.now pair.1 node) c.loop-i.i c.args.touched.now c.loop-i.touched all c.loop-i.invariant)
    (λ r node h. let p = h.1 in let own = p.2 in (h.0, ((p.0).1, subst (λ n. Contains c.args.call.now.fresh (n, (p.0).1)) own.0 p.1, own.1)))
    (λ r node h. let p = h.1 in (h.0, ((c.args.number, p.0), p.1, (refl, p.2))))
