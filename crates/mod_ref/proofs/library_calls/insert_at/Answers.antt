use Rattle.std.proofs.Common.{◌≡◌, ℕ, subst}
use Rattle.sol_model.specs.declared.system.Function.{Function}
use Rattle.obj_space.specs.View.{view_of}
use Rattle.mod_ref.specs.Direct.{IsMade}
use Rattle.mod_ref.specs.Gains.{In, IsMadeAt}
use Rattle.mod_ref.proofs.Gaining.{gains_as}
use Rattle.mod_ref.proofs.Reaching.{library_same}
use Rattle.mod_ref.proofs.library_calls.insert_at.Goals as goal

pub returns-then-is_write-clause-gains : goal.returns-then-is_write-clause-gains
returns-then-is_write-clause-gains c =
    let g = c.args.ground.now in
    let s = view_of g.space.now in
    let S = g.system.now in
    let call = c.args.call.now in
    let number : ℕ = c.in-Some.number in
    let there = c.in-Some.ensures in
    gains_as c.args.touched.now c.insert_made.new.touched (In c.args.row (IsMade s S call number there.0)) (In c.args.row (IsMadeAt s S c.args.access call c.args.location))
    (c.insert_made.ensures.gains there.0 (there.1).known)
    (λ r l h. (h.0, (number, there.0, there.1, c.is_write.ensures.0 c.if-is_write.true, h.1)))
    (λ r l h.
    let m = h.1 in
    let same = library_same S call c.args.location m.0 number m.1 there.0 c.requires.ground.valid c.requires.location m.2 there.1 in
    (h.0, subst (λ n. IsMade s S call n there.0 l) same.0 (subst (λ (f : Function). IsMade s S call m.0 f l) same.1 m.4)))
