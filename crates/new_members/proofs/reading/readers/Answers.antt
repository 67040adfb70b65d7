use Rattle.std.proofs.Common.{◌≡◌, subst, inl, inr, arith}
use Rattle.std.proofs.lemmas.Bool.{cases_eq}
use Rattle.std.proofs.lemmas.Option.{slice_get_within}
use Rattle.new_members.specs.News.{IsReader}
use Rattle.new_members.proofs.reading.readers.Goals as goal

pub loop-number-preserved : goal.loop-number-preserved
loop-number-preserved c row number = (
  λ h. elim ((c.in_ok-put_readers.ensures row number).0 h) [
    | inl o ↦ (let p = (c.loop-number.invariant row number).0 o in let l = p.1 in (p.0, omega arith))
    | inr n ↦ (let e = n.1 in (subst (IsReader c.args.system.now row) (let f : c.loop-number.number ≡ number = omega arith in f) n.0, omega arith))
  ],
  λ h. (c.in_ok-put_readers.ensures row number).1 (elim (cases_eq number c.loop-number.number) [
    | inl e ↦ inr (subst (IsReader c.args.system.now row) e h.0, e)
    | inr ne ↦ (let l = h.1 in inl ((c.loop-number.invariant row number).1 (h.0, omega arith)))
  ]),
)

pub returns : goal.returns
returns c row number = (
  λ h. ((c.loop-number.invariant row number).0 h).0,
  λ h. (c.loop-number.invariant row number).1 (h, (let lt = slice_get_within c.args.system.now.constraints number h.0 h.1 in let n = c.loop-number-test.false in let e = c.len-count.ensures in omega arith)),
)
