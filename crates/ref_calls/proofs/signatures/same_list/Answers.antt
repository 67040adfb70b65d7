use Rattle.std.proofs.Common.{arith, ◌≡◌, ℕ, length, Some, nat_eq, slice_get, get_or, ap, sym, ◌∙◌}
use Rattle.std.proofs.lemmas.Option.{slice_get-get_or}
use Rattle.c_types.specs.declared.term.TypeId.{TypeId}
use Rattle.c_types.specs.Table.{types_of}
use Rattle.ref_calls.proofs.TypeLists.{types_longer, types_end}
use Rattle.ref_calls.proofs.signatures.same_list.Goals as goal

pub returns-then-i-b : goal.returns-then-i-b
returns-then-i-b c =
    let a = c.args.a.now in
    let i = c.loop-i.i in
    let d : TypeId = record { 0 = 0 } in
    let at : slice_get a i ≡ Some (get_or a i d) = slice_get-get_or a i d c.loop-i-test.true in
    sym (types_longer (types_of c.args.types.now) a c.args.b.now i (get_or a i d) at c.if-i-b.true) ∙ c.loop-i.invariant.same

pub returns : goal.returns
returns c =
    let a = c.args.a.now in
    let i = c.loop-i.i in
    let past : length a ≡ i = omega (arith, c.loop-i-test.false, c.loop-i.auto.i-end) in
    ap (λ (n : ℕ). nat_eq n (length c.args.b.now)) past
    ∙ (types_end (types_of c.args.types.now) a c.args.b.now i (omega (arith, past)) c.loop-i.invariant.within
    ∙ c.loop-i.invariant.same)
