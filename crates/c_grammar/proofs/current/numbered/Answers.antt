use Rattle.std.proofs.Common.{◌≡◌, ◌<◌, length, ap, arith}
use Rattle.c_grammar.proofs.Entries.{indexed_by, entry_within}
use Rattle.c_grammar.proofs.current.numbered.Goals as goal

pub returns-in_err-remember-clause-indexed : goal.returns-in_err-remember-clause-indexed
returns-in_err-remember-clause-indexed c =
    indexed_by c.entry_for.new.current c.remember.new.current (ap (λ v. v.items) c.remember.ensures.spelled) (ap (λ v. length v.items) c.remember.ensures.meant) (ap (λ p. p.entries) c.remember.ensures.places) c.in_ok-place.ensures.indexed

pub returns-clause-indexed : goal.returns-clause-indexed
returns-clause-indexed c =
    indexed_by c.entry_for.new.current c.remember.new.current (ap (λ v. v.items) c.remember.ensures.spelled) (ap (λ v. length v.items) c.remember.ensures.meant) (ap (λ p. p.entries) c.remember.ensures.places) c.in_ok-place.ensures.indexed

pub returns-clause-within : goal.returns-clause-within
returns-clause-within c =
    omega (arith, ap (λ v. length v.items) c.remember.ensures.spelled, entry_within c.entry_for.new.current c.in_ok-place.ensures.indexed c.args.name.now c.in_ok-place.place c.in_ok-place.ensures.place)
