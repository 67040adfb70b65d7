use Rattle.std.proofs.Common.{Some, None, sym, ap, ◌∙◌}
use Rattle.c_scope.proofs.Together.{no_chain, meant_here, meant_outside, meant_nowhere}
use Rattle.c_scope.proofs.places.meaning.Goals as goal

pub loop-here-init : goal.loop-here-init
loop-here-init c = λ chain ds h says r g. g chain h

pub loop-here-preserved : goal.loop-here-preserved
loop-here-preserved c = λ chain ds h says r g.
    c.loop-here.invariant chain ds h says r (λ rest k.
    meant_outside c.args.places.now c.args.scopes.now ds c.args.symbol says c.loop-here.place rest c.in-Some.here r k (sym c.in-Some.ensures) (sym c.entry_at.ensures ∙ c.in_default-entry_at.is) c.if-here-place.false g)

pub returns-in-Some-entry_at : goal.returns-in-Some-entry_at
returns-in-Some-entry_at c = λ chain ds h says.
    ap Some c.seen.ensures ∙ c.loop-here.invariant chain ds h says _ (λ rest k.
    meant_here c.args.places.now c.args.scopes.now ds c.args.symbol says c.loop-here.place rest c.in-Some.here c.in-Some-entry_at.entry k (sym c.in-Some.ensures) (sym c.in-Some-entry_at.ensures))

pub returns-then-here-place : goal.returns-then-here-place
returns-then-here-place c = λ chain ds h says.
    c.loop-here.invariant chain ds h says None (λ rest k.
    meant_nowhere c.args.places.now c.args.scopes.now ds c.args.symbol says c.loop-here.place rest c.in-Some.here k (sym c.in-Some.ensures) (sym c.entry_at.ensures ∙ c.in_default-entry_at.is) c.if-here-place.true)

pub returns : goal.returns
returns c = λ chain ds h says.
    c.loop-here.invariant chain ds h says None (λ rest k. absurd (no_chain c.args.places.now c.args.scopes.now ds c.args.symbol says c.loop-here.place rest k (sym c.scope_at.ensures ∙ c.in_default.is)))
