use Rattle.std.proofs.Common.{◌≡◌, None, ap, ◌∙◌}
use Rattle.c_scope.specs.Known.{those_at}
use Rattle.c_scope.specs.Places.{joined, clash, entry_at, entry_after, declared_at}
use Rattle.c_scope.proofs.Together.{says_more, clash_together}
use Rattle.c_scope.proofs.places.declare.Goals as goal

pub returns-clause-says : goal.returns-clause-says
returns-clause-says c = λ ds h.
    let old = c.args.places.now in
    let scope = c.args.scope in
    let symbol = c.args.symbol in
    let e : c.joined.result ≡ joined (entry_at old scope symbol) c.args.entry = c.joined.ensures ∙ ap (λ o. joined o c.args.entry) c.entry_at-before.ensures in
    says_more old c.put.new.places ds (declared_at scope symbol c.args.entry) c.args.entry h
    (λ other sign. c.in_ok-put.ensures other sign ∙ ap (λ x. entry_after old scope symbol x other sign) e)

pub returns-clause-clash : goal.returns-clause-clash
returns-clause-clash c = λ ds h.
    c.clash.ensures ∙ (ap (λ o. clash o c.args.entry.kind) (c.entry_at-before.ensures ∙ h c.args.scope c.args.symbol) ∙ clash_together None (those_at c.args.scope c.args.symbol ds) c.args.entry.kind)
