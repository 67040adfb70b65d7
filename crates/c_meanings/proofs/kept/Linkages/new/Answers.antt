use Rattle.std.proofs.Common.{◌≡◌, true, false, length, arith}
use Rattle.c_meanings.proofs.kept.Linkages.new.Goals as goal

pub returns-clause-linkages : goal.returns-clause-linkages
returns-clause-linkages c = λ syntax results.
    let names = c.args.names.now in
    record {
      many_linked = let e : length c.in_ok-statics.statics.items ≡ length names.chains.links.items = omega (arith, c.in_ok-statics.ensures.long) in e;
      many_own = let e : length c.in_ok-scopes.scopes.items ≡ length names.chains.own.items = omega (arith, c.in_ok-scopes.ensures.long) in e;
      statics = λ place b e. absurd (c.in_ok-statics.ensures.none place b e);
      scopes = λ place b e. absurd (c.in_ok-scopes.ensures.none place b e);
      own = c.in_ok-own.ensures.thinned syntax results false names.chains.own.items (let e : length names.chains.own.items ≡ c.len-3.result = omega arith in e);
      typing = c.in_ok-typing.ensures.thinned syntax results false names.chains.links.items (let e : length names.chains.links.items ≡ c.len-4.result = omega arith in e);
      internal = c.in_ok-internal.ensures.thinned syntax results true names.symbols.items (let e : length names.symbols.items ≡ c.len-5.result = omega arith in e);
      memory = c.in_ok-memory.ensures.none syntax results;
    }
