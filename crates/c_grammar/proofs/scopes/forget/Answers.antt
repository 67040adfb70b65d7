use Rattle.std.proofs.Common.{◌≡◌, ◌+◌, ◌-◌, ◌<◌, ◌++◌, ◌∷◌, [], length, take, sym, ap, ◌∙◌, subst, arith}
use Rattle.std.proofs.lemmas.List.{take_more}
use Rattle.c_grammar.specs.Log.{Says, Restores}
use Rattle.c_grammar.proofs.Meanings.{says_less}
use Rattle.c_grammar.proofs.scopes.forget.Goals as goal

pub loop-rest-preserved : goal.loop-rest-preserved
loop-rest-preserved c =
    let xs = c.args.scope.now in
    let d = c.index-scope-rest.result in
    let i = c.loop-rest.rest - 1 in
    let within = c.loop-rest.invariant.within in
    let l : i < length xs = omega arith in
    let k : c.loop-rest.rest ≡ i + 1 = omega arith in
    let e : take c.loop-rest.rest xs ≡ take i xs ++ d ∷ [] = ap (λ n. take n xs) k ∙ (take_more xs i d l ∙ ap (λ x. take i xs ++ x ∷ []) (sym c.index-scope-rest.is)) in
    record {
      within = omega arith;
      says = λ earlier h. says_less earlier (take i xs) d c.loop-rest.current c.restore.new.current (subst (λ ys. Says earlier ys c.loop-rest.current) e (c.loop-rest.invariant.says earlier h))
          (subst (λ n. Restores c.loop-rest.current n d.before c.restore.new.current) c.deref.ensures.value c.restore.ensures.restores);
      indexed = c.restore.ensures.indexed;
    }
