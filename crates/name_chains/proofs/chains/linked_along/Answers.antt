use Rattle.std.proofs.Common.{◌≡◌, ℕ, ◌+◌, ◌-◌, ◌<◌, List, Option, length, get_or, drop, sym, ap, subst, ◌∙◌, arith}
use Rattle.std.proofs.Math.Seq.{drop-length}
use Rattle.c_scope.specs.Known.{those_at}
use Rattle.c_senses.specs.Names as names
use Rattle.name_chains.specs.declared.chains.Chain.{Chain}
use Rattle.name_chains.specs.Chains.{chain_at, ChainSays}
use Rattle.name_chains.proofs.Linked.{listed-none, adds_none}
use Rattle.name_chains.proofs.Chained.{grows_none, grows_on, chain_says_kept, along_step}
use Rattle.name_chains.proofs.chains.linked_along.Goals as goal

pub loop-at-init : goal.loop-at-init
loop-at-init c = record {
  at = omega arith;
  grows = grows_none c.args.own.now c.args.links.now.items c.requires.links;
  last = tt;
  list = λ ds says. listed-none c.args.links.now.items ∙ sym (ap (λ (t : List ℕ). names.linked_along t c.args.symbol ds) (drop-length c.args.scopes.now));
}

pub loop-at-preserved : goal.loop-at-preserved
loop-at-preserved c =
    let own = c.args.own.now in
    let first = c.args.links.now.items in
    let old = c.loop-at.links.items in
    let new = c.with_outer.new.links.items in
    let scopes = c.args.scopes.now in
    let here : ℕ = c.loop-at.at - 1 in
    let before : here < length scopes = omega (arith, c.loop-at.invariant.at) in
    let back : here + 1 ≡ c.loop-at.at = omega arith in
    let scope : ℕ = get_or scopes here 0 in
    record {
      at = omega (arith, c.loop-at.invariant.at);
      grows = grows_on own first old new c.loop-at.invariant.grows c.in_ok-outer.ensures.grows;
      last = c.in_ok-outer.ensures.last;
      list = λ ds says.
          let those = those_at scope c.args.symbol ds in
          let kept = chain_says_kept own own first old (adds_none own c.requires.own) c.loop-at.invariant.grows.adds (chain_at c.args.chains.now scope c.args.symbol) those
          (c.requires.within.each scope c.args.symbol) (says.each scope c.args.symbol) in
          let chain = subst (λ (o : Option Chain). ChainSays own old o those) (sym c.chain_at-chain.ensures) kept in
          c.in_ok-outer.ensures.list those chain
          ∙ (ap (names.with_outer those) (c.loop-at.invariant.list ds says ∙ ap (λ (n : ℕ). names.linked_along (drop n scopes) c.args.symbol ds) (sym back))
          ∙ along_step scopes here c.args.symbol 0 ds before);
    }
