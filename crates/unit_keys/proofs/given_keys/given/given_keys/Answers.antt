use Rattle.std.proofs.Common.{arith, ◌≡◌, ◌∙◌, ◌+◌, ℕ, length, sym, ap, subst}
use Rattle.std.specs.Global.{Vec}
use Rattle.std.specs.BTreeMap.{BTreeMap}
use Rattle.tree_reads.specs.Sources.{source_in}
use Rattle.unit_keys.specs.given_keys.Given.{AreBelow, AreGiven}
use Rattle.unit_keys.proofs.given_keys.Giving.{given_same}
use Rattle.unit_keys.proofs.given_keys.given.given_keys.Goals as goal
use Rattle.unit_keys.proofs.given_keys.given.given_keys.Goals.{then-flags-node+in_ok-give_at, else-flags-node}

pub loop-node-preserved : goal.loop-node-preserved
loop-node-preserved c = elim c.if-flags-node.branch [
  | then-flags-node+in_ok-give_at w ↦ record {
    long = ap (λ v. length v.items) w.list-is ∙ (w.in_ok-give_at.ensures.long ∙ c.loop-node.invariant.long);
    given = λ uses sense flags numbers keys.
        let s = source_in c.args.syntax.now uses in
        let more = w.in_ok-give_at.ensures.given uses sense (sym (flags.each c.loop-node.node) ∙ w.if-flags-node.true) (subst (AreBelow s) (sym c.loop-node.invariant.long) numbers) keys (c.loop-node.invariant.given uses sense flags numbers keys) in
        subst (λ v. AreGiven s sense v.items c.if-flags-node.given (c.loop-node.node + 1)) (sym w.list-is) (subst (λ (g : BTreeMap (Vec ℕ) ℕ). AreGiven s sense w.give_at.new.list.items g (c.loop-node.node + 1)) (sym w.given-is) more);
  }
  | else-flags-node w ↦ record {
    long = ap (λ v. length v.items) w.list-is ∙ c.loop-node.invariant.long;
    given = λ uses sense flags numbers keys.
        let s = source_in c.args.syntax.now uses in
        let more = given_same s sense c.loop-node.node c.loop-node.list.items c.loop-node.given (sym (flags.each c.loop-node.node) ∙ w.if-flags-node.false) (c.loop-node.invariant.given uses sense flags numbers keys) in
        subst (λ v. AreGiven s sense v.items c.if-flags-node.given (c.loop-node.node + 1)) (sym w.list-is) (subst (λ (g : BTreeMap (Vec ℕ) ℕ). AreGiven s sense c.loop-node.list.items g (c.loop-node.node + 1)) (sym w.given-is) more);
  }
]

pub returns-clause-given : goal.returns-clause-given
returns-clause-given c = λ uses sense flags numbers keys.
    let all : c.loop-node.node ≡ length c.args.syntax.now.tree.now.nodes.items = omega arith in
    (subst (λ (n : ℕ). AreGiven (source_in c.args.syntax.now uses) sense c.loop-node.list.items c.loop-node.given n) all (c.loop-node.invariant.given uses sense flags numbers keys)).got
