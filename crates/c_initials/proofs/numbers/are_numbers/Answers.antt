use Rattle.std.proofs.Common.{arith, ◌≡◌, ◌<◌, ◌+◌, ◌∙◌, sym}
use Rattle.c_consts.specs.Core.{nodes_of, nodes_in}
use Rattle.core_nodes.specs.Standing.{core_at, cores_at}
use Rattle.c_initials.proofs.NumberLaws.{pop_fixed, pop_nodes, goes_on, stops}
use Rattle.c_initials.proofs.numbers.are_numbers.Goals as goal

pub returns-then-not-branch : goal.returns-then-not-branch
returns-then-not-branch c =
    let u = c.args.unit.now in
    stops c.in_ok-push_parts.field-0 _ _ c.in_ok-push_parts.ensures.fixed c.if-not-branch.true
    ∙ sym (c.loop-node.invariant.fixed ∙ pop_fixed u c.loop-node.stack.items c.pop.new.self.items c.in-Some.node c.in-Some.ensures.items)

pub loop-node-smaller : goal.loop-node-smaller
loop-node-smaller c =
    let u = c.args.unit.now in
    let popped : nodes_of (cores_at u c.loop-node.stack.items) ≡ nodes_of (cores_at u c.pop.new.self.items) + nodes_in (core_at u c.in-Some.node) =
    pop_nodes u c.loop-node.stack.items c.pop.new.self.items c.in-Some.node c.in-Some.ensures.items in
    let fewer : nodes_of (cores_at u c.push_parts.new.stack.items) < nodes_of (cores_at u c.pop.new.self.items) + nodes_in (core_at u c.in-Some.node) = c.in_ok-push_parts.ensures.fewer in
    let less : nodes_of (cores_at u c.push_parts.new.stack.items) < nodes_of (cores_at u c.loop-node.stack.items) = omega (arith, popped, fewer) in
    less

pub loop-node-preserved : goal.loop-node-preserved
loop-node-preserved c =
    let u = c.args.unit.now in
    record {
      within = c.in_ok-push_parts.ensures.within;
      fixed = c.loop-node.invariant.fixed ∙ pop_fixed u c.loop-node.stack.items c.pop.new.self.items c.in-Some.node c.in-Some.ensures.items
          ∙ goes_on c.in_ok-push_parts.field-0 _ _ c.in_ok-push_parts.ensures.fixed c.if-not-branch.false;
    }
