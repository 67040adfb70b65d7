use Rattle.std.proofs.Common.{◌≡◌, ℕ, ◌+◌, ◌-◌, ◌<◌, map, sym, ◌∙◌, subst, arith}
use Rattle.std.proofs.lemmas.List.{length-map}
use Rattle.c_grammar.specs.Tree.{nests}
use Rattle.c_grammar.specs.Reads.{node_of}
use Rattle.c_parser.specs.declared.levels.Part.{Part}
use Rattle.c_parser.specs.Leads.{IsRaised, GoesOn, at_part}
use Rattle.c_parser.proofs.Chains.{raised_more}
use Rattle.c_parser.proofs.levels.add_levels.Goals as goal

pub loop-inner-init : goal.loop-inner-init
loop-inner-init c = λ text tokens place scopes is own z g.
    let from = c.args.from in
    let all : from.level ≡ from.level - 0 = omega arith in
    subst (λ (k : ℕ). GoesOn text tokens c.args.outermost k from.depth c.args.token own (at_part place scopes (map node_of c.args.nodes.now.items) from.number) z) (sym all) g

pub loop-inner-preserved : goal.loop-inner-preserved
loop-inner-preserved c =
    let from = c.args.from in
    let inner = c.loop-inner.inner in
    let now : Part = record { level = from.level - inner; depth = c.loop-inner.depth; number = c.loop-inner.number } in
    let to : Part = record { level = from.level - (inner + 1); depth = c.saturating_sub-depth.result; number = c.in_ok-number.number } in
    let more = c.in_ok-number.ensures in
    let high : c.args.outermost < from.level - inner = omega arith in
    let low : from.level - inner < 44 = omega (arith, c.requires.to) in
    let next : from.level - (inner + 1) ≡ (from.level - inner) - 1 = omega arith in
    let up : c.saturating_sub-depth.result ≡ c.loop-inner.depth - nests (from.level - inner) = omega (arith, c.nests.ensures.is) in
    raised_more c.args.outermost c.args.token c.args.first from to (map node_of c.args.nodes.now.items) (map node_of c.loop-inner.nodes.items) (map node_of c.add_over.new.nodes.items) now c.requires.from high low
    (sym c.stays.ensures ∙ c.if-not-stays.false) c.loop-inner.invariant next up (more.0 ∙ sym (length-map c.loop-inner.nodes.items node_of)) more.1

pub returns-then-not-stays-clause-raised : goal.returns-then-not-stays-clause-raised
returns-then-not-stays-clause-raised c = c.loop-inner.invariant

pub returns-clause-raised : goal.returns-clause-raised
returns-clause-raised c =
    let from = c.args.from in
    let all : from.level - c.loop-inner.inner ≡ c.args.outermost = omega (arith, c.requires.order) in
    subst (λ (k : ℕ). IsRaised c.args.outermost c.args.token c.args.first from (map node_of c.args.nodes.now.items) (record { level = k; depth = c.loop-inner.depth; number = c.loop-inner.number }) (map node_of c.loop-inner.nodes.items)) all c.loop-inner.invariant
