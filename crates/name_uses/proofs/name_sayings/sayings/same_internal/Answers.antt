use Rattle.std.proofs.Common.{refl, sym, ◌∙◌, arith}
use Rattle.c_senses.specs.Sense.{sense_in}
use Rattle.c_results.specs.Standing.{senses_made}
use Rattle.tree_reads.specs.Sources.{source_in}
use Rattle.name_uses.proofs.name_sayings.Saying.{same_more, same_ends, same_none, no_declaration, one_flag, two_flags}
use Rattle.name_uses.proofs.name_sayings.sayings.same_internal.Goals as goal

pub returns-then-is_internal_after-internal : goal.returns-then-is_internal_after-internal
returns-then-is_internal_after-internal c = λ u w uses.
    let s = source_in c.args.syntax.now uses in
    let sense = sense_in (senses_made u c.args.results.now) in
    sym (same_ends w s sense c.args.internal c.args.declarations.now c.loop-declared.declared-index no_declaration c.loop-declared-test.true c.is_internal_after.result (c.is_internal_after.ensures.internal u uses) (two_flags c.is_internal_after.result c.args.internal c.if-is_internal_after-internal.true))
    ∙ c.loop-declared.invariant.same u w uses

pub loop-declared-init : goal.loop-declared-init
loop-declared-init c = record {
  seen = c.nothing_seen-seen.ensures c.args.syntax.now c.args.results.now c.args.names.now;
  same = λ u w uses. refl;
}

pub loop-declared-preserved : goal.loop-declared-preserved
loop-declared-preserved c = record {
  seen = c.is_internal_after.ensures.seen;
  same = λ u w uses.
      let s = source_in c.args.syntax.now uses in
      let sense = sense_in (senses_made u c.args.results.now) in
      same_more w s sense c.args.internal c.args.declarations.now c.loop-declared.declared-index no_declaration c.loop-declared-test.true c.is_internal_after.result (c.is_internal_after.ensures.internal u uses) (one_flag c.is_internal_after.result c.args.internal c.if-is_internal_after-internal.false)
      ∙ c.loop-declared.invariant.same u w uses;
}

pub returns : goal.returns
returns c = λ u w uses.
    let s = source_in c.args.syntax.now uses in
    let sense = sense_in (senses_made u c.args.results.now) in
    let ds = c.args.declarations.now in
    sym (same_none w s sense c.args.internal ds c.loop-declared.declared-index (omega arith)) ∙ c.loop-declared.invariant.same u w uses
