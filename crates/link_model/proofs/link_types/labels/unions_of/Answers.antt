use Rattle.std.proofs.Common.{◌||◌, ◌∙◌, sym, ap}
use Rattle.link_model.specs.Units.{is_union_of}
use Rattle.link_model.proofs.link_types.Unions.{any_more}
use Rattle.link_model.proofs.link_types.labels.unions_of.Goals as goal

pub loop-id-preserved : goal.loop-id-preserved
loop-id-preserved c = record {
  all = c.mark_union.ensures.all ∙ c.loop-id.invariant.all;
  each = λ tag. c.mark_union.ensures.each tag ∙ (ap (λ b. b || is_union_of tag c.term.result.now) (c.loop-id.invariant.each tag) ∙ sym (any_more (is_union_of tag) c.args.types.now.terms c.loop-id.id c.term.result.now c.term.ensures.value));
}
