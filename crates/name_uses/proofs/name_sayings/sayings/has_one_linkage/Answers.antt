use Rattle.std.proofs.Common.{Bool, not, ◌||◌, ap, sym, ◌∙◌}
use Rattle.std.proofs.lemmas.Result.{IfOk-weaker}
use Rattle.c_senses.specs.Names.{ordinary_at, before_in_scope}
use Rattle.c_senses.specs.Sense.{sense_in}
use Rattle.c_senses.specs.Entities.{is_internal, same_internal}
use Rattle.c_results.specs.Standing.{senses_made}
use Rattle.tree_reads.specs.Sources.{source_in}
use Rattle.name_uses.proofs.name_sayings.sayings.has_one_linkage.Goals as goal

pub returns-then-not-is_linked-clause-one : goal.returns-then-not-is_linked-clause-one
returns-then-not-is_linked-clause-one c = λ u w uses is.
    let s = source_in c.args.syntax.now uses in
    let sense = sense_in (senses_made u c.args.results.now) in
    let leaf = c.args.leaf in
    ap (λ (b : Bool). not b || same_internal w s sense (is_internal s sense leaf) (before_in_scope s (ordinary_at s leaf))) (sym c.if-not-is_linked.true ∙ c.is_linked.ensures uses sense)

pub returns-clause-one : goal.returns-clause-one
returns-clause-one c =
    IfOk-weaker c.same_before.result _ _
    (λ b h u w uses is.
    let s = source_in c.args.syntax.now uses in
    let sense = sense_in (senses_made u c.args.results.now) in
    let leaf = c.args.leaf in
    h u w uses
    ∙ (ap (λ (x : Bool). same_internal w s sense x (before_in_scope s (ordinary_at s leaf))) is
    ∙ ap (λ (x : Bool). not x || same_internal w s sense (is_internal s sense leaf) (before_in_scope s (ordinary_at s leaf))) (sym c.if-not-is_linked.false ∙ c.is_linked.ensures uses sense)))
    c.same_before.ensures.same
