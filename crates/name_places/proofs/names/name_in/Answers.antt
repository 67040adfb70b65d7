use Rattle.std.proofs.Common.{ℕ, ◌<◌, Option, IfSome, length, refl, sym, subst}
use Rattle.name_places.proofs.Standing.{first_name_below}
use Rattle.c_senses.specs.Sense.{sense_in}
use Rattle.c_results.specs.Standing.{senses_made}
use Rattle.tree_reads.specs.Sources.{source_read}
use Rattle.c_entities.proofs.PassedOn.{name_is}
use Rattle.name_places.proofs.names.name_in.Goals as goal

pub returns-in-Some-inner-clause-name : goal.returns-in-Some-inner-clause-name
returns-in-Some-inner-clause-name c = λ u w.
    name_is w (source_read c.args.syntax.now) (sense_in (senses_made u c.args.results.now)) c.args.children.now _ _ (sym c.in-None.ensures) (c.in-Some-inner.ensures.seen u) refl

pub returns-in-None-inner-clause-name : goal.returns-in-None-inner-clause-name
returns-in-None-inner-clause-name c = λ u w.
    name_is w (source_read c.args.syntax.now) (sense_in (senses_made u c.args.results.now)) c.args.children.now _ _ (sym c.in-None.ensures) (c.in-None-inner.ensures.seen u) refl

pub returns-in-Some-clause-within : goal.returns-in-Some-clause-within
returns-in-Some-clause-within c = λ all.
    let s = source_read c.args.syntax.now in
    subst (λ (o : Option ℕ). IfSome o (λ leaf. leaf < length c.args.syntax.now.tree.now.nodes.items)) (sym c.in-Some.ensures) (first_name_below s c.args.children.now)

pub returns-in-Some-inner-clause-within : goal.returns-in-Some-inner-clause-within
returns-in-Some-inner-clause-within c = λ all. c.in-Some-inner.ensures.named (length c.args.syntax.now.tree.now.nodes.items) all
