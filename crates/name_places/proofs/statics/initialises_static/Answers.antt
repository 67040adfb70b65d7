use Rattle.std.proofs.Common.{ℕ, Bool, false, Option, Some, None, length, option_and_then, ap, ◌∙◌}
use Rattle.c_senses.specs.Sense.{sense_in}
use Rattle.c_results.specs.Standing.{senses_made}
use Rattle.tree_reads.specs.Sources.{source_read}
use Rattle.c_senses.specs.Entities.{is_static_object}
use Rattle.name_places.specs.Named.{name_within}
use Rattle.name_places.proofs.statics.initialises_static.Goals as goal

pub returns-in_default : goal.returns-in_default
returns-in_default c = λ u.
    let s = source_read c.args.syntax.now in
    let sense = sense_in (senses_made u c.args.results.now) in
    ap (λ (o : Option ℕ). elim (option_and_then (λ d. name_within (sense d)) o) as (λ q. Bool) [ None ↦ false | Some leaf ↦ is_static_object s sense leaf ]) (c.in_default.ensures sense)

pub is_static_object-requires : goal.is_static_object-requires
is_static_object-requires c = c.in-Some-declared_name.ensures.within (length c.args.syntax.now.tree.now.nodes.items) c.requires.names

pub returns-in-Some-declared_name : goal.returns-in-Some-declared_name
returns-in-Some-declared_name c = λ u.
    let s = source_read c.args.syntax.now in
    let sense = sense_in (senses_made u c.args.results.now) in
    c.is_static_object.ensures u
    ∙ ap (λ (o : Option ℕ). elim o as (λ q. Bool) [ None ↦ false | Some leaf ↦ is_static_object s sense leaf ]) (c.in-Some-declared_name.ensures.name u ∙ ap (λ (o : Option ℕ). option_and_then (λ d. name_within (sense d)) o) (c.in-Some.ensures sense))

pub returns-in-None : goal.returns-in-None
returns-in-None c = λ u.
    let s = source_read c.args.syntax.now in
    let sense = sense_in (senses_made u c.args.results.now) in
    ap (λ (o : Option ℕ). elim o as (λ q. Bool) [ None ↦ false | Some leaf ↦ is_static_object s sense leaf ]) (c.in-None.ensures.name u ∙ ap (λ (o : Option ℕ). option_and_then (λ d. name_within (sense d)) o) (c.in-Some.ensures sense))
