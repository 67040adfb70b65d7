use Rattle.std.proofs.lemmas.Result.{IfOk-weaker}
use Rattle.c_scope.specs.declared.kinds.Declared.{Declared}
use Rattle.c_senses.specs.Entities.{all_together, types_of}
use Rattle.name_chains.specs.declared.links.Link.{Link}
use Rattle.name_chains.specs.Links.{listed, IsLinkOf}
use Rattle.std.proofs.Common.{List, None, ap, sym, subst, ◌∙◌}
use Rattle.c_senses.specs.Sense.{sense_in}
use Rattle.c_results.specs.Standing.{senses_made}
use Rattle.tree_reads.specs.Sources.{source_read, source_in}
use Rattle.c_meanings.specs.Known.{nodes_in}
use Rattle.c_meanings.proofs.types.type_behind.Goals as goal

pub list_of-requires-clause-last : goal.list_of-requires-clause-last
list_of-requires-clause-last c =
    subst (λ (l : List Link). IsLinkOf l c.typing_link-link.result) (sym c.as_slice.ensures.value) (c.typing_link-link.ensures.link (source_read c.args.syntax.now) (nodes_in c.args.syntax.now) c.requires.names.named.chained.chains)

pub returns-clause-made : goal.returns-clause-made
returns-clause-made c =
    let u = c.args.unit.now in
    let sense = sense_in (senses_made u c.args.results.now) in
    IfOk-weaker c.all_of.result _ _
    (λ t h uses.
    let s = source_in c.args.syntax.now uses in
    h uses
    ∙ ap (λ (l : List Declared). all_together None (types_of s sense l))
    (c.as_slice-2.ensures.value ∙ (c.in-Ok.ensures.list ∙ (ap (λ (l : List Link). listed l c.typing_link-link.result) c.as_slice.ensures.value
    ∙ c.typing_link-link.ensures.list s (nodes_in c.args.syntax.now) c.requires.names.named.chained.chains))))
    c.all_of.ensures.made
