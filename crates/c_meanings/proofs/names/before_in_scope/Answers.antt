use Rattle.std.proofs.Common.{List, sym, ap, subst, ◌∙◌}
use Rattle.std.proofs.lemmas.Result.{IfOk-weaker}
use Rattle.tree_reads.specs.Sources.{source_read, source_in}
use Rattle.name_chains.specs.declared.links.Link.{Link}
use Rattle.name_chains.specs.Links.{listed, IsLinkOf}
use Rattle.c_meanings.specs.Known.{nodes_in}
use Rattle.c_meanings.proofs.names.before_in_scope.Goals as goal

pub list_of-requires-clause-last : goal.list_of-requires-clause-last
list_of-requires-clause-last c =
    subst (λ (l : List Link). IsLinkOf l c.in_scope_link-link.result) (sym c.as_slice.ensures.value) (c.in_scope_link-link.ensures.link (source_read c.args.syntax.now) (nodes_in c.args.syntax.now) c.requires.names.chains)

pub returns-clause-list : goal.returns-clause-list
returns-clause-list c =
    IfOk-weaker c.list_of.result _ _
    (λ v h uses. h ∙ (ap (λ (l : List Link). listed l c.in_scope_link-link.result) c.as_slice.ensures.value ∙ c.in_scope_link-link.ensures.list (source_in c.args.syntax.now uses) (nodes_in c.args.syntax.now) c.requires.names.chains))
    c.list_of.ensures.list
