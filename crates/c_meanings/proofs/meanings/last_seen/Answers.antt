use Rattle.c_senses.specs.Entities.{last_of}
use Rattle.name_chains.specs.Links.{listed}
use Rattle.name_chains.proofs.Linked.{listed-none}
use Rattle.c_meanings.proofs.Lists.{ends, last-push}
use Rattle.std.proofs.Common.{Some, refl, ap, sym, ◌∙◌}
use Rattle.tree_reads.specs.Sources.{source_read, source_in}
use Rattle.c_meanings.specs.Known.{nodes_in}
use Rattle.c_meanings.proofs.meanings.last_seen.Goals as goal

pub link_at-requires : goal.link_at-requires
link_at-requires c = c.in-Some.ensures.link (source_read c.args.syntax.now) (nodes_in c.args.syntax.now) c.requires.names.chains

pub returns-in-Some-clause-last : goal.returns-in-Some-clause-last
returns-in-Some-clause-last c = λ uses sense.
    let s = source_in c.args.syntax.now uses in
    let xs = c.args.names.now.chains.links.items in
    let l = c.link_at.result in
    let h = c.requires.names.chains in
    sym (last-push s sense c.args.leaf (listed xs l.before) l.declared)
    ∙ ap (last_of s sense c.args.leaf) (sym (ends xs c.in-Some.link l c.link_at.ensures h.links (Some c.in-Some.link) refl) ∙ c.in-Some.ensures.list s (nodes_in c.args.syntax.now) h)

pub returns-in-None-clause-last : goal.returns-in-None-clause-last
returns-in-None-clause-last c = λ uses sense.
    let s = source_in c.args.syntax.now uses in
    ap (last_of s sense c.args.leaf) (sym (listed-none c.args.names.now.chains.links.items) ∙ c.in-None.ensures.list s (nodes_in c.args.syntax.now) c.requires.names.chains)
