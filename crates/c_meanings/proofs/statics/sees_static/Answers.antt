use Rattle.std.proofs.Common.{List, ap, ◌∙◌}
use Rattle.c_scope.specs.declared.kinds.Declared.{Declared}
use Rattle.c_senses.specs.Sense.{sense_in}
use Rattle.c_results.specs.Standing.{senses_made}
use Rattle.tree_reads.specs.Sources.{source_read, source_in}
use Rattle.c_meanings.specs.Known.{nodes_in}
use Rattle.c_meanings.specs.Statics.{some_static}
use Rattle.c_meanings.proofs.statics.sees_static.Goals as goal

pub some_static-is_static-requires-clause-last : goal.some_static-is_static-requires-clause-last
some_static-is_static-requires-clause-last c = c.linked_link-last.ensures.link (source_read c.args.syntax.now) (nodes_in c.args.syntax.now) c.requires.names.chains

pub returns-clause-some : goal.returns-clause-some
returns-clause-some c = λ u uses.
    let s = source_in c.args.syntax.now uses in
    let sense = sense_in (senses_made u c.args.results.now) in
    c.some_static-is_static.ensures u uses
    ∙ ap (λ (l : List Declared). some_static s sense l) (c.linked_link-last.ensures.list s (nodes_in c.args.syntax.now) c.requires.names.chains)

pub returns-clause-seen : goal.returns-clause-seen
returns-clause-seen c = record {
  last = c.linked_link-last.ensures.link (source_read c.args.syntax.now) (nodes_in c.args.syntax.now) c.requires.names.chains;
  flag = c.some_static-is_static.ensures;
}
