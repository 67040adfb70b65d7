use Rattle.std.proofs.Common.{List, length}
use Rattle.c_grammar.specs.Reads.{Node}
use Rattle.c_mentions.specs.Syntax.{nodes_of}
use Rattle.c_scope.specs.Known.{Happening, nothing_known, first_label}
use Rattle.c_scope.specs.Resolves.{happenings, bindings}
use Rattle.c_senses.specs.Names.{source_of, names_of}
use Rattle.sense_cases.proofs.Finding.{known_found, nothing_found}
use Rattle.sense_cases.proofs.laws.declarations_made.Goals as goal

pub returns : goal.returns
unfolding source_of names_of bindings
returns c = λ tokens tree.
    let nodes : List Node = nodes_of tree.nodes.items in
    let all : List Happening = happenings tokens.text.now tokens.list.items nodes in
    known_found (length nodes) (first_label 0 all) 0 nothing_known all nothing_found
