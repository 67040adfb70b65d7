use Rattle.std.proofs.Common.{List, length, sym, subst}
use Rattle.std.specs.List.{Contains}
use Rattle.c_grammar.specs.Reads.{Node}
use Rattle.c_mentions.specs.Syntax.{nodes_of}
use Rattle.c_scope.specs.Known.{Happening, nothing_known, first_label}
use Rattle.c_scope.specs.Resolves.{happenings, bindings, known_before}
use Rattle.c_scope.proofs.Growing.{use_paired}
use Rattle.c_scope.proofs.laws.uses_paired.Goals as goal

pub returns : goal.returns
unfolding bindings known_before
returns c = λ tokens tree bound b n h symbol u.
    let nodes : List Node = nodes_of tree.nodes.items in
    let all : List Happening = happenings tokens.text.now tokens.list.items nodes in
    let p = use_paired (length nodes) (first_label 0 all) nothing_known all n h symbol u.0 u.1 b.right in
    (p.0, p.1, subst (λ l. Contains l (n, p.0.node)) (sym b.uses) p.2)
