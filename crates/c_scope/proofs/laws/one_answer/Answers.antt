use Rattle.std.proofs.Common.{◌≡◌, ◌≢◌, Some, sym, ◌∙◌, refl}
use Rattle.c_lexer.specs.declared.Tokens.{Tokens}
use Rattle.c_grammar.specs.declared.trees.Tree.{Tree}
use Rattle.c_scope.specs.declared.kinds.NameFault.{NameFault}
use Rattle.c_scope.specs.declared.kinds.NameFault.TheVariants.{Undeclared, Redeclared, OutOfMemory}
use Rattle.c_scope.specs.Resolves.{IsNameFault, fault_of}
use Rattle.c_scope.proofs.laws.one_answer.Goals as goal

told : (tokens : Tokens) (tree : Tree) (fault : NameFault) → fault ≢ OutOfMemory → IsNameFault tokens tree fault → fault_of tokens tree ≡ Some fault
told tokens tree (Undeclared n) r e = e
told tokens tree (Redeclared n) r e = e
told tokens tree OutOfMemory r e = absurd (r refl)

pub returns : goal.returns
returns c = record {
  bound = λ tokens tree one other h k. (h.uses ∙ sym k.uses, h.labels ∙ sym k.labels);
  fault = λ tokens tree one other r s h k. let e = told tokens tree one r h in let f = told tokens tree other s k in cc (e, f);
  either = λ tokens tree bound fault r h k. let e = told tokens tree fault r k in let f = h.right in cc (e, f);
}
