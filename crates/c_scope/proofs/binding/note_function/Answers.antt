use Rattle.std.proofs.Common.{Bool, sym, subst}
use Rattle.c_scope.specs.Binding.{HasAll, with_function}
use Rattle.c_scope.proofs.Keys.{among_more}
use Rattle.c_scope.proofs.Steps.{has_more}
use Rattle.c_scope.proofs.binding.note_function.Goals as goal

pub returns-in_ok-insert : goal.returns-in_ok-insert
returns-in_ok-insert c = λ list h.
    subst (λ (b : Bool). HasAll c.insert.new.self (with_function c.args.node b list)) (sym c.if-is_function.true)
    (has_more c.args.functions.now c.insert.new.self list c.args.node (among_more c.args.functions.now c.insert.new.self c.args.node c.in_ok-insert.ensures.updates.0) h)
