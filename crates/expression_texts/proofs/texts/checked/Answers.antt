use Rattle.std.proofs.Common.{◌≡◌, ℕ, Bool, true, false, MatchBool}
use Rattle.expression_texts.proofs.texts.checked.Goals as goal

told_here : (b : Bool) (P Q : Type 0) → b ≡ true → MatchBool b P Q → P
told_here true P Q e h = h
told_here false P Q e h = cc

pub is_told-requires-clause-first : goal.is_told-requires-clause-first
is_told-requires-clause-first c = c.children_first.ensures c.args.found.now c.args.tree.now.unit c.args.tree.now (λ (d : ℕ). d) c.requires.read

pub check_expression-requires-clause-first : goal.check_expression-requires-clause-first
check_expression-requires-clause-first c = c.children_first.ensures c.args.found.now c.args.tree.now.unit c.args.tree.now (λ (d : ℕ). d) c.requires.read

pub check_expression-requires-clause-told : goal.check_expression-requires-clause-told
check_expression-requires-clause-told c = told_here c.in-Ok.told _ _ c.if-not-told.false c.in-Ok.ensures.told
