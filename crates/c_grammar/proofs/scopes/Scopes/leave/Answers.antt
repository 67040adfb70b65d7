use Rattle.std.proofs.Common.{subst, sym, ◌∙◌, append-nil}
use Rattle.c_grammar.specs.Log.{Kept, Forgets}
use Rattle.c_grammar.proofs.Meanings.{kept_left}
use Rattle.c_grammar.proofs.scopes.Scopes.leave.Goals as goal

pub invariant_of-self : goal.invariant_of-self
invariant_of-self c =
    subst (λ xs. Kept xs c.self.inside.innermost.items c.self.inside.current) (c.in_default.ensures.items ∙ append-nil c.pop.new.self.items) c.self.invariant

pub invariant_of-self-2 : goal.invariant_of-self-2
invariant_of-self-2 c =
    let f = subst (λ xs. Forgets xs c.self.inside.current c.forget.new.current) c.deref.ensures.value c.forget.ensures.forgets in
    let k = kept_left c.self.inside.enclosing.items c.pop.new.self.items c.self.inside.innermost.items c.in-Some.scope c.self.inside.current c.forget.new.current c.in-Some.ensures.items c.self.invariant f c.forget.ensures.indexed in
    subst (λ s. Kept c.pop.new.self.items s.items c.forget.new.current) (sym c.replace.ensures.after) k
