use Rattle.std.proofs.Common.{rules, ℤ, to_z-of_z, FitsSigned, Some, length, sym, subst}
use Rattle.std.specs.Int.{w128}
use Rattle.c_senses.specs.World.{Value}
use Rattle.c_meanings.specs.declared.meanings.Meaning.{Meaning}
use Rattle.c_meanings.specs.Meanings.{meaning_seen}
use Rattle.name_uses.specs.Looked.{NamedUnless}
use Rattle.name_uses.proofs.named.named_as.Goals as goal

pub returns-in-Object-clause-named : goal.returns-in-Object-clause-named
returns-in-Object-clause-named c = λ w u v uses may.
    subst (λ (m : Meaning). NamedUnless w u (length c.args.syntax.now.tree.now.nodes.items) (meaning_seen u (Some m)) c.object_named.result) (sym c.in-Object.is) (c.object_named.ensures.named w u v uses may)

pub returns-in-Value-clause-within : goal.returns-in-Value-clause-within
returns-in-Value-clause-within c = λ u h. c.number_named.ensures.within u

pub returns-in-Value-clause-named : goal.returns-in-Value-clause-named
returns-in-Value-clause-named c = λ w u v uses may.
    let n = length c.args.syntax.now.tree.now.nodes.items in
    let fits : FitsSigned w128 c.in-Value.value = search rules in
    let named = subst (λ (k : ℤ). NamedUnless w u n (Some (Value k)) c.number_named.result) (to_z-of_z fits) (c.number_named.ensures.named w u n) in
    subst (λ (m : Meaning). NamedUnless w u n (meaning_seen u (Some m)) c.number_named.result) (sym c.in-Value.is) named
