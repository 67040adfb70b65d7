use Rattle.std.proofs.Common.{Option, length, sym, subst}
use Rattle.c_meanings.specs.declared.meanings.Meaning.{Meaning}
use Rattle.c_meanings.specs.Meanings.{meaning_seen, IsMeaningWithin}
use Rattle.name_uses.specs.Looked.{NamedUnless}
use Rattle.name_uses.proofs.named.named_of.Goals as goal

pub returns-in-Some-clause-within : goal.returns-in-Some-clause-within
returns-in-Some-clause-within c = λ u h. c.named_as.ensures.within u (subst (λ (m : Option Meaning). IsMeaningWithin u m) c.in-Some.is h)

pub returns-in-Some-clause-named : goal.returns-in-Some-clause-named
returns-in-Some-clause-named c = λ w u v uses may.
    subst (λ (m : Option Meaning). NamedUnless w u (length c.args.syntax.now.tree.now.nodes.items) (meaning_seen u m) c.named_as.result) (sym c.in-Some.is) (c.named_as.ensures.named w u v uses may)
