use Rattle.std.proofs.Common.{length, refl, sym, ◌∙◌}
use Rattle.std.specs.Option.{option_copied}
use Rattle.c_meanings.specs.Meanings.{meaning_seen}
use Rattle.name_uses.proofs.Looking.{name_fits, name_strange}
use Rattle.name_uses.proofs.around.around_name.Goals as goal

pub returns-in-Some-clause-within : goal.returns-in-Some-clause-within
returns-in-Some-clause-within c = c.in-Some.ensures.within c.meaning_at.new.unit c.in-Ok.ensures.within

pub returns-in-Some-clause-looked : goal.returns-in-Some-clause-looked
returns-in-Some-clause-looked c = λ w uses pairs is.
    let old = c.args.unit.now in
    let new = c.meaning_at.new.unit in
    let own = c.own_name_unless-own_name in
    let meant = c.in-Ok.ensures.made uses pairs ∙ sym (is.meaning c.args.leaf) in
    name_fits w new (length c.args.syntax.now.tree.now.nodes.items) (meaning_seen new c.in-Ok.meaning) (w.meaning c.args.leaf) c.in-Some.first (option_copied own.result) meant (c.in-Some.ensures.named w new old uses is.may_name)
    (λ none. is.own_name ∙ sym (own.ensures.own old new uses none))

pub returns-in-None-clause-looked : goal.returns-in-None-clause-looked
returns-in-None-clause-looked c = λ w uses pairs is.
    let old = c.args.unit.now in
    let new = c.meaning_at.new.unit in
    let meant = c.in-Ok.ensures.made uses pairs ∙ sym (is.meaning c.args.leaf) in (
      refl,
      refl,
      name_strange (length c.args.syntax.now.tree.now.nodes.items) (meaning_seen new c.in-Ok.meaning) (w.meaning c.args.leaf) meant (c.in-None.ensures.named w new old uses is.may_name),
    )
