use Rattle.std.proofs.Common.{◌≡◌, ◌∙◌, ℕ, Bool, List, ap, sym, subst}
use Rattle.c_types.specs.Table.{type_of}
use Rattle.carried_trees.specs.carried_types.Types.{carried_type, is_given_type}
use Rattle.carried_trees.specs.carried_types.Terms.{tag_type, term_type, is_given_term}
use Rattle.carried_trees.proofs.carried_types.Numbers.{grown_on, term_carried, term_given, types_more}
use Rattle.carried_trees.proofs.carried_types.types.carried_types.Goals as goal

pub returns-in_err-new-clause-grown : goal.returns-in_err-new-clause-grown
returns-in_err-new-clause-grown c = grown_on c.args.types.now c.loop-id.types c.add_carried.new.types c.loop-id.invariant.grown c.add_carried.ensures.grown

pub returns-in_err-push-clause-grown : goal.returns-in_err-push-clause-grown
returns-in_err-push-clause-grown c = grown_on c.args.types.now c.loop-id.types c.add_carried.new.types c.loop-id.invariant.grown c.add_carried.ensures.grown

pub returns-in_err-push-2-clause-grown : goal.returns-in_err-push-2-clause-grown
returns-in_err-push-2-clause-grown c = grown_on c.args.types.now c.loop-id.types c.add_carried.new.types c.loop-id.invariant.grown c.add_carried.ensures.grown

pub loop-id-preserved : goal.loop-id-preserved
loop-id-preserved c =
    let table = c.args.types.now in
    let u = c.loop-id.types in
    let v = c.add_carried.new.types in
    let old = c.args.old.now in
    let tags = c.args.tags.now in
    let tag = tag_type table tags in
    let id = c.loop-id.id in
    let ids = c.loop-id.ids.items in
    let given = c.loop-id.given.items in
    let inv = c.loop-id.invariant in
    let grown = c.add_carried.ensures.grown in
    let after = c.term-term.ensures.types in
    let term = c.term-term.result.now in
    let made : type_of v c.in_ok-new.new ≡ carried_type tag (type_of old id) =
    subst (λ (l : List ℕ). type_of v c.in_ok-new.new ≡ term_type u l tags term) c.as_slice.ensures.value c.in_ok-new.ensures.made
    ∙ (term_carried table old u tags c.requires.tags inv.grown.types id ids given inv.carried term after ∙ sym (ap (carried_type tag) c.term-term.ensures.tree)) in
    let flag : c.is_given-flag.result ≡ is_given_type tag (type_of old id) =
    subst (λ (l : List Bool). c.is_given-flag.result ≡ is_given_term l tags term) c.as_slice-in-loop-id.ensures.value c.is_given-flag.ensures
    ∙ (term_given table old u tags c.requires.tags inv.grown.types id ids given inv.carried term after ∙ sym (ap (is_given_type tag) c.term-term.ensures.tree)) in
    record {
      grown = grown_on table u v inv.grown grown;
      carried = types_more tag old u v id ids c.push.new.self.items given c.push-in-loop-id.new.self.items inv.carried grown.terms grown.types c.in_ok-new.new c.is_given-flag.result
          c.in_ok-push.ensures.items c.in_ok-push-2.ensures.items c.in_ok-new.ensures.within made flag;
    }
