use Rattle.std.proofs.Common.{◌≡◌, ◌<◌, ℕ, List, Option, Some, get_or, slice_get, length, refl, ap, subst, ◌∙◌}
use Rattle.std.proofs.lemmas.Option.{slice_get-get_or}
use Rattle.name_chains.specs.declared.links.Link.{Link}
use Rattle.name_chains.specs.Links.{IsLinkOf}
use Rattle.name_chains.proofs.Linked.{no_link, back_link, back_less}
use Rattle.c_meanings.proofs.Rounds.{IsTail, tail_begins, tail_more, tail_round}
use Rattle.c_meanings.proofs.thinned.is_round.Goals as goal

found : (xs : List Link) (at : Option ℕ) (i : ℕ) → at ≡ Some i → IsLinkOf xs at → slice_get xs i ≡ Some (get_or xs i no_link)
found xs at i is h = slice_get-get_or xs i no_link (subst (IsLinkOf xs) is h)

pub loop-other-init : goal.loop-other-init
loop-other-init c =
    let xs = c.args.links.now in
    let back = c.requires.backward in
    let lt : c.args.kept < length xs = c.requires.kept in
    record {
      one = back_link xs (Some c.args.kept) c.args.kept no_link refl lt back;
      other = c.requires.last;
      tail = tail_begins c.args.syntax.now c.args.results.now xs back c.args.last c.args.kept c.args.declared (get_or xs c.args.kept no_link) (found xs (Some c.args.kept) c.args.kept refl lt) (c.is_alike.ensures c.if-not-is_alike.false);
    }

pub returns-then-there-kept : goal.returns-then-there-kept
returns-then-there-kept c = λ e.
    let syntax = c.args.syntax.now in
    let results = c.args.results.now in
    let xs = c.args.links.now in
    let at : c.loop-other.other ≡ Some c.args.kept = c.in-Some.is ∙ ap Some c.if-there-kept.true in
    tail_round syntax results xs c.requires.backward c.args.last c.args.kept c.args.declared c.loop-other.one
    (subst (λ (o : Option ℕ). IsTail syntax results xs c.args.last c.args.kept c.args.declared c.loop-other.one o) at c.loop-other.invariant.tail)

pub loop-other-smaller : goal.loop-other-smaller
loop-other-smaller c = back_less c.args.links.now c.loop-other.other c.in-Some.there no_link c.in-Some.is c.loop-other.invariant.other c.requires.backward

pub loop-other-preserved : goal.loop-other-preserved
loop-other-preserved c =
    let syntax = c.args.syntax.now in
    let results = c.args.results.now in
    let xs = c.args.links.now in
    let back = c.requires.backward in
    let here = c.in-Some-one.here in
    let there = c.in-Some.there in
    let h = c.loop-other.invariant in
    let tail : IsTail syntax results xs c.args.last c.args.kept c.args.declared (Some here) (Some there) =
    subst (λ (o : Option ℕ). IsTail syntax results xs c.args.last c.args.kept c.args.declared o (Some there)) c.in-Some-one.is
    (subst (λ (o : Option ℕ). IsTail syntax results xs c.args.last c.args.kept c.args.declared c.loop-other.one o) c.in-Some.is h.tail) in
    record {
      one = back_link xs c.loop-other.one here no_link c.in-Some-one.is h.one back;
      other = back_link xs c.loop-other.other there no_link c.in-Some.is h.other back;
      tail = tail_more syntax results xs back c.args.last c.args.kept c.args.declared here there (get_or xs here no_link) (get_or xs there no_link) (found xs c.loop-other.one here c.in-Some-one.is h.one)
          (found xs c.loop-other.other there c.in-Some.is h.other) (c.is_alike-in-Some.ensures c.if-not-is_alike-2.false) tail;
    }
