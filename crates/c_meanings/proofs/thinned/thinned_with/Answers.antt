use Rattle.std.proofs.Common.{◌≡◌, true, List, Bool, Some, sym, subst}
use Rattle.std.proofs.lemmas.Result.{IfOk-weaker}
use Rattle.name_chains.specs.declared.links.Link.{Link}
use Rattle.name_chains.specs.Links.{listed}
use Rattle.c_meanings.specs.Thinned.{GoesOn, IsRound, one_if}
use Rattle.c_meanings.proofs.Rounds.{goes_round}
use Rattle.c_meanings.proofs.Thinning.{goes_more}
use Rattle.c_meanings.proofs.thinned.thinned_with.Goals as goal

pub returns-in-Some-clause-thin : goal.returns-in-Some-clause-thin
returns-in-Some-clause-thin c =
    let syntax = c.args.syntax.now in
    let results = c.args.results.now in
    let items = c.args.links.now.items in
    let thin = listed items c.args.last in
    let kept = listed items (Some c.in-Some.kept) in
    let wanted : c.args.wanted ≡ true = c.if-not-wanted.false in
    let r : IsRound syntax results thin kept c.args.declared =
    subst (λ (l : List Link). IsRound syntax results (listed l c.args.last) (listed l (Some c.in-Some.kept)) c.args.declared) c.as_slice.ensures.value c.in-Some.ensures.round in
    subst (λ (b : Bool). GoesOn syntax results thin (one_if b c.args.declared) kept) (sym wanted) (goes_round syntax results thin kept c.args.declared r)

pub returns-clause-thin : goal.returns-clause-thin
returns-clause-thin c =
    let syntax = c.args.syntax.now in
    let results = c.args.results.now in
    let thin = listed c.args.links.now.items c.args.last in
    let wanted : c.args.wanted ≡ true = c.if-not-wanted.false in
    IfOk-weaker c.push_link.result _ _
    (λ end e.
    let new = listed c.push_link.new.links.items end in
    subst (λ (b : Bool). GoesOn syntax results thin (one_if b c.args.declared) new) (sym wanted) (goes_more syntax results thin new c.args.declared e))
    c.push_link.ensures.list
