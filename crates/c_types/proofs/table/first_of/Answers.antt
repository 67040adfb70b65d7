use Rattle.std.proofs.Common.{arith, ◌≡◌, ◌∙◌, sym, ap, Some, None}
use Rattle.c_types.specs.Index.{number_at}
use Rattle.c_types.specs.Keys.{firsts_of, key_of}
use Rattle.c_types.proofs.KeyLemmas.{first_known, first_unknown}
use Rattle.c_types.proofs.table.first_of.Goals as goal

pub returns-in-Some : goal.returns-in-Some
returns-in-Some c =
    let entries = c.args.entries.now in
    let there : number_at c.args.index.now c.args.key.now ≡ Some c.in-Some.found = sym c.find.ensures ∙ c.in-Some.is in
    let known : number_at c.args.index.now (key_of (firsts_of entries) c.args.term.now) ≡ Some c.in-Some.found = ap (number_at c.args.index.now) (sym c.requires.key) ∙ there in
    let (lt, same, least) = first_known entries _ c.requires.entries.1 c.args.index.now c.requires.index c.args.term.now c.requires.types c.in-Some.found known in
    record {
      before = omega arith;
      same = λ _. same;
      least = least;
      known = λ _. there;
      unseen = λ e. absurd (omega arith);
    }

pub returns-in-None : goal.returns-in-None
returns-in-None c =
    let entries = c.args.entries.now in
    let there : number_at c.args.index.now c.args.key.now ≡ None = sym c.find.ensures ∙ c.in-None.is in
    let known : number_at c.args.index.now (key_of (firsts_of entries) c.args.term.now) ≡ None = ap (number_at c.args.index.now) (sym c.requires.key) ∙ there in
    record {
      before = omega arith;
      same = λ lt. absurd (omega arith);
      least = first_unknown entries _ c.requires.entries.1 c.args.index.now c.requires.index c.args.term.now c.requires.types known;
      known = λ lt. absurd (omega arith);
      unseen = λ _. there;
    }
