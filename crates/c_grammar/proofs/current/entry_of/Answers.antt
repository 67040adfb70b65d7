use Rattle.std.proofs.Common.{◌≡◌, ◌∙◌}
use Rattle.c_grammar.specs.Current.{place_in}
use Rattle.c_grammar.proofs.Meanings.{found_at}
use Rattle.c_grammar.proofs.Entries.{within_of}
use Rattle.c_grammar.proofs.current.entry_of.Goals as goal

pub returns-in-None-clause-is : goal.returns-in-None-clause-is
returns-in-None-clause-is c = c.copied.ensures ∙ (c.get.ensures.value ∙ found_at c.args.name.now c.args.current.now.places.entries)

pub returns-in-None-clause-within : goal.returns-in-None-clause-within
returns-in-None-clause-within c =
    let is : c.copied.result ≡ place_in c.args.current.now.places c.args.name.now = c.copied.ensures ∙ (c.get.ensures.value ∙ found_at c.args.name.now c.args.current.now.places.entries) in
    within_of c.args.current.now c.requires c.args.name.now c.copied.result is
