use Rattle.std.proofs.Common.{[], ◌∙◌}
use Rattle.unit_walk.proofs.Sources.{bound_there, first_there, leaves_there, spelled_there, names_there, named_before, opened_memory}
use Rattle.unit_walk.proofs.units.ground_of.Goals as goal

pub returns-in-Err-clause-memory : goal.returns-in-Err-clause-memory
returns-in-Err-clause-memory c =
    let n = c.in-Ok-number_tags.numbered in
    let told = c.in-Ok-number_tags.ensures in
    let b = c.args.bound.now in
    opened_memory n.syntax b c.in-Err.fault
    (leaves_there n.syntax c.args.tokens.now c.args.tree.now b (told.tokens ∙ c.in-Ok.ensures.tokens) (told.tree ∙ c.in-Ok.ensures.tree) c.requires.bound c.requires.first)
    c.in-Err.ensures.faults

pub returns-in-Err-name_kinds-clause-memory : goal.returns-in-Err-name_kinds-clause-memory
returns-in-Err-name_kinds-clause-memory c =
    let n = c.in-Ok-number_tags.numbered in
    let told = c.in-Ok-number_tags.ensures in
    let b = c.args.bound.now in
    let bind = bound_there n.syntax c.args.tokens.now c.args.tree.now b (told.tokens ∙ c.in-Ok.ensures.tokens) (told.tree ∙ c.in-Ok.ensures.tree) c.requires.bound in
    c.in-Err-name_kinds.ensures.built (names_there n.syntax b c.in-Ok-open_names.both.1 bind c.in-Ok-open_names.ensures.lists)

pub returns-clause-ground : goal.returns-clause-ground
returns-clause-ground c = λ u.
    let n = c.in-Ok-number_tags.numbered in
    let told = c.in-Ok-number_tags.ensures in
    let b = c.args.bound.now in
    let opened = c.in-Ok-open_names.ensures in
    let named = opened.names u in
    record {
      tags = told.tags;
      names = named_before n.syntax c.in-Ok-open_names.both.0 named.named;
      lists = opened.lists;
      pairs = opened.uses;
      kinds = c.in-Ok-name_kinds.ensures.kinds [];
      ordered = first_there n.syntax c.args.tokens.now c.args.tree.now b (told.tokens ∙ c.in-Ok.ensures.tokens) (told.tree ∙ c.in-Ok.ensures.tree) c.requires.bound c.requires.first;
      spelled = spelled_there n.syntax c.args.tokens.now c.args.tree.now b (told.tokens ∙ c.in-Ok.ensures.tokens) (told.tree ∙ c.in-Ok.ensures.tree) c.requires.bound c.requires.tokens b.uses.items;
    }
