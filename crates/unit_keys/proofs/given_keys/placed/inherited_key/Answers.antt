use Rattle.std.proofs.Common.{◌∙◌, ℕ, List, ◌++◌, Some, None, sym, ap}
use Rattle.std.specs.Prelude.{option_and_then, codes, decimal}
use Rattle.std.specs.Option.{option_copied}
use Rattle.c_senses.specs.Tree.{Source}
use Rattle.c_senses.specs.Keys.{key_of, word_of_key}
use Rattle.c_senses.specs.Sense.{Sense, sense_in}
use Rattle.c_results.specs.Standing.{senses_made}
use Rattle.tree_reads.specs.Sources.{source_in}
use Rattle.unit_keys.specs.given_keys.Keyed.{key_around}
use Rattle.unit_keys.proofs.given_keys.KeyIs.{parents_behind, around_behind}
use Rattle.unit_keys.proofs.given_keys.Keying.{no_members, none_around, some_around, key_found}
use Rattle.unit_keys.proofs.given_keys.placed.inherited_key.Goals as goal

pub returns-then-not-has_members : goal.returns-then-not-has_members
returns-then-not-has_members c = λ u uses keys positions.
    let s : Source = source_in c.args.syntax.now uses in
    let sense : ℕ → Sense = sense_in (senses_made u c.args.results.now) in
    no_members s sense c.args.node (key_around s sense c.args.node) (sym (c.has_members.ensures u uses) ∙ c.if-not-has_members.true)

pub returns-in_default : goal.returns-in_default
returns-in_default c = λ u uses keys positions.
    let s : Source = source_in c.args.syntax.now uses in
    let sense : ℕ → Sense = sense_in (senses_made u c.args.results.now) in
    none_around s sense c.args.node (key_around s sense c.args.node) (ap (option_and_then (key_of s sense)) (sym (c.structure_around.ensures.around uses sense) ∙ c.in_default.is))

pub returns-in_ok-key-in-Some-get : goal.returns-in_ok-key-in-Some-get
returns-in_ok-key-in-Some-get c = λ u uses keys positions.
    let s : Source = source_in c.args.syntax.now uses in
    let sense : ℕ → Sense = sense_in (senses_made u c.args.results.now) in
    let node = c.args.node in
    let structure = c.in-Some.structure in
    let es = sym (c.structure_around.ensures.around uses sense) ∙ c.in-Some.is in
    let b = around_behind s (parents_behind s c.requires.first) sense node structure es in
    let on = sym (c.is_specifier.ensures uses) ∙ c.if-not-is_specifier.false in
    let found = key_found s sense c.args.behind.now node structure (Some c.in-Some-get.around.now) keys b.0 b.1 on es (sym c.get.ensures ∙ ap option_copied c.in-Some-get.is) in
    some_around s sense node (key_around s sense node) c.in-Some-get.around.now c.in_ok-key-in-Some-get.key c.position_in-position.result (sym (c.has_members.ensures u uses) ∙ c.if-not-has_members.false) found (c.position_in-position.ensures uses sense positions)
    (c.in_ok-key-in-Some-get.ensures uses ∙ ap (λ (l : List ℕ). word_of_key s node ++ (l ++ (codes ":" ++ decimal c.position_in-position.result))) c.as_str.ensures)

pub returns-in-None : goal.returns-in-None
returns-in-None c = λ u uses keys positions.
    let s : Source = source_in c.args.syntax.now uses in
    let sense : ℕ → Sense = sense_in (senses_made u c.args.results.now) in
    let node = c.args.node in
    let structure = c.in-Some.structure in
    let es = sym (c.structure_around.ensures.around uses sense) ∙ c.in-Some.is in
    let b = around_behind s (parents_behind s c.requires.first) sense node structure es in
    let on = sym (c.is_specifier.ensures uses) ∙ c.if-not-is_specifier.false in
    none_around s sense node (key_around s sense node) (key_found s sense c.args.behind.now node structure None keys b.0 b.1 on es (sym c.get.ensures ∙ ap option_copied c.in-None.is))
