use Rattle.std.proofs.Common.{◌∙◌, ℕ, sym}
use Rattle.c_senses.specs.Tree.{Source}
use Rattle.c_senses.specs.Sense.{Sense, sense_in}
use Rattle.c_results.specs.Standing.{senses_made}
use Rattle.tree_reads.specs.Sources.{source_in}
use Rattle.unit_keys.proofs.given_keys.Keying.{keys_same, keys_put, keys_none}
use Rattle.unit_keys.proofs.given_keys.placed.keep_key.Goals as goal

pub returns-then-not-is_specifier_at : goal.returns-then-not-is_specifier_at
returns-then-not-is_specifier_at c = λ u uses known are.
    keys_same (source_in c.args.syntax.now uses) (sense_in (senses_made u c.args.results.now)) c.args.keys.now c.args.node (sym (c.is_specifier_at.ensures (source_in c.args.syntax.now uses) known.roles) ∙ c.if-not-is_specifier_at.true) are

pub returns-in_ok-put-in-Some : goal.returns-in_ok-put-in-Some
returns-in_ok-put-in-Some c = λ u uses known are.
    let s : Source = source_in c.args.syntax.now uses in
    let sense : ℕ → Sense = sense_in (senses_made u c.args.results.now) in
    let on = sym (c.is_specifier_at.ensures (source_in c.args.syntax.now uses) known.roles) ∙ c.if-not-is_specifier_at.false in
    keys_put s sense c.args.keys.now c.put.new.self c.args.node c.in_ok-own.own (c.in_ok-own.ensures u uses on are known) (c.in_ok-put-in-Some.ensures.here ∙ sym c.in-Some.is) c.in_ok-put-in-Some.ensures.others are

pub returns-in-None : goal.returns-in-None
returns-in-None c = λ u uses known are.
    let s : Source = source_in c.args.syntax.now uses in
    let sense : ℕ → Sense = sense_in (senses_made u c.args.results.now) in
    let on = sym (c.is_specifier_at.ensures (source_in c.args.syntax.now uses) known.roles) ∙ c.if-not-is_specifier_at.false in
    keys_none s sense c.args.keys.now c.args.node c.in_ok-own.own (c.in_ok-own.ensures u uses on are known) c.in-None.is are
