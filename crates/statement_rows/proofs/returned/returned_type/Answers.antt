use Rattle.std.proofs.Common.{arith, ◌≤◌, ℕ, Option, Some, None, length, option_and_then, sym, ap, ◌∙◌}
use Rattle.c_types.specs.Trees.{Ctype}
use Rattle.c_senses.specs.Sense.{sense_in}
use Rattle.c_results.specs.Standing.{senses_made}
use Rattle.tree_reads.specs.Sources.{source_in, source_read}
use Rattle.c_senses.specs.Entities.{own_type, result_of}
use Rattle.c_entities.specs.Types.{type_in}
use Rattle.statement_rows.proofs.Placing.{no_own_type}
use Rattle.statement_rows.proofs.returned.returned_type.Goals as goal

pub returns-in_default-clause-seen : goal.returns-in_default-clause-seen
returns-in_default-clause-seen c = λ w uses.
    let s = source_in c.args.syntax.now uses in
    let sense = sense_in (senses_made c.args.unit.now c.args.results.now) in
    sym (ap (λ (o : Option ℕ). elim (option_and_then (own_type s sense) o) as (λ _. Option Ctype) [ None ↦ None | Some t ↦ Some (result_of w s sense t) ]) (c.in_default.ensures c.args.unit.now))

pub returns-then-leaf-len-clause-seen : goal.returns-then-leaf-len-clause-seen
returns-then-leaf-len-clause-seen c = λ w uses.
    let s = source_in c.args.syntax.now uses in
    let sense = sense_in (senses_made c.args.unit.now c.args.results.now) in
    let past : length c.args.syntax.now.tree.now.nodes.items ≤ c.in-Some.leaf = omega arith in
    sym (ap (λ (o : Option ℕ). elim (option_and_then (own_type s sense) o) as (λ _. Option Ctype) [ None ↦ None | Some t ↦ Some (result_of w s sense t) ]) (c.in-Some.ensures c.args.unit.now))
    ∙ ap (λ (o : Option Ctype). elim o as (λ _. Option Ctype) [ None ↦ None | Some t ↦ Some (result_of w s sense t) ]) (no_own_type (source_read c.args.syntax.now) c.requires.ordered c.in-Some.leaf past sense)

pub returns-in-Ok-Some-clause-seen : goal.returns-in-Ok-Some-clause-seen
returns-in-Ok-Some-clause-seen c = λ w uses.
    let s = source_in c.args.syntax.now uses in
    let sense = sense_in (senses_made c.args.unit.now c.args.results.now) in
    let table = c.own_type.new.unit.types in
    let own = ap (type_in table) (sym c.in-Ok-Some.field-0-is) ∙ c.in-Ok-Some.ensures.made in
    sym (ap (λ (o : Option ℕ). elim (option_and_then (own_type s sense) o) as (λ _. Option Ctype) [ None ↦ None | Some t ↦ Some (result_of w s sense t) ]) (c.in-Some.ensures c.args.unit.now))
    ∙ (ap (λ (o : Option Ctype). elim o as (λ _. Option Ctype) [ None ↦ None | Some t ↦ Some (result_of w s sense t) ]) (sym own) ∙ ap Some (sym (c.result_of.ensures.result w s sense)))

pub returns-in-Ok-None-clause-seen : goal.returns-in-Ok-None-clause-seen
returns-in-Ok-None-clause-seen c = λ w uses.
    let s = source_in c.args.syntax.now uses in
    let sense = sense_in (senses_made c.args.unit.now c.args.results.now) in
    let table = c.own_type.new.unit.types in
    let own = ap (type_in table) (sym c.in-Ok-None.field-0-is) ∙ c.in-Ok-None.ensures.made in
    sym (ap (λ (o : Option ℕ). elim (option_and_then (own_type s sense) o) as (λ _. Option Ctype) [ None ↦ None | Some t ↦ Some (result_of w s sense t) ]) (c.in-Some.ensures c.args.unit.now))
    ∙ ap (λ (o : Option Ctype). elim o as (λ _. Option Ctype) [ None ↦ None | Some t ↦ Some (result_of w s sense t) ]) (sym own)
