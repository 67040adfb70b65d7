use Rattle.std.proofs.Common.{◌≡◌, ◌∙◌, ℕ, true, false, List, Option, Some, None, cond, refl, sym, ap}
use Rattle.std.specs.Prelude.{is_some}
use Rattle.c_grammar.specs.Terminals.{contains}
use Rattle.c_senses.specs.Tree.{Source}
use Rattle.c_senses.specs.Keys.{parts_before}
use Rattle.c_senses.specs.World.{or_else}
use Rattle.c_senses.specs.Sense.{Sense, sense_in}
use Rattle.c_results.specs.Standing.{senses_made}
use Rattle.tree_reads.specs.leaf_maps.Numbers.{number_at}
use Rattle.tree_reads.specs.Sources.{source_in}
use Rattle.unit_keys.proofs.Noting.{noted_skip, noted_had, noted_alone, noted_list}
use Rattle.unit_keys.proofs.positions.note_member.Goals as goal

pub returns-then-not-is_member_at : goal.returns-then-not-is_member_at
returns-then-not-is_member_at c = λ u uses roles are.
    let s : Source = source_in c.args.syntax.now uses in
    noted_skip s (sense_in (senses_made u c.args.results.now)) c.args.positions.now c.args.node (sym (c.is_member_at.ensures s roles) ∙ c.if-not-is_member_at.true) are

-- whether a position is there
some_of : (o : Option ℕ) → true ≡ is_some o → (x : ℕ) × (o ≡ Some x)
some_of None e = cc
some_of (Some x) e = (x, refl)

none_of : (o : Option ℕ) → false ≡ is_some o → o ≡ None
none_of None e = refl
none_of (Some x) e = cc

pub returns-then-is_some : goal.returns-then-is_some
returns-then-is_some c = λ u uses roles are.
    let had = some_of c.get.result c.if-is_some.ensures in
    noted_had (source_in c.args.syntax.now uses) (sense_in (senses_made u c.args.results.now)) c.args.positions.now c.args.node had.0 (sym c.get.ensures ∙ had.1) are

pub returns-in_default : goal.returns-in_default
returns-in_default c = λ u uses roles are.
    noted_alone (source_in c.args.syntax.now uses) (sense_in (senses_made u c.args.results.now)) c.args.positions.now c.args.node (sym c.get.ensures ∙ none_of c.get.result c.if-is_some.ensures) (sym c.in_default.ensures.parent) are

pub returns : goal.returns
returns c = λ u uses roles are.
    let s : Source = source_in c.args.syntax.now uses in
    let sense : ℕ → Sense = sense_in (senses_made u c.args.results.now) in
    noted_list s sense c.args.positions.now c.note_positions.new.positions c.args.node c.in-Some.list (sym c.in-Some.ensures.parent)
    (λ k on by.
    c.in_ok-note_positions.ensures.held u uses k on by
    ∙ ap (λ (l : List ℕ). or_else (number_at c.args.positions.now k) (cond (contains l k) (Some (parts_before s sense k l)) None)) c.children_of.ensures)
    (λ k off. c.in_ok-note_positions.ensures.others uses k off) are
