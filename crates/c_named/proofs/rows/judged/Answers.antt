use Rattle.std.proofs.Common.{◌≡◌, ℕ, ◌<◌, Option, IfSome, length, subst, Some, sym, ap}
use Rattle.c_senses.specs.Sense.{Sense, IsDeclarator}
use Rattle.c_senses.specs.Declarators.{base_type}
use Rattle.c_senses.specs.Rows.{at_its_name}
use Rattle.c_results.specs.Standing.{sense_made, derivations_seen}
use Rattle.c_named.proofs.Judging.{passes_same, unasked, unnamed, named_so, named_below}
use Rattle.c_named.proofs.rows.judged.Goals as goal
use Rattle.c_senses.specs.Sense.{sense_in}
use Rattle.c_results.specs.Standing.{senses_made}
use Rattle.tree_reads.specs.Sources.{source_in}

pub returns-in_default-clause-row : goal.returns-in_default-clause-row
returns-in_default-clause-row c = λ w uses knows completed said fits g.
    let s = source_in c.args.syntax.now uses in
    let old = c.args.unit.now in
    let sense = sense_in (senses_made old c.args.results.now) in
    unnamed w s sense c.args.at c.args.children.now (sense_made old c.args.made.now) g fits (c.in_default.ensures.name old w)

pub returns-in-None-clause-row : goal.returns-in-None-clause-row
returns-in-None-clause-row c = λ w uses knows completed said fits g.
    let s = source_in c.args.syntax.now uses in
    let old = c.args.unit.now in
    let sense = sense_in (senses_made old c.args.results.now) in
    unasked w s sense c.args.at (sense_made old c.args.made.now) (base_type w s sense c.args.at) g (c.in-None.ensures.seen old)

pub at_its_name-requires-clause-derivations : goal.at_its_name-requires-clause-derivations
at_its_name-requires-clause-derivations c = c.in-Some-declarator_made.ensures.within c.args.unit.now c.requires.made

pub returns-in-Some-declarator_made-clause-row : goal.returns-in-Some-declarator_made-clause-row
returns-in-Some-declarator_made-clause-row c = λ w uses knows completed said fits.
    let s = source_in c.args.syntax.now uses in
    let old = c.args.unit.now in
    let sense = sense_in (senses_made old c.args.results.now) in
    let x = sense_made old c.args.made.now in
    let ds = derivations_seen old.types c.in-Some-declarator_made.steps.now in
    let named = c.in-Some.ensures.name old w in
    let is : x ≡ IsDeclarator (Some c.in-Some.leaf) ds = named_so w s sense c.args.at c.args.children.now x c.in-Some.leaf _ ds fits named (c.in-Some-declarator_made.ensures.seen old) in
    passes_same c.at_its_name.result (λ g. at_its_name w s sense c.args.at g (base_type w s sense c.args.at) (IsDeclarator (Some c.in-Some.leaf) ds)) (λ g. at_its_name w s sense c.args.at g (base_type w s sense c.args.at) x)
    (λ g. ap (λ (y : Sense). at_its_name w s sense c.args.at g (base_type w s sense c.args.at) y) is)
    (c.at_its_name.ensures.row w uses knows completed (said c.in-Some.leaf (sym named)))

pub returns-in_default-clause-named : goal.returns-in_default-clause-named
returns-in_default-clause-named c = λ w uses fits.
    let s = source_in c.args.syntax.now uses in
    let old = c.args.unit.now in
    let sense = sense_in (senses_made old c.args.results.now) in
    let count = length c.args.syntax.now.tree.now.nodes.items in
    named_below w s sense c.args.at c.args.children.now old count c.args.made.now fits
    (subst (λ (o : Option ℕ). IfSome o (λ leaf. leaf < count)) (c.in_default.ensures.name old w) (c.in_default.ensures.within c.requires.names))

pub returns-in-None-clause-named : goal.returns-in-None-clause-named
returns-in-None-clause-named c = λ w uses fits.
    let s = source_in c.args.syntax.now uses in
    let old = c.args.unit.now in
    let sense = sense_in (senses_made old c.args.results.now) in
    let count = length c.args.syntax.now.tree.now.nodes.items in
    named_below w s sense c.args.at c.args.children.now old count c.args.made.now fits
    (subst (λ (o : Option ℕ). IfSome o (λ leaf. leaf < count)) (c.in-Some.ensures.name old w) (c.in-Some.ensures.within c.requires.names))

pub returns-in-Some-declarator_made-clause-named : goal.returns-in-Some-declarator_made-clause-named
returns-in-Some-declarator_made-clause-named c = λ w uses fits.
    let s = source_in c.args.syntax.now uses in
    let old = c.args.unit.now in
    let sense = sense_in (senses_made old c.args.results.now) in
    let count = length c.args.syntax.now.tree.now.nodes.items in
    named_below w s sense c.args.at c.args.children.now old count c.args.made.now fits
    (subst (λ (o : Option ℕ). IfSome o (λ leaf. leaf < count)) (c.in-Some.ensures.name old w) (c.in-Some.ensures.within c.requires.names))
