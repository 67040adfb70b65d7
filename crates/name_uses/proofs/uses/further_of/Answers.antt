use Rattle.std.proofs.Common.{arith, ◌≡◌, ◌<◌, ◌≤◌, ℕ, Bool, Option, None, length, sym, ap, ◌∙◌, lt-ltb, le-ltb}
use Rattle.std.specs.Prelude.{nat_lt, if◌then◌else◌}
use Rattle.c_senses.specs.Entities.{declaration_of, further_by}
use Rattle.c_senses.specs.Sense.{sense_in}
use Rattle.c_results.specs.Standing.{senses_made}
use Rattle.tree_reads.specs.Sources.{source_in}
use Rattle.name_uses.proofs.uses.further_of.Goals as goal

past_tree : (leaf n : ℕ) (o : Option ℕ) → n ≤ leaf → None ≡ (if nat_lt leaf n then o else None)
past_tree leaf n o h = sym (ap (λ (b : Bool). if b then o else None) (le-ltb leaf n h))

in_tree : (leaf n : ℕ) (r o : Option ℕ) → leaf < n → r ≡ o → r ≡ (if nat_lt leaf n then o else None)
in_tree leaf n r o h e = e ∙ sym (ap (λ (b : Bool). if b then o else None) (lt-ltb leaf n h))

pub returns-then-leaf-len : goal.returns-then-leaf-len
returns-then-leaf-len c = λ u w uses.
    let s = source_in c.args.syntax.now uses in
    let sense = sense_in (senses_made u c.args.results.now) in
    past_tree c.args.leaf (length c.args.syntax.now.tree.now.nodes.items) (further_by w s sense c.args.leaf (declaration_of s sense c.args.leaf)) (omega arith)

pub returns-in-Some : goal.returns-in-Some
returns-in-Some c = λ u w uses.
    let s = source_in c.args.syntax.now uses in
    let sense = sense_in (senses_made u c.args.results.now) in
    in_tree c.args.leaf (length c.args.syntax.now.tree.now.nodes.items) c.further_by.result (further_by w s sense c.args.leaf (declaration_of s sense c.args.leaf)) (omega arith)
    (c.further_by.ensures u w uses ∙ ap (further_by w s sense c.args.leaf) (c.in-Some.ensures.declaration sense))

pub returns-in-None : goal.returns-in-None
returns-in-None c = λ u w uses.
    let s = source_in c.args.syntax.now uses in
    let sense = sense_in (senses_made u c.args.results.now) in
    in_tree c.args.leaf (length c.args.syntax.now.tree.now.nodes.items) None (further_by w s sense c.args.leaf (declaration_of s sense c.args.leaf)) (omega arith)
    (ap (further_by w s sense c.args.leaf) (c.in-None.ensures.declaration sense))
