use Rattle.std.proofs.Common.{◌≡◌, ◌∙◌, ◌++◌, ℕ, List, map, sym, ap}
use Rattle.std.specs.Borrow.{Bor}
use Rattle.c_senses.specs.Tree.{Source, spelling_at, children_at}
use Rattle.c_senses.specs.Keys.{names_among, names_in_rest}
use Rattle.c_senses.specs.Sense.{Sense, sense_in}
use Rattle.c_results.specs.Standing.{senses_made}
use Rattle.tree_reads.specs.Sources.{source_in}
use Rattle.unit_keys.proofs.Naming.{rest_found, rest_missing}
use Rattle.unit_keys.proofs.names.leaves_in.Goals as goal
use Rattle.unit_keys.proofs.names.leaves_in.Goals.{in-Some, in-None}

pub returns : goal.returns
returns c = λ u uses.
    let s : Source = source_in c.args.syntax.now uses in
    let sense : ℕ → Sense = sense_in (senses_made u c.args.results.now) in
    let d = c.args.declaration in
    let rest : names_among s sense c.match-child_of.rest.now ≡ names_in_rest s sense (children_at s d) =
    elim c.match-child_of.branch [
      | in-Some w ↦
          ap (λ (r : Bor (List ℕ)). names_among s sense r.now) w.rest-is
          ∙ (ap (names_among s sense) w.children_of-rest.ensures ∙ sym (rest_found s sense d w.in-Some.rest (sym w.in-Some.is ∙ c.child_of.ensures)))
      | in-None w ↦ ap (λ (r : Bor (List ℕ)). names_among s sense r.now) w.rest-is ∙ sym (rest_missing s sense d (sym w.in-None.is ∙ c.child_of.ensures))
    ] in
    let first : map (spelling_at s) c.add_leaves.new.leaves.items ≡ names_among s sense (children_at s d) =
    c.in_ok-add_leaves.ensures u uses
    ∙ (ap (λ (l : List ℕ). map (spelling_at s) l ++ names_among s sense c.children_of-children.result.now) c.new-leaves.ensures.items ∙ ap (names_among s sense) c.children_of-children.ensures) in
    c.in_ok-add_leaves-2.ensures u uses
    ∙ (ap (λ (l : List (List ℕ)). l ++ names_among s sense c.match-child_of.rest.now) first ∙ ap (λ (l : List (List ℕ)). names_among s sense (children_at s d) ++ l) rest)
