use Rattle.std.proofs.Common.{arith, ◌≡◌, ◌<◌, ℕ, List, All, Option, Some, length, sym, ap, ◌∙◌, subst}
use Rattle.std.proofs.lemmas.Option.{slice_get_within}
use Rattle.c_senses.specs.Tree.{paired}
use Rattle.tree_reads.specs.leaf_maps.Numbers.{number_at}
use Rattle.unit_finish.specs.declared.unit_parts.declared.Declared.{Declared}
use Rattle.unit_finish.specs.unit_parts.Entities.{bodies_of}
use Rattle.unit_finish.specs.own_bodies.Own.{lasting_bodies, initialises_from}
use Rattle.unit_finish.proofs.own_bodies.Found.{found_at, owned_within}
use Rattle.unit_finish.proofs.own_bodies.Items.{lasting_all}
use Rattle.unit_finish.proofs.own_bodies.bodies.with_own_bodies.Goals as goal

pub marks_under-requires-clause-tops : goal.marks_under-requires-clause-tops
marks_under-requires-clause-tops c =
    let ns = c.args.nodes.now in
    let P : ℕ → Type 0 = λ t. t < length ns in
    let tops : c.as_slice-2.result.now ≡ lasting_bodies c.args.list.items = c.as_slice-2.ensures.value ∙ (c.in_ok-tops.ensures ∙ ap lasting_bodies c.as_slice.ensures.value) in
    subst (λ (l : List ℕ). All P l) (sym tops) (lasting_all P c.args.list.items c.requires.bodies)

pub returns-clause-within : goal.returns-clause-within
returns-clause-within c =
    let ns = c.args.nodes.now in
    let marks = c.in_ok-marks.marks.items in
    let at : ℕ → Option ℕ = number_at c.in_ok-numbers.numbers in
    let pairs : c.as_slice-4.result.now ≡ initialises_from 0 c.as_slice-3.result.now ns = c.as_slice-4.ensures.value ∙ c.in_ok-pairs.ensures in
    let few : (leaf m : ℕ) → at leaf ≡ Some m → m < length ns = λ leaf m e.
    (let f = found_at 0 c.as_slice-3.result.now ns leaf m (sym (ap (λ (l : List (ℕ × ℕ)). paired l leaf) pairs) ∙ (sym (c.in_ok-numbers.ensures leaf) ∙ e)) in
    omega (arith, f.number, slice_get_within ns f.place f.node f.there)) in
    subst (λ (l : List Declared). All (λ b. b < length ns) (bodies_of l)) (sym c.in_ok-owned.ensures) (owned_within (length ns) at few c.args.list.items c.requires.bodies)
