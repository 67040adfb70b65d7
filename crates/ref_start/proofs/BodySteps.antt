-- The initialisers of static objects, and a table of what stands under them.
use Rattle.std.proofs.Common.{arith, ◌≡◌, ℕ, zero, suc, ◌<◌, ◌≤◌, List, [], ◌∷◌, length, Option, Some, None, Bool, true, false, IfSome, All, get_or, slice_get, refl, ap, sym, subst, ◌∙◌}
use Rattle.std.specs.Prelude.{if◌then◌else◌}
use Rattle.std.specs.List.{cons_option}
use Rattle.std.proofs.lemmas.Grind.{get_or_default_zero}
use Rattle.std.proofs.lemmas.List.Elements.{All-nil, All-cons}
use Rattle.std.proofs.lemmas.Option.{slice_get_within}
use Rattle.core_tree.specs.declared.node.Entity.{Entity}
use Rattle.core_tree.specs.Range.{InRange}
use Rattle.core_tree.specs.Typed.{CoreTrees}
use Rattle.core_nodes.specs.kept_nodes.Marked.{marked, IsAmong}
use Rattle.unit_finish.specs.unit_parts.Marked.{AreMarked}
use Rattle.ref_cells.specs.declared.cells.Value.{Value}
use Rattle.ref_cells.specs.declared.instance.Instance.{Instance}
use Rattle.ref_start.specs.Objects.{is_static}
use Rattle.ref_start.specs.Fixed.{PartsGiven, BodiesGiven, MarkedGiven, static_body, static_bodies}

if_all : (P : ℕ → Type 0) (b : Bool) (o : Option ℕ) → IfSome o P → IfSome (if b then o else None) P
if_all P true o h = h
if_all P false o h = tt

one_all : (P : ℕ → Type 0) (o : Option ℕ) (rest : List ℕ) → IfSome o P → All P rest → All P (cons_option o rest)
one_all P None rest h all = all
one_all P (Some b) rest h all = All-cons P b rest h all

bodies_all : (P : ℕ → Type 0) (entities : List Entity) → ((e : ℕ) (entity : Entity) → slice_get entities e ≡ Some entity → IfSome entity.body P) → All P (static_bodies entities)
bodies_all P [] each = All-nil P
bodies_all P (x ∷ entities) each =
    one_all P (static_body x) (static_bodies entities) (if_all P (is_static x.storage) x.body (each zero x refl))
    (bodies_all P entities (λ e entity at. each (suc e) entity at))

-- the initialisers are nodes
pub bodies_within : (u : CoreTrees) → InRange u → All (λ b. b < length u.nodes) (static_bodies u.entities)
bodies_within u range = bodies_all (λ b. b < length u.nodes) u.entities range.bodies

first_among : (o : Option ℕ) (b : ℕ) (rest : List ℕ) → o ≡ Some b → IsAmong b (cons_option o rest) (length (cons_option o rest))
first_among o b rest is =
    subst (λ (p : Option ℕ). IsAmong b (cons_option p rest) (length (cons_option p rest))) (sym is) (0, omega arith, refl)

more_among : (o : Option ℕ) (b : ℕ) (rest : List ℕ) → IsAmong b rest (length rest) → IsAmong b (cons_option o rest) (length (cons_option o rest))
more_among None b rest h = h
more_among (Some x) b rest h = (suc h.0, omega (arith, h.1), h.2)

body_among : (entities : List Entity) (e : ℕ) (entity : Entity) (b : ℕ) → slice_get entities e ≡ Some entity → static_body entity ≡ Some b
    → IsAmong b (static_bodies entities) (length (static_bodies entities))
body_among [] e entity b at is = cc
body_among (x ∷ entities) zero entity b at is =
    let same : x ≡ entity = cc in
    first_among (static_body x) b (static_bodies entities) (ap static_body same ∙ is)
body_among (x ∷ entities) (suc e) entity b at is = more_among (static_body x) b (static_bodies entities) (body_among entities e entity b at is)

module _ (u : CoreTrees) (memory : List Instance) (marks : List Bool) where
  module _ (range : InRange u) (are : AreMarked u.nodes (static_bodies u.entities) marks) (table : List (Option Value)) where
    -- a marked node's operands are marked, and have smaller numbers
    pub parts_given : (count n : ℕ) → n ≤ count → marked marks n → MarkedGiven u memory marks count table → PartsGiven u memory table n
    parts_given count n within m given node there =
        λ j d lt.
        let c = get_or node.children j d in
        let same : c ≡ get_or node.children j 0 = get_or_default_zero node.children j d lt in
        let below : c < n = range.children n node there j d lt in
        given c (omega (arith, below, within)) (subst (marked marks) (sym same) (are.closed n node there m j lt))

    pub bodies_given : (count : ℕ) → length u.nodes ≤ count → MarkedGiven u memory marks count table → BodiesGiven u memory table
    bodies_given count past given e entity b at is node there =
        let among = body_among u.entities e entity b at is in
        let within : b < length u.nodes = slice_get_within u.nodes b node there in
        parts_given count b (omega (arith, within, past)) (subst (marked marks) among.2 (are.tops among.0 among.1)) given node there
