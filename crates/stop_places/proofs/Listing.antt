-- The stops of one node more.
use Rattle.std.proofs.Common.{◌≡◌, ◌↔◌, ℕ, ◌+◌, ◌<◌, ◌≤◌, Bool, true, false, IsTrue, List, [], ◌∷◌, ◌++◌, Some, length, get_or, slice_get, AllPairs, Contains, refl, sym, ◌∙◌, ap, subst, inl, inr, arith, append-nil, append_assoc}
use Rattle.std.proofs.lemmas.Bool.{cases_lt, false≢true}
use Rattle.std.proofs.lemmas.List.Elements.{Contains-get_or, Contains-append_left, Contains-append_right, Contains-append_cases}
use Rattle.std.proofs.lemmas.List.Quantifiers.{all_pairs_push}
use Rattle.std.proofs.lemmas.Option.{same_Some, slice_get_within}
use Rattle.c_types.specs.Table.{type_of}
use Rattle.core_tree.specs.declared.node.Node.{Node}
use Rattle.stop_places.specs.declared.list.Stop.{Stop}
use Rattle.stop_places.specs.Fits.{Solution}
use Rattle.stop_places.specs.Stops.{Stands, StandsBy, IsBefore, AreStops, AreStopsBelow, stop_if, stops_at}

abbrev stop : ℕ → Bool → Stop
stop n call = record { node = n; call = call }

from_if : (b : Bool) (n : ℕ) (call : Bool) (s : Stop) → Contains (stop_if b n call) s → (b ≡ true) × (stop n call ≡ s)
from_if true n call s h = (refl, (let lt = h.1 in let first : h.0 ≡ 0 = omega arith in subst (λ k. get_or (stop n call ∷ []) k s ≡ s) first h.2))
from_if false n call s h = absurd (let lt = h.1 in omega arith)

to_if : (b : Bool) (n : ℕ) (call : Bool) → b ≡ true → Contains (stop_if b n call) (stop n call)
to_if true n call h = (0, omega arith, refl)
to_if false n call h = absurd (false≢true h)

pushed_order : (b : Bool) (xs : List Stop) (n : ℕ) (call : Bool) → AllPairs IsBefore xs → ((s : Stop) → Contains xs s → IsBefore s (stop n call)) → AllPairs IsBefore (xs ++ stop_if b n call)
pushed_order true xs n call order before = all_pairs_push IsBefore xs (stop n call) order (λ k d lt. before (get_or xs k d) (Contains-get_or xs k d lt))
pushed_order false xs n call order before = subst (AllPairs IsBefore) (sym (append-nil xs)) order

module _ (x : Solution) (n : ℕ) (m b : Bool) (is_m : IsTrue m ↔ Stands x n false) (is_b : IsTrue b ↔ Stands x n true) where
  here : (s : Stop) → Contains (stops_at n m b) s → (s.node ≡ n) × Stands x s.node s.call
  here s h = elim (Contains-append_cases (stop_if m n false) (stop_if b n true) s h) [
    | inl first ↦ (let a = from_if m n false s first in (sym (ap (λ (t : Stop). t.node) a.1), subst (λ (t : Stop). Stands x t.node t.call) a.1 (is_m.0 a.0)))
    | inr second ↦ (let a = from_if b n true s second in (sym (ap (λ (t : Stop). t.node) a.1), subst (λ (t : Stop). Stands x t.node t.call) a.1 (is_b.0 a.0)))
  ]

  there : (call : Bool) → Stands x n call → Contains (stops_at n m b) (stop n call)
  there false h = Contains-append_left (stop_if m n false) (stop_if b n true) (stop n false) (to_if m n false (is_m.1 h))
  there true h = Contains-append_right (stop_if m n false) (stop_if b n true) (stop n true) (to_if b n true (is_b.1 h))

  pub stops_more : (old new : List Stop) → new ≡ old ++ stops_at n m b → AreStopsBelow x n old → AreStopsBelow x (n + 1) new
  stops_more old new is before = record {
    listed = λ s. (
      (λ h. elim (Contains-append_cases old (stops_at n m b) s (subst (λ xs. Contains xs s) is h)) [
        | inl early ↦ (let a = (before.listed s).0 early in (omega (arith, a.0), a.1))
        | inr now ↦ (let a = here s now in (omega (arith, a.0), a.1))
      ]),
      (λ h. subst (λ xs. Contains xs s) (sym is) (elim (cases_lt s.node n) [
        | inl lt ↦ Contains-append_left old (stops_at n m b) s ((before.listed s).1 (lt, h.1))
        | inr ge ↦ (let below = h.0 in let same : n ≡ s.node = omega arith in
            Contains-append_right old (stops_at n m b) s
            (subst (λ k. Contains (stops_at n m b) (stop k s.call)) same (there s.call (subst (λ k. Stands x k s.call) (sym same) h.1))))
      ])),
    );
    ordered = subst (AllPairs IsBefore) (sym (is ∙ sym (append_assoc old (stop_if m n false) (stop_if b n true))))
        (pushed_order b (old ++ stop_if m n false) n true
        (pushed_order m old n false before.ordered (λ s h. inl ((before.listed s).0 h).0))
        (λ s h. elim (Contains-append_cases old (stop_if m n false) s h) [
          | inl early ↦ inl ((before.listed s).0 early).0
          | inr now ↦ (let a = from_if m n false s now in inr (sym (ap (λ (t : Stop). t.node) a.1), sym (ap (λ (t : Stop). t.call) a.1), refl))
        ]));
  }

pub no_stops : (x : Solution) → AreStopsBelow x 0 []
no_stops x = record {
  listed = λ s. ((λ h. absurd (let lt = h.1 in omega arith)), (λ h. absurd (let lt = h.0 in omega arith)));
  ordered = λ i j d lt within. absurd (omega arith);
}

-- a node that is there stands by its kind
pub stands_is : (x : Solution) (n : ℕ) (node : Node) (b call : Bool) → slice_get x.trees.nodes n ≡ Some node
    → (IsTrue b ↔ StandsBy x n node.kind (type_of x.trees.types node.ty.0) node.children call) → IsTrue b ↔ Stands x n call
stands_is x n node b call at is = (
  (λ h. (node, at, is.0 h)),
  (λ s. is.1 (subst (λ (y : Node). StandsBy x n y.kind (type_of x.trees.types y.ty.0) y.children call) (same_Some s.0 node (sym s.1 ∙ at)) s.2)),
)

-- the stops of all nodes
pub all_stops : (x : Solution) (count : ℕ) (stops : List Stop) → length x.trees.nodes ≤ count → AreStopsBelow x count stops → AreStops x stops
all_stops x count stops all below = record {
  listed = λ s. ((λ h. ((below.listed s).0 h).1), (λ h. (below.listed s).1 ((let within = slice_get_within x.trees.nodes s.node h.0 h.1 in omega arith), h)));
  ordered = below.ordered;
}
