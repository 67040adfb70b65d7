-- What two systems of programs that are one, but for numbers, keep: locations, functions, places of calls.
use Rattle.std.proofs.Common.{arith, ◌≡◌, ◌∙◌, ◌+◌, ◌<◌, ℕ, length, Option, Some, refl, sym, ap}
use Rattle.std.specs.List.{slice_get, range_with_len}
use Rattle.std.specs.Option.{option_map_or}
use Rattle.std.proofs.lemmas.Option.{slice_get_within}
use Rattle.c_types.specs.declared.key.ObjectKey.{ObjectKey}
use Rattle.core_tree.specs.declared.node.Program.{Program}
use Rattle.core_tree.specs.Typed.{trees_in}
use Rattle.sol_model.specs.declared.system.System.{System}
use Rattle.sol_model.specs.declared.system.LocationFact.{LocationFact}
use Rattle.obj_space.specs.Space.{locations_in}
use Rattle.row_numbers.specs.Functions.{function_at, number_at}
use Rattle.call_sites.specs.Calls.{calls_upto}
use Rattle.normal_form.specs.Facts.{number_if, location_fact}
use Rattle.normal_form.specs.SystemOf.{SystemOf}
use Rattle.twin_report_laws.specs.outcome_laws.twin_programs.One.{Numbers}
use Rattle.twin_report_laws.specs.reports.Same.{Keeps}
use Rattle.twin_report_laws.proofs.outcome_laws.twin_words.Options.{mapped_at, unmapped_at}
use Rattle.twin_report_laws.proofs.outcome_laws.twin_words.Members.{range_at, at_range}
use Rattle.twin_report_laws.specs.rows.Paired.{ArePaired, flipped}
use Rattle.twin_report_laws.specs.rows.Ready.{IsReady}
use Rattle.twin_report_laws.proofs.rows.Views.{here, over, count_same, functions_moved, object_moved, before_same}
use Rattle.twin_report_laws.proofs.rows.Rows.{row_location, rows_round}
use Rattle.unit_link.specs.Places.{kind_renamed}
use Rattle.twin_report_laws.proofs.rows.Calls.{at_call, call_at}
use Rattle.twin_report_laws.proofs.rows.Systems.{maps, call_there}
use Rattle.row_numbers.specs.Functions.{function_keys}
use Rattle.std.specs.Option.{option_map}
use Rattle.std.proofs.Common.{None}
use Rattle.twin_report_laws.specs.outcome_laws.twin_locations.Same.{key_moved}

module _ (p q : Program) (to back : Numbers) (h : ArePaired p q to back) (ready : IsReady p) (other_ready : IsReady q) (S T : System)
    (of : SystemOf p (here p q to back h) S) (over_of : SystemOf q (over p q to back h) T) where
  function_same : (l : ℕ) → number_if (function_at (trees_in q) (over p q to back h) l) (number_at (trees_in q) (over p q to back h) l) ≡ number_if (function_at (trees_in p) (here p q to back h) l) (number_at (trees_in p) (here p q to back h) l)
  function_same l =
      ap (λ (o : Option ObjectKey). number_if o (number_at (trees_in q) (over p q to back h) l))
      (object_moved p q to back h (function_keys (trees_in p)) (function_keys (trees_in q)) (functions_moved p q to back h) (functions_moved q p back to (flipped p q to back h)) l)
      ∙ (ap (number_if (option_map (key_moved to) (function_at (trees_in p) (here p q to back h) l))) (before_same p q to back h l) ∙ by (function_at (trees_in p) (here p q to back h) l))
    where
      by : (o : Option ObjectKey) → number_if (option_map (key_moved to) o) (number_at (trees_in p) (here p q to back h) l) ≡ number_if o (number_at (trees_in p) (here p q to back h) l)
      by None = refl
      by (Some key) = refl

  record AreKept (l : ℕ) (a : LocationFact) : Type 0 where
    within : l < length (locations_in p)
    other : LocationFact
    there : slice_get T.locations l ≡ Some other
    function : other.function ≡ a.function

  kept : (l : ℕ) (a : LocationFact) → slice_get S.locations l ≡ Some a → AreKept l a
  kept l a at =
      let (n, n_at, is) = unmapped_at (location_fact (trees_in p) (here p q to back h)) (range_with_len 0 (length (locations_in p))) l a (sym (ap (λ fs. slice_get fs l) of.locations) ∙ at) in
      let (lt, number) = at_range 0 (length (locations_in p)) l n n_at in
      let n_is : n ≡ l = omega (arith, number) in
      let own : location_fact (trees_in p) (here p q to back h) l ≡ a = ap (location_fact (trees_in p) (here p q to back h)) (sym n_is) ∙ is in
      let zero_is : 0 + l ≡ l = omega arith in
      let many = count_same p q to back h in
      record {
        within = lt;
        other = location_fact (trees_in q) (over p q to back h) l;
        there = ap (λ fs. slice_get fs l) over_of.locations
            ∙ mapped_at (location_fact (trees_in q) (over p q to back h)) (range_with_len 0 (length (locations_in q))) l l (range_at 0 (length (locations_in q)) l (omega (arith, lt, many)) ∙ ap (λ (k : ℕ). Some k) zero_is);
        function = function_same l ∙ ap (λ (f : LocationFact). f.function) own;
      }

  pub keeps : Keeps S T (maps p q to back h) (maps q p back to (flipped p q to back h))
  keeps = record {
    locations = λ l a at. let k = kept l a at in (row_location p q to back h l k.within, (k.other, k.there, k.function));
    functions = λ k lt. refl;
    rows = λ r lt. rows_round p q to back h r;
    calls = λ c site at.
        let t = call_there p q to back h ready other_ready S T of over_of c site at in
        let round : back.node (to.node t.node) ≡ t.node = h.lead.node_back t.node (slice_get_within p.nodes.items t.node t.call t.at) in
        let moved : (maps p q to back h).call c ≡ length (calls_upto q.nodes.items (to.node t.node)) = ap (λ (o : Option ℕ). option_map_or (λ k. length (calls_upto q.nodes.items (to.node k))) o 0) t.number in
        let its = at_call q.nodes.items (to.node t.node) t.twin t.there (t.like.kind ∙ ap (kind_renamed to.entity) t.kind) in
        let own = call_at p.nodes.items c t.node t.number in (
          ap (λ (k : ℕ). (maps q p back to (flipped p q to back h)).call k) moved
              ∙ (ap (λ (o : Option ℕ). option_map_or (λ k. length (calls_upto p.nodes.items (back.node k))) o 0) its ∙ (ap (λ (k : ℕ). length (calls_upto p.nodes.items k)) round ∙ sym own.place)),
          (t.over, t.over_at, record { caller = t.same.caller; direct = t.same.direct; place = t.same.place }),
        );
  }
