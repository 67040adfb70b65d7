-- Systems that are one have one report.
use Rattle.std.proofs.Common.{◌≡◌, ℕ, zero, suc, ◌+◌, ◌<◌, Bool, true, false, cond, List, [], ◌∷◌, ◌++◌, length, map, Option, Some, None, slice_get, String, Global, string_bytes, refl, sym, ◌∙◌, ap, subst, arith}
use Rattle.std.specs.List.{filter, range_with_len}
use Rattle.std.specs.Option.{option_map, option_map_or}
use Rattle.std.specs.Prelude.{codes, decimal, fold}
use Rattle.std.proofs.lemmas.Option.{same_Some, slice_get_within, slice_get-map}
use Rattle.pta_base.specs.declared.place.Place.{Place}
use Rattle.sol_model.specs.declared.system.CallSite.{CallSite}
use Rattle.sol_model.specs.declared.system.Function.{Function}
use Rattle.sol_model.specs.Systems.{IsRow, IsLocation, IsCallValid}
use Rattle.sol_model.proofs.Members.{All-at}
use Rattle.call_graph.proofs.Ordered.{one_list}
use Rattle.unit_report.specs.report_text.Report.{name_in, names_of, has_set, members_in, targets_in, set_line, set_lines, unit_name, place_text, call_line, call_lines, all_placed, in_order, calls_in_order, function_name, edge_line, report_lines, text_of, IsReport}
use Rattle.serde_json.specs.Data.{Data, string, object, array, item, no_items, member, no_members}
use Rattle.serde_json.specs.View.{items_of}
use Rattle.serde_json.specs.Written.{compact_text}
use Rattle.unit_report.specs.report_json.Json.{name_value, names_value, set_value, sets_value, call_value, calls_value, edge_value, edges_value, report_of, report_value, IsJsonReport}
use Rattle.call_graph.specs.Graph.{IsGraph}
use Rattle.gen_summary.specs.Summary.{IsSummary, member_count, summary_text}
use Rattle.twin_report_laws.specs.reports.Same.{Printed, IsSolved, ArePrintedAlike, OneReport}
use Rattle.twin_report_laws.proofs.reports.Spots.{Entry, spot_of, Among}
use Rattle.twin_report_laws.proofs.reports.Matched.{IsPair, lines_matched, matched}
use Rattle.twin_report_laws.proofs.reports.Calls.{entry_of, AreApart, IsEntry, ArePut, entries_put}
use Rattle.twin_report_laws.proofs.reports.Sets.{names_same, function_same, members_same, targets_same}
use Rattle.twin_report_laws.proofs.reports.Over.{turned, IsCallOver, location_over, call_over}
use Rattle.twin_report_laws.proofs.reports.Edges.{edge_over}

-- the same line or value for each of the numbers that pass a test
mapped_same : {A : Type 0} (f g : ℕ → A) (p q : ℕ → Bool) (a n : ℕ) → ((k : ℕ) → q k ≡ p k) → ((k : ℕ) → k < a + n → g k ≡ f k) → map g (filter q (range_with_len a n)) ≡ map f (filter p (range_with_len a n))
mapped_same f g p q a zero tests lines = refl
mapped_same f g p q a (suc n) tests lines =
    let rest : map g (filter q (range_with_len (a + 1) n)) ≡ map f (filter p (range_with_len (a + 1) n)) =
    mapped_same f g p q (a + 1) n tests (λ k lt. lines k (omega (arith, lt))) in
    ap (λ (b : Bool). map g (cond b (a ∷ filter q (range_with_len (a + 1) n)) (filter q (range_with_len (a + 1) n)))) (tests a)
    ∙ by (p a) (lines a (omega arith)) rest
  where
    by : (b : Bool) → g a ≡ f a → map g (filter q (range_with_len (a + 1) n)) ≡ map f (filter p (range_with_len (a + 1) n))
        → map g (cond b (a ∷ filter q (range_with_len (a + 1) n)) (filter q (range_with_len (a + 1) n))) ≡ map f (cond b (a ∷ filter p (range_with_len (a + 1) n)) (filter p (range_with_len (a + 1) n)))
    by true here rest = ap (λ l. l ∷ map g (filter q (range_with_len (a + 1) n))) here ∙ ap (λ ls. f a ∷ ls) rest
    by false here rest = rest

-- a sum is that of the values
sum_mapped : (f : ℕ → ℕ) (so_far : ℕ) (xs : List ℕ) → fold (λ a x. a + f x) so_far xs ≡ fold (λ a x. a + x) so_far (map f xs)
sum_mapped f so_far [] = refl
sum_mapped f so_far (x ∷ xs) = sum_mapped f (so_far + f x) xs

-- the same value for each
each_same : {X A : Type 0} (f g : X → A) → ((x : X) → g x ≡ f x) → (xs : List X) → map g xs ≡ map f xs
each_same f g same [] = refl
each_same f g same (x ∷ xs) = ap (λ y. y ∷ map g xs) (same x) ∙ ap (λ ys. f x ∷ ys) (each_same f g same xs)

read_bytes : (o : Option (String Global)) → option_map_or (λ (name : String Global). string_bytes name) o [] ≡ option_map_or (λ (bytes : List ℕ). bytes) (option_map (λ (name : String Global). string_bytes name) o) []
read_bytes None = refl
read_bytes (Some name) = refl

unit_by : (names : List (String Global)) (u : ℕ) → unit_name names u ≡ option_map_or (λ (bytes : List ℕ). bytes) (slice_get (map (λ (name : String Global). string_bytes name) names) u) []
unit_by names u =
    read_bytes (slice_get names u)
    ∙ ap (λ (o : Option (List ℕ)). option_map_or (λ (bytes : List ℕ). bytes) o []) (sym (slice_get-map (λ (name : String Global). string_bytes name) names u))

module _ (p q : Printed) (s : IsSolved p) (z : IsSolved q) (alike : ArePrintedAlike p q) where
  unit_same : (u : ℕ) → unit_name q.names u ≡ unit_name p.names u
  unit_same u =
      unit_by q.names u
      ∙ (ap (λ (names : List (List ℕ)). option_map_or (λ (bytes : List ℕ). bytes) (slice_get names u) []) alike.units ∙ sym (unit_by p.names u))

  -- ---- sets
  row_of : (l : ℕ) → l < length p.space → IsLocation p.system l
  row_of l lt = (let count = s.count in omega (arith, lt, count))

  its_members : (l : ℕ) → l < length p.space → members_in q.system q.family l ≡ members_in p.system p.family l
  its_members l lt =
      let here : IsLocation p.system l = row_of l lt in
      let row : IsRow p.system l = (let rows = s.valid.rows in omega (arith, here, rows)) in
      ap (members_in q.system q.family) (sym (location_over p.system q.system alike.systems l here).0)
      ∙ members_same p.system q.system alike.systems s.valid z.valid p.family q.family s.least z.least l row

  set_same : (l : ℕ) → l < length p.space → set_line q.space q.system q.family l ≡ set_line p.space p.system p.family l
  set_same l lt =
      ap (λ (name : List ℕ). codes "set " ++ name ++ codes ":" ++ names_of q.space (members_in q.system q.family l)) (alike.spaces.names l)
      ∙ (ap (λ (ls : List ℕ). codes "set " ++ name_in p.space l ++ codes ":" ++ names_of q.space ls) (its_members l lt)
      ∙ ap (λ (text : List ℕ). codes "set " ++ name_in p.space l ++ codes ":" ++ text) (names_same p.space q.space alike.spaces.names (members_in p.system p.family l)))

  sets_same : set_lines q.space q.system q.family ≡ set_lines p.space p.system p.family
  sets_same =
      ap (λ (n : ℕ). map (set_line q.space q.system q.family) (filter (has_set q.space) (range_with_len 0 n))) alike.spaces.many
      ∙ mapped_same (set_line p.space p.system p.family) (set_line q.space q.system q.family) (has_set p.space) (has_set q.space) 0 (length p.space) alike.spaces.sets (λ k lt. set_same k (omega (arith, lt)))

  names_as : (ls : List ℕ) → names_value q.space ls ≡ names_value p.space ls
  names_as ls = ap (λ (ds : List Data). array (items_of ds)) (each_same (name_value p.space) (name_value q.space) (λ l. ap string (alike.spaces.names l)) ls)

  set_as : (l : ℕ) → l < length p.space → set_value q.space q.system q.family l ≡ set_value p.space p.system p.family l
  set_as l lt =
      ap (λ (name : List ℕ). object (member (codes "members") (names_value q.space (members_in q.system q.family l)) (member (codes "name") (string name) no_members))) (alike.spaces.names l)
      ∙ ap (λ (members : Data). object (member (codes "members") members (member (codes "name") (name_value p.space l) no_members)))
      (ap (names_value q.space) (its_members l lt) ∙ names_as (members_in p.system p.family l))

  sets_as : sets_value q.space q.system q.family ≡ sets_value p.space p.system p.family
  sets_as =
      ap (λ (n : ℕ). array (items_of (map (set_value q.space q.system q.family) (filter (has_set q.space) (range_with_len 0 n))))) alike.spaces.many
      ∙ ap (λ (ds : List Data). array (items_of ds))
      (mapped_same (set_value p.space p.system p.family) (set_value q.space q.system q.family) (has_set p.space) (has_set q.space) 0 (length p.space) alike.spaces.sets (λ k lt. set_as k (omega (arith, lt))))

  -- ---- calls
  place_same : (x y : CallSite) → y.place ≡ x.place → place_text q.names y.place ≡ place_text p.names x.place
  place_same x y same =
      ap (place_text q.names) same
      ∙ ap (λ (name : List ℕ). name ++ codes ":" ++ decimal x.place.line ++ codes ":" ++ decimal x.place.column) (unit_same x.place.unit)

  its_targets : (x y : CallSite) (number : ℕ) → slice_get p.system.calls number ≡ Some x → IsCallOver p.system q.system alike.systems.to number x y → targets_in q.system q.family y ≡ targets_in p.system p.family x
  its_targets x y number at like =
      targets_same p.system q.system alike.systems s.valid z.valid p.family q.family s.least z.least number x y at like
      (All-at (IsCallValid p.system) p.system.calls number x s.valid.calls at).callee

  line_there : (x y : CallSite) (number : ℕ) → slice_get p.system.calls number ≡ Some x → IsCallOver p.system q.system alike.systems.to number x y → call_line q.space q.names q.system q.family y ≡ call_line p.space p.names p.system p.family x
  line_there x y number at like =
      ap (λ (place : List ℕ). codes "call " ++ place ++ codes ":" ++ names_of q.space (targets_in q.system q.family y)) (place_same x y like.site.place)
      ∙ (ap (λ (ls : List ℕ). codes "call " ++ place_text p.names x.place ++ codes ":" ++ names_of q.space ls) (its_targets x y number at like)
      ∙ ap (λ (text : List ℕ). codes "call " ++ place_text p.names x.place ++ codes ":" ++ text) (names_same p.space q.space alike.spaces.names (targets_in p.system p.family x)))

  value_there : (x y : CallSite) (number : ℕ) → slice_get p.system.calls number ≡ Some x → IsCallOver p.system q.system alike.systems.to number x y → call_value q.space q.names q.system q.family y ≡ call_value p.space p.names p.system p.family x
  value_there x y number at like =
      ap (λ (place : List ℕ). object (member (codes "place") (string place) (member (codes "targets") (names_value q.space (targets_in q.system q.family y)) no_members))) (place_same x y like.site.place)
      ∙ ap (λ (targets : Data). object (member (codes "place") (string (place_text p.names x.place)) (member (codes "targets") targets no_members)))
      (ap (names_value q.space) (its_targets x y number at like) ∙ names_as (targets_in p.system p.family x))

  other_apart : AreApart q.system.calls
  other_apart j k x y at there through again place =
      let (a, like_a) = call_over q.system p.system (turned alike.systems) j x at in
      let (b, like_b) = call_over q.system p.system (turned alike.systems) k y there in
      let same : alike.systems.back.call j ≡ alike.systems.back.call k =
      alike.apart.once (alike.systems.back.call j) (alike.systems.back.call k) a b like_a.there like_b.there (like_a.site.direct ∙ through) (like_b.site.direct ∙ again) (like_a.site.place ∙ (place ∙ sym like_b.site.place)) in
      sym (alike.systems.kept.calls j x at).0 ∙ (ap alike.systems.to.call same ∙ (alike.systems.kept.calls k y there).0)

  module _ {A : Type 0} (line over : CallSite → A)
      (same : (x y : CallSite) (number : ℕ) → slice_get p.system.calls number ≡ Some x → IsCallOver p.system q.system alike.systems.to number x y → over y ≡ line x) where
    abbrev Pair : Entry → Entry → Type 0
    Pair = IsPair p.system.calls q.system.calls line over

    pair_of : (x y : CallSite) (number : ℕ) → slice_get p.system.calls number ≡ Some x → IsCallOver p.system q.system alike.systems.to number x y → Pair (entry_of x number) (entry_of y (alike.systems.to.call number))
    pair_of x y number at like = record {
      call = x;
      like = y;
      at = at;
      there = like.there;
      same_line = same x y number at like;
      same_place = ap (λ (place : Place). spot_of ((place.unit, place.line, place.column, 0), 0)) (sym like.site.place);
    }

    calls_in_step : map over (calls_in_order q.system.calls) ≡ map line (calls_in_order p.system.calls)
    calls_in_step =
        let put : ArePut p.system.calls (length p.system.calls) (in_order [] (all_placed 0 p.system.calls)) = entries_put p.system.calls alike.apart.once in
        let other_put : ArePut q.system.calls (length q.system.calls) (in_order [] (all_placed 0 q.system.calls)) = entries_put q.system.calls other_apart in
        lines_matched p.system.calls q.system.calls line over
        (in_order [] (all_placed 0 p.system.calls)) (in_order [] (all_placed 0 q.system.calls))
        (matched p.system.calls q.system.calls line over
        (in_order [] (all_placed 0 p.system.calls)) (in_order [] (all_placed 0 q.system.calls)) put.ordered other_put.ordered
        (λ e among. to put other_put e (put.each e among))
        (λ e among. from put other_put e (other_put.each e among)))
      where
        to : ArePut p.system.calls (length p.system.calls) (in_order [] (all_placed 0 p.system.calls)) → ArePut q.system.calls (length q.system.calls) (in_order [] (all_placed 0 q.system.calls)) → (e : Entry)
            → IsEntry p.system.calls (length p.system.calls) e → (f : Entry) × Among (in_order [] (all_placed 0 q.system.calls)) f × Pair e f
        to put other_put e h =
            let (y, like) = call_over p.system q.system alike.systems h.number h.call h.at in (
              entry_of y (alike.systems.to.call h.number),
              other_put.all (alike.systems.to.call h.number) y (slice_get_within q.system.calls (alike.systems.to.call h.number) y like.there) like.there (like.site.direct ∙ h.through),
              subst (λ (d : Entry). Pair d (entry_of y (alike.systems.to.call h.number))) h.is (pair_of h.call y h.number h.at like),
            )

        from : ArePut p.system.calls (length p.system.calls) (in_order [] (all_placed 0 p.system.calls)) → ArePut q.system.calls (length q.system.calls) (in_order [] (all_placed 0 q.system.calls)) → (f : Entry)
            → IsEntry q.system.calls (length q.system.calls) f → (e : Entry) × Among (in_order [] (all_placed 0 p.system.calls)) e × Pair e f
        from put other_put f h =
            let (x, returned) = call_over q.system p.system (turned alike.systems) h.number h.call h.at in
            let (y, like) = call_over p.system q.system alike.systems (alike.systems.back.call h.number) x returned.there in
            let number : alike.systems.to.call (alike.systems.back.call h.number) ≡ h.number = (alike.systems.kept.calls h.number h.call h.at).0 in
            let same : y ≡ h.call = same_Some _ _ (sym like.there ∙ (ap (slice_get q.system.calls) number ∙ h.at)) in
            let is : entry_of y (alike.systems.to.call (alike.systems.back.call h.number)) ≡ f =
            ap (λ (c : CallSite). entry_of c (alike.systems.to.call (alike.systems.back.call h.number))) same ∙ (ap (entry_of h.call) number ∙ h.is) in (
              entry_of x (alike.systems.back.call h.number),
              put.all (alike.systems.back.call h.number) x (slice_get_within p.system.calls (alike.systems.back.call h.number) x returned.there) returned.there (returned.site.direct ∙ h.through),
              subst (λ (d : Entry). Pair (entry_of x (alike.systems.back.call h.number)) d) is (pair_of x y (alike.systems.back.call h.number) returned.there like),
            )

  calls_same : call_lines q.space q.names q.system q.family ≡ call_lines p.space p.names p.system p.family
  calls_same = calls_in_step (call_line p.space p.names p.system p.family) (call_line q.space q.names q.system q.family) line_there

  calls_as : calls_value q.space q.names q.system q.family ≡ calls_value p.space p.names p.system p.family
  calls_as =
      ap (λ (ds : List Data). array (items_of ds))
      (calls_in_step (call_value p.space p.names p.system p.family) (call_value q.space q.names q.system q.family) value_there)

  -- ---- edges
  name_same : (k : ℕ) → function_name q.space q.system k ≡ function_name p.space p.system k
  name_same k = function_same p.system q.system alike.systems s.valid z.valid (λ (function : Function). name_in p.space function.location) (λ (function : Function). name_in q.space function.location) [] k
      (λ x y at there same. alike.spaces.names y.location ∙ ap (name_in p.space) same)

  edge_same : (pairs : List (ℕ × ℕ)) → map (edge_line q.space q.system) pairs ≡ map (edge_line p.space p.system) pairs
  edge_same [] = refl
  edge_same (pair ∷ pairs) =
      ap (λ (name : List ℕ). (codes "edge " ++ name ++ codes " " ++ function_name q.space q.system pair.1) ∷ map (edge_line q.space q.system) pairs) (name_same pair.0)
      ∙ (ap (λ (name : List ℕ). (codes "edge " ++ function_name p.space p.system pair.0 ++ codes " " ++ name) ∷ map (edge_line q.space q.system) pairs) (name_same pair.1)
      ∙ ap (λ (ls : List (List ℕ)). edge_line p.space p.system pair ∷ ls) (edge_same pairs))

  edge_as : (pair : ℕ × ℕ) → edge_value q.space q.system pair ≡ edge_value p.space p.system pair
  edge_as pair =
      ap (λ (name : List ℕ). array (item (string name) (item (string (function_name q.space q.system pair.1)) no_items))) (name_same pair.0)
      ∙ ap (λ (name : List ℕ). array (item (string (function_name p.space p.system pair.0)) (item (string name) no_items))) (name_same pair.1)

  edges_as : (pairs : List (ℕ × ℕ)) → edges_value q.space q.system pairs ≡ edges_value p.space p.system pairs
  edges_as pairs = ap (λ (ds : List Data). array (items_of ds)) (each_same (edge_value p.space p.system) (edge_value q.space q.system) edge_as pairs)

  graph_same : (ours theirs : List (ℕ × ℕ)) → IsGraph p.system p.family ours → IsGraph q.system q.family theirs → theirs ≡ ours
  graph_same ours theirs r t = one_list theirs ours t.ordered r.ordered
      (λ pair of.
      (r.edges pair.0 pair.1).1
      (edge_over q.system p.system (turned alike.systems) q.family p.family z.valid s.valid z.least s.least pair.0 pair.1 ((t.edges pair.0 pair.1).0 of)))
      (λ pair of.
      (t.edges pair.0 pair.1).1
      (edge_over p.system q.system alike.systems p.family q.family s.valid z.valid s.least z.least pair.0 pair.1 ((r.edges pair.0 pair.1).0 of)))

  lines_same : (ours theirs : List (ℕ × ℕ)) → theirs ≡ ours → report_lines q.space q.names q.system q.family theirs ≡ report_lines p.space p.names p.system p.family ours
  lines_same ours theirs same =
      ap (λ (sets : List (List ℕ)). codes "pta 1" ∷ (sets ++ (call_lines q.space q.names q.system q.family ++ (map (edge_line q.space q.system) theirs ++ codes "end" ∷ [])))) sets_same
      ∙ (ap (λ (calls : List (List ℕ)). codes "pta 1" ∷ (set_lines p.space p.system p.family ++ (calls ++ (map (edge_line q.space q.system) theirs ++ codes "end" ∷ [])))) calls_same
      ∙ ap (λ (edges : List (List ℕ)). codes "pta 1" ∷ (set_lines p.space p.system p.family ++ (call_lines p.space p.names p.system p.family ++ (edges ++ codes "end" ∷ []))))
      (edge_same theirs ∙ ap (map (edge_line p.space p.system)) same))

  values_same : (ours theirs : List (ℕ × ℕ)) → theirs ≡ ours → report_value q.space q.names q.system q.family theirs ≡ report_value p.space p.names p.system p.family ours
  values_same ours theirs same =
      ap (λ (calls : Data). report_of calls (edges_value q.space q.system theirs) (sets_value q.space q.system q.family)) calls_as
      ∙ (ap (λ (edges : Data). report_of (calls_value p.space p.names p.system p.family) edges (sets_value q.space q.system q.family)) (edges_as theirs ∙ ap (edges_value p.space p.system) same)
      ∙ ap (λ (sets : Data). report_of (calls_value p.space p.names p.system p.family) (edges_value p.space p.system ours) sets) sets_as)

  lines_report : (text other : List ℕ) → IsReport p.space p.names p.system p.family text → IsReport q.space q.names q.system q.family other → other ≡ text
  lines_report text other r t = t.text_is ∙ (ap text_of (lines_same r.edges t.edges (graph_same r.edges t.edges r.graph t.graph)) ∙ sym r.text_is)

  json_report : (text other : List ℕ) → IsJsonReport p.space p.names p.system p.family text → IsJsonReport q.space q.names q.system q.family other → other ≡ text
  json_report text other r t =
      t.text_is ∙ (ap (λ (value : Data). compact_text value ++ codes "\n") (values_same r.edges t.edges (graph_same r.edges t.edges r.graph t.graph)) ∙ sym r.text_is)

  -- ---- a summary
  abbrev count_in : Printed → ℕ → ℕ
  count_in r l = length (members_in r.system r.family l)

  counts_same : member_count q.space q.system q.family ≡ member_count p.space p.system p.family
  counts_same =
      sum_mapped (count_in q) 0 (filter (has_set q.space) (range_with_len 0 (length q.space)))
      ∙ (ap (λ (n : ℕ). fold (λ a x. a + x) 0 (map (count_in q) (filter (has_set q.space) (range_with_len 0 n)))) alike.spaces.many
      ∙ (ap (λ (counts : List ℕ). fold (λ a x. a + x) 0 counts) (mapped_same (count_in p) (count_in q) (has_set p.space) (has_set q.space) 0 (length p.space) alike.spaces.sets (λ k lt. ap length (its_members k (omega (arith, lt)))))
      ∙ sym (sum_mapped (count_in p) 0 (filter (has_set p.space) (range_with_len 0 (length p.space))))))

  pub summary_same : (number : ℕ) (text other : List ℕ) → IsSummary number p.space p.system p.family text → IsSummary number q.space q.system q.family other → other ≡ text
  summary_same number text other r t =
      t.text_is
      ∙ (ap (λ (n : ℕ). summary_text number n (member_count q.space q.system q.family) (length t.edges)) alike.spaces.many
      ∙ (ap (λ (n : ℕ). summary_text number (length p.space) n (length t.edges)) counts_same
      ∙ (ap (λ (pairs : List (ℕ × ℕ)). summary_text number (length p.space) (member_count p.space p.system p.family) (length pairs)) (graph_same r.edges t.edges r.graph t.graph) ∙ sym r.text_is)))

pub one_report : OneReport
one_report true p q text other s z alike r t = json_report p q s z alike text other r t
one_report false p q text other s z alike r t = lines_report p q s z alike text other r t
