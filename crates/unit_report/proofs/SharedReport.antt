-- The report of the system with one row for each class of rows is that of the system that it was made from.
use Rattle.std.proofs.Common.{◌≡◌, ℕ, ◌+◌, ◌<◌, ◌==◌, Bool, true, false, cond, List, [], ◌∷◌, ◌++◌, map, length, Option, Some, None, slice_get, option_map, String, Global, refl, sym, ◌∙◌, ap, arith}
use Rattle.std.specs.Prelude.{codes}
use Rattle.std.specs.List.{filter, cons_option, range_with_len}
use Rattle.std.specs.Option.{option_map_or}
use Rattle.std.proofs.lemmas.Bool.{false≢true}
use Rattle.std.proofs.lemmas.Option.{slice_get-map, slice_get_within}
use Rattle.sol_model.specs.declared.system.System.{System}
use Rattle.sol_model.specs.declared.system.CallSite.{CallSite}
use Rattle.sol_model.specs.declared.system.Function.{Function}
use Rattle.sol_model.specs.declared.system.LocationFact.{LocationFact}
use Rattle.sol_model.specs.Families.{Family}
use Rattle.sol_model.specs.Systems.{location_count}
use Rattle.call_graph.specs.Graph.{IsGraph}
use Rattle.obj_space.specs.declared.location.Location.{Location}
use Rattle.row_share.specs.share_laws.Renumbering.{renumbered_call, renumbered_function}
use Rattle.row_share.proofs.share_laws.Forward.{IsRenumbered, over}
use Rattle.row_share.proofs.share_laws.Graphs.{same_graph}
use Rattle.serde_json.specs.Data.{Data, string, array, object, item, no_items, member, no_members}
use Rattle.serde_json.specs.View.{items_of}
use Rattle.serde_json.specs.Written.{compact_text}
use Rattle.alias_query.specs.Asked.{has_line}
use Rattle.unit_report.specs.Reported.{IsReportAs}
use Rattle.unit_report.specs.report_json.Json.{name_value, names_value, set_value, sets_value, call_value, calls_value, edge_value, edges_value, report_of, report_value, IsJsonReport}
use Rattle.unit_report.specs.report_text.Report.{members_in, has_set, name_in, names_of, set_line, set_lines, agrees, is_function, targets_in, place_text, call_line, call_lines, Placed, placed, all_placed, in_order, calls_at, calls_in_order, function_name, edge_line, report_lines, text_of, IsReport}

-- ---- lists
pub map_same : {X Y : Type 0} (f g : X → Y) (xs : List X) → ((x : X) → f x ≡ g x) → map f xs ≡ map g xs
map_same f g [] h = refl
map_same f g (x ∷ xs) h = ap (λ y. y ∷ map f xs) (h x) ∙ ap (λ ys. g x ∷ ys) (map_same f g xs h)

filter_cons : {Y : Type 0} (f g : ℕ → Y) (p : ℕ → Bool) (x : ℕ) (xs : List ℕ) (b : Bool) → (b ≡ true → f x ≡ g x) → map f (filter p xs) ≡ map g (filter p xs)
    → map f (cond b (x ∷ filter p xs) (filter p xs)) ≡ map g (cond b (x ∷ filter p xs) (filter p xs))
filter_cons f g p x xs true h rest = ap (λ y. y ∷ map f (filter p xs)) (h refl) ∙ ap (λ ys. g x ∷ ys) rest
filter_cons f g p x xs false h rest = rest

pub map_filter : {Y : Type 0} (f g : ℕ → Y) (p : ℕ → Bool) (xs : List ℕ) → ((x : ℕ) → p x ≡ true → f x ≡ g x) → map f (filter p xs) ≡ map g (filter p xs)
map_filter f g p [] h = refl
map_filter f g p (x ∷ xs) h = filter_cons f g p x xs (p x) (h x) (map_filter f g p xs h)

mapped_or : {X Y Z : Type 0} (f : X → Y) (h : Y → Z) (d : Z) (o : Option X) → option_map_or h (option_map f o) d ≡ option_map_or (λ (x : X). h (f x)) o d
mapped_or f h d None = refl
mapped_or f h d (Some x) = refl

pub found_or : {X : Type 0} (p : X → Bool) (o : Option X) → option_map_or p o false ≡ true → (x : X) × (o ≡ Some x)
found_or p None h = absurd (false≢true h)
found_or p (Some x) h = (x, refl)

-- ---- calls in order
renumbered_placed : (new : ℕ → ℕ) (n : ℕ) (calls : List CallSite) → all_placed n (map (renumbered_call new) calls) ≡ all_placed n calls
renumbered_placed new n [] = refl
renumbered_placed new n (call ∷ calls) = ap (λ (rest : Placed). placed n call ++ rest) (renumbered_placed new (n + 1) calls)

cons_mapped : {X Y : Type 0} (f : X → Y) (o : Option X) (xs : List X) → cons_option (option_map f o) (map f xs) ≡ map f (cons_option o xs)
cons_mapped f None xs = refl
cons_mapped f (Some x) xs = refl

renumbered_at : (new : ℕ → ℕ) (calls : List CallSite) (numbers : Placed) → calls_at (map (renumbered_call new) calls) numbers ≡ map (renumbered_call new) (calls_at calls numbers)
renumbered_at new calls [] = refl
renumbered_at new calls (one ∷ rest) =
    ap (λ (o : Option CallSite). cons_option o (calls_at (map (renumbered_call new) calls) rest)) (slice_get-map (renumbered_call new) calls one.1)
    ∙ ap (λ (made : List CallSite). cons_option (option_map (renumbered_call new) (slice_get calls one.1)) made) (renumbered_at new calls rest)
    ∙ cons_mapped (renumbered_call new) (slice_get calls one.1) (calls_at calls rest)

pub renumbered_order : (new : ℕ → ℕ) (calls : List CallSite) → calls_in_order (map (renumbered_call new) calls) ≡ map (renumbered_call new) (calls_in_order calls)
renumbered_order new calls =
    ap (λ (all : Placed). calls_at (map (renumbered_call new) calls) (in_order [] all)) (renumbered_placed new 0 calls)
    ∙ renumbered_at new calls (in_order [] (all_placed 0 calls))

pub map_map : {X Y Z : Type 0} (f : X → Y) (g : Y → Z) (xs : List X) → map g (map f xs) ≡ map (λ (x : X). g (f x)) xs
map_map f g [] = refl
map_map f g (x ∷ xs) = ap (λ ys. g (f x) ∷ ys) (map_map f g xs)

module _ (S T : System) (new : ℕ → ℕ) (is : IsRenumbered S T new) (G : Family) where
  same_count : location_count T ≡ location_count S
  same_count = ap length is.locations

  -- ---- members
  members_same : (row : ℕ) → members_in T G (new row) ≡ members_in S (over G new) row
  members_same row = ap (λ (n : ℕ). filter (λ location. G (new row) location) (range_with_len 0 n)) same_count

  pub members_fixed : (location : ℕ) → location < location_count S → members_in T G location ≡ members_in S (over G new) location
  members_fixed location within = ap (λ (row : ℕ). members_in T G row) (sym (is.fixed location within)) ∙ members_same location

  -- ---- functions
  agrees_same : (signature number : ℕ) → agrees T signature number ≡ agrees S signature number
  agrees_same signature number =
      ap (λ (functions : List Function). option_map_or (λ (function : Function). function.signature == signature) (slice_get functions number) false) is.functions
      ∙ ap (λ (o : Option Function). option_map_or (λ (function : Function). function.signature == signature) o false) (slice_get-map (renumbered_function new) S.functions number)
      ∙ mapped_or (renumbered_function new) (λ (function : Function). function.signature == signature) false (slice_get S.functions number)

  function_same : (signature location : ℕ) → is_function T signature location ≡ is_function S signature location
  function_same signature location =
      let path : agrees T signature ≡ agrees S signature = λ i number. agrees_same signature number i in
      ap (λ (facts : List LocationFact). option_map_or (λ (fact : LocationFact). option_map_or (agrees T signature) fact.function false) (slice_get facts location) false) is.locations
      ∙ ap (λ (p : ℕ → Bool). option_map_or (λ (fact : LocationFact). option_map_or p fact.function false) (slice_get S.locations location) false) path

  pub targets_same : (call : CallSite) → targets_in T G (renumbered_call new call) ≡ targets_in S (over G new) call
  targets_same call =
      let path : is_function T call.signature ≡ is_function S call.signature = λ i location. function_same call.signature location i in
      ap (λ (p : ℕ → Bool). filter p (members_in T G (new call.callee))) path
      ∙ ap (λ (members : List ℕ). filter (is_function S call.signature) members) (members_same call.callee)

  -- ---- lines
  sets_same : (space : List Location) → length space ≡ location_count S → set_lines space T G ≡ set_lines space S (over G new)
  sets_same space count = map_filter (set_line space T G) (set_line space S (over G new)) (has_set space) (range_with_len 0 (length space))
      (λ location has. (let found = found_or has_line (slice_get space location) has in
      let within : location < length space = slice_get_within space location found.0 found.1 in
      ap (λ (members : List ℕ). codes "set " ++ name_in space location ++ codes ":" ++ names_of space members) (members_fixed location (omega arith))))

  line_same : (space : List Location) (names : List (String Global)) (call : CallSite) → call_line space names T G (renumbered_call new call) ≡ call_line space names S (over G new) call
  line_same space names call = ap (λ (targets : List ℕ). codes "call " ++ place_text names call.place ++ codes ":" ++ names_of space targets) (targets_same call)

  calls_same : (space : List Location) (names : List (String Global)) → call_lines space names T G ≡ call_lines space names S (over G new)
  calls_same space names =
      ap (λ (calls : List CallSite). map (call_line space names T G) (calls_in_order calls)) is.calls
      ∙ ap (map (call_line space names T G)) (renumbered_order new S.calls)
      ∙ map_map (renumbered_call new) (call_line space names T G) (calls_in_order S.calls)
      ∙ map_same (λ (call : CallSite). call_line space names T G (renumbered_call new call)) (call_line space names S (over G new)) (calls_in_order S.calls) (line_same space names)

  pub name_same : (space : List Location) (number : ℕ) → function_name space T number ≡ function_name space S number
  name_same space number =
      ap (λ (functions : List Function). option_map_or (λ (function : Function). name_in space function.location) (slice_get functions number) []) is.functions
      ∙ ap (λ (o : Option Function). option_map_or (λ (function : Function). name_in space function.location) o []) (slice_get-map (renumbered_function new) S.functions number)
      ∙ mapped_or (renumbered_function new) (λ (function : Function). name_in space function.location) [] (slice_get S.functions number)

  edges_same : (space : List Location) (edges : List (ℕ × ℕ)) → map (edge_line space T) edges ≡ map (edge_line space S) edges
  edges_same space edges = map_same (edge_line space T) (edge_line space S) edges
      (λ pair. ap (λ (name : List ℕ). codes "edge " ++ name ++ codes " " ++ function_name space T pair.1) (name_same space pair.0)
      ∙ ap (λ (name : List ℕ). codes "edge " ++ function_name space S pair.0 ++ codes " " ++ name) (name_same space pair.1))

  lines_same : (space : List Location) (names : List (String Global)) (edges : List (ℕ × ℕ)) → length space ≡ location_count S → report_lines space names T G edges ≡ report_lines space names S (over G new) edges
  lines_same space names edges count =
      ap (λ (sets : List (List ℕ)). codes "pta 1" ∷ (sets ++ (call_lines space names T G ++ (map (edge_line space T) edges ++ codes "end" ∷ [])))) (sets_same space count)
      ∙ ap (λ (calls : List (List ℕ)). codes "pta 1" ∷ (set_lines space S (over G new) ++ (calls ++ (map (edge_line space T) edges ++ codes "end" ∷ [])))) (calls_same space names)
      ∙ ap (λ (lines : List (List ℕ)). codes "pta 1" ∷ (set_lines space S (over G new) ++ (call_lines space names S (over G new) ++ (lines ++ codes "end" ∷ [])))) (edges_same space edges)

  -- ---- the report
  pub graph_same : (edges : List (ℕ × ℕ)) → IsGraph T G edges → IsGraph S (over G new) edges
  graph_same edges graph = record {
    edges = λ caller callee. (
      λ h. (same_graph S T new is G caller callee).0 ((graph.edges caller callee).0 h),
      λ h. (graph.edges caller callee).1 ((same_graph S T new is G caller callee).1 h),
    );
    ordered = graph.ordered;
  }

  report_same : (space : List Location) (names : List (String Global)) (text : List ℕ) → length space ≡ location_count S → IsReport space names T G text → IsReport space names S (over G new) text
  report_same space names text count report = record {
    edges = report.edges;
    graph = graph_same report.edges report.graph;
    text_is = report.text_is ∙ ap text_of (lines_same space names report.edges count);
  }

  -- ---- the same as JSON
  set_values_same : (space : List Location) → length space ≡ location_count S → sets_value space T G ≡ sets_value space S (over G new)
  set_values_same space count = ap (λ (values : List Data). array (items_of values))
      (map_filter (set_value space T G) (set_value space S (over G new)) (has_set space) (range_with_len 0 (length space))
      (λ location has. (let found = found_or has_line (slice_get space location) has in
      let within : location < length space = slice_get_within space location found.0 found.1 in
      ap (λ (members : List ℕ). object (member (codes "members") (names_value space members) (member (codes "name") (name_value space location) no_members))) (members_fixed location (omega arith)))))

  value_same : (space : List Location) (names : List (String Global)) (call : CallSite) → call_value space names T G (renumbered_call new call) ≡ call_value space names S (over G new) call
  value_same space names call =
      ap (λ (targets : List ℕ). object (member (codes "place") (string (place_text names call.place)) (member (codes "targets") (names_value space targets) no_members))) (targets_same call)

  call_values_same : (space : List Location) (names : List (String Global)) → calls_value space names T G ≡ calls_value space names S (over G new)
  call_values_same space names = ap (λ (values : List Data). array (items_of values))
      (ap (λ (calls : List CallSite). map (call_value space names T G) (calls_in_order calls)) is.calls
      ∙ ap (map (call_value space names T G)) (renumbered_order new S.calls)
      ∙ map_map (renumbered_call new) (call_value space names T G) (calls_in_order S.calls)
      ∙ map_same (λ (call : CallSite). call_value space names T G (renumbered_call new call)) (call_value space names S (over G new)) (calls_in_order S.calls) (value_same space names))

  edge_values_same : (space : List Location) (edges : List (ℕ × ℕ)) → edges_value space T edges ≡ edges_value space S edges
  edge_values_same space edges = ap (λ (values : List Data). array (items_of values))
      (map_same (edge_value space T) (edge_value space S) edges
      (λ pair. ap (λ (name : List ℕ). array (item (string name) (item (string (function_name space T pair.1)) no_items))) (name_same space pair.0)
      ∙ ap (λ (name : List ℕ). array (item (string (function_name space S pair.0)) (item (string name) no_items))) (name_same space pair.1)))

  report_value_same : (space : List Location) (names : List (String Global)) (edges : List (ℕ × ℕ)) → length space ≡ location_count S
      → report_value space names T G edges ≡ report_value space names S (over G new) edges
  report_value_same space names edges count =
      ap (λ (calls : Data). report_of calls (edges_value space T edges) (sets_value space T G)) (call_values_same space names)
      ∙ ap (λ (pairs : Data). report_of (calls_value space names S (over G new)) pairs (sets_value space T G)) (edge_values_same space edges)
      ∙ ap (λ (sets : Data). report_of (calls_value space names S (over G new)) (edges_value space S edges) sets) (set_values_same space count)

  json_same : (space : List Location) (names : List (String Global)) (text : List ℕ) → length space ≡ location_count S → IsJsonReport space names T G text → IsJsonReport space names S (over G new) text
  json_same space names text count report = record {
    edges = report.edges;
    graph = graph_same report.edges report.graph;
    text_is = report.text_is ∙ ap (λ (value : Data). compact_text value ++ codes "\n") (report_value_same space names report.edges count);
  }

  pub report_as_same : (json : Bool) (space : List Location) (names : List (String Global)) (text : List ℕ) → length space ≡ location_count S
      → IsReportAs json space names T G text → IsReportAs json space names S (over G new) text
  report_as_same true space names text count report = json_same space names text count report
  report_as_same false space names text count report = report_same space names text count report
