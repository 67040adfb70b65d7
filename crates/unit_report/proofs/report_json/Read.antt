-- The lines of a report, read off its value of JSON.
use Rattle.std.proofs.Common.{◌≡◌, ℕ, List, [], ◌∷◌, ◌++◌, map, flat_map, String, Global, refl, ap, ap₂, ◌∙◌}
use Rattle.std.specs.Prelude.{codes}
use Rattle.serde_json.specs.Data.{Data}
use Rattle.serde_json.specs.View.{items_of}
use Rattle.serde_json.proofs.OnLiterals.{serde_json_on_literals}
use Rattle.sol_model.specs.declared.system.System.{System}
use Rattle.sol_model.specs.declared.system.CallSite.{CallSite}
use Rattle.sol_model.specs.Families.{Family}
use Rattle.obj_space.specs.declared.location.Location.{Location}
use Rattle.unit_report.specs.report_text.Report.{name_in, names_of, members_in, targets_in, set_line, set_lines, call_line, call_lines, edge_line, place_text, report_lines}
use Rattle.unit_report.specs.report_json.Json.{name_value, names_value, set_value, sets_value, call_value, calls_value, edge_value, edges_value, report_of, report_value}
use Rattle.unit_report.specs.report_json.Lines.{text_in, values_of, list_in, words_of, set_line_of, call_line_of, edge_line_of, lines_of}

pub values_items : (ds : List Data) → values_of (items_of ds) ≡ ds
values_items [] = refl
values_items (d ∷ ds) = ap (λ (rest : List Data). d ∷ rest) (values_items ds)

map_map : {X : Type 0} (f : X → Data) (g : Data → List ℕ) (h : X → List ℕ) → ((x : X) → g (f x) ≡ h x) → (xs : List X) → map g (map f xs) ≡ map h xs
map_map f g h same [] = refl
map_map f g h same (x ∷ xs) = ap₂ (λ (line : List ℕ) (rest : List (List ℕ)). line ∷ rest) (same x) (map_map f g h same xs)

words_map : (space : List Location) (locations : List ℕ) → flat_map (λ (one : Data). codes " " ++ text_in one) (map (name_value space) locations) ≡ names_of space locations
words_map space [] = refl
words_map space (location ∷ locations) = ap (λ (rest : List ℕ). codes " " ++ name_in space location ++ rest) (words_map space locations)

words_same : (space : List Location) (locations : List ℕ) → words_of (names_value space locations) ≡ names_of space locations
words_same space locations =
    ap (flat_map (λ (one : Data). codes " " ++ text_in one)) (values_items (map (name_value space) locations)) ∙ words_map space locations

module _ (space : List Location) (names : List (String Global)) (system : System) (F : Family) where
  set_same : (location : ℕ) → set_line_of (set_value space system F location) ≡ set_line space system F location
  unfolding serde_json_on_literals
  set_same location = ap (λ (words : List ℕ). codes "set " ++ name_in space location ++ codes ":" ++ words) (words_same space (members_in system F location))

  sets_same : map set_line_of (list_in (sets_value space system F)) ≡ set_lines space system F
  sets_same = ap (map set_line_of) (values_items _) ∙ map_map (set_value space system F) set_line_of (set_line space system F) set_same _

  call_same : (call : CallSite) → call_line_of (call_value space names system F call) ≡ call_line space names system F call
  unfolding serde_json_on_literals
  call_same call = ap (λ (words : List ℕ). codes "call " ++ place_text names call.place ++ codes ":" ++ words) (words_same space (targets_in system F call))

  calls_same : map call_line_of (list_in (calls_value space names system F)) ≡ call_lines space names system F
  calls_same = ap (map call_line_of) (values_items _) ∙ map_map (call_value space names system F) call_line_of (call_line space names system F) call_same _

  edges_same : (edges : List (ℕ × ℕ)) → map edge_line_of (list_in (edges_value space system edges)) ≡ map (edge_line space system) edges
  edges_same edges = ap (map edge_line_of) (values_items (map (edge_value space system) edges)) ∙ map_map (edge_value space system) edge_line_of (edge_line space system) (λ pair. refl) edges

-- a whole report, by its three lists
whole_same : (calls edges sets : Data) → lines_of (report_of calls edges sets)
    ≡ codes "pta 1" ∷ (map set_line_of (list_in sets) ++ (map call_line_of (list_in calls) ++ (map edge_line_of (list_in edges) ++ codes "end" ∷ [])))
unfolding serde_json_on_literals
whole_same calls edges sets = refl

joined : (a b c d e f : List (List ℕ)) → a ≡ d → b ≡ e → c ≡ f → codes "pta 1" ∷ (a ++ (b ++ (c ++ codes "end" ∷ []))) ≡ codes "pta 1" ∷ (d ++ (e ++ (f ++ codes "end" ∷ [])))
joined a b c d e f first second third =
    ap (λ (l : List (List ℕ)). codes "pta 1" ∷ (l ++ (b ++ (c ++ codes "end" ∷ [])))) first
    ∙ ap (λ (l : List (List ℕ)). codes "pta 1" ∷ (d ++ (l ++ (c ++ codes "end" ∷ [])))) second
    ∙ ap (λ (l : List (List ℕ)). codes "pta 1" ∷ (d ++ (e ++ (l ++ codes "end" ∷ [])))) third

pub same_lines : (space : List Location) (names : List (String Global)) (system : System) (F : Family) (edges : List (ℕ × ℕ))
    → lines_of (report_value space names system F edges) ≡ report_lines space names system F edges
same_lines space names system F edges =
    whole_same (calls_value space names system F) (edges_value space system edges) (sets_value space system F)
    ∙ joined _ _ _ _ _ _ (sets_same space names system F) (calls_same space names system F) (edges_same space names system F edges)
