-- The answers by the system with one row for each class of rows are those by the system that it was made from.
use Rattle.std.proofs.Common.{◌≡◌, ◌↔◌, ℕ, ◌<◌, ◌≤◌, List, [], ◌∷◌, length, All, get_or, inl, inr, sym, ◌∙◌, ap, subst, arith}
use Rattle.std.specs.Prelude.{⊤}
use Rattle.std.proofs.lemmas.List.{length-map}
use Rattle.std.proofs.lemmas.Option.{slice_get_within}
use Rattle.std.proofs.lemmas.List.Elements.{All-nil, All-cons}
use Rattle.sol_model.specs.declared.system.System.{System}
use Rattle.sol_model.specs.Families.{Family, Has}
use Rattle.sol_model.specs.Systems.{IsLocation, location_count}
use Rattle.sol_model.proofs.Members.{All-at}
use Rattle.obj_space.specs.declared.location.Location.{Location}
use Rattle.alias_query.specs.declared.answers.Question.{Question}
use Rattle.alias_query.specs.declared.answers.Question.TheVariants.{Points, Alias, Reaches}
use Rattle.alias_query.specs.declared.answers.Answer.{Answer}
use Rattle.alias_query.specs.declared.answers.Answer.TheVariants.{Yes, No, NotYet}
use Rattle.alias_query.specs.Answers.{AnswerOf, IsKnown}
use Rattle.alias_query.specs.Asked.{made_setting, Asks, Means, AreAsked}
use Rattle.alias_query.specs.ask_rounds.Said.{Says, AreAnswers}
use Rattle.row_share.specs.share_laws.Renumbering.{renumbered_call, renumbered_function}
use Rattle.row_share.proofs.share_laws.Forward.{IsRenumbered, over}
use Rattle.row_share.proofs.share_laws.Graphs.{same_targets}

-- the rows that a question names are those of locations
abbrev pub OfLocations : System → Question → Type 0
OfLocations S (Points row location) = IsLocation S row
OfLocations S (Alias left right) = IsLocation S left × IsLocation S right
OfLocations S (Reaches call function) = ⊤

-- ---- what a script asks is of locations
named_locations : (space : List Location) (S : System) (names : List (List ℕ)) → length space ≡ location_count S → (verb first second : List ℕ) (question : Question) → Means (made_setting space S names) verb first second question → OfLocations S question
named_locations space S names count verb first second (Points row location) m = let lt = slice_get_within space row _ m.1.there in omega arith
named_locations space S names count verb first second (Alias left right) m = (
  (let lt = slice_get_within space left _ m.1.there in omega arith),
  (let lt = slice_get_within space right _ m.2.there in omega arith),
)
named_locations space S names count verb first second (Reaches call function) m = tt

asked_locations : (space : List Location) (S : System) (names : List (List ℕ)) → length space ≡ location_count S → (line : List ℕ) (question : Question) → Asks (made_setting space S names) line question → OfLocations S question
asked_locations space S names count line question asks = named_locations space S names count asks.verb asks.first asks.second question asks.meant

pub asked_are : (space : List Location) (S : System) (names : List (List ℕ)) → length space ≡ location_count S → (lines : List (List ℕ)) (questions : List Question) → AreAsked (made_setting space S names) lines questions → All (OfLocations S) questions
asked_are space S names count [] questions none = subst (All (OfLocations S)) (sym none) (All-nil (OfLocations S))
asked_are space S names count (line ∷ lines) questions either = elim either [
  | inl empty ↦ asked_are space S names count lines questions empty.1
  | inr some ↦ subst (All (OfLocations S)) (sym some.2) (All-cons (OfLocations S) some.0 some.1 (asked_locations space S names count line some.0 some.3) (asked_are space S names count lines some.1 some.4))
]

module _ (S T : System) (new : ℕ → ℕ) (is : IsRenumbered S T new) where
  same_locations : location_count T ≡ location_count S
  same_locations = ap length is.locations

  -- ---- their numbers stay in range
  known_over : location_count S ≤ T.rows → (question : Question) → IsKnown S question → OfLocations S question → IsKnown T question
  known_over rows (Points row location) known own = ((let o : row < location_count S = own in omega arith), (let k = known.1 in let e = same_locations in omega arith))
  known_over rows (Alias left right) known own = ((let l = own.0 in omega arith), (let r = own.1 in omega arith))
  known_over rows (Reaches call function) known own = (
    (let k = known.0 in let e : length T.calls ≡ length S.calls = ap length is.calls ∙ length-map S.calls (renumbered_call new) in omega arith),
    (let k = known.1 in let e : length T.functions ≡ length S.functions = ap length is.functions ∙ length-map S.functions (renumbered_function new) in omega arith),
  )

  pub all_known : location_count S ≤ T.rows → (questions : List Question) → All (IsKnown S) questions → All (OfLocations S) questions → All (IsKnown T) questions
  all_known rows questions known own k d lt = known_over rows (get_or questions k d) (known k d lt) (own k d lt)

  -- ---- what is said of them
  fixed_has : (G : Family) (row location : ℕ) → IsLocation S row → Has G row location ↔ Has (over G new) row location
  fixed_has G row location own = (subst (λ (r : ℕ). Has G r location) (sym (is.fixed row own)), subst (λ (r : ℕ). Has G r location) (is.fixed row own))

  answer_same : (G : Family) (question : Question) → OfLocations S question → AnswerOf T G question ↔ AnswerOf S (over G new) question
  answer_same G (Points row location) own = fixed_has G row location own
  answer_same G (Alias left right) own = (
    λ h. (h.0, (fixed_has G left h.0 own.0).0 h.1, (fixed_has G right h.0 own.1).0 h.2),
    λ h. (h.0, (fixed_has G left h.0 own.0).1 h.1, (fixed_has G right h.0 own.1).1 h.2),
  )
  answer_same G (Reaches call function) own = same_targets S T new is G call function

  says_same : (G : Family) (question : Question) (answer : Answer) → OfLocations S question → Says T G question answer → Says S (over G new) question answer
  says_same G question Yes own says = (answer_same G question own).0 says
  says_same G question No own says = λ h. says ((answer_same G question own).1 h)
  says_same G question NotYet own says = says

  pub answers_same : (G : Family) (questions : List Question) (answers : List Answer) → All (OfLocations S) questions → AreAnswers T G questions answers → AreAnswers S (over G new) questions answers
  answers_same G questions answers own are = record {
    count = are.count;
    each = λ i question answer there said. says_same G question answer (All-at (OfLocations S) questions i question own there) (are.each i question answer there said);
  }
