-- Systems that are one, but for numbers, have one least solution, and one list of answers.
use Rattle.std.proofs.Common.{arith, ◌≡◌, ◌∙◌, ℕ, suc, List, [], ◌∷◌, map, All, refl, ap, subst}
use Rattle.sol_model.specs.declared.system.System.{System}
use Rattle.sol_model.specs.Families.{Family, Has}
use Rattle.sol_model.specs.Solutions.{IsLeast}
use Rattle.sol_model.specs.Systems.{IsValid}
use Rattle.alias_query.specs.declared.answers.Question.{Question}
use Rattle.alias_query.specs.declared.answers.Question.TheVariants.{Points, Alias, Reaches}
use Rattle.alias_query.specs.declared.answers.Answer.{Answer}
use Rattle.alias_query.specs.declared.answers.Answer.TheVariants.{Yes, No, NotYet}
use Rattle.alias_query.specs.Answers.{AnswerOf}
use Rattle.alias_query.specs.ask_rounds.Said.{Says, AreAnswers, answers_text}
use Rattle.twin_report_laws.specs.systems.Systems.{Maps, SystemLeads, seen_through, question_moved, LeadsBack, SaySame, OneSolution, OneText}
use Rattle.twin_report_laws.proofs.systems.Leading.{closed_there, target_there}

least_there : (S T : System) (m : Maps) (F G : Family) → IsValid S → SystemLeads S T m → IsLeast S F → IsLeast T G → (row location : ℕ) → Has F row location → Has G (m.row row) (m.row location)
least_there S T m F G valid lead least other = least.below (seen_through m G) (closed_there S T m G valid lead other.closed)

answer_there : (S T : System) (m : Maps) (F G : Family) → SystemLeads S T m → ((row location : ℕ) → Has F row location → Has G (m.row row) (m.row location)) → (question : Question)
    → AnswerOf S F question → AnswerOf T G (question_moved m question)
answer_there S T m F G lead inside (Points row location) h = inside row location h
answer_there S T m F G lead inside (Alias left right) h = (m.row h.0, inside left h.0 h.1, inside right h.0 h.2)
answer_there S T m F G lead inside (Reaches call function) h =
    let (d, at, same) = lead.calls call h.0 h.2 in
    let (g, target, like) = target_there S T m lead F G inside call h.0 d function h.1 h.2 at same h.3 in
    (d, g, at, target)

pub one_solution : OneSolution
one_solution S T to back F G valid other_valid lead again least other =
    let inside = least_there S T to F G valid lead least other in
    let outside = least_there T S back G F other_valid again other least in
    record {
      facts = inside;
      forth = answer_there S T to F G lead inside;
      returned = λ question round h. subst (AnswerOf S F) round (answer_there T S back G F again outside (question_moved to question) h);
    }

module _ (S T : System) (to back : Maps) (F G : Family) (same : SaySame S T to back F G) where
  one_answer : (question : Question) (a b : Answer) → LeadsBack to back question → Says S F question a → Says T G (question_moved to question) b → a ≡ b
  one_answer question Yes Yes round h k = refl
  one_answer question Yes No round h k = absurd (k (same.forth question h))
  one_answer question Yes NotYet round h k = absurd k
  one_answer question No Yes round h k = absurd (h (same.returned question round k))
  one_answer question No No round h k = refl
  one_answer question No NotYet round h k = absurd k
  one_answer question NotYet b round h k = absurd h

  -- the answers to all questions but the first
  later : (U : System) (H : Family) (question : Question) (questions : List Question) (answer : Answer) (answers : List Answer) → AreAnswers U H (question ∷ questions) (answer ∷ answers) → AreAnswers U H questions answers
  later U H question questions answer answers h = record { count = (let e = h.count in omega (arith, e)); each = λ i q a at there. h.each (suc i) q a at there }

  rounds : (question : Question) (questions : List Question) → All (LeadsBack to back) (question ∷ questions) → All (LeadsBack to back) questions
  rounds question questions h = λ k d lt. h (suc k) d (omega arith)

  one_list : (questions : List Question) (answers others : List Answer) → All (LeadsBack to back) questions → AreAnswers S F questions answers → AreAnswers T G (map (question_moved to) questions) others → answers ≡ others
  one_list [] [] [] round h k = refl
  one_list [] [] (b ∷ others) round h k = (let e = k.count in absurd (omega (arith, e)))
  one_list [] (a ∷ answers) others round h k = (let e = h.count in absurd (omega (arith, e)))
  one_list (q ∷ questions) [] others round h k = (let e = h.count in absurd (omega (arith, e)))
  one_list (q ∷ questions) (a ∷ answers) [] round h k = (let e = k.count in absurd (omega (arith, e)))
  one_list (q ∷ questions) (a ∷ answers) (b ∷ others) round h k =
      let first : a ≡ b = one_answer q a b (round 0 q (omega arith)) (h.each 0 q a refl refl) (k.each 0 (question_moved to q) b refl refl) in
      let rest = one_list questions answers others (rounds q questions round) (later S F q questions a answers h) (later T G (question_moved to q) (map (question_moved to) questions) b others k) in
      ap (λ (x : Answer). x ∷ answers) first ∙ ap (λ (xs : List Answer). b ∷ xs) rest

pub one_text : OneText
one_text S T to back F G questions answers others valid other_valid lead again least other round h k =
    ap answers_text (one_list S T to back F G (one_solution S T to back F G valid other_valid lead again least other) questions answers others round h k)
