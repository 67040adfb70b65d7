-- What settled asks say.
use Rattle.std.specs.Prelude.{◌≡◌, ◌↔◌, Bool, true, false, List, [], ◌∷◌, ⊤}
use Rattle.sol_model.specs.declared.system.System.{System}
use Rattle.sol_model.specs.Families.{Family}
use Rattle.sol_model.specs.Solutions.{IsLeast}
use Rattle.alias_query.specs.declared.answers.Answer.{Answer}
use Rattle.alias_query.specs.declared.answers.Answer.TheVariants.{Yes, No, NotYet}
use Rattle.alias_query.specs.Answers.{AnswerOf}
use Rattle.question_desk.specs.declared.ask.Ask.{Ask}

-- an answer is yes
abbrev pub is_yes : Answer → Bool
is_yes Yes = true
is_yes No = false
is_yes NotYet = false

-- true exactly where the least solution says yes to the ask
abbrev pub IsSettled : System → Ask → Bool → Type 0
IsSettled S ask answer = (F : Family) → IsLeast S F → (answer ≡ true ↔ AnswerOf S F ask.question)

-- one answer for each ask, in order
abbrev pub AreSettled : System → List Ask → List Bool → Type 0
AreSettled S [] [] = ⊤
AreSettled S [] (answer ∷ answers) = ⊥
AreSettled S (ask ∷ asks) [] = ⊥
AreSettled S (ask ∷ asks) (answer ∷ answers) = IsSettled S ask answer × AreSettled S asks answers
