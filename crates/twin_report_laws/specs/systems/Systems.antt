-- Systems that are one, but for the numbers of rows, types, functions and calls.
use Rattle.std.specs.Prelude.{◌≡◌, ℕ, List, map, Some, slice_get, Contains, All}
use Rattle.sol_model.specs.declared.system.System.{System}
use Rattle.sol_model.specs.declared.system.CallSite.{CallSite}
use Rattle.sol_model.specs.declared.system.Function.{Function}
use Rattle.sol_model.specs.declared.system.Constraint.{Constraint}
use Rattle.sol_model.specs.declared.system.Constraint.TheVariants.{Address, Copy, Load, Store, Field, Contents, Call}
use Rattle.sol_model.specs.Families.{Family, Has}
use Rattle.sol_model.specs.Places.{sub_of, field_of, deep}
use Rattle.sol_model.specs.Solutions.{IsClosed, IsLeast}
use Rattle.sol_model.specs.Systems.{IsNodeOf, IsValid}
use Rattle.alias_query.specs.declared.answers.Question.{Question}
use Rattle.alias_query.specs.declared.answers.Question.TheVariants.{Points, Alias, Reaches}
use Rattle.alias_query.specs.declared.answers.Answer.{Answer}
use Rattle.alias_query.specs.Answers.{AnswerOf}
use Rattle.alias_query.specs.ask_rounds.Said.{AreAnswers, answers_text}

-- the number that each row, type, function and call of one system has in the other one; a location has that of its
-- row
pub record Maps : Type 0 where
  pub row : ℕ → ℕ
  pub ty : ℕ → ℕ
  pub function : ℕ → ℕ
  pub call : ℕ → ℕ

abbrev pub constraint_moved : Maps → Constraint → Constraint
constraint_moved m (Address row location) = Address (m.row row) (m.row location)
constraint_moved m (Copy from to) = Copy (m.row from) (m.row to)
constraint_moved m (Load pointer to ty sub) = Load (m.row pointer) (m.row to) (m.ty ty) sub
constraint_moved m (Store pointer from ty sub) = Store (m.row pointer) (m.row from) (m.ty ty) sub
constraint_moved m (Field from to ty member) = Field (m.row from) (m.row to) (m.ty ty) member
constraint_moved m (Contents to from) = Contents (m.row to) (m.row from)
constraint_moved m (Call call) = Call (m.call call)

-- a function is the same, but for these numbers
pub record SameFunction (m : Maps) (f g : Function) : Type 0 where
  pub location : g.location ≡ m.row f.location
  pub parameters : g.parameters ≡ map (map m.row) f.parameters
  pub result : g.result ≡ map m.row f.result
  pub library : g.library ≡ f.library
  pub effects : g.effects ≡ f.effects
  -- what is called back stays so
  pub compares : f.signature ≡ 0 → g.signature ≡ 0
  pub ends : f.signature ≡ 1 → g.signature ≡ 1

-- and so is a call, which gets what it gets from the same functions
pub record SameCall (m : Maps) (c d : CallSite) : Type 0 where
  pub callee : d.callee ≡ m.row c.callee
  pub arguments : d.arguments ≡ map (map m.row) c.arguments
  pub result : d.result ≡ map m.row c.result
  pub fresh : (number location : ℕ)
      → Contains c.fresh (number, location)
      → Contains d.fresh (m.function number, m.row location)

-- All that one system has stands in the other one under these numbers: its constraints, functions and calls, which
-- functions a call agrees with, and where its locations lead.
pub record SystemLeads (S T : System) (m : Maps) : Type 0 where
  pub constraints : (c : Constraint) → Contains S.constraints c → Contains T.constraints (constraint_moved m c)
  pub functions : (n : ℕ) (f : Function) → slice_get S.functions n ≡ Some f
      → (g : Function) × (slice_get T.functions (m.function n) ≡ Some g) × SameFunction m f g
  pub calls : (n : ℕ) (c : CallSite) → slice_get S.calls n ≡ Some c
      → (d : CallSite) × (slice_get T.calls (m.call n) ≡ Some d) × SameCall m c d
  pub agree : (n k : ℕ) (c d : CallSite) (f g : Function)
      → slice_get S.calls n ≡ Some c
      → slice_get S.functions k ≡ Some f
      → slice_get T.calls (m.call n) ≡ Some d
      → slice_get T.functions (m.function k) ≡ Some g
      → f.signature ≡ c.signature
      → g.signature ≡ d.signature
  pub subs : (location ty sub node : ℕ) → IsNodeOf S ty sub → sub_of S location ty sub ≡ Some node
      → sub_of T (m.row location) (m.ty ty) sub ≡ Some (m.row node)
  pub fields : (location ty member node : ℕ) → field_of S location ty member ≡ Some node
      → field_of T (m.row location) (m.ty ty) member ≡ Some (m.row node)
  pub pairs : (to from a b : ℕ)
      → Contains (deep S to from) (a, b)
      → Contains (deep T (m.row to) (m.row from)) (m.row a, m.row b)

-- a family of the other system, seen through these numbers
abbrev pub seen_through : Maps → Family → Family
seen_through m G row location = G (m.row row) (m.row location)

abbrev pub ClosedThere : Type 0
ClosedThere = (S T : System) (m : Maps) (G : Family)
    → IsValid S
    → SystemLeads S T m
    → IsClosed T G
    → IsClosed S (seen_through m G)

abbrev pub question_moved : Maps → Question → Question
question_moved m (Points row location) = Points (m.row row) (m.row location)
question_moved m (Alias left right) = Alias (m.row left) (m.row right)
question_moved m (Reaches call function) = Reaches (m.call call) (m.function function)

-- a question's numbers lead back
abbrev pub LeadsBack : Maps → Maps → Question → Type 0
LeadsBack to back question = question_moved back (question_moved to question) ≡ question

-- two families say the same, but for numbers
pub record SaySame (S T : System) (to back : Maps) (F G : Family) : Type 0 where
  pub facts : (row location : ℕ) → Has F row location → Has G (to.row row) (to.row location)
  pub forth : (question : Question) → AnswerOf S F question → AnswerOf T G (question_moved to question)
  pub returned : (question : Question)
      → LeadsBack to back question
      → AnswerOf T G (question_moved to question)
      → AnswerOf S F question

-- two systems that lead to each other have one least solution
abbrev pub OneSolution : Type 0
OneSolution =
    (S T : System) (to back : Maps) (F G : Family) → IsValid S → IsValid T → SystemLeads S T to → SystemLeads T S back
    → IsLeast S F → IsLeast T G → SaySame S T to back F G

-- and one list of answers to the same questions, so one text of them
abbrev pub OneText : Type 0
OneText =
    (S T : System) (to back : Maps) (F G : Family) (questions : List Question) (answers others : List Answer)
    → IsValid S
    → IsValid T
    → SystemLeads S T to → SystemLeads T S back → IsLeast S F → IsLeast T G → All (LeadsBack to back) questions
    → AreAnswers S F questions answers
    → AreAnswers T G (map (question_moved to) questions) others
    → answers_text answers ≡ answers_text others

-- all numbers as they are
abbrev pub same_numbers : Maps
same_numbers = record { row = λ n. n; ty = λ n. n; function = λ n. n; call = λ n. n }

-- a system leads to itself
abbrev pub LeadsToItself : Type 0
LeadsToItself = (S : System) → SystemLeads S S same_numbers
