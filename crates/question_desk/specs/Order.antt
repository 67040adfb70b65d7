-- The rule of the queue: what was taken of each sender, and then what the queue has of it, is what it sent, in its
-- order and with numbers from 0. Each role is had by at most one view, which has that role's list.
use Rattle.std.specs.Prelude.{◌≡◌, ℕ, ◌+◌, ◌==◌, Bool, true, List, [], ◌∷◌, ◌++◌, length}
use Rattle.std.specs.List.{filter}
use mathlib.Core.Option.{some}
use lib.ListN.{get_elem?}
use Rattle.alias_query.specs.declared.answers.Question.{Question}
use Rattle.question_desk.specs.declared.ask.Ask.{Ask}
use Rattle.question_desk.specs.declared.view.View.{View}

-- those of these asks that are of a sender, in their order
abbrev pub asks_of : ℕ → List Ask → List Ask
asks_of sender asks = filter (λ (ask : Ask). ask.sender == sender) asks

-- the asks that a sender makes of its questions, the first of them with this number
abbrev pub asks_from : ℕ → ℕ → List Question → List Ask
asks_from sender number [] = []
asks_from sender number (question ∷ questions) =
    record { sender = sender; number = number; question = question } ∷ asks_from sender (number + 1) questions

-- the asks that a sender makes of its questions, with numbers from 0
abbrev pub numbered : ℕ → List Question → List Ask
numbered sender questions = asks_from sender 0 questions

-- what the senders have sent, and what was taken
pub record Sheet : Type 0 where
  pub sent_first : List Question
  pub sent_second : List Question
  pub taken : List Ask

-- what was taken of each sender, and then what waits of it, is what it sent; and all that was sent was taken or waits
pub record IsInOrder (sheet : Sheet) (waiting : List Ask) : Type 0 where
  pub first : asks_of 0 (sheet.taken ++ waiting) ≡ numbered 0 sheet.sent_first
  pub second : asks_of 1 (sheet.taken ++ waiting) ≡ numbered 1 sheet.sent_second
  pub count : length sheet.taken + length waiting ≡ length sheet.sent_first + length sheet.sent_second

-- where a view has a role, it has that role's list
pub record Matches (sheet : Sheet) (v : View) : Type 0 where
  pub first : v.first ≡ true → v.sent_first ≡ sheet.sent_first
  pub second : v.second ≡ true → v.sent_second ≡ sheet.sent_second
  pub taker : v.takes ≡ true → v.taken ≡ sheet.taken

-- the number of the one pass that has each role
pub record Seats : Type 0 where
  pub first : ℕ
  pub second : ℕ
  pub taker : ℕ

-- a pass that has a role is the one that has it, and has that role's list
abbrev pub Has : {A : Type 0} → Bool → List A → ℕ → ℕ → List A → Type 0
Has role list pass holder whole = role ≡ true → (pass ≡ holder) × (list ≡ whole)

pub record Fits (sheet : Sheet) (seats : Seats) (pass : ℕ) (v : View) : Type 0 where
  pub first : Has v.first v.sent_first pass seats.first sheet.sent_first
  pub second : Has v.second v.sent_second pass seats.second sheet.sent_second
  pub taker : Has v.takes v.taken pass seats.taker sheet.taken

-- the rule, of what waits in the queue and of the views of all passes; a spent view has no role, and is left out
pub record Kept (waiting : List Ask) (views : List View) : Type 0 where
  pub sheet : Sheet
  pub seats : Seats
  pub order : IsInOrder sheet waiting
  pub fits : (pass : ℕ) (v : View) → get_elem? views pass ≡ some v → Fits sheet seats pass v

-- what a view finds where it sees what waits in the queue at one moment
pub record Finds (v : View) (waiting : List Ask) : Type 0 where
  pub sheet : Sheet
  pub order : IsInOrder sheet waiting
  pub own : Matches sheet v
