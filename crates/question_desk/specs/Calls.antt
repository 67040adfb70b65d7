-- What the contracts of the calls say of a desk, its senders and its taker.
use Rattle.std.specs.Prelude.{◌≡◌, ℕ, ◌+◌, List, [], ◌++◌, length}
use Rattle.crossbeam_queue.specs.Fifo.{Held}
use Rattle.crossbeam_queue.specs.Passes.{view, ruled_capacity}
use Rattle.alias_query.specs.declared.answers.Question.{Question}
use Rattle.question_desk.specs.declared.ask.Ask.{Ask}
use Rattle.question_desk.specs.declared.desk.Desk.{Desk}
use Rattle.question_desk.specs.declared.desk.Sender.{Sender}
use Rattle.question_desk.specs.declared.desk.Taker.{Taker}
use Rattle.question_desk.specs.Order.{asks_of, numbered, Finds}
use Rattle.question_desk.specs.Senders.{sent_by}

-- for how many asks the desk has room
abbrev pub room_of : Desk → ℕ
room_of desk = ruled_capacity desk.queue

-- a sender's number, 0 or 1
abbrev pub number_of : Sender → ℕ
number_of sender = sender.sender

-- the questions that a sender has sent, in order
abbrev pub sent : Sender → List Question
sent sender = sent_by sender.sender (view sender.pass)

-- the asks that the taker has taken, in order
abbrev pub taken : Taker → List Ask
taken taker = (view taker.pass).taken

-- it is the desk's own sender
abbrev pub IsSenderOf : Desk → Sender → Type 0
IsSenderOf desk sender = sender.pass.table_id ≡ desk.queue.table.shared.table_id

-- it is the desk's own taker
abbrev pub IsTakerOf : Desk → Taker → Type 0
IsTakerOf desk taker = taker.pass.table_id ≡ desk.queue.table.shared.table_id

-- a step of the sender's pass found so many asks in the queue: behind what had been taken by then, those of the
-- sender are what it has sent
abbrev pub SenderFound : Sender → ℕ → Type 0
SenderFound sender count = Held count (Finds (view sender.pass))

-- a step of the taker's pass found so many asks in the queue: behind what it has taken, each sender's are what that
-- sender had sent by then
abbrev pub TakerFound : Taker → ℕ → Type 0
TakerFound taker count = Held count (Finds (view taker.pass))

-- what was taken of a sender is a beginning of what it sent, in its order, each question once, and all of it where
-- nothing is left
pub record IsTakenInOrder (sender : ℕ) (questions : List Question) (asks : List Ask) (left : ℕ) : Type 0 where
  pub rest : List Ask
  pub beginning : asks_of sender asks ++ rest ≡ numbered sender questions
  pub all : left ≡ 0 → rest ≡ []

-- the desk kept the order of both senders, and lost nothing: what was sent was taken, or is left
pub record KeptOrder (sent_first sent_second : List Question) (asks : List Ask) (left : ℕ) : Type 0 where
  pub first : IsTakenInOrder 0 sent_first asks left
  pub second : IsTakenInOrder 1 sent_second asks left
  pub count : length asks + left ≡ length sent_first + length sent_second
