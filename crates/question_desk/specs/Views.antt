-- What a view knows, and how each kind of step changes it.
use Rattle.std.specs.Prelude.{ℕ, ◌==◌, ◌||◌, true, false, if◌then◌else◌, List, [], ◌∷◌, ◌++◌}
use Rattle.alias_query.specs.declared.answers.Question.{Question}
use Rattle.question_desk.specs.declared.ask.Ask.{Ask}
use Rattle.question_desk.specs.declared.view.View.{View}

-- the first view: it has all roles, and nothing was sent or taken
abbrev pub everyone : View
everyone = record { first = true; second = true; takes = true; sent_first = []; sent_second = []; taken = [] }

-- a spent view: it has no role
abbrev pub nobody : View
nobody = record { first = false; second = false; takes = false; sent_first = []; sent_second = []; taken = [] }

-- the view of a sender, 0 or 1, which has sent these questions
abbrev pub sender_view : ℕ → List Question → View
sender_view number sent =
    if number == 0
    then record { first = true; second = false; takes = false; sent_first = sent; sent_second = []; taken = [] }
    else record { first = false; second = true; takes = false; sent_first = []; sent_second = sent; taken = [] }

-- the view of the taker, which has taken these asks
abbrev pub taker_view : List Ask → View
taker_view taken =
    record { first = false; second = false; takes = true; sent_first = []; sent_second = []; taken = taken }

-- the role of sender 1 is handed on
abbrev pub without_second : View → View
without_second v = record v { second = false; sent_second = [] }

abbrev pub second_of : View → View
second_of v = sender_view 1 v.sent_second

-- the taker's role is handed on
abbrev pub without_taker : View → View
without_taker v = record v { takes = false; taken = [] }

abbrev pub taker_of : View → View
taker_of v = taker_view v.taken

-- of two passes that are joined the first gets the roles and the lists of both
abbrev pub joined : View → View → View
joined v w =
    record {
      first = v.first || w.first;
      second = v.second || w.second;
      takes = v.takes || w.takes;
      sent_first = if w.first then w.sent_first else v.sent_first;
      sent_second = if w.second then w.sent_second else v.sent_second;
      taken = if w.takes then w.taken else v.taken;
    }

-- a push adds the question to what its sender has sent
abbrev pub sending : View → Ask → View
sending v ask =
    if ask.sender == 0 then record v { sent_first = v.sent_first ++ ask.question ∷ [] }
    else record v { sent_second = v.sent_second ++ ask.question ∷ [] }

-- a pop adds the ask to what was taken
abbrev pub taking : View → Ask → View
taking v ask = record v { taken = v.taken ++ ask ∷ [] }
