-- What the three passes know once they are joined.
use Rattle.std.proofs.Common.{◌≡◌, ℕ, ◌==◌, List, [], ◌∷◌, ◌++◌, length, sym, ap, ◌∙◌, refl, subst, arith}
use Rattle.std.proofs.lemmas.List.Elements.{filter-append}
use Rattle.crossbeam_queue.specs.Fifo.{Held}
use Rattle.alias_query.specs.declared.answers.Question.{Question}
use Rattle.question_desk.specs.declared.ask.Ask.{Ask}
use Rattle.question_desk.specs.declared.view.View.{View}
use Rattle.question_desk.specs.Views.{sender_view, taker_view, joined}
use Rattle.question_desk.specs.Senders.{sent_by}
use Rattle.question_desk.specs.Order.{asks_of, numbered, Sheet, IsInOrder, Finds}
use Rattle.question_desk.specs.Calls.{IsTakenInOrder, KeptOrder}

empty_of : (l : List Ask) → length l ≡ 0 → l ≡ []
empty_of [] e = refl
empty_of (x ∷ xs) e = absurd (omega arith)

taken_in_order : (s : ℕ) (questions : List Question) (asks waiting : List Ask) (left : ℕ) → length waiting ≡ left
    → asks_of s (asks ++ waiting) ≡ numbered s questions
    → IsTakenInOrder s questions asks left
taken_in_order s questions asks waiting left count order = record {
  rest = asks_of s waiting;
  beginning = sym (filter-append (λ (a : Ask). a.sender == s) asks waiting) ∙ order;
  all = λ none. ap (asks_of s) (empty_of waiting (count ∙ none));
}

in_order : (first second : List Question) (asks waiting : List Ask) (left : ℕ) → length waiting ≡ left
    → IsInOrder (record { sent_first = first; sent_second = second; taken = asks }) waiting
    → KeptOrder first second asks left
in_order first second asks waiting left count order = record {
  first = taken_in_order 0 first asks waiting left count order.first;
  second = taken_in_order 1 second asks waiting left count order.second;
  count = let c = order.count in omega arith;
}

pub kept_order : (first second : List Question) (asks : List Ask) (left : ℕ) (v : View)
    → v ≡ joined (joined (sender_view 0 first) (sender_view 1 second)) (taker_view asks)
    → Held left (Finds v)
    → KeptOrder first second asks left
kept_order first second asks left v is held =
    let waiting = held.0 in
    let found = held.2 in
    let sheet = found.sheet in
    let a : sheet.sent_first ≡ first = sym (found.own.first (ap (λ (u : View). u.first) is)) ∙ ap (λ (u : View). u.sent_first) is in
    let b : sheet.sent_second ≡ second = sym (found.own.second (ap (λ (u : View). u.second) is)) ∙ ap (λ (u : View). u.sent_second) is in
    let c : sheet.taken ≡ asks = sym (found.own.taker (ap (λ (u : View). u.takes) is)) ∙ ap (λ (u : View). u.taken) is in
    let same : sheet ≡ record { sent_first = first; sent_second = second; taken = asks } =
    λ i. record { sent_first = a i; sent_second = b i; taken = c i } in
    let P : Sheet → Type 0 = λ s. IsInOrder s waiting in
    in_order first second asks waiting left held.1 (subst P same found.order)

-- the view of the three passes once they are joined
pub finished : (first second last once twice : View) (s r : ℕ) → s ≡ 0 → r ≡ 1
    → first ≡ sender_view s (sent_by s first)
    → second ≡ sender_view r (sent_by r second)
    → last ≡ taker_view last.taken
    → once ≡ joined first second
    → twice ≡ joined once last
    → twice ≡ joined (joined (sender_view 0 (sent_by s first)) (sender_view 1 (sent_by r second))) (taker_view last.taken)
finished first second last once twice s r zeroth next role_first role_second role_last join_one join_two =
    let a : first ≡ sender_view 0 (sent_by s first) = role_first ∙ ap (λ n. sender_view n (sent_by s first)) zeroth in
    let b : second ≡ sender_view 1 (sent_by r second) = role_second ∙ ap (λ n. sender_view n (sent_by r second)) next in
    let x = sender_view 0 (sent_by s first) in
    let y = sender_view 1 (sent_by r second) in
    let z = taker_view last.taken in
    join_two
    ∙ ap (λ (v : View). joined v last) (join_one ∙ ap (λ (v : View). joined v second) a ∙ ap (joined x) b)
    ∙ ap (joined (joined x y)) role_last
