-- Senders stay senders, and the taker stays the taker.
use Rattle.std.proofs.Common.{◌≡◌, ℕ, zero, suc, ◌<◌, List, [], ◌∷◌, ◌++◌, sym, ap, ◌∙◌, refl, arith}
use Rattle.alias_query.specs.declared.answers.Question.{Question}
use Rattle.question_desk.specs.declared.ask.Ask.{Ask}
use Rattle.question_desk.specs.declared.view.View.{View}
use Rattle.question_desk.specs.Views.{sender_view, taker_view, sending, taking}
use Rattle.question_desk.specs.Senders.{sent_by}
use Rattle.question_desk.proofs.Numbered.{ask_at}

-- what a push makes of a sender's view
after_push : (s number : ℕ) (sent : List Question) (q : Question) → s < 2
    → sending (sender_view s sent) (ask_at s number q) ≡ sender_view s (sent ++ q ∷ [])
after_push zero number sent q known = refl
after_push (suc zero) number sent q known = refl
after_push (suc (suc s)) number sent q known = absurd (omega arith)

-- what a sender has sent
sent_there : (s : ℕ) (sent : List Question) → s < 2 → sent_by s (sender_view s sent) ≡ sent
sent_there zero sent known = refl
sent_there (suc zero) sent known = refl
sent_there (suc (suc s)) sent known = absurd (omega arith)

pushed : (s number : ℕ) (v w : View) (q : Question) → s < 2 → v ≡ sender_view s (sent_by s v) → w ≡ sending v (ask_at s number q)
    → w ≡ sender_view s (sent_by s v ++ q ∷ [])
pushed s number v w q known role then =
    then ∙ ap (λ (u : View). sending u (ask_at s number q)) role ∙ after_push s number (sent_by s v) q known

-- a push adds the question to what was sent
pub sent_more : (s number : ℕ) (v w : View) (q : Question) → s < 2 → v ≡ sender_view s (sent_by s v) → w ≡ sending v (ask_at s number q)
    → sent_by s w ≡ sent_by s v ++ q ∷ []
sent_more s number v w q known role then =
    ap (sent_by s) (pushed s number v w q known role then) ∙ sent_there s (sent_by s v ++ q ∷ []) known

-- and leaves a sender's view
pub still_sender : (s number : ℕ) (v w : View) (q : Question) → s < 2 → v ≡ sender_view s (sent_by s v) → w ≡ sending v (ask_at s number q)
    → w ≡ sender_view s (sent_by s w)
still_sender s number v w q known role then =
    pushed s number v w q known role then ∙ ap (sender_view s) (sym (sent_more s number v w q known role then))

-- a pop leaves the taker's view
pub still_taker : (v w : View) (ask : Ask) → v ≡ taker_view v.taken → w ≡ taking v ask → w ≡ taker_view w.taken
still_taker v w ask role then =
    then ∙ ap (λ (u : View). taking u ask) role ∙ ap taker_view (sym (ap (λ (u : View). u.taken) then))
