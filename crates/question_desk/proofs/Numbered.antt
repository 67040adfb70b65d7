-- The asks of a sender, one more at the end.
use Rattle.std.proofs.Common.{◌≡◌, ℕ, ◌+◌, ◌==◌, List, [], ◌∷◌, ◌++◌, length, sym, ap, ◌∙◌, arith, append_assoc}
use Rattle.std.proofs.lemmas.List.Elements.{filter-append}
use Rattle.alias_query.specs.declared.answers.Question.{Question}
use Rattle.question_desk.specs.declared.ask.Ask.{Ask}
use Rattle.question_desk.specs.Order.{asks_of, asks_from, numbered}

abbrev pub ask_at : ℕ → ℕ → Question → Ask
ask_at sender number question = record { sender = sender; number = number; question = question }

from_more : (s n k : ℕ) (qs : List Question) (q : Question) → k ≡ n + length qs
    → asks_from s n (qs ++ q ∷ []) ≡ asks_from s n qs ++ ask_at s k q ∷ []
from_more s n k [] q e = let same : n ≡ k = omega arith in ap (λ m. ask_at s m q ∷ []) same
from_more s n k (p ∷ qs) q e =
    let more : k ≡ (n + 1) + length qs = omega arith in
    ap (λ l. ask_at s n p ∷ l) (from_more s (n + 1) k qs q more)

-- one more question is one more ask, whose number is how many there were
pub numbered_more : (s k : ℕ) (qs : List Question) (q : Question) → k ≡ length qs
    → numbered s (qs ++ q ∷ []) ≡ numbered s qs ++ ask_at s k q ∷ []
numbered_more s k qs q e = let from : k ≡ 0 + length qs = omega arith in from_more s 0 k qs q from

-- the asks of a sender behind one more ask
pub asks_of_more : (s : ℕ) (taken waiting : List Ask) (ask : Ask)
    → asks_of s (taken ++ (waiting ++ ask ∷ [])) ≡ asks_of s (taken ++ waiting) ++ asks_of s (ask ∷ [])
asks_of_more s taken waiting ask =
    ap (asks_of s) (sym (append_assoc taken waiting (ask ∷ [])))
    ∙ filter-append (λ (a : Ask). a.sender == s) (taken ++ waiting) (ask ∷ [])
