-- Texts that are read alone are refused in no other way alone, and refusals alone are unique.
use Rattle.std.proofs.Common.{◌≡◌, ℕ, ◌+◌, inl, inr, List, [], ◌∷◌, sym, ◌∙◌, ap, subst, Ok, Err, Option, Some}
use Rattle.core_tree.specs.declared.node.Unit.{Unit}
use Rattle.c_lexer.specs.declared.Token.{Token}
use Rattle.c_lexer.proofs.OneCut.{one_cut}
use Rattle.c_lexer.specs.Cut.{IsTokens}
use Rattle.c_grammar.specs.Reads.{State, Fault}
use Rattle.c_grammar.proofs.Unique.{opens_one}
use Rattle.c_scope.specs.declared.kinds.NameFault.{NameFault}
use Rattle.c_scope.specs.Resolves.{first_of}
use Rattle.text_units.specs.Answers.{NamedText, Answer}
use Rattle.report_cli.specs.Laws.{OneAlone}
use Rattle.text_units.specs.Alone.{Reading, IsReadAs, IsRefusedAlone, AreReadAlone, lexical_refusal, syntax_refusal, name_refusal}
use Rattle.text_units.specs.Lowered.{IsRightText, IsRefusedRow}
use Rattle.text_units.specs.Refused.{IsRefusedText, FirstRefused}
use Rattle.report_cli.specs.Outcome.{Refuses, RefusesRead, RefusesTold, RefusesToldRead}
use Rattle.report_cli.specs.Told.{Told}

-- a unit has one list of tokens
one_list : (unit : NamedText) (one other : List Token) → IsReadAs unit one → IsReadAs unit other → one ≡ other
unfolding IsReadAs
one_list unit one other h k = one_cut.tokens unit.1 one other h.0 k.0

-- a list of tokens is read in one way
one_state : (text : List ℕ) (list other : List Token) (s t : State) → list ≡ other → Reading text list (Ok s) → Reading text other (Ok t) → s ≡ t
one_state text list other s t same h k =
    let P : List Token → Type 0 = λ l. Reading text l (Ok s) in
    let both : Ok s ≡ Ok t = opens_one text other _ _ _ _ (subst P same h) _ k in cc

one_fault : (text : List ℕ) (list other : List Token) (s t : State) (fault : Option NameFault) → list ≡ other → s ≡ t → first_of text list s.nodes ≡ fault → first_of text other t.nodes ≡ fault
one_fault text list other s t fault same state h =
    let P : List Token → Type 0 = λ l. first_of text l t.nodes ≡ fault in
    let Q : State → Type 0 = λ x. first_of text list x.nodes ≡ fault in
    subst P same (subst Q state h)

broken_or_whole : (text : List ℕ) (list other : List Token) (fault : Fault) (s : State) → IsTokens text list → IsTokens text other → Reading text list (Err fault) → Reading text other (Ok s) → ⊥
broken_or_whole text list other fault s one two h k =
    let same : list ≡ other = one_cut.tokens text list other one two in
    let P : List Token → Type 0 = λ l. Reading text l (Err fault) in
    let both : Err fault ≡ Ok s = opens_one text other _ _ _ _ (subst P same h) _ k in cc

-- a unit that is refused alone isn't read
pub alone_or_read : (unit : NamedText) (answer : Answer) (list : List Token) → IsRefusedAlone unit answer → IsReadAs unit list → ⊥
unfolding IsRefusedAlone IsReadAs
alone_or_read unit answer list (inl h) read = one_cut.either unit.1 list h.0 h.1 read.0 h.2
alone_or_read unit answer list (inr (inl h)) read =
    let same : h.0 ≡ list = one_cut.tokens unit.1 h.0 list h.1 read.0 in
    let P : List Token → Type 0 = λ l. Reading unit.1 l (Err h.2) in
    let both : Err h.2 ≡ Ok read.1.0 = opens_one unit.1 list _ _ _ _ (subst P same h.3) _ read.1.1 in cc
alone_or_read unit answer list (inr (inr h)) read =
    let same : h.0 ≡ list = one_cut.tokens unit.1 h.0 list h.1 read.0 in
    let state : h.2 ≡ read.1.0 = one_state unit.1 h.0 list h.2 read.1.0 same h.3 read.1.1 in
    let fault : first_of unit.1 list read.1.0.nodes ≡ Some h.4 = one_fault unit.1 h.0 list h.2 read.1.0 (Some h.4) same state h.6 in
    let none = read.1.2 in
    cc (fault, none)

-- a unit is refused alone in one way
pub one_alone : (unit : NamedText) (one other : Answer) → IsRefusedAlone unit one → IsRefusedAlone unit other → one ≡ other
unfolding IsRefusedAlone
one_alone unit one other (inl h) (inl k) =
    h.3 ∙ ap (lexical_refusal unit) (one_cut.fault unit.1 h.0 k.0 h.1 k.1 h.2 k.2) ∙ sym k.3
one_alone unit one other (inl h) (inr (inl k)) = absurd (one_cut.either unit.1 k.0 h.0 h.1 k.1 h.2)
one_alone unit one other (inl h) (inr (inr k)) = absurd (one_cut.either unit.1 k.0 h.0 h.1 k.1 h.2)
one_alone unit one other (inr (inl h)) (inl k) = absurd (one_cut.either unit.1 h.0 k.0 k.1 h.1 k.2)
one_alone unit one other (inr (inr h)) (inl k) = absurd (one_cut.either unit.1 h.0 k.0 k.1 h.1 k.2)
one_alone unit one other (inr (inl h)) (inr (inr k)) = absurd (broken_or_whole unit.1 h.0 k.0 h.2 k.2 h.1 k.1 h.3 k.3)
one_alone unit one other (inr (inr h)) (inr (inl k)) = absurd (broken_or_whole unit.1 k.0 h.0 k.2 h.2 k.1 h.1 k.3 h.3)
one_alone unit one other (inr (inr h)) (inr (inr k)) =
    let same : h.0 ≡ k.0 = one_cut.tokens unit.1 h.0 k.0 h.1 k.1 in
    let state : h.2 ≡ k.2 = one_state unit.1 h.0 k.0 h.2 k.2 same h.3 k.3 in
    let told : first_of unit.1 k.0 k.2.nodes ≡ Some h.4 = one_fault unit.1 h.0 k.0 h.2 k.2 (Some h.4) same state h.6 in
    let other_told = k.6 in
    let fault : h.4 ≡ k.4 = cc (told, other_told) in
    h.7 ∙ ap (λ (list : List Token). name_refusal unit.0 list h.2.nodes h.4) same ∙ ap (λ (s : State). name_refusal unit.0 k.0 s.nodes h.4) state ∙ ap (name_refusal unit.0 k.0 k.2.nodes) fault ∙ sym k.7
one_alone unit one other (inr (inl h)) (inr (inl k)) =
    let same : h.0 ≡ k.0 = one_cut.tokens unit.1 h.0 k.0 h.1 k.1 in
    let P : List Token → Type 0 = λ l. Reading unit.1 l (Err h.2) in
    let fault : Err h.2 ≡ Err k.2 = opens_one unit.1 k.0 _ _ _ _ (subst P same h.3) _ k.3 in
    let is : h.2 ≡ k.2 = cc in
    h.4 ∙ ap (λ (list : List Token). syntax_refusal unit.0 list h.2) same ∙ ap (syntax_refusal unit.0 k.0) is ∙ sym k.4

-- a text that is right is read alone
pub alone_or_right : (number : ℕ) (text : NamedText) (u : Unit) (answer : Answer) → IsRefusedAlone text answer → IsRightText number text u → ⊥
alone_or_right number text u answer h k = alone_or_read text answer k.tokens.list.items h k.parsed.read

-- the first text that isn't right, refused alone
abbrev pub FirstAlone : ℕ → List NamedText → Answer → Type 0
FirstAlone number texts answer = FirstRefused (λ _ text answer. IsRefusedAlone text answer) number texts answer

one_first : (number : ℕ) (texts : List NamedText) (one other : Answer) → FirstAlone number texts one → FirstAlone number texts other → one ≡ other
one_first number [] one other h k = absurd h
one_first number (text ∷ texts) one other (inl h) (inl k) = one_alone text one other h k
one_first number (text ∷ texts) one other (inl h) (inr k) = absurd (alone_or_right number text k.0 one h k.1)
one_first number (text ∷ texts) one other (inr h) (inl k) = absurd (alone_or_right number text h.0 other k h.1)
one_first number (text ∷ texts) one other (inr h) (inr k) = one_first (number + 1) texts one other h.2 k.2

first_or_read : (number : ℕ) (texts : List NamedText) (answer : Answer) → FirstAlone number texts answer → AreReadAlone texts → ⊥
first_or_read number [] answer h k = h
first_or_read number (text ∷ texts) answer (inl h) k = alone_or_read text answer k.0.0 h k.0.1
first_or_read number (text ∷ texts) answer (inr h) k = first_or_read (number + 1) texts answer h.2 k.1

pub one_alone_first : OneAlone
one_alone_first = record { one = one_first; none = first_or_read }

-- what refuses texts that are read alone is no refusal alone
first_read : (number : ℕ) (texts : List NamedText) (answer : Answer) → AreReadAlone texts → FirstRefused IsRefusedText number texts answer → FirstRefused IsRefusedRow number texts answer
first_read number [] answer alone h = h
first_read number (text ∷ texts) answer alone (inl (inl h)) = absurd (alone_or_read text answer alone.0.0 h alone.0.1)
first_read number (text ∷ texts) answer alone (inl (inr h)) = inl h
first_read number (text ∷ texts) answer alone (inr h) = inr (h.0, h.1, first_read (number + 1) texts answer alone.1 h.2)

refuses_read : (entries : List (List ℕ)) (texts : List NamedText) (answer : Answer) → AreReadAlone texts → Refuses entries texts answer → RefusesRead entries texts answer
unfolding Refuses
refuses_read entries texts answer alone (inl h) = inl (first_read 0 texts answer alone h)
refuses_read entries texts answer alone (inr h) = inr h

pub told_read : (told : Told) (answer : Answer) → AreReadAlone told.units → RefusesTold told answer → RefusesToldRead told answer
told_read told answer alone (inl h) = inl (refuses_read told.entries told.units answer alone h)
told_read told answer alone (inr h) = inr h
