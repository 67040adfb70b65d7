-- The texts of units and their refusals.
use Rattle.std.proofs.Common.{◌≡◌, Some, Ok, ℕ, zero, suc, ◌+◌, ◌<◌, ◌≤◌, List, [], ◌∷◌, ◌++◌, map, length, get_or, slice_get, drop, inl, inr, refl, sym, ◌∙◌, ap, subst, arith, append_assoc, append-nil}
use Rattle.std.specs.Prelude.{zip}
use Rattle.std.specs.Borrow.{Bor}
use Rattle.c_lexer.specs.declared.Token.{Token}
use Rattle.c_lexer.specs.declared.LexFault.{LexFault}
use Rattle.c_lexer.specs.declared.LexFault.TheVariants.{BadByte, Unended, BadNumber, TooLong}
use Rattle.c_lexer.specs.declared.LexFault.TheVariants as lex
use Rattle.c_lexer.specs.Cut.{IsTokens, IsFault}
use Rattle.c_scope.specs.declared.kinds.NameFault.{NameFault}
use Rattle.c_scope.specs.declared.kinds.NameFault.TheVariants as names
use Rattle.c_scope.specs.Resolves.{first_of}
use Rattle.c_grammar.specs.Reads.{State, malformed, unsupported, too_deep}
use Rattle.c_parser.specs.declared.ParseFault.{ParseFault}
use Rattle.c_parser.specs.declared.ParseFault.TheVariants.{Malformed, Unsupported, TooDeep, OutOfMemory}
use Rattle.c_parser.specs.Parse.{Faults}
use Rattle.core_tree.specs.declared.node.Unit.{Unit}
use Rattle.text_units.specs.declared.fault.UnitsFault.{UnitsFault}
use Rattle.text_units.specs.declared.fault.UnitsFault.TheVariants.{Refused, Memory}
use Rattle.text_units.specs.Answers.{names_of, NamedText, Answer}
use Rattle.text_units.proofs.Texts.{some_same}
use Rattle.text_units.specs.Alone.{Reading, IsRefusedAlone, lexical_refusal, syntax_refusal, name_refusal}
use Rattle.text_units.specs.Lowered.{IsRightText, AreRightTexts}
use Rattle.text_units.specs.Refused.{IsRefusedText, FirstRefused}
use Rattle.text_units.specs.Faults.{fault_of, IsFaultIn, IsFirstFault, IsFaultAlone, IsLexical, IsSyntactic, IsNominal}

fault_alone : (unit : NamedText) (answer : Answer) (fault : UnitsFault) → fault ≡ fault_of answer → answer.out ≡ [] → IsRefusedAlone unit answer → IsFaultAlone unit fault
fault_alone unit answer fault is nothing refused =
    let P : UnitsFault → Type 0 = λ f. IsFaultAlone unit f in
    let Q : List ℕ → Type 0 = λ out. IsRefusedAlone unit (record { status = answer.status; out = out; err = answer.err }) in
    subst P (sym is) (subst Q nothing refused)

no_memory : (unit : NamedText) (fault : UnitsFault) → fault ≡ Memory → IsFaultAlone unit fault
no_memory unit fault is = let P : UnitsFault → Type 0 = λ f. IsFaultAlone unit f in subst P (sym is) tt

-- a lexical fault refuses a unit
pub lexically : (unit : NamedText) (cause : LexFault) (fault : UnitsFault) → IsLexical unit cause fault → IsFault unit.1 cause → IsFaultAlone unit fault
unfolding IsRefusedAlone
lexically unit (BadByte at) fault said is = fault_alone unit (lexical_refusal unit (BadByte at)) fault said refl (inl (BadByte at, (λ e. cc), is, refl))
lexically unit (Unended at) fault said is = fault_alone unit (lexical_refusal unit (Unended at)) fault said refl (inl (Unended at, (λ e. cc), is, refl))
lexically unit (BadNumber at) fault said is = fault_alone unit (lexical_refusal unit (BadNumber at)) fault said refl (inl (BadNumber at, (λ e. cc), is, refl))
lexically unit TooLong fault said is = fault_alone unit (lexical_refusal unit TooLong) fault said refl (inl (TooLong, (λ e. cc), is, refl))
lexically unit lex.OutOfMemory fault said is = no_memory unit fault said

-- a fault of syntax refuses a unit
pub syntactically : (unit : NamedText) (list : List Token) (cause : ParseFault) (fault : UnitsFault) → IsTokens unit.1 list → IsSyntactic unit.0 list cause fault → Faults (Reading unit.1 list) cause → IsFaultAlone unit fault
unfolding IsRefusedAlone
syntactically unit list (Malformed number) fault tokens said is = fault_alone unit (syntax_refusal unit.0 list (malformed number)) fault said refl (inr (inl (list, tokens, malformed number, is, refl)))
syntactically unit list (Unsupported kind number) fault tokens said is = fault_alone unit (syntax_refusal unit.0 list (unsupported kind number)) fault said refl (inr (inl (list, tokens, unsupported kind number, is, refl)))
syntactically unit list (TooDeep number) fault tokens said is = fault_alone unit (syntax_refusal unit.0 list (too_deep number)) fault said refl (inr (inl (list, tokens, too_deep number, is, refl)))
syntactically unit list OutOfMemory fault tokens said is = no_memory unit fault said

-- a fault of names refuses a unit
pub nominally : (unit : NamedText) (list : List Token) (state : State) (cause : NameFault) (fault : UnitsFault) → IsTokens unit.1 list → Reading unit.1 list (Ok state) → IsNominal unit.0 list state.nodes cause fault
    → ((cause ≡ names.OutOfMemory → ⊥) → first_of unit.1 list state.nodes ≡ Some cause) → IsFaultAlone unit fault
unfolding IsRefusedAlone
nominally unit list state (names.Undeclared node) fault tokens read said is =
    fault_alone unit (name_refusal unit.0 list state.nodes (names.Undeclared node)) fault said refl (inr (inr (list, tokens, state, read, names.Undeclared node, (λ e. cc), is (λ e. cc), refl)))
nominally unit list state (names.Redeclared node) fault tokens read said is =
    fault_alone unit (name_refusal unit.0 list state.nodes (names.Redeclared node)) fault said refl (inr (inr (list, tokens, state, read, names.Redeclared node, (λ e. cc), is (λ e. cc), refl)))
nominally unit list state names.OutOfMemory fault tokens read said is = no_memory unit fault said

-- a refusal alone is one of the text
pub alone_in : (number : ℕ) (text : NamedText) (fault : UnitsFault) → IsFaultAlone text fault → IsFaultIn number text fault
alone_in number text (Refused status line) alone = inl alone
alone_in number text Memory alone = tt

-- the unit of a number, and those behind it
pub unit_at : (words : List (Bor (List ℕ))) (texts : List (List ℕ)) (number : ℕ) (own name text : List ℕ) → length texts ≡ length words → number < length words
    → slice_get (names_of words) number ≡ Some name → own ≡ get_or texts number own → text ≡ own → drop number (zip (names_of words) texts) ≡ (name, text) ∷ drop (suc number) (zip (names_of words) texts)
unit_at [] texts number own name text count within at text_at text_is = absurd (omega arith)
unit_at (first ∷ words) [] number own name text count within at text_at text_is = absurd (omega arith)
unit_at (first ∷ words) (own_text ∷ texts) zero own name text count within at text_at text_is =
    let name_same : first.now ≡ name = some_same _ _ at in
    let text_same : own_text ≡ text = sym (text_is ∙ text_at) in
    ap (λ (n : List ℕ). (n, own_text) ∷ zip (names_of words) texts) name_same ∙ ap (λ (t : List ℕ). (name, t) ∷ zip (names_of words) texts) text_same
unit_at (first ∷ words) (own_text ∷ texts) (suc number) own name text count within at text_at text_is =
    unit_at words texts number own name text (omega arith) (omega arith) at text_at text_is

-- behind the last word there is no unit
pub no_unit_left : (words : List (Bor (List ℕ))) (texts : List (List ℕ)) (number : ℕ) → length words ≤ number → drop number (zip (names_of words) texts) ≡ []
no_unit_left [] texts zero h = refl
no_unit_left [] texts (suc number) h = refl
no_unit_left (first ∷ words) texts zero h = absurd (omega arith)
no_unit_left (first ∷ words) [] (suc number) h = refl
no_unit_left (first ∷ words) (text ∷ texts) (suc number) h = no_unit_left words texts number (omega arith)

-- how far texts were lowered, the first of them as unit of that number: what the rest of them says, all say
pub record IsLoweredTo (first : ℕ) (texts rest : List NamedText) (number : ℕ) (units : List Unit) : Type 0 where
  pub refused : (answer : Answer) → FirstRefused IsRefusedText number rest answer → FirstRefused IsRefusedText first texts answer
  pub right : (us : List Unit) → AreRightTexts number rest us → AreRightTexts first texts (units ++ us)

pub lowered_first : (first number : ℕ) (texts : List NamedText) → number ≡ first → IsLoweredTo first texts texts number []
lowered_first first number texts is =
    let P : ℕ → Type 0 = λ n. IsLoweredTo first texts texts n [] in subst P (sym is) (record { refused = λ answer h. h; right = λ us h. h })

lowered_further : (first : ℕ) (texts rest others : List NamedText) (text : NamedText) (number : ℕ) (units : List Unit) (u : Unit) → IsLoweredTo first texts rest number units → rest ≡ text ∷ others
    → IsRightText number text u → IsLoweredTo first texts others (number + 1) (units ++ u ∷ [])
lowered_further first texts rest others text number units u so_far is right = record {
  refused = λ answer h. so_far.refused answer (let P : List NamedText → Type 0 = λ r. FirstRefused IsRefusedText number r answer in subst P (sym is) (inr (u, right, h)));
  right = λ us h.
      let P : List NamedText → Type 0 = λ r. AreRightTexts number r (u ∷ us) in
      let Q : List Unit → Type 0 = λ l. AreRightTexts first texts l in
      subst Q (sym (append_assoc units (u ∷ []) us)) (so_far.right (u ∷ us) (subst P (sym is) (right, h)));
}

-- the same by the number of the text that was lowered next
pub lowered_next : (first at : ℕ) (texts : List NamedText) (text : NamedText) (units more : List Unit) (u : Unit) → IsLoweredTo first texts (drop at texts) (first + at) units → drop at texts ≡ text ∷ drop (suc at) texts
    → IsRightText (first + at) text u → more ≡ units ++ u ∷ [] → IsLoweredTo first texts (drop (at + 1) texts) (first + (at + 1)) more
lowered_next first at texts text units more u so_far is right more_is =
    let step : suc at ≡ at + 1 = omega arith in
    let next : first + at + 1 ≡ first + (at + 1) = omega arith in
    let S : ℕ → Type 0 = λ n. IsLoweredTo first texts (drop n texts) (first + at + 1) (units ++ u ∷ []) in
    let N : ℕ → Type 0 = λ n. IsLoweredTo first texts (drop (at + 1) texts) n (units ++ u ∷ []) in
    let Q : List Unit → Type 0 = λ us. IsLoweredTo first texts (drop (at + 1) texts) (first + (at + 1)) us in
    subst Q (sym more_is) (subst N next (subst S step (lowered_further first texts (drop at texts) (drop (suc at) texts) text (first + at) units u so_far is right)))

-- the first fault of the rest is that of all
pub fault_behind : (first : ℕ) (texts rest : List NamedText) (number : ℕ) (units : List Unit) (fault : UnitsFault) → IsLoweredTo first texts rest number units → IsFirstFault number rest fault → IsFirstFault first texts fault
fault_behind first texts rest number units (Refused status line) so_far h = so_far.refused _ h
fault_behind first texts rest number units Memory so_far h = tt

fault_at : (number : ℕ) (text : NamedText) (others : List NamedText) (fault : UnitsFault) → IsFaultIn number text fault → IsFirstFault number (text ∷ others) fault
fault_at number text others (Refused status line) h = inl h
fault_at number text others Memory h = tt

pub refused_here : (first at : ℕ) (texts : List NamedText) (text : NamedText) (units : List Unit) (fault : UnitsFault) → IsLoweredTo first texts (drop at texts) (first + at) units → drop at texts ≡ text ∷ drop (suc at) texts
    → IsFaultIn (first + at) text fault → IsFirstFault first texts fault
refused_here first at texts text units fault so_far is h =
    let P : List NamedText → Type 0 = λ r. IsFirstFault (first + at) r fault in
    fault_behind first texts (drop at texts) (first + at) units fault so_far (subst P (sym is) (fault_at (first + at) text (drop (suc at) texts) fault h))

-- the texts are all lowered
pub lowered_all : (first : ℕ) (texts rest : List NamedText) (number : ℕ) (units : List Unit) → IsLoweredTo first texts rest number units → rest ≡ [] → AreRightTexts first texts units
lowered_all first texts rest number units so_far is =
    let P : List NamedText → Type 0 = λ r. AreRightTexts number r [] in
    let Q : List Unit → Type 0 = λ l. AreRightTexts first texts l in
    subst Q (append-nil units) (so_far.right [] (subst P (sym is) tt))

-- the names of words are those of their texts
pub zip_names : (words : List (Bor (List ℕ))) (texts : List (List ℕ)) → length texts ≡ length words → names_of words ≡ map (λ (text : NamedText). text.0) (zip (names_of words) texts)
zip_names [] texts count = refl
zip_names (word ∷ words) [] count = absurd (omega arith)
zip_names (word ∷ words) (text ∷ texts) count = ap (λ (rest : List (List ℕ)). word.now ∷ rest) (zip_names words texts (omega arith))
