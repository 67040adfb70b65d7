-- What holds of texts that were read as far as a limit holds of the whole texts.
use Rattle.std.proofs.Common.{◌≡◌, ◌≢◌, ℕ, Bool, ◌+◌, ◌<◌, ◌≤◌, ◌^◌, ◌⊎◌, List, [], ◌∷◌, ◌++◌, zero, suc, Option, Some, None, option_map, IfSome, map, take, slice_get, length, min, refl, sym, ◌∙◌, ap, subst, inl, inr, arith, take_all, length-take}
use Rattle.std.specs.Prelude.{option_and_then, zip, IsSome}
use Rattle.c_lexer.specs.declared.Token.{Token}
use Rattle.c_lexer.specs.declared.LexFault.{LexFault}
use Rattle.c_lexer.specs.declared.LexFault.TheVariants.{BadByte, Unended, BadNumber, TooLong, OutOfMemory}
use Rattle.c_lexer.specs.Cut.{IsFault}
use Rattle.c_scope.specs.declared.kinds.NameFault.{NameFault}
use Rattle.c_scope.specs.declared.kinds.NameFault.TheVariants as names
use Rattle.c_grammar.specs.Reads.{Node, Fault, malformed, unsupported, too_deep}
use Rattle.c_lexer.specs.declared.Tokens.{Tokens}
use Rattle.c_grammar.specs.declared.trees.Tree.{Tree}
use Rattle.core_tree.specs.declared.node.Unit.{Unit}
use Rattle.core_tree.specs.declared.node.Program.{Program}
use Rattle.link_names.specs.declared.fault.LinkFault.{LinkFault}
use Rattle.link_names.specs.declared.fault.LinkFault.TheVariants as link
use Rattle.unit_link.specs.Linked.{LinksBadlyAt}
use Rattle.text_units.specs.declared.fault.UnitsFault.{UnitsFault}
use Rattle.text_units.specs.declared.fault.UnitsFault.TheVariants.{Refused}
use Rattle.sol_model.specs.declared.system.System.{System}
use Rattle.obj_space.specs.declared.location.Location.{Location}
use Rattle.std.specs.Borrow.{Bor}
use Rattle.std.proofs.lemmas.List.{length-map}
use Rattle.command_line.specs.Language.{found_in}
use Rattle.command_line.specs.Meaning.{Says}
use Rattle.command_line.specs.declared.command.Command.{Command}
use Rattle.report_cli.specs.Words.{effects_read, entries_read, names_read, number_read, script_read as script_asked, side_name, steps_read, stops_read, units_read, with_side}
use Rattle.report_cli.specs.declared.form.Form.{Form}
use Rattle.report_cli.specs.Told.{Side, no_side, with_questions, with_words, Told, side_of, form_of, form_read, form_for, parted, told_by, names_for, read_as, told_as, told_for}
use Rattle.report_cli.specs.Printed.{AreAnswersTo, IsRun, IsPrinted, IsLongScript, HasRefusedLine, HasRefusedByte, IsRefusedScript, AreRefusedWords, IsRefusedSide}
use Rattle.report_cli.specs.Faults.{IsFaultOfTold}
use Rattle.text_units.specs.Answers.{NamedText, Answer, names_of, told_units}
use Rattle.text_units.specs.Alone.{IsReadAs, IsRefusedAlone, lexical_refusal, syntax_refusal, name_refusal}
use Rattle.text_units.specs.Lowered.{IsParsed, IsRightText, AreRightTexts, IsRefusedRow}
use Rattle.report_cli.specs.Linking.{IsLinkRefusal, HaveManyNodes, HaveManyWords, link_refusal}
use Rattle.report_cli.specs.Outcome.{Denotes, AreRefusedTogether, IsRefusedBy, Refuses, RefusesSide, RefusesTold}
use Rattle.text_units.specs.Refused.{IsRefusedText, FirstRefused}
use Rattle.text_units.specs.Kinds.{IsKindLine}
use Rattle.text_units.proofs.KindLines.{kinds_built}

-- the names of told units are those that were asked for
named_first : (name : List ℕ) (names : List (List ℕ)) (o : Option (List ℕ)) (told : Option (List NamedText)) → IfSome told (λ units. names ≡ map (λ (unit : NamedText). unit.0) units)
    → IfSome (option_and_then (λ (text : List ℕ). option_map (λ (units : List NamedText). (name, text) ∷ units) told) o) (λ units. name ∷ names ≡ map (λ (unit : NamedText). unit.0) units)
named_first name names None told h = tt
named_first name names (Some text) None h = tt
named_first name names (Some text) (Some units) h = ap (λ (rest : List (List ℕ)). name ∷ rest) h

pub names_told : (text_of : List ℕ → Option (List ℕ)) (names : List (List ℕ)) → IfSome (told_units text_of names) (λ units. names ≡ map (λ (unit : NamedText). unit.0) units)
names_told text_of [] = refl
names_told text_of (name ∷ names) = named_first name names (text_of name) (told_units text_of names) (names_told text_of names)

-- the whole text, where it isn't over the limit
whole_text : (text : List ℕ) → length (take 16777217 text) ≤ 2 ^ 24 → take 16777217 text ≡ text
whole_text text short =
    let long : length (take 16777217 text) ≡ min 16777217 (length text) = simp length-take in
    let le : length text ≤ 16777217 = omega arith in
    take_all 16777217 text le

-- names, and texts as far as they were read
abbrev pub AreReadUnits : List (List ℕ) → List (List ℕ) → List NamedText → Type 0
AreReadUnits names texts told = (names ≡ map (λ (unit : NamedText). unit.0) told) × (texts ≡ map (λ (unit : NamedText). take 16777217 unit.1) told)

pub read_units : (told : List NamedText) → List NamedText
read_units [] = []
read_units (unit ∷ told) = (unit.0, take 16777217 unit.1) ∷ read_units told

zip_read : (told : List NamedText) → zip (map (λ (unit : NamedText). unit.0) told) (map (λ (unit : NamedText). take 16777217 unit.1) told) ≡ read_units told
unfolding read_units
zip_read [] = refl
zip_read (unit ∷ told) = ap (λ (rest : List NamedText). (unit.0, take 16777217 unit.1) ∷ rest) (zip_read told)

zip_is_read : (names texts : List (List ℕ)) (told : List NamedText) → AreReadUnits names texts told → zip names texts ≡ read_units told
zip_is_read names texts told read = ap (λ (n : List (List ℕ)). zip n texts) read.0 ∙ ap (zip (map (λ (unit : NamedText). unit.0) told)) read.1 ∙ zip_read told

read_as_whole : (unit : NamedText) (list : List Token) → IsReadAs (unit.0, take 16777217 unit.1) list → IsReadAs unit list
unfolding IsReadAs
read_as_whole unit list read =
    let P : List ℕ → Type 0 = λ t. IsReadAs (unit.0, t) list in subst P (whole_text unit.1 read.0.0) read

lexical_whole : (unit : NamedText) (answer : Answer) (fault : LexFault) → (fault ≡ OutOfMemory → ⊥) → IsFault (take 16777217 unit.1) fault → answer ≡ lexical_refusal (unit.0, take 16777217 unit.1) fault → IsRefusedAlone unit answer
unfolding IsRefusedAlone
lexical_whole unit answer (BadByte at) real is said =
    let P : List ℕ → Type 0 = λ t. IsRefusedAlone (unit.0, t) answer in subst P (whole_text unit.1 is.0) (inl (BadByte at, real, is, said))
lexical_whole unit answer (Unended at) real is said =
    let P : List ℕ → Type 0 = λ t. IsRefusedAlone (unit.0, t) answer in subst P (whole_text unit.1 is.0) (inl (Unended at, real, is, said))
lexical_whole unit answer (BadNumber at) real is said =
    let P : List ℕ → Type 0 = λ t. IsRefusedAlone (unit.0, t) answer in subst P (whole_text unit.1 is.0) (inl (BadNumber at, real, is, said))
lexical_whole unit answer TooLong real is said =
    let le : length (take 16777217 unit.1) ≡ min 16777217 (length unit.1) = simp length-take in
    let over : 2 ^ 24 < length unit.1 = omega arith in inl (TooLong, real, over, said)
lexical_whole unit answer OutOfMemory real is said = absurd (real refl)

refused_alone_whole : (unit : NamedText) (answer : Answer) → IsRefusedAlone (unit.0, take 16777217 unit.1) answer → IsRefusedAlone unit answer
unfolding IsRefusedAlone
refused_alone_whole unit answer (inl h) = lexical_whole unit answer h.0 h.1 h.2 h.3
refused_alone_whole unit answer (inr (inl h)) =
    let P : List ℕ → Type 0 = λ t. IsRefusedAlone (unit.0, t) answer in subst P (whole_text unit.1 h.1.0) (inr (inl h))
refused_alone_whole unit answer (inr (inr h)) =
    let P : List ℕ → Type 0 = λ t. IsRefusedAlone (unit.0, t) answer in subst P (whole_text unit.1 h.1.0) (inr (inr h))

parsed_whole : (number : ℕ) (unit : NamedText) (tokens : Tokens) (tree : Tree) → IsParsed number (unit.0, take 16777217 unit.1) tokens tree → take 16777217 unit.1 ≡ unit.1
unfolding IsReadAs
parsed_whole number unit tokens tree h = whole_text unit.1 h.read.0.0

right_whole : (number : ℕ) (unit : NamedText) (u : Unit) → IsRightText number (unit.0, take 16777217 unit.1) u → IsRightText number unit u
right_whole number unit u h =
    let P : List ℕ → Type 0 = λ t. IsRightText number (unit.0, t) u in subst P (parsed_whole number unit h.tokens h.tree h.parsed) h

rights_whole : (number : ℕ) (told : List NamedText) (us : List Unit) → AreRightTexts number (read_units told) us → AreRightTexts number told us
unfolding read_units
rights_whole number [] [] h = h
rights_whole number [] (u ∷ us) h = h
rights_whole number (unit ∷ told) [] h = h
rights_whole number (unit ∷ told) (u ∷ us) h = (right_whole number unit u h.0, rights_whole (number + 1) told us h.1)

row_whole : (number : ℕ) (unit : NamedText) (answer : Answer) → IsRefusedRow number (unit.0, take 16777217 unit.1) answer → IsRefusedRow number unit answer
row_whole number unit answer h =
    let P : List ℕ → Type 0 = λ t. IsRefusedRow number (unit.0, t) answer in subst P (parsed_whole number unit h.tokens h.tree h.parsed) h

names_whole : (told : List NamedText) → map (λ (unit : NamedText). unit.0) (read_units told) ≡ map (λ (unit : NamedText). unit.0) told
unfolding read_units
names_whole [] = refl
names_whole (unit ∷ told) = ap (λ (rest : List (List ℕ)). unit.0 ∷ rest) (names_whole told)

links_whole : (entries : List (List ℕ)) (told : List NamedText) (answer : Answer) → IsLinkRefusal entries (read_units told) answer → IsLinkRefusal entries told answer
links_whole entries told answer h = record {
  units = h.units;
  right = rights_whole 0 told h.units h.right;
  fault = h.fault;
  badly = h.badly;
  answer_is = h.answer_is ∙ ap (λ (names : List (List ℕ)). link_refusal names h.fault) (names_whole told);
}

nodes_whole : (entries : List (List ℕ)) (told : List NamedText) (answer : Answer) → HaveManyNodes entries (read_units told) answer → HaveManyNodes entries told answer
nodes_whole entries told answer h = record {
  units = h.units;
  right = rights_whole 0 told h.units h.right;
  program = h.program;
  own = h.own;
  nodes = h.nodes;
  many = h.many;
  answer_is = h.answer_is;
}

words_whole : (entries : List (List ℕ)) (told : List NamedText) (answer : Answer) → HaveManyWords entries (read_units told) answer → HaveManyWords entries told answer
words_whole entries told answer h = record {
  units = h.units;
  right = rights_whole 0 told h.units h.right;
  program = h.program;
  own = h.own;
  words = h.words;
  many = h.many;
  answer_is = h.answer_is;
}

text_whole : (number : ℕ) (unit : NamedText) (answer : Answer) → IsRefusedText number (unit.0, take 16777217 unit.1) answer → IsRefusedText number unit answer
text_whole number unit answer (inl h) = inl (refused_alone_whole unit answer h)
text_whole number unit answer (inr h) = inr (row_whole number unit answer h)

first_whole : (number : ℕ) (told : List NamedText) (answer : Answer) → FirstRefused IsRefusedText number (read_units told) answer → FirstRefused IsRefusedText number told answer
unfolding read_units
first_whole number [] answer h = h
first_whole number (unit ∷ told) answer (inl h) = inl (text_whole number unit answer h)
first_whole number (unit ∷ told) answer (inr h) = inr (h.0, right_whole number unit h.0 h.1, first_whole (number + 1) told answer h.2)

together_whole : (entries : List (List ℕ)) (told : List NamedText) (answer : Answer) → AreRefusedTogether entries (read_units told) answer → AreRefusedTogether entries told answer
together_whole entries told answer (inl h) = inl (links_whole entries told answer h)
together_whole entries told answer (inr (inl h)) = inr (inl (nodes_whole entries told answer h))
together_whole entries told answer (inr (inr h)) = inr (inr (words_whole entries told answer h))

denotes_whole : (entries : List (List ℕ)) (told : List NamedText) (program : Program) → Denotes entries (read_units told) program → Denotes entries told program
unfolding Denotes
denotes_whole entries told program h = (h.0, rights_whole 0 told h.0 h.1, h.2)

refuses_whole : (entries : List (List ℕ)) (told : List NamedText) (answer : Answer) → Refuses entries (read_units told) answer → Refuses entries told answer
unfolding Refuses
refuses_whole entries told answer (inl h) = inl (first_whole 0 told answer h)
refuses_whole entries told answer (inr h) = inr (together_whole entries told answer h)

-- what was read of what is told: its units as far as they were read, and what stands beside them
pub cut : NamedText → NamedText
cut text = (text.0, take 16777217 text.1)

pub cut_side : Side → Side
cut_side no_side = no_side
cut_side (with_questions script) = with_questions (cut script)
cut_side (with_words steps words) = with_words steps (cut words)

side_of-cut : (steps : Option ℕ) (text : Option NamedText) → side_of steps (option_map cut text) ≡ cut_side (side_of steps text)
unfolding cut_side
side_of-cut None None = refl
side_of-cut (Some steps) None = refl
side_of-cut None (Some text) = refl
side_of-cut (Some steps) (Some text) = refl

pub record IsCutOf (read told : Told) : Type 0 where
  pub units : read.units ≡ read_units told.units
  pub side : read.side ≡ cut_side told.side
  pub form : read.form ≡ told.form
  pub entries : read.entries ≡ told.entries

-- a generated program is told as it is
pub IsReadOf : Told → Told → Type 0
IsReadOf read told = (read ≡ told) ⊎ IsCutOf read told

take_read : (n : ℕ) (texts : List NamedText) → take n (read_units texts) ≡ read_units (take n texts)
unfolding read_units
take_read zero texts = refl
take_read (suc n) [] = refl
take_read (suc n) (text ∷ texts) = ap (λ (rest : List NamedText). (text.0, take 16777217 text.1) ∷ rest) (take_read n texts)

script_read : (n : ℕ) (texts : List NamedText) → slice_get (read_units texts) n ≡ option_map cut (slice_get texts n)
unfolding read_units cut
script_read n [] = refl
script_read zero (text ∷ texts) = refl
script_read (suc n) (text ∷ texts) = script_read n texts

parted_read : (names texts : List (List ℕ)) (told : List NamedText) (e f : List (List ℕ)) (j k : Form) (s t : Option ℕ) (m n : ℕ) → e ≡ f → j ≡ k → s ≡ t → m ≡ n → AreReadUnits names texts told
    → IsCutOf (parted e j s m (zip names texts)) (parted f k t n told)
parted_read names texts told e f j k s t m n entries form steps same read =
    let is : zip names texts ≡ read_units told = zip_is_read names texts told read in record {
      units = ap (λ (k : ℕ). take k (zip names texts)) same ∙ ap (take n) is ∙ take_read n told;
      side =
          ap (λ (k : ℕ). side_of s (slice_get (zip names texts) k)) same
          ∙ ap (λ (l : List NamedText). side_of s (slice_get l n)) is
          ∙ ap (side_of s) (script_read n told)
          ∙ side_of-cut s (slice_get told n)
          ∙ ap (λ (o : Option ℕ). cut_side (side_of o (slice_get told n))) steps;
      form = form;
      entries = entries;
    }

pub told_denotes : (read told : Told) (program : Program) → IsReadOf read told → Denotes read.entries read.units program → Denotes told.entries told.units program
unfolding IsReadOf
told_denotes read told program (inl same) denoted = let P : Told → Type 0 = λ known. Denotes known.entries known.units program in subst P same denoted
told_denotes read told program (inr of) denoted =
    let P : List NamedText → Type 0 = λ units. Denotes read.entries units program in
    let E : List (List ℕ) → Type 0 = λ entries. Denotes entries (read_units told.units) program in denotes_whole told.entries told.units program (subst E of.entries (subst P of.units denoted))

-- what is printed for a script as far as it was read
answers_whole : (script : NamedText) (program : Program) (system : System) (text : List ℕ) → AreAnswersTo (take 16777217 script.1) program system text → AreAnswersTo script.1 program system text
unfolding AreAnswersTo
answers_whole script program system text h =
    let P : List ℕ → Type 0 = λ t. AreAnswersTo t program system text in subst P (whole_text script.1 h.0) h

-- and for the words of a run
run_whole : (steps : ℕ) (words : NamedText) (program : Program) (system : System) (text : List ℕ) (status : ℕ) → IsRun steps (take 16777217 words.1) program system text status → IsRun steps words.1 program system text status
run_whole steps words program system text status h =
    let P : List ℕ → Type 0 = λ t. IsRun steps t program system text status in subst P (whole_text words.1 h.short) h

printed_whole : (form : Form) (side : Side) (program : Program) (system : System) (text : List ℕ) (status : ℕ) → IsPrinted form (cut_side side) program system text status → IsPrinted form side program system text status
unfolding cut cut_side
printed_whole form no_side program system text status h = h
printed_whole form (with_questions script) program system text status h = (answers_whole script program system text h.0, h.1)
printed_whole form (with_words steps words) program system text status h = run_whole steps words program system text status h

pub told_prints : (read told : Told) (program : Program) (system : System) (text : List ℕ) (status : ℕ) → IsReadOf read told → IsPrinted read.form read.side program system text status → IsPrinted told.form told.side program system text status
unfolding IsReadOf
told_prints read told program system text status (inl same) printed = let P : Told → Type 0 = λ known. IsPrinted known.form known.side program system text status in subst P same printed
told_prints read told program system text status (inr of) printed =
    let P : Side → Type 0 = λ side. IsPrinted read.form side program system text status in
    let F : Form → Type 0 = λ form. IsPrinted form told.side program system text status in
    subst F of.form (printed_whole read.form told.side program system text status (subst P of.side printed))

-- what is printed with the status 11 is the text of a run
not_both : (status : ℕ) → status ≡ 0 → status ≡ 11 → ⊥
not_both status none eleven = omega arith

stopped_run : (form : Form) (steps : Option ℕ) (beside : Option NamedText) (program : Program) (system : System) (text : List ℕ) → IsPrinted form (side_of steps beside) program system text 11 → IsSome steps
stopped_run form (Some steps) beside program system text h = refl
stopped_run form None None program system text h = absurd (not_both 11 h.1 refl)
stopped_run form None (Some script) program system text h = absurd (not_both 11 h.1 refl)

-- so a run is asked for
pub run_asked : (number : Option ℕ) (entries : List (List ℕ)) (form : Form) (steps : Option ℕ) (count : ℕ) (texts : List NamedText) (program : Program) (system : System) (text : List ℕ)
    → IsPrinted (told_by number (parted entries form steps count texts)).form (told_by number (parted entries form steps count texts)).side program system text 11 → IsSome steps
run_asked None entries form steps count texts program system text h = stopped_run form steps (slice_get texts count) program system text h
run_asked (Some number) entries form steps count texts program system text h = absurd (not_both 11 h.1 refl)

-- the same of a script's refusal
long_whole : (script : NamedText) (answer : Answer) → IsLongScript (script.0, take 16777217 script.1) answer → IsLongScript script answer
long_whole script answer h =
    let size : length (take 16777217 script.1) ≡ min 16777217 (length script.1) = simp length-take in
    record { long = (let long = h.long in omega arith); answer_is = h.answer_is }

line_whole : (program : Program) (space : List Location) (system : System) (script : NamedText) (answer : Answer)
    → HasRefusedLine program space system (script.0, take 16777217 script.1) answer → HasRefusedLine program space system script answer
line_whole program space system script answer h =
    let P : List ℕ → Type 0 = λ t. HasRefusedLine program space system (script.0, t) answer in subst P (whole_text script.1 h.short) h

script_whole : (program : Program) (space : List Location) (system : System) (script : NamedText) (answer : Answer) → IsRefusedScript program space system (script.0, take 16777217 script.1) answer → IsRefusedScript program space system script answer
script_whole program space system script answer (inl h) = inl (long_whole script answer h)
script_whole program space system script answer (inr h) = inr (line_whole program space system script answer h)

-- and of that of the words of a run
byte_whole : (words : NamedText) (answer : Answer) → HasRefusedByte (words.0, take 16777217 words.1) answer → HasRefusedByte words answer
byte_whole words answer h =
    let P : List ℕ → Type 0 = λ t. HasRefusedByte (words.0, t) answer in subst P (whole_text words.1 h.short) h

run_words_whole : (words : NamedText) (answer : Answer) → AreRefusedWords (words.0, take 16777217 words.1) answer → AreRefusedWords words answer
run_words_whole words answer (inl h) = inl (long_whole words answer h)
run_words_whole words answer (inr h) = inr (byte_whole words answer h)

refused_side_whole : (side : Side) (program : Program) (space : List Location) (system : System) (answer : Answer) → IsRefusedSide (cut_side side) program space system answer → IsRefusedSide side program space system answer
unfolding cut cut_side
refused_side_whole no_side program space system answer h = h
refused_side_whole (with_questions script) program space system answer h = script_whole program space system script answer h
refused_side_whole (with_words steps words) program space system answer h = run_words_whole words answer h

side_refused_whole : (entries : List (List ℕ)) (told : List NamedText) (side : Side) (answer : Answer) → RefusesSide entries (read_units told) (cut_side side) answer → RefusesSide entries told side answer
side_refused_whole entries told side answer h = record {
  program = h.program;
  denoted = denotes_whole entries told h.program h.denoted;
  space = h.space;
  system = h.system;
  system_of = h.system_of;
  refused = refused_side_whole side h.program h.space h.system answer h.refused;
}

pub told_refuses : (read told : Told) (answer : Answer) → IsReadOf read told → RefusesTold read answer → RefusesTold told answer
unfolding IsReadOf
told_refuses read told answer (inl same) h = let P : Told → Type 0 = λ known. RefusesTold known answer in subst P same h
told_refuses read told answer (inr of) (inl h) =
    let P : List NamedText → Type 0 = λ units. Refuses read.entries units answer in
    let E : List (List ℕ) → Type 0 = λ entries. Refuses entries (read_units told.units) answer in inl (refuses_whole told.entries told.units answer (subst E of.entries (subst P of.units h)))
told_refuses read told answer (inr of) (inr h) =
    let P : List NamedText → Type 0 = λ units. RefusesSide read.entries units read.side answer in
    let Q : Side → Type 0 = λ side. RefusesSide read.entries (read_units told.units) side answer in
    let E : List (List ℕ) → Type 0 = λ entries. RefusesSide entries (read_units told.units) (cut_side told.side) answer in
    inr (side_refused_whole told.entries told.units told.side answer (subst E of.entries (subst Q of.side (subst P of.units h))))

-- what follows from the told texts and what was read of them
with_told : (told : Option (List NamedText)) (names texts : List (List ℕ)) (Q : List NamedText → Type 0) → IfSome told (λ units. names ≡ map (λ (unit : NamedText). unit.0) units)
    → IfSome told (λ units. texts ≡ map (λ (unit : NamedText). take 16777217 unit.1) units) → ((units : List NamedText) → AreReadUnits names texts units → Q units) → IfSome told Q
with_told None names texts Q named read follows = tt
with_told (Some units) names texts Q named read follows = follows units (named, read)

-- the same of names that are equal, and of what is equal to what was read
with_names : (text_of : List ℕ → Option (List ℕ)) (sliced own names : List (List ℕ)) (texts slice : List (List ℕ)) (Q : List NamedText → Type 0) → sliced ≡ own → own ≡ names → slice ≡ texts
    → IfSome (told_units text_of sliced) (λ units. texts ≡ map (λ (unit : NamedText). take 16777217 unit.1) units) → ((units : List NamedText) → AreReadUnits own slice units → Q units) → IfSome (told_units text_of names) Q
with_names text_of sliced own names texts slice Q sliced_is same slice_is read follows =
    let P : List (List ℕ) → Type 0 = λ n. IfSome (told_units text_of n) Q in
    let N : List (List ℕ) → Type 0 = λ n. IfSome (told_units text_of n) (λ units. texts ≡ map (λ (unit : NamedText). take 16777217 unit.1) units) in
    let R : List (List ℕ) → Type 0 = λ t. IfSome (told_units text_of own) (λ units. t ≡ map (λ (unit : NamedText). take 16777217 unit.1) units) in
    subst P same (with_told (told_units text_of own) own slice Q (names_told text_of own) (subst R (sym slice_is) (subst N sliced_is read)) follows)

-- what follows of what is told from what follows of the texts
with_mapped : (told : Option (List NamedText)) (f : List NamedText → Told) (Q : Told → Type 0) → IfSome told (λ units. Q (f units)) → IfSome (option_map f told) Q
with_mapped None f Q h = tt
with_mapped (Some units) f Q h = h

-- a generated program in place of what was read, and of what is told
generated_or_read : (number : Option ℕ) (read told : Told) → IsCutOf read told → IsReadOf (told_by number read) (told_by number told)
unfolding IsReadOf
generated_or_read None read told of = inr of
generated_or_read (Some number) read told of = inl refl

generated_read : (number other : Option ℕ) (read told : Told) → number ≡ other → IsCutOf read told → IsReadOf (told_by number read) (told_by other told)
generated_read number other read told same of =
    let P : Option ℕ → Type 0 = λ n. IsReadOf (told_by number read) (told_by n told) in subst P same (generated_or_read number read told of)

-- the names that a command reads are those that its words ask for, and its units are as many
pub names_asked : (words : List (List ℕ)) (command : Command) → Says (found_in words) command → names_for command ≡ names_read words
names_asked words command says =
    ap (λ (units : List (List ℕ)). with_side units (side_name (option_map (λ (b : Bor (List ℕ)). b.now) command.ask) command.steps)) says.units
    ∙ ap (λ (ask : Option (List ℕ)). with_side (units_read words) (side_name ask command.steps)) says.ask
    ∙ ap (λ (steps : Option ℕ). with_side (units_read words) (side_name (script_asked words) steps)) says.steps

pub units_asked : (words : List (List ℕ)) (command : Command) → Says (found_in words) command → length command.units.items ≡ length (units_read words)
units_asked words command says = sym (length-map command.units.items (λ (b : Bor (List ℕ)). b.now)) ∙ ap length says.units

-- what a command asks to be printed is what its words ask for
form_asked : (words : List (List ℕ)) (command : Command) → Says (found_in words) command → form_for command ≡ form_read words
form_asked words command says =
    ap (λ (effects : Bool). form_of effects command.stops command.json) says.effects
    ∙ ap (λ (stops : Bool). form_of (effects_read words) stops command.json) says.stops
    ∙ ap (λ (json : Bool). form_of (effects_read words) (stops_read words) json) says.json

-- and the program is entered where its words ask
entries_asked : (words : List (List ℕ)) (command : Command) → Says (found_in words) command → names_of command.entries.items ≡ entries_read words
entries_asked words command says = says.entries

-- what follows of what a call is told from what was read
pub with_told_for : (text_of : List ℕ → Option (List ℕ)) (words : List (List ℕ)) (command : Command) (sliced texts slice : List (List ℕ)) (Q : Told → Type 0) → Says (found_in words) command
    → sliced ≡ names_for command → slice ≡ texts → IfSome (told_units text_of sliced) (λ units. texts ≡ map (λ (unit : NamedText). take 16777217 unit.1) units)
    → ((told : Told) → IsReadOf (told_as command slice) told → Q told) → IfSome (told_for text_of words) Q
with_told_for text_of words command sliced texts slice Q says names slice_is read follows =
    let n : ℕ = length (units_read words) in
    let form : Form = form_read words in
    let steps : Option ℕ = steps_read words in
    let entries : List (List ℕ) = entries_read words in
    let f : List NamedText → Told = λ units. told_by (number_read words) (parted entries form steps n units) in
    with_mapped (told_units text_of (names_read words)) f Q
    (with_names text_of sliced (names_for command) (names_read words) texts slice (λ units. Q (f units)) names (names_asked words command says) slice_is read
    (λ units h. follows (f units) (generated_read command.generated (number_read words) (read_as command slice) (parted entries form steps n units) says.generated
    (parted_read (names_for command) slice units (names_of command.entries.items) entries (form_for command) form command.steps steps (length command.units.items) n (entries_asked words command says) (form_asked words command says) says.steps (units_asked words command says) h))))

-- the statuses of refusals
abbrev pub IsStatus : ℕ → Type 0
IsStatus status = (status ≡ 3) ⊎ ((status ≡ 4) ⊎ ((status ≡ 5) ⊎ ((status ≡ 6) ⊎ ((status ≡ 10) ⊎ (status ≡ 12)))))

-- the same where those entries are named: 12 comes where there are some, and 4 where a text is refused by itself
abbrev IsStatusOf : List (List ℕ) → Type 0 → ℕ → Type 0
IsStatusOf entries Alone status = (status ≡ 3) ⊎ (((status ≡ 4) × Alone) ⊎ ((status ≡ 5) ⊎ ((status ≡ 6) ⊎ ((status ≡ 10) ⊎ ((status ≡ 12) × (entries ≢ []))))))

named_so : (before after : List (List ℕ)) (name : List ℕ) (entries : List (List ℕ)) → entries ≡ before ++ name ∷ after → entries ≢ []
named_so [] after name entries split none = absurd (cc)
named_so (first ∷ before) after name entries split none = absurd (cc)

module _ (entries : List (List ℕ)) (Alone : Type 0) where
  lexical_status : (unit : NamedText) (fault : LexFault) → (fault ≡ OutOfMemory → ⊥) → IsStatusOf entries Alone (lexical_refusal unit fault).status
  lexical_status unit (BadByte at) real = inl refl
  lexical_status unit (Unended at) real = inl refl
  lexical_status unit (BadNumber at) real = inl refl
  lexical_status unit TooLong real = inr (inr (inr (inl refl)))
  lexical_status unit OutOfMemory real = absurd (real refl)

  syntax_status : Alone → (name : List ℕ) (list : List Token) (fault : Fault) → IsStatusOf entries Alone (syntax_refusal name list fault).status
  syntax_status alone name list (malformed number) = inl refl
  syntax_status alone name list (unsupported kind number) = inr (inl (refl, alone))
  syntax_status alone name list (too_deep number) = inr (inr (inr (inl refl)))

  name_status : Alone → (name : List ℕ) (list : List Token) (nodes : List Node) (fault : NameFault) → (fault ≡ names.OutOfMemory → ⊥) → IsStatusOf entries Alone (name_refusal name list nodes fault).status
  name_status alone name list nodes (names.Undeclared node) real = inr (inl (refl, alone))
  name_status alone name list nodes (names.Redeclared node) real = inr (inl (refl, alone))
  name_status alone name list nodes names.OutOfMemory real = absurd (real refl)

  status_of : (answer other : Answer) → answer ≡ other → IsStatusOf entries Alone other.status → IsStatusOf entries Alone answer.status
  status_of answer other same h = let P : Answer → Type 0 = λ a. IsStatusOf entries Alone a.status in subst P (sym same) h

  alone_status : Alone → (unit : NamedText) (answer : Answer) → IsRefusedAlone unit answer → IsStatusOf entries Alone answer.status
  unfolding IsRefusedAlone
  alone_status alone unit answer (inl h) = status_of answer _ h.3 (lexical_status unit h.0 h.1)
  alone_status alone unit answer (inr (inl h)) = status_of answer _ h.4 (syntax_status alone unit.0 h.0 h.2)
  alone_status alone unit answer (inr (inr h)) = status_of answer _ h.7 (name_status alone unit.0 h.0 h.2.nodes h.4 h.5)

  first_status : Alone → (number : ℕ) (units : List NamedText) (answer : Answer) → FirstRefused IsRefusedText number units answer → IsStatusOf entries Alone answer.status
  first_status alone number [] answer h = absurd h
  first_status alone number (unit ∷ units) answer (inl (inl h)) = alone_status alone unit answer h
  first_status alone number (unit ∷ units) answer (inl (inr h)) = status_of answer _ h.answer_is (inr (inl (refl, alone)))
  first_status alone number (unit ∷ units) answer (inr h) = first_status alone (number + 1) units answer h.2

  link_status : (units : List Unit) (names : List (List ℕ)) (fault : LinkFault) → LinksBadlyAt entries units fault → IsStatusOf entries Alone (link_refusal names fault).status
  link_status units names (link.Conflict name unit) h = inr (inr (inl refl))
  link_status units names (link.Twice name unit) h = inr (inr (inl refl))
  link_status units names (link.Undefined place name) h = inr (inr (inl refl))
  link_status units names link.NoMain h = inr (inr (inl refl))
  link_status units names (link.NoEntry name) h = inr (inr (inr (inr (inr (refl, named_so h.fault_is.2.before h.fault_is.2.after name entries h.fault_is.2.split)))))
  link_status units names link.OutOfMemory h = absurd h.fault_is

  together_status : (units : List NamedText) (answer : Answer) → AreRefusedTogether entries units answer → IsStatusOf entries Alone answer.status
  together_status units answer (inl h) = status_of answer _ h.answer_is (link_status h.units (map (λ (unit : NamedText). unit.0) units) h.fault h.badly)
  together_status units answer (inr (inl h)) = status_of answer _ h.answer_is (inr (inr (inr (inl refl))))
  together_status units answer (inr (inr h)) = status_of answer _ h.answer_is (inr (inr (inr (inl refl))))

  refuses_status : (units : List NamedText) (answer : Answer) → (FirstRefused IsRefusedText 0 units answer → Alone) → Refuses entries units answer → IsStatusOf entries Alone answer.status
  unfolding Refuses
  refuses_status units answer alone (inl h) = first_status (alone h) 0 units answer h
  refuses_status units answer alone (inr h) = together_status units answer h

  refused_script_status : (program : Program) (space : List Location) (system : System) (script : NamedText) (answer : Answer) → IsRefusedScript program space system script answer → IsStatusOf entries Alone answer.status
  refused_script_status program space system script answer (inl h) = status_of answer _ h.answer_is (inr (inr (inr (inl refl))))
  refused_script_status program space system script answer (inr h) = status_of answer _ h.answer_is (inr (inr (inr (inr (inl refl)))))

  refused_side_status : (side : Side) (program : Program) (space : List Location) (system : System) (answer : Answer) → IsRefusedSide side program space system answer → IsStatusOf entries Alone answer.status
  refused_side_status no_side program space system answer h = absurd h
  refused_side_status (with_questions script) program space system answer h = refused_script_status program space system script answer h
  refused_side_status (with_words steps words) program space system answer (inl h) = status_of answer _ h.answer_is (inr (inr (inr (inl refl))))
  refused_side_status (with_words steps words) program space system answer (inr h) = status_of answer _ h.answer_is (inl refl)

  side_status : (units : List NamedText) (side : Side) (answer : Answer) → RefusesSide entries units side answer → IsStatusOf entries Alone answer.status
  side_status units side answer h = refused_side_status side h.program h.space h.system answer h.refused

-- a refusal has one of these statuses
told_status : (told : Told) (answer : Answer) → RefusesTold told answer → IsStatusOf told.entries (FirstRefused IsRefusedText 0 told.units answer) answer.status
told_status told answer (inl h) = refuses_status told.entries (FirstRefused IsRefusedText 0 told.units answer) told.units answer (λ first. first) h
told_status told answer (inr h) = side_status told.entries (FirstRefused IsRefusedText 0 told.units answer) told.units told.side answer h

listed : (entries : List (List ℕ)) (Alone : Type 0) (status : ℕ) → IsStatusOf entries Alone status → IsStatus status
listed entries Alone status (inl three) = inl three
listed entries Alone status (inr (inl four)) = inr (inl four.0)
listed entries Alone status (inr (inr (inl five))) = inr (inr (inl five))
listed entries Alone status (inr (inr (inr (inl six)))) = inr (inr (inr (inl six)))
listed entries Alone status (inr (inr (inr (inr (inl ten))))) = inr (inr (inr (inr (inl ten))))
listed entries Alone status (inr (inr (inr (inr (inr twelve))))) = inr (inr (inr (inr (inr twelve.0))))

pub refused_status : (told : Told) (fault : UnitsFault) (status : ℕ) (line : List ℕ) → fault ≡ Refused status line → IsFaultOfTold told fault → IsStatus status
refused_status told fault status line is refused =
    let P : UnitsFault → Type 0 = λ f. IsFaultOfTold told f in
    listed told.entries _ status (told_status told (record { status = status; out = []; err = line }) (subst P is refused))

-- with the status 12 some entry was named
twelve_named : (entries : List (List ℕ)) (Alone : Type 0) (status : ℕ) → IsStatusOf entries Alone status → status ≡ 12 → entries ≢ []
twelve_named entries Alone status (inl three) is = absurd (omega arith)
twelve_named entries Alone status (inr (inl four)) is = (let other = four.0 in absurd (omega arith))
twelve_named entries Alone status (inr (inr (inl five))) is = absurd (omega arith)
twelve_named entries Alone status (inr (inr (inr (inl six)))) is = absurd (omega arith)
twelve_named entries Alone status (inr (inr (inr (inr (inl ten))))) is = absurd (omega arith)
twelve_named entries Alone status (inr (inr (inr (inr (inr twelve))))) is = twelve.1

-- with the status 4 a text is refused by itself, under a kind that is built
four_alone : (entries : List (List ℕ)) (Alone : Type 0) (status : ℕ) → IsStatusOf entries Alone status → status ≡ 4 → Alone
four_alone entries Alone status (inl three) is = absurd (omega arith)
four_alone entries Alone status (inr (inl four)) is = four.1
four_alone entries Alone status (inr (inr (inl five))) is = absurd (omega arith)
four_alone entries Alone status (inr (inr (inr (inl six)))) is = absurd (omega arith)
four_alone entries Alone status (inr (inr (inr (inr (inl ten))))) is = absurd (omega arith)
four_alone entries Alone status (inr (inr (inr (inr (inr twelve))))) is = (let other = twelve.0 in absurd (omega arith))

pub told_kind : (told : Told) (answer : Answer) → RefusesTold told answer → answer.status ≡ 4 → IsKindLine answer
told_kind told answer h four = kinds_built.first 0 told.units answer (four_alone told.entries _ answer.status (told_status told answer h) four) four

entry_of_units : (number : Option ℕ) (read : Told) → (told_by number read).entries ≢ [] → read.entries ≢ []
entry_of_units None read named = named
entry_of_units (Some number) read named = absurd (named refl)

pub entry_asked : (words : List (List ℕ)) (command : Command) (texts : List (List ℕ)) (status : ℕ) (line : List ℕ) → Says (found_in words) command → IsRefusedBy (told_as command texts) status line → status ≡ 12 → entries_read words ≢ []
entry_asked words command texts status line says refused is =
    let told : Told = told_as command texts in
    let named : told.entries ≢ [] = twelve_named told.entries _ status (told_status told (record { status = status; out = []; err = line }) refused) is in
    let N : List (List ℕ) → Type 0 = λ names. names ≢ [] in
    subst N (entries_asked words command says) (entry_of_units command.generated (read_as command texts) named)
