-- Units whose texts are told, one after the other.
use Rattle.std.proofs.Common.{◌≡◌, ℕ, ◌+◌, ◌<◌, List, [], ◌∷◌, ◌++◌, Option, Some, None, option_map, IfSome, map, take, length, refl, sym, ◌∙◌, ap, subst, get_or, slice_get}
use Rattle.std.specs.Prelude.{option_and_then}
use Rattle.std.specs.Borrow.{Bor}
use Rattle.std.proofs.lemmas.List.{map-append, take_more, length-map}
use Rattle.std.proofs.lemmas.Option.{slice_get-get_or}
use Rattle.text_units.proofs.Texts.{some_same}
use Rattle.text_units.specs.Answers.{names_of, NamedText, told_units}

with_last : List ℕ → Option (List NamedText) → Option (List ℕ) → Option (List NamedText)
with_last name told last = option_and_then (λ (units : List NamedText). option_map (λ (text : List ℕ). units ++ (name, text) ∷ []) last) told

first_alone : (name : List ℕ) (o : Option (List ℕ)) → option_and_then (λ (text : List ℕ). option_map (λ (units : List NamedText). (name, text) ∷ units) (Some [])) o ≡ with_last name (Some []) o
unfolding with_last
first_alone name None = refl
first_alone name (Some text) = refl

further : (first name : List ℕ) (o : Option (List ℕ)) (told : Option (List NamedText)) (last : Option (List ℕ)) → option_and_then (λ (text : List ℕ). option_map (λ (units : List NamedText). (first, text) ∷ units) (with_last name told last)) o ≡ with_last name (option_and_then (λ (text : List ℕ). option_map (λ (units : List NamedText). (first, text) ∷ units) told) o) last
unfolding with_last
further first name None told last = refl
further first name (Some text) None last = refl
further first name (Some text) (Some units) None = refl
further first name (Some text) (Some units) (Some end) = refl

-- one name more, at the end
told_units-append : (text_of : List ℕ → Option (List ℕ)) (names : List (List ℕ)) (name : List ℕ) → told_units text_of (names ++ name ∷ []) ≡ with_last name (told_units text_of names) (text_of name)
told_units-append text_of [] name = first_alone name (text_of name)
told_units-append text_of (first ∷ names) name =
    ap (λ (told : Option (List NamedText)). option_and_then (λ (text : List ℕ). option_map (λ (units : List NamedText). (first, text) ∷ units) told) (text_of first)) (told_units-append text_of names name)
    ∙ further first name (text_of first) (told_units text_of names) (text_of name)

-- texts as far as they are read
abbrev pub AreRead : ℕ → List (List ℕ) → Option (List NamedText) → Type 0
AreRead limit texts told = IfSome told (λ units. texts ≡ map (λ (unit : NamedText). take limit unit.1) units)

read_last : (limit : ℕ) (name : List ℕ) (texts : List (List ℕ)) (text : List ℕ) (told : Option (List NamedText)) (last : Option (List ℕ)) → AreRead limit texts told → IfSome last (λ whole. text ≡ take limit whole) → AreRead limit (texts ++ text ∷ []) (with_last name told last)
unfolding with_last
read_last limit name texts text None last read end = tt
read_last limit name texts text (Some units) None read end = tt
read_last limit name texts text (Some units) (Some whole) read end =
    ap (λ (l : List (List ℕ)). l ++ text ∷ []) read
    ∙ ap (λ (t : List ℕ). map (λ (unit : NamedText). take limit unit.1) units ++ t ∷ []) end
    ∙ sym (map-append (λ (unit : NamedText). take limit unit.1) units ((name, whole) ∷ []))

-- the text of one word more
pub read_more : (limit : ℕ) (text_of : List ℕ → Option (List ℕ)) (words : List (Bor (List ℕ))) (i : ℕ) (name : List ℕ) (texts : List (List ℕ)) (text : List ℕ) → i < length words
    → slice_get (names_of words) i ≡ Some name → AreRead limit texts (told_units text_of (take i (names_of words))) → IfSome (text_of name) (λ whole. text ≡ take limit whole)
    → AreRead limit (texts ++ text ∷ []) (told_units text_of (take (i + 1) (names_of words)))
read_more limit text_of words i name texts text within is read last =
    let at : name ≡ get_or (names_of words) i name = some_same _ _ (sym is ∙ slice_get-get_or (names_of words) i name (rw (length-map words (λ (b : Bor (List ℕ)). b.now)) within)) in
    let within' : i < length (names_of words) = rw (length-map words (λ (b : Bor (List ℕ)). b.now)) within in
    let e : take (i + 1) (names_of words) ≡ take i (names_of words) ++ name ∷ [] = take_more (names_of words) i name within' ∙ ap (λ (n : List ℕ). take i (names_of words) ++ n ∷ []) (sym at) in
    subst (λ (told : Option (List NamedText)). AreRead limit (texts ++ text ∷ []) told) (sym (ap (told_units text_of) e ∙ told_units-append text_of (take i (names_of words)) name))
    (read_last limit name texts text (told_units text_of (take i (names_of words))) (text_of name) read last)
