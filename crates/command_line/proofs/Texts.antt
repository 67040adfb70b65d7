-- The texts of words.
use Rattle.std.proofs.Common.{◌≡◌, ◌<◌, ◌≤◌, ◌∙◌, ◌↔◌, rules, sym, IsTrue, ℕ, List, Some, length, ap, slice_get, get_or, option_map, []}
use Rattle.std.specs.Borrow.{Bor}
use Rattle.std.specs.List.{All}
use Rattle.std.specs.Str.{bytes_eq}
use Rattle.std.proofs.lemmas.Option.{slice_get-map, slice_get-get_or}
use Rattle.std.proofs.lemmas.List.{get_or-map, length-map}
use Rattle.std.proofs.lemmas.List.Elements.{All-map}
use Rattle.std.proofs.lemmas.Slice.Eq.{bytes_eq-Decides}
use Rattle.clap.specs.Walk.{Text, texts}
use Rattle.command_line.specs.Distinct.{AreDistinct}
use Rattle.command_line.specs.Rules.{AreEntries, AreUnits, IsName, IsUnitWord}

pub text_read : (words : List (Bor Text)) (i : ℕ) (d : Bor Text) → i < length words → slice_get (texts words) i ≡ Some (get_or words i d).now
text_read words i d within = slice_get-map (λ w. w.now) words i ∙ ap (option_map (λ w. w.now)) (slice_get-get_or words i d within)

some_same : (a b : Text) → Some a ≡ Some b → a ≡ b
some_same a b same = search rules

pub same_at : (words : List (Bor Text)) (i j : ℕ) (d : Bor Text) → i < length words → j < length words
    → IsTrue (bytes_eq (get_or words i d).now (get_or words j d).now) ↔ slice_get (texts words) i ≡ slice_get (texts words) j
same_at words i j d here there =
    let at_i = text_read words i d here in
    let at_j = text_read words j d there in
    let decides = bytes_eq-Decides (get_or words i d).now (get_or words j d).now in
    (λ yes. at_i ∙ ap Some (decides.0 yes) ∙ sym at_j, λ same. decides.1 (some_same _ _ (sym at_i ∙ same ∙ at_j)))

pub formed_texts : (P : Text → Type 0) (words : List (Bor Text)) → All (λ w. P w.now) words → All P (texts words)
formed_texts P words = All-map P (λ w. w.now) words

pub formed_words : (P : Text → Type 0) (words : List (Bor Text)) → All P (texts words) → All (λ w. P w.now) words
formed_words P words formed k d within = rw (← get_or-map (λ w. w.now) words k d [] within) (formed k [] (rw (length-map words (λ w. w.now)) within))

pub units_are : (words : List (Bor Text)) → 1 ≤ length words → length words ≤ 256 → All (λ w. IsUnitWord w.now) words → AreDistinct (texts words) → AreUnits (texts words)
units_are words some few formed distinct = record {
  present = rw (length-map words (λ w. w.now)) some;
  few = rw (length-map words (λ w. w.now)) few;
  formed = formed_texts IsUnitWord words formed;
  distinct = distinct;
}

pub units_present : (words : List (Bor Text)) → AreUnits (texts words) → (1 ≤ length words) × (length words ≤ 256)
units_present words units = (rw (← length-map words (λ w. w.now)) units.present, rw (← length-map words (λ w. w.now)) units.few)

pub entries_are : (words : List (Bor Text)) → length words ≤ 64 → All (λ w. IsName w.now) words → AreDistinct (texts words) → AreEntries (texts words)
entries_are words few formed distinct = record {
  few = rw (length-map words (λ w. w.now)) few;
  formed = formed_texts IsName words formed;
  distinct = distinct;
}

pub entries_few : (words : List (Bor Text)) → AreEntries (texts words) → length words ≤ 64
entries_few words entries = rw (← length-map words (λ w. w.now)) entries.few
