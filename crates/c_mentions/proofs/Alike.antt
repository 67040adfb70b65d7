-- What is handed down by numbers is handed down as settings.
use Rattle.std.proofs.Common.{◌≡◌, ℕ, ◌<◌, ◌≤◌, Bool, true, false, cond, List, map, length, get_or, sym, ap, ◌∙◌, arith, ⊎_elim}
use Rattle.std.specs.List.{All}
use Rattle.std.proofs.lemmas.Bool.{cases_lt}
use Rattle.std.proofs.lemmas.List.{get_or-map, length-map, get_or_past}
use Rattle.std.proofs.lemmas.List.Elements.{All-get_or}
use Rattle.c_grammar.specs.Terminals.{contains}
use Rattle.c_mentions.specs.declared.settings.Setting.{Setting}
use Rattle.c_mentions.specs.Settings.{Hands}
use Rattle.c_mentions.specs.Kept.{Keeps, kind_at}

module _ (kinds new : List Setting) (keeps : Keeps kinds new) (old now : List ℕ) (known : All (λ place. place < length kinds) old) where
  -- a number of before stands for the setting of before
  same : (i : ℕ) (d : Setting) → i < length old → kind_at new (get_or old i 0) ≡ get_or (map (kind_at kinds) old) i d
  same i d l = keeps.kept (get_or old i 0) (All-get_or (λ place. place < length kinds) old i 0 l known) ∙ sym (get_or-map (kind_at kinds) old i 0 d l)

  chosen : (b : Bool) (place : ℕ) (setting : Setting) (i : ℕ) (d : Setting) → i < length old → kind_at new place ≡ setting
      → kind_at new (cond b place (get_or old i 0)) ≡ cond b setting (get_or (map (kind_at kinds) old) i d)
  chosen true place setting i d l e = e
  chosen false place setting i d l e = same i d l

  pub handed_alike : (children : List ℕ) (node place : ℕ) (setting : Setting) → node ≤ length old → kind_at new place ≡ setting → Hands children node place old now
      → Hands children node setting (map (kind_at kinds) old) (map (kind_at new) now)
  handed_alike children node place setting within is h = record {
    count = length-map now (kind_at new) ∙ (h.count ∙ sym (length-map old (kind_at kinds)));
    before = λ i d l.
        let lo : i < length old = omega arith in
        let ln : i < length now = omega (arith, h.count) in
        get_or-map (kind_at new) now i 0 d ln ∙ (ap (kind_at new) (h.before i 0 l) ∙ chosen (contains children i) place setting i d lo is);
    behind = λ i d l.
        ⊎_elim
        (λ lo.
        let ln : i < length now = omega (arith, h.count) in
        get_or-map (kind_at new) now i 0 d ln ∙ (ap (kind_at new) (h.behind i 0 l) ∙ same i d lo))
        (λ past.
        let pn : length (map (kind_at new) now) ≤ i = omega (arith, h.count, length-map now (kind_at new)) in
        let po : length (map (kind_at kinds) old) ≤ i = omega (arith, length-map old (kind_at kinds)) in
        get_or_past (map (kind_at new) now) i d pn ∙ sym (get_or_past (map (kind_at kinds) old) i d po))
        (cases_lt i (length old));
  }
