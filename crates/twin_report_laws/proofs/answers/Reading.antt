-- Questions of one script on settings that are alike.
use Rattle.std.proofs.Common.{◌≡◌, ℕ, ◌<◌, List, [], ◌∷◌, map, length, All, Option, Some, slice_get, sym, ◌∙◌, ap, subst, inl, inr, arith}
use Rattle.std.specs.Prelude.{codes, IfSome}
use Rattle.std.proofs.lemmas.Bool.{eq-eqb, true≢false}
use Rattle.std.proofs.lemmas.Option.{slice_get_within}
use Rattle.std.proofs.lemmas.List.Elements.{All-cons, All-nil}
use Rattle.sol_model.specs.Systems.{IsValid, IsLocation, location_count}
use Rattle.obj_space.specs.declared.location.Location.{Location}
use Rattle.alias_query.specs.declared.answers.Question.{Question}
use Rattle.alias_query.specs.declared.answers.Question.TheVariants.{Points, Alias, Reaches}
use Rattle.alias_query.specs.Script.{pieces, IsForm}
use Rattle.alias_query.specs.Asked.{Setting, Means, Asks, AreAsked}
use Rattle.twin_report_laws.specs.systems.Systems.{Maps, question_moved, LeadsBack}
use Rattle.twin_report_laws.proofs.reports.Over.{turned, location_over, function_over}
use Rattle.twin_report_laws.specs.answers.Same.{AreAskedAlike}
use Rattle.twin_report_laws.proofs.answers.Numbers.{has_one, set_number, location_number, function_number, call_number}

no_two : (word a b : List ℕ) → word ≡ a → word ≡ b → length a ≡ length b
no_two word a b e f = ap length (sym e ∙ f)

points_alias : (word : List ℕ) → word ≡ codes "points" → word ≡ codes "alias" → ⊥
points_alias word e f = let n : 6 ≡ 5 = no_two word (codes "points") (codes "alias") e f in true≢false (sym (eq-eqb 6 5 n))

points_reaches : (word : List ℕ) → word ≡ codes "points" → word ≡ codes "reaches" → ⊥
points_reaches word e f = let n : 6 ≡ 7 = no_two word (codes "points") (codes "reaches") e f in true≢false (sym (eq-eqb 6 7 n))

alias_reaches : (word : List ℕ) → word ≡ codes "alias" → word ≡ codes "reaches" → ⊥
alias_reaches word e f = let n : 5 ≡ 7 = no_two word (codes "alias") (codes "reaches") e f in true≢false (sym (eq-eqb 5 7 n))

one_form : (a b c d e f : List ℕ) → ◌≡◌ {A = List (List ℕ)} (a ∷ b ∷ c ∷ []) (d ∷ e ∷ f ∷ []) → (a ≡ d) × (b ≡ e) × (c ≡ f)
one_form a b c d e f h = (cc, cc, cc)

module _ (one other : Setting) (alike : AreAskedAlike one other) (valid : IsValid one.system) (count : length one.space ≡ location_count one.system) where
  abbrev to : Maps
  to = alike.systems.to

  abbrev back : Maps
  back = alike.systems.back

  named_inside : (l : ℕ) (x : Location) → slice_get one.space l ≡ Some x → IsLocation one.system l
  named_inside l x at = (let lt = slice_get_within one.space l x at in omega (arith, lt, count))

  row_kept : (l : ℕ) → IsLocation one.system l → to.row l ≡ l
  row_kept l h = (location_over one.system other.system alike.systems l h).0

  row_back : (l : ℕ) → IsLocation one.system l → back.row (to.row l) ≡ l
  row_back l h =
      let (kept, there) = location_over one.system other.system alike.systems l h in
      ap back.row kept ∙ (location_over other.system one.system (turned alike.systems) l there).0

  -- the numbers of a question are in range
  abbrev IsInside : Question → Type 0
  IsInside (Points row location) = IsLocation one.system row × IsLocation one.system location
  IsInside (Alias left right) = IsLocation one.system left × IsLocation one.system right
  IsInside (Reaches call function) = (call < length one.system.calls) × (function < length one.system.functions)

  one_question : (verb first second : List ℕ) (q r : Question) → IsInside q → Means one verb first second q → Means other verb first second r → r ≡ question_moved to q
  one_question verb first second (Points row location) (Points k m) inside h t =
      let first_is : k ≡ to.row row = set_number one other alike first row k h.1 t.1 ∙ sym (row_kept row inside.0) in
      let second_is : m ≡ to.row location = location_number one other alike second location m h.2 t.2 ∙ sym (row_kept location inside.1) in
      ap (λ (n : ℕ). Points n m) first_is ∙ ap (λ (n : ℕ). Points (to.row row) n) second_is
  one_question verb first second (Points row location) (Alias k m) inside h t = absurd (points_alias verb h.0 t.0)
  one_question verb first second (Points row location) (Reaches k m) inside h t = absurd (points_reaches verb h.0 t.0)
  one_question verb first second (Alias left right) (Points k m) inside h t = absurd (points_alias verb t.0 h.0)
  one_question verb first second (Alias left right) (Alias k m) inside h t =
      let first_is : k ≡ to.row left = set_number one other alike first left k h.1 t.1 ∙ sym (row_kept left inside.0) in
      let second_is : m ≡ to.row right = set_number one other alike second right m h.2 t.2 ∙ sym (row_kept right inside.1) in
      ap (λ (n : ℕ). Alias n m) first_is ∙ ap (λ (n : ℕ). Alias (to.row left) n) second_is
  one_question verb first second (Alias left right) (Reaches k m) inside h t = absurd (alias_reaches verb h.0 t.0)
  one_question verb first second (Reaches call function) (Points k m) inside h t = absurd (points_reaches verb t.0 h.0)
  one_question verb first second (Reaches call function) (Alias k m) inside h t = absurd (alias_reaches verb t.0 h.0)
  one_question verb first second (Reaches call function) (Reaches k m) inside h t =
      let call_is : k ≡ to.call call = call_number one other alike first call k h.1 t.1 in
      let function_is : m ≡ to.function function = function_number one other alike second function m h.2 t.2 ∙ sym (alike.systems.keeps.functions function inside.1) in
      ap (λ (n : ℕ). Reaches n m) call_is ∙ ap (λ (n : ℕ). Reaches (to.call call) n) function_is

  leads_back : (q : Question) → IsInside q → LeadsBack to back q
  leads_back (Points row location) h = ap (λ (n : ℕ). Points n (back.row (to.row location))) (row_back row h.0) ∙ ap (λ (n : ℕ). Points row n) (row_back location h.1)
  leads_back (Alias left right) h = ap (λ (n : ℕ). Alias n (back.row (to.row right))) (row_back left h.0) ∙ ap (λ (n : ℕ). Alias left n) (row_back right h.1)
  leads_back (Reaches call function) h =
      let (site, at) = has_one one.system.calls call h.0 in
      let kept : to.function function ≡ function = alike.systems.keeps.functions function h.1 in
      let other_kept : back.function function ≡ function = alike.systems.kept.functions function (let (f, f_at) = has_one one.system.functions function h.1 in
      let (g, over) = function_over one.system other.system alike.systems function f valid f_at in
      slice_get_within other.system.functions function g over.there) in
      ap (λ (n : ℕ). Reaches n (back.function (to.function function))) (alike.systems.keeps.calls call site at).0
      ∙ ap (λ (n : ℕ). Reaches call n) (ap back.function kept ∙ other_kept)

  -- what words mean is in range
  means_inside : (verb first second : List ℕ) (q : Question) → Means one verb first second q → IsInside q
  means_inside verb first second (Points row location) h = (named_inside row (h.1).location (h.1).there, named_inside location (h.2).name.0 (h.2).name.1)
  means_inside verb first second (Alias left right) h = (named_inside left (h.1).location (h.1).there, named_inside right (h.2).location (h.2).there)
  means_inside verb first second (Reaches call function) h = (
    slice_get_within one.system.calls call h.1.site h.1.there,
    subst (λ (o : Option ℕ). IfSome o (λ number. number < length one.system.functions)) h.2.is (valid.locations h.2.l h.2.fact h.2.there).function,
  )

  no_words : (a b c : List ℕ) → ◌≡◌ {A = List (List ℕ)} ([] ∷ []) (a ∷ b ∷ c ∷ []) → ⊥
  no_words a b c h = absurd (cc)

  not_empty : (line verb first second : List ℕ) → line ≡ [] → IsForm line verb first second → ⊥
  not_empty line verb first second empty form = no_words verb first second (sym (ap (pieces 32) empty) ∙ form.words)

  one_asked : (line : List ℕ) (q r : Question) → Asks one line q → Asks other line r → (r ≡ question_moved to q) × LeadsBack to back q
  one_asked line q r h t =
      let (verb, first, second) = one_form t.verb t.first t.second h.verb h.first h.second (sym t.form.words ∙ h.form.words) in
      let inside : IsInside q = means_inside h.verb h.first h.second q h.meant in
      let meant : Means other h.verb h.first h.second r =
      subst (λ (w : List ℕ). Means other h.verb h.first w r) second
      (subst (λ (w : List ℕ). Means other h.verb w t.second r) first (subst (λ (w : List ℕ). Means other w t.first t.second r) verb t.meant)) in
      (one_question h.verb h.first h.second q r inside h.meant meant, leads_back q inside)

  pub both_asked : (lines : List (List ℕ)) (qs rs : List Question) → AreAsked one lines qs → AreAsked other lines rs → (rs ≡ map (question_moved to) qs) × All (LeadsBack to back) qs
  both_asked [] qs rs h t = (t ∙ ap (map (question_moved to)) (sym h), subst (All (LeadsBack to back)) (sym h) (All-nil (LeadsBack to back)))
  both_asked (line ∷ lines) qs rs (inl h) (inl t) = both_asked lines qs rs h.1 t.1
  both_asked (line ∷ lines) qs rs (inl h) (inr t) = absurd (not_empty line (t.3).verb (t.3).first (t.3).second h.0 (t.3).form)
  both_asked (line ∷ lines) qs rs (inr h) (inl t) = absurd (not_empty line (h.3).verb (h.3).first (h.3).second t.0 (h.3).form)
  both_asked (line ∷ lines) qs rs (inr h) (inr t) =
      let (same, round) = one_asked line h.0 t.0 h.3 t.3 in
      let (more, rounds) = both_asked lines h.1 t.1 h.4 t.4 in (
        t.2 ∙ (ap (λ (q : Question). q ∷ t.1) same ∙ (ap (λ (list : List Question). question_moved to h.0 ∷ list) more ∙ ap (map (question_moved to)) (sym h.2))),
        subst (All (LeadsBack to back)) (sym h.2) (All-cons (LeadsBack to back) h.0 h.1 round rounds),
      )
