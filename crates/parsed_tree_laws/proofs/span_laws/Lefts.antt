-- What stands to the left of what follows a primary.
use Rattle.std.proofs.Common.{arith, ◌≡◌, ◌<◌, ◌≤◌, ◌+◌, ◌-◌, ℕ, zero, suc, nat_eq, ◌||◌, Bool, true, false, List, [], ◌∷◌, take, Option, Some, None, length, slice_get, eq-eqb, refl, sym, ap, ◌∙◌, subst}
use Rattle.std.specs.Prelude.{if◌then◌else◌}
use Rattle.std.proofs.lemmas.Bool.{eqb-true}
use Rattle.std.proofs.lemmas.Option.{slice_get_within}
use Rattle.c_grammar.specs.declared.trees.SyntaxNode.{SyntaxNode}
use Rattle.c_grammar.specs.Productions.{p_post}
use Rattle.c_grammar.specs.Terminals.{contains}
use Rattle.c_senses.specs.Tree.{Source, children_of, is_a, is_leaf, children_at, left_of}
use Rattle.parsed_tree_laws.specs.span_laws.Spans.{Spans, over, Runs, no_more, one_more, weights, Spanned}
use Rattle.parsed_tree_laws.specs.span_laws.Lefts.{UnitsHaveLefts}
use Rattle.parsed_tree_laws.proofs.span_laws.Whole.{units_are_spanned}

abbrev IsIn : List ℕ → ℕ → Type 0
IsIn list c = (k : ℕ) × (slice_get list k ≡ Some c)

in_list : (list : List ℕ) (i : ℕ) → contains list i ≡ true → IsIn list i
in_list [] i h = cc
in_list (x ∷ list) i h = by (in_list list i) (nat_eq x i) refl h
  where
    by : (contains list i ≡ true → IsIn list i) → (b : Bool) → nat_eq x i ≡ b → (b || contains list i) ≡ true → IsIn (x ∷ list) i
    by rest true e h = (0, ap Some (eqb-true x i e))
    by rest false e h = let more = rest h in (suc more.0, more.1)

list_in : (list : List ℕ) (k i : ℕ) → slice_get list k ≡ Some i → contains list i ≡ true
list_in [] k i h = cc
list_in (x ∷ list) zero i h = let same : x ≡ i = cc in ap (λ (b : Bool). b || contains list i) (eq-eqb x i same)
list_in (x ∷ list) (suc k) i h = by (nat_eq x i) (list_in list k i h)
  where
    by : (b : Bool) → contains list i ≡ true → (b || contains list i) ≡ true
    by true e = refl
    by false e = e

no_run : (s : Source) (low : ℕ) (list : List ℕ) (high : ℕ) → list ≡ [] → Runs s low list high → low ≡ high
no_run s low list high e no_more = refl
no_run s low list high e (one_more span runs) = cc

leaf_at : (s : Source) → Spanned s → (z c : ℕ) → is_leaf s c ≡ true → Spans s z c → z ≡ c
leaf_at s spanned z c leafy (over runs) = no_run s z (children_at s c) c (spanned.leaves c leafy) runs

begins_at : (s : Source) → Spanned s → (z : ℕ) (list : List ℕ) (high c : ℕ) (more : List ℕ) → list ≡ c ∷ more → is_leaf s c ≡ true → Runs s z list high → z ≡ c
begins_at s spanned z list high c more e leafy no_more = cc
begins_at s spanned z list high c more e leafy (one_more {c = d} span runs) = let same : d ≡ c = cc in leaf_at s spanned z d (ap (is_leaf s) same ∙ leafy) span ∙ same

first_at : (s : Source) → Spanned s → (z i first : ℕ) (rest : List ℕ) → is_a s p_post i ≡ true → children_at s i ≡ first ∷ rest → Spans s z i → z ≡ first
first_at s spanned z i first rest is e (over runs) = begins_at s spanned z (children_at s i) i first rest e (spanned.begins i first rest is e) runs

module _ (s : Source) (spanned : Spanned s) (all : List ℕ) where
  lefts : (z w : ℕ) (list : List ℕ) (high : ℕ) → Runs s z list high → ((k c : ℕ) → slice_get list k ≡ Some c → IsIn all c) → (1 ≤ w → IsIn all (z - 1)) → (2 ≤ w → IsIn all (left_of s z))
      → ((k c : ℕ) → slice_get list k ≡ Some c → is_a s p_post c ≡ true → 2 ≤ w + weights s (take k list)) → (k i first : ℕ) (rest : List ℕ) → slice_get list k ≡ Some i → is_a s p_post i ≡ true → children_at s i ≡ first ∷ rest → IsIn all (left_of s first)
  lefts z w list high no_more among one left behind k i first rest at is e = cc
  lefts z w list high (one_more {c = d} {rest = more} span runs) among one left behind zero i first rest at is e =
      let same : d ≡ i = cc in
      let heavy = behind 0 i at is in
      let start = first_at s spanned z i first rest is e (subst (λ (x : ℕ). Spans s z x) same span) in
      subst (λ (x : ℕ). IsIn all (left_of s x)) start (left (omega (arith, heavy)))
  lefts z w list high (one_more {c = d} {rest = more} span runs) among one left behind (suc k) i first rest at is e =
      let last : suc d - 1 ≡ d = omega arith in
      let own : IsIn all d = among 0 d refl in
      lefts (suc d) (w + (if is_leaf s d then 1 else 2)) more high runs (λ j c h. among (suc j) c h) (λ _. subst (IsIn all) (sym last) own) (λ heavy. new_left (is_leaf s d) refl heavy own)
      (λ j c h p. let g = behind (suc j) c h p in omega (arith, g)) k i first rest at is e
    where
      by_leaf : (b : Bool) → is_leaf s d ≡ b → 2 ≤ w + (if b then 1 else 2) → IsIn all d → IsIn all (if b then suc d - 2 else suc d - 1)
      by_leaf true leafy heavy own =
          let same = leaf_at s spanned z d leafy span in
          let two : z - 1 ≡ suc d - 2 = omega (arith, same) in
          subst (IsIn all) two (one (omega (arith, heavy)))
      by_leaf false leafy heavy own = let last : suc d - 1 ≡ d = omega arith in subst (IsIn all) (sym last) own

      new_left : (b : Bool) → is_leaf s d ≡ b → 2 ≤ w + (if b then 1 else 2) → IsIn all d → IsIn all (left_of s (suc d))
      new_left b leafy heavy own =
          let last : suc d - 1 ≡ d = omega arith in
          let is : is_leaf s (suc d - 1) ≡ b = ap (is_leaf s) last ∙ leafy in
          let value : left_of s (suc d) ≡ (if b then suc d - 2 else suc d - 1) = ap (λ (x : Bool). if x then suc d - 2 else suc d - 1) is in
          subst (IsIn all) (sym value) (by_leaf b leafy heavy own)

inside : (s : Source) (p c : ℕ) → IsIn (children_at s p) c → p < length s.nodes
inside s p c at = by (slice_get s.nodes p) refl at.1
  where
    by : (o : Option SyntaxNode) → slice_get s.nodes p ≡ o → slice_get (children_of o) at.0 ≡ Some c → p < length s.nodes
    by None e h = cc
    by (Some x) e h = slice_get_within s.nodes p x e

left_in : (s : Source) → Spanned s → (i first p : ℕ) (rest : List ℕ) → is_a s p_post i ≡ true → children_at s i ≡ first ∷ rest → contains (children_at s p) i ≡ true → contains (children_at s p) (left_of s first) ≡ true
left_in s spanned i first p rest is e part =
    let at = in_list (children_at s p) i part in
    let span = spanned.each p (inside s p i at) in
    let found = by at span.0 span.1 in
    list_in (children_at s p) found.0 (left_of s first) found.1
  where
    by : IsIn (children_at s p) i → (low : ℕ) → Spans s low p → IsIn (children_at s p) (left_of s first)
    by (k, at) low (over runs) =
        lefts s spanned (children_at s p) low 0 (children_at s p) p runs (λ j c h. (j, h)) (λ h. absurd (omega (arith, h))) (λ h. absurd (omega (arith, h))) (λ j c h post. let g = spanned.behind p j c h post in omega (arith, g)) k i first rest at is e

pub units_have_lefts : UnitsHaveLefts
units_have_lefts tokens unit tree tag_number is i first p rest post e part = left_in _ (units_are_spanned tokens unit tree tag_number is) i first p rest post e part
