-- Cases and defaults among the nodes before one, and with one more.
use Rattle.std.proofs.Common.{arith, ◌≡◌, ℕ, zero, suc, ◌+◌, ◌<◌, Bool, true, false, ◌&&◌, ◌||◌, ◌==◌, eqb, cond, List, [], ◌∷◌, Option, Some, None, Result, Ok, Err, is_some, take, refl, sym, ap, ◌∙◌, subst}
use Rattle.std.specs.Prelude.{ℤ}
use Rattle.std.specs.declared.cmp.Ordering.{Ordering}
use Rattle.std.specs.declared.cmp.Ordering.TheVariants.{Less, Equal, Greater}
use Rattle.std.specs.Ordering.{nat_cmp, int_cmp, int_eq, is_eq, ordering_then}
use Rattle.std.specs.Result.{OnOk}
use Rattle.std.proofs.lemmas.Bool.{eqb-true, eqb-false}
use Rattle.std.proofs.lemmas.Bool.Decides.{nat_tests}
use Rattle.c_senses.specs.Tree.{Source, any_where, numbers_from, is_number, is_a, has_word, children_at}
use Rattle.c_senses.specs.World.{World, or_else}
use Rattle.c_senses.specs.Sense.{Sense, IsCore, sense_in}
use Rattle.c_results.specs.Parts.{core_in}
use Rattle.c_senses.specs.Statements.{is_case_again, is_default_again, is_statement_of, switch_around, case_value, is_default}
use Rattle.tree_reads.specs.leaf_maps.Numbers.{number_at}
use Rattle.c_statements.specs.Labels.{case_at, AreDefaults, AreCases}

-- keys that compare equal are equal
number_same : (a b : ℕ) → is_eq (nat_cmp a b) ≡ eqb a b
number_same a b = grind (arith, nat_tests)

then_same : (o p : Ordering) → is_eq (ordering_then o p) ≡ (is_eq o && is_eq p)
then_same Less p = refl
then_same Equal p = refl
then_same Greater p = refl

pub key_same : (a c : ℕ) (b d : ℤ) → is_eq (ordering_then (nat_cmp a c) (int_cmp b d)) ≡ ((a == c) && int_eq b d)
key_same a c b d = then_same (nat_cmp a c) (int_cmp b d) ∙ ap (λ (t : Bool). t && int_eq b d) (number_same a c)

-- a test of numbers from one on, and of one number more
or_assoc : (a b c : Bool) → (a || (b || c)) ≡ ((a || b) || c)
or_assoc true b c = refl
or_assoc false b c = refl

or_false : (a : Bool) → a ≡ (a || false)
or_false true = refl
or_false false = refl

any_more : (test : ℕ → Bool) (k n : ℕ) → any_where test (numbers_from k (suc n)) ≡ (any_where test (numbers_from k n) || test (k + n))
any_more test k zero =
    let same : k ≡ k + 0 = omega arith in
    sym (or_false (test k)) ∙ ap test same
any_more test k (suc n) =
    let same : suc k + n ≡ k + suc n = omega arith in
    ap (λ (b : Bool). test k || b) (any_more test (suc k) n ∙ ap (λ (m : ℕ). any_where test (numbers_from (suc k) n) || test m) same)
    ∙ or_assoc (test k) (any_where test (numbers_from (suc k) n)) (test (k + suc n))

any_same : (p q : ℕ → Bool) (k n : ℕ) → ((i : ℕ) → i < k + n → p i ≡ q i) → any_where p (numbers_from k n) ≡ any_where q (numbers_from k n)
any_same p q k zero h = refl
any_same p q k (suc n) h =
    let here : p k ≡ q k = h k (omega arith) in
    let rest : any_where p (numbers_from (suc k) n) ≡ any_where q (numbers_from (suc k) n) = any_same p q (suc k) n (λ i l. h i (omega (arith, l))) in
    ap (λ (b : Bool). b || any_where p (numbers_from (suc k) n)) here ∙ ap (λ (b : Bool). q k || b) rest

-- the senses of nodes before one
pub sense_before : (senses : List Sense) (at i : ℕ) → i < at → sense_in (take at senses) i ≡ sense_in senses i
sense_before [] zero i l = absurd (omega arith)
sense_before [] (suc at) i l = refl
sense_before (x ∷ senses) zero i l = absurd (omega arith)
sense_before (x ∷ senses) (suc at) zero l = refl
sense_before (x ∷ senses) (suc at) (suc i) l = sense_before senses at i (omega arith)

module _ (before after : World) (s : Source) (senses : List Sense) (at : ℕ) where
  case_before : (switch : ℕ) (n : ℤ) (i : ℕ) → i < at → is_case_again before s (sense_in (take at senses)) switch n i ≡ is_case_again after s (sense_in senses) switch n i
  case_before switch n i l =
      ap (λ (x : Sense). is_statement_of after s (sense_in senses) 2 i && (is_number (switch_around after s (sense_in senses) i) switch && (elim (case_value after s (sense_in senses) x) [ None ↦ false | Some m ↦ int_eq m n ]))) (sense_before senses at i l)

  default_before : (switch : ℕ) (i : ℕ) → i < at → is_default_again before s (sense_in (take at senses)) switch i ≡ is_default_again after s (sense_in senses) switch i
  default_before switch i l =
      ap (λ (x : Sense). is_statement_of after s (sense_in senses) 6 i && (is_number (switch_around after s (sense_in senses) i) switch && is_default after s (sense_in senses) x)) (sense_before senses at i l)

  pub cases_more : (old new : List ((ℕ × ℤ) × ℕ)) → AreCases before s (sense_in (take at senses)) at old
      → ((switch : ℕ) (n : ℤ) → is_some (case_at new switch n) ≡ (is_some (case_at old switch n) || is_case_again after s (sense_in senses) switch n at))
      → AreCases after s (sense_in senses) (at + 1) new
  cases_more old new are noted switch n =
      let test = is_case_again after s (sense_in senses) switch n in
      let more : suc at ≡ at + 1 = omega arith in
      let from_none : 0 + at ≡ at = omega arith in
      noted switch n
      ∙ (ap (λ (b : Bool). b || test at) (are switch n ∙ any_same (is_case_again before s (sense_in (take at senses)) switch n) test 0 at (λ i l. case_before switch n i (omega arith)))
      ∙ (sym (any_more test 0 at ∙ ap (λ (k : ℕ). any_where test (numbers_from 0 at) || test k) from_none) ∙ ap (λ (k : ℕ). any_where test (numbers_from 0 k)) more))

  pub defaults_more : (old new : List (ℕ × ℕ)) → AreDefaults before s (sense_in (take at senses)) at old
      → ((switch : ℕ) → is_some (number_at new switch) ≡ (is_some (number_at old switch) || is_default_again after s (sense_in senses) switch at))
      → AreDefaults after s (sense_in senses) (at + 1) new
  defaults_more old new are noted switch =
      let test = is_default_again after s (sense_in senses) switch in
      let more : suc at ≡ at + 1 = omega arith in
      let from_none : 0 + at ≡ at = omega arith in
      noted switch
      ∙ (ap (λ (b : Bool). b || test at) (are switch ∙ any_same (is_default_again before s (sense_in (take at senses)) switch) test 0 at (λ i l. default_before switch i (omega arith)))
      ∙ (sym (any_more test 0 at ∙ ap (λ (k : ℕ). any_where test (numbers_from 0 at) || test k) from_none) ∙ ap (λ (k : ℕ). any_where test (numbers_from 0 k)) more))

-- whether a node is a case or a default, by its parts
and_false : (b : Bool) → false ≡ (b && false)
and_false true = refl
and_false false = refl

and_true : (b : Bool) → b ≡ (b && true)
and_true true = refl
and_true false = refl

module _ (w : World) (s : Source) (sense : ℕ → Sense) where
  pub case_none : (x : Sense) → core_in x ≡ None → None ≡ case_value w s sense x
  case_none (IsCore c) e = cc
  case_none x e = refl

  pub default_none : (x : Sense) → core_in x ≡ None → false ≡ is_default w s sense x
  default_none (IsCore c) e = cc
  default_none x e = refl

  abbrev case_parts : ℕ → ℤ → Bool → Option ℕ → Option ℤ → Bool
  case_parts switch number a o v = a && (is_number o switch && (elim v [ None ↦ false | Some m ↦ int_eq m number ]))

  pub case_here : (at found : ℕ) (n : ℤ) (switch : ℕ) (number : ℤ) → true ≡ is_statement_of w s sense 2 at → Some found ≡ switch_around w s sense at → Some n ≡ case_value w s sense (sense at)
      → ((found == switch) && int_eq n number) ≡ is_case_again w s sense switch number at
  case_here at found n switch number e f g =
      ap (λ (a : Bool). case_parts switch number a (Some found) (Some n)) e
      ∙ (ap (λ (o : Option ℕ). case_parts switch number (is_statement_of w s sense 2 at) o (Some n)) f
      ∙ ap (case_parts switch number (is_statement_of w s sense 2 at) (switch_around w s sense at)) g)

  pub no_case : (at switch : ℕ) (number : ℤ) → true ≡ is_statement_of w s sense 2 at → None ≡ case_value w s sense (sense at) → false ≡ is_case_again w s sense switch number at
  no_case at switch number e g =
      and_false (is_number (switch_around w s sense at) switch)
      ∙ (ap (λ (a : Bool). case_parts switch number a (switch_around w s sense at) None) e ∙ ap (case_parts switch number (is_statement_of w s sense 2 at) (switch_around w s sense at)) g)

  pub other_case : (at switch : ℕ) (number : ℤ) → false ≡ is_statement_of w s sense 2 at → false ≡ is_case_again w s sense switch number at
  other_case at switch number e = ap (λ (a : Bool). case_parts switch number a (switch_around w s sense at) (case_value w s sense (sense at))) e

  -- no statement is a case or a default
  no_statement : (word at : ℕ) → false ≡ is_a s 30 at → false ≡ is_statement_of w s sense word at
  no_statement word at e = ap (λ (a : Bool). a && (elim (children_at s at) [ [] ↦ false | first ∷ rest ↦ has_word s word first ])) e

  abbrev default_parts : ℕ → Bool → Option ℕ → Bool → Bool
  default_parts switch a o d = a && (is_number o switch && d)

  pub default_here : (at switch : ℕ) → true ≡ is_statement_of w s sense 6 at → true ≡ is_default w s sense (sense at) → is_number (switch_around w s sense at) switch ≡ is_default_again w s sense switch at
  default_here at switch e f =
      and_true (is_number (switch_around w s sense at) switch)
      ∙ (ap (λ (a : Bool). default_parts switch a (switch_around w s sense at) true) e ∙ ap (default_parts switch (is_statement_of w s sense 6 at) (switch_around w s sense at)) f)

  pub no_default : (at switch : ℕ) → true ≡ is_statement_of w s sense 6 at → false ≡ is_default w s sense (sense at) → false ≡ is_default_again w s sense switch at
  no_default at switch e f =
      and_false (is_number (switch_around w s sense at) switch)
      ∙ (ap (λ (a : Bool). default_parts switch a (switch_around w s sense at) false) e ∙ ap (default_parts switch (is_statement_of w s sense 6 at) (switch_around w s sense at)) f)

  pub other_default : (at switch : ℕ) → false ≡ is_statement_of w s sense 6 at → false ≡ is_default_again w s sense switch at
  other_default at switch e = ap (λ (a : Bool). default_parts switch a (switch_around w s sense at) (is_default w s sense (sense at))) e

  -- so what is kept is kept of such a node too
  pub no_case_there : (at : ℕ) (list : List ((ℕ × ℤ) × ℕ)) → false ≡ is_a s 30 at → (switch : ℕ) (number : ℤ) → is_some (case_at list switch number) ≡ (is_some (case_at list switch number) || is_case_again w s sense switch number at)
  no_case_there at list e switch number =
      or_false (is_some (case_at list switch number)) ∙ ap (λ (b : Bool). is_some (case_at list switch number) || b) (other_case at switch number (no_statement 2 at e))

  pub no_default_there : (at : ℕ) (list : List (ℕ × ℕ)) → false ≡ is_a s 30 at → (switch : ℕ) → is_some (number_at list switch) ≡ (is_some (number_at list switch) || is_default_again w s sense switch at)
  no_default_there at list e switch =
      or_false (is_some (number_at list switch)) ∙ ap (λ (b : Bool). is_some (number_at list switch) || b) (other_default at switch (no_statement 6 at e))

-- what is kept once a key has been entered, or none has
or_true : (b : Bool) → true ≡ (b || true)
or_true true = refl
or_true false = refl

pub some_put : (b x : Bool) (node : ℕ) (o : Option ℕ) → b ≡ x → is_some (cond b (Some node) o) ≡ (is_some o || x)
some_put true x node o e = or_true (is_some o) ∙ ap (λ (y : Bool). is_some o || y) e
some_put false x node o e = or_false (is_some o) ∙ ap (λ (y : Bool). is_some o || y) e

pub none_put : (b x : Bool) → false ≡ x → b ≡ (b || x)
none_put b x e = or_false b ∙ ap (λ (y : Bool). b || y) e

-- a switch has been entered
pub added : (old new : List (ℕ × ℕ)) (found node q : ℕ) → number_at new found ≡ or_else (number_at old found) (Some node) → ((r : ℕ) → (found ≡ r → ⊥) → number_at new r ≡ number_at old r)
    → is_some (number_at new q) ≡ (is_some (number_at old q) || (found == q))
added old new found node q here others = by_test (found == q) refl
  where
    joined : (o : Option ℕ) → is_some (or_else o (Some node)) ≡ (is_some o || true)
    joined None = refl
    joined (Some k) = refl

    by_test : (b : Bool) → (found == q) ≡ b → is_some (number_at new q) ≡ (is_some (number_at old q) || (found == q))
    by_test true e =
        let same : found ≡ q = eqb-true found q e in
        let there : is_some (number_at new found) ≡ (is_some (number_at old found) || true) = ap is_some here ∙ joined (number_at old found) in
        subst (λ (r : ℕ). is_some (number_at new r) ≡ (is_some (number_at old r) || true)) same there ∙ sym (ap (λ (b : Bool). is_some (number_at old q) || b) e)
    by_test false e =
        ap is_some (others q (eqb-false found q e)) ∙ (or_false (is_some (number_at old q)) ∙ sym (ap (λ (b : Bool). is_some (number_at old q) || b) e))

-- what holds where a call succeeds
pub on_ok : {A E : Type 0} (r : Result A E) (P : Type 0) → P → OnOk r P
on_ok (Ok x) P p = p
on_ok (Err e) P p = tt

pub ok_more : {A E : Type 0} (r : Result A E) (P Q : Type 0) → OnOk r P → (P → Q) → OnOk r Q
ok_more (Ok x) P Q h f = f h
ok_more (Err e) P Q h f = tt
