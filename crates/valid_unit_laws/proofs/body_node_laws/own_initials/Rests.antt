-- The rest of a declaration in which an initialiser stands.
use Rattle.std.proofs.Common.{arith, ◌≡◌, ◌<◌, ℕ, zero, suc, nat_eq, nat_lt, ◌&&◌, ◌||◌, Bool, true, false, List, [], ◌∷◌, Option, Some, None, take, length, eq-eqb, refl, sym, ap, ◌∙◌, ◌⊎◌, inl, inr}
use Rattle.std.specs.Prelude.{option_and_then, if◌then◌else◌}
use Rattle.std.proofs.lemmas.Bool.{eqb-true}
use Rattle.c_grammar.specs.Productions.{p_external, p_rest, p_field, p_declaration, p_declarator, p_init}
use Rattle.c_grammar.specs.Terminals.{contains}
use Rattle.c_senses.specs.Tree.{Source, is_a, production_at, children_at, last_where, child_of, parent_of}
use Rattle.c_senses.specs.Declarators.{declaration_around}
use Rattle.c_senses.specs.Entities.{initialised_by}
use Rattle.c_senses.specs.Sense.{Sense, IsDeclarator, Derivation, sense_in}
use Rattle.declaration_laws.proofs.function_laws.passed.definition_laws.linkage_laws.Seen.{some_same, none_some, parent_is, parent_holds}
use Rattle.declaration_laws.proofs.function_laws.passed.definition_laws.linkage_laws.Linked.{Tree}
use Rattle.core_node_laws.proofs.built_unit_laws.run_laws.Running.{first_in, last_found}
use Rattle.parsed_tree_laws.specs.sign_parts.Parts.{IsBrought}
use Rattle.core_node_laws.proofs.standing_laws.Climbing.{found_where}
use Rattle.declaration_laws.proofs.function_laws.passed.definition_laws.single_initialisers.Parts.{member, Holds, in_rest, in_other, holder, inner_holder, item_in, no_declarator_in}
use Rattle.valid_unit_laws.proofs.body_node_laws.own_initials.Names.{both}

-- a declarator that is seen so is one at the end
abbrev pub name_in : Sense → Option ℕ
name_in (IsDeclarator name ds) = name
name_in x = None

pub seen_later : (xs : List Sense) (i m leaf : ℕ) → name_in (sense_in (take i xs) m) ≡ Some leaf → (ds : List Derivation) × (sense_in xs m ≡ IsDeclarator (Some leaf) ds) × (m < length xs)
seen_later [] zero m leaf e = absurd (none_some e)
seen_later [] (suc i) m leaf e = absurd (none_some e)
seen_later (x ∷ xs) zero m leaf e = absurd (none_some e)
seen_later (x ∷ xs) (suc i) zero leaf e = by x e
  where
    by : (x : Sense) → name_in x ≡ Some leaf → (ds : List Derivation) × (x ≡ IsDeclarator (Some leaf) ds) × (0 < length (x ∷ xs))
    by (IsDeclarator name ds) f = (ds, ap (λ (o : Option ℕ). IsDeclarator o ds) f, omega arith)
    by x f = absurd (none_some f)
seen_later (x ∷ xs) (suc i) (suc m) leaf e = let (ds, is, lt) = seen_later xs i m leaf e in (ds, is, omega (arith, lt))

module _ (s : Source) (tree : Tree s) (f : ℕ → Sense) (i m : ℕ) where
  abbrev test : ℕ → Bool
  test c = is_a s p_declarator c && nat_lt c i

  -- where the declarator of an initialiser stands: beside it, or beside what it stands in
  pub data Place (p : ℕ) : Type 0 where
    beside : contains (children_at s p) m ≡ true → is_a s p_declarator m ≡ true → Place p
    above : (a : ℕ) → contains (children_at s a) p ≡ true → contains (children_at s a) m ≡ true → is_a s p_declarator m ≡ true → Place p

  pub place_of : initialised_by s f i ≡ Some m → (p : ℕ) × (parent_of s i ≡ Some p) × Place p
  place_of e = by (parent_of s i) refl e
    where
      higher : (p : ℕ) → (o : Option ℕ) → parent_of s p ≡ o → option_and_then (child_of s p_declarator) o ≡ Some m → Place p
      higher p None at h = absurd (none_some h)
      higher p (Some a) at h = above a (parent_holds s tree.grown a p at) (first_in (is_a s p_declarator) (children_at s a) m h) (found_where (is_a s p_declarator) (children_at s a) m h)

      pick : (p : ℕ) (o : Option ℕ) → last_where test (children_at s p) ≡ o → (elim o as (λ _. Option ℕ) [ Some x ↦ Some x | None ↦ option_and_then (child_of s p_declarator) (parent_of s p) ]) ≡ Some m → Place p
      pick p None at h = higher p (parent_of s p) refl h
      pick p (Some x) at h = let own = last_found test (children_at s p) m (at ∙ h) in beside own.0 (both (is_a s p_declarator m) (nat_lt m i) own.1).0

      by : (o : Option ℕ) → parent_of s i ≡ o
          → (elim o as (λ _. Option ℕ) [ None ↦ None | Some p ↦ elim (last_where test (children_at s p)) as (λ _. Option ℕ) [ Some x ↦ Some x | None ↦ option_and_then (child_of s p_declarator) (parent_of s p) ] ]) ≡ Some m → (p : ℕ) × (parent_of s i ≡ Some p) × Place p
      by None up h = absurd (none_some h)
      by (Some p) up h = (p, up, pick p (last_where test (children_at s p)) refl h)

  -- what the declarator is declared in
  abbrev around : ℕ → ℕ → Type 0
  around q a = declaration_around s q ≡ Some a

  abbrev in_node : ℕ → ℕ → Option ℕ
  in_node p n = if nat_eq n p_rest || nat_eq n p_field then parent_of s p else Some p

  -- of a rest, it is what the rest stands in
  pub rest_in : (p a : ℕ) → Place p → is_a s p_rest p ≡ true → option_and_then (declaration_around s) (parent_of s m) ≡ Some a → parent_of s p ≡ Some a
  rest_in p a (beside h is) rest e =
      sym (ap (λ (b : Bool). if b || is_a s p_field p then parent_of s p else Some p) rest) ∙ (sym (ap (option_and_then (declaration_around s)) (parent_is s tree.grown p m h)) ∙ e)
  rest_in p a (above b up h is) rest e =
      let own : declaration_around s b ≡ Some a = sym (ap (option_and_then (declaration_around s)) (parent_is s tree.grown b m h)) ∙ e in
      parent_is s tree.grown b p up ∙ (sym (by (is_a s p_external b) refl (is_a s p_declaration b) refl (tree.nested.rests b p up rest)) ∙ own)
    where
      of_number : (n : ℕ) → production_at s b ≡ n → in_node b n ≡ Some b → declaration_around s b ≡ Some b
      of_number n e out = ap (in_node b) e ∙ out

      by : (x : Bool) → is_a s p_external b ≡ x → (y : Bool) → is_a s p_declaration b ≡ y → (x || y) ≡ true → declaration_around s b ≡ Some b
      by true ex y ey h = of_number 1 (eqb-true (production_at s b) p_external ex) refl
      by false ex true ey h = of_number 3 (eqb-true (production_at s b) p_declaration ey) refl
      by false ex false ey h = cc

  -- the initialiser of a declarator of a declaration stands in a rest
  pub stands_in_rest : IsBrought s → (p a : ℕ) → is_a s p_init i ≡ true → parent_of s i ≡ Some p → Place p → option_and_then (declaration_around s) (parent_of s m) ≡ Some a → is_a s p_declaration a ≡ true → is_a s p_rest p ≡ true
  stands_in_rest brought p a is up (above b over h declarator) e declaration =
      by (inner_holder s brought b p i over (parent_holds s tree.grown p i up) (eqb-true (production_at s i) p_init is))
    where
      by : (production_at s p ≡ 2) ⊎ (production_at s p ≡ 27) → is_a s p_rest p ≡ true
      by (inl x) = eq-eqb (production_at s p) p_rest x
      by (inr x) = absurd (no_declarator_in s brought b m (item_in s brought b p over x) h (eqb-true (production_at s m) p_declarator declarator))
  stands_in_rest brought p a is up (beside h declarator) e declaration = by (holder s brought p i (parent_holds s tree.grown p i up) (eqb-true (production_at s i) p_init is))
    where
      own : declaration_around s p ≡ Some a
      own = sym (ap (option_and_then (declaration_around s)) (parent_is s tree.grown p m h)) ∙ e

      no_one : (n : ℕ) → production_at s p ≡ n → in_node p n ≡ Some p → nat_eq n 3 ≡ false → ⊥
      no_one n x out other =
          let same : p ≡ a = some_same (sym (ap (in_node p) x ∙ out) ∙ own) in
          let three : production_at s p ≡ 3 = ap (production_at s) same ∙ eqb-true (production_at s a) p_declaration declaration in
          let yes : nat_eq n 3 ≡ true = eq-eqb n 3 (sym x ∙ three) in
          cc

      third : (55 ≡ production_at s p) ⊎ (contains [] (production_at s p) ≡ true) → ⊥
      third (inl x) = no_one 55 (sym x) refl refl
      third (inr x) = cc

      second : (54 ≡ production_at s p) ⊎ (contains (55 ∷ []) (production_at s p) ≡ true) → ⊥
      second (inl x) = no_one 54 (sym x) refl refl
      second (inr x) = third (member 55 (production_at s p) [] x)

      first : (27 ≡ production_at s p) ⊎ (contains (54 ∷ 55 ∷ []) (production_at s p) ≡ true) → ⊥
      first (inl x) = no_one 27 (sym x) refl refl
      first (inr x) = second (member 54 (production_at s p) (55 ∷ []) x)

      by : Holds s brought p → is_a s p_rest p ≡ true
      by (in_rest x) = eq-eqb (production_at s p) p_rest x
      by (in_other x) = absurd (first (member 27 (production_at s p) (54 ∷ 55 ∷ []) x))
