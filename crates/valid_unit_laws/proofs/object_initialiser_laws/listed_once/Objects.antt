-- What declarations and blocks list has an object once at most.
use Rattle.std.proofs.Common.{arith, ◌≡◌, ◌≤◌, ◌+◌, ℕ, nat_eq, Bool, true, false, List, [], ◌∷◌, ◌++◌, Some, take, refl, sym, ap, ◌∙◌, subst}
use Rattle.std.specs.Prelude.{if◌then◌else◌}
use Rattle.std.proofs.lemmas.Bool.{eqb-true}
use Rattle.c_grammar.specs.Productions.{p_rest, p_declaration, p_declarator}
use Rattle.c_grammar.specs.Terminals.{contains}
use Rattle.c_senses.specs.Tree.{Source, is_a, production_at, children_at}
use Rattle.c_senses.specs.World.{World}
use Rattle.c_senses.specs.Declarators.{is_declarator}
use Rattle.c_senses.specs.Sense.{Sense, IsDeclarator, Derivation, sense_in}
use Rattle.c_senses.specs.Statements.{is_automatic_object, automatic_name, objects_among, objects_in_rest, objects_declared, objects_in}
use Rattle.c_senses.specs.Rows.{AreSenses}
use Rattle.parsed_tree_laws.specs.family_laws.Families.{Families}
use Rattle.parsed_tree_laws.proofs.placed_laws.Climbing.{Grown}
use Rattle.parsed_tree_laws.specs.grown_parts.Parts.{IsBrought}
use Rattle.declaration_laws.proofs.declared_type_laws.owner_laws.passed.definition_laws.linkage_laws.Seen.{some_same, no_both}
use Rattle.core_node_laws.proofs.count_laws.Rooms.{sum_of}
use Rattle.valid_unit_laws.specs.object_initialiser_laws.listed_declarations.Listed.{AreApart}
use Rattle.valid_unit_laws.proofs.object_initialiser_laws.listed_declarations.Apart.{named_by, among, in_rests, known, of_number}
use Rattle.valid_unit_laws.proofs.object_initialiser_laws.listed_once.Sums.{most_one, one_of_two, occurs, occurs_both, occurs_in, sum_once}

-- a declaration is no rest of one
never : (s : Source) (a b : ℕ) → a ≡ b → is_a s p_declaration a ≡ true → is_a s p_rest b ≡ true → ⊥
never s a b same e f = no_both (nat_eq 3 2) (ap (λ (n : ℕ). nat_eq n 2) (sym (eqb-true (production_at s a) 3 e)) ∙ (ap (is_a s p_rest) same ∙ f)) refl

module _ (s : Source) (senses : List Sense) (are : AreSenses s senses) (families : Families s) (grown : Grown s) (brought : IsBrought s) (apart : AreApart s senses) (d : ℕ) (w : World) (i : ℕ) where
  abbrev f : ℕ → Sense
  f = sense_in (take i senses)

  -- what a declarator adds
  abbrev name_count : ℕ → ℕ
  name_count c = if is_a s p_declarator c then occurs (automatic_name w s f (f c)) d else 0

  name_most : (x : Sense) → occurs (automatic_name w s f x) d ≤ 1
  name_most (IsDeclarator (Some l) ds) = by (is_automatic_object w s f l)
    where
      by : (b : Bool) → occurs (if b then l ∷ [] else []) d ≤ 1
      by true = let h = most_one (nat_eq l d) in omega (arith, h)
      by false = omega arith
  name_most x = omega arith

  count_most : (c : ℕ) → name_count c ≤ 1
  count_most c = by (is_a s p_declarator c)
    where
      by : (b : Bool) → (if b then occurs (automatic_name w s f (f c)) d else 0) ≤ 1
      by true = name_most (f c)
      by false = omega arith

  among_sum : (ks : List ℕ) → occurs (objects_among w s f ks) d ≡ sum_of name_count ks
  among_sum [] = refl
  among_sum (c ∷ rest) = by (is_a s p_declarator c) (among_sum rest)
    where
      by : (b : Bool) → occurs (objects_among w s f rest) d ≡ sum_of name_count rest
          → occurs (if b then automatic_name w s f (f c) ++ objects_among w s f rest else objects_among w s f rest) d ≡ (if b then occurs (automatic_name w s f (f c)) d else 0) + sum_of name_count rest
      by true h = let both = occurs_both (automatic_name w s f (f c)) (objects_among w s f rest) d in omega (arith, both, h)
      by false h = omega (arith, h)

  -- a declarator that counts is that of the object
  counted : (c : ℕ) → 1 ≤ name_count c → (is_a s p_declarator c ≡ true) × ((ds : List Derivation) × (f c ≡ IsDeclarator (Some d) ds))
  counted c h = by (is_a s p_declarator c) refl h
    where
      by : (b : Bool) → is_a s p_declarator c ≡ b → 1 ≤ (if b then occurs (automatic_name w s f (f c)) d else 0) → (is_a s p_declarator c ≡ true) × ((ds : List Derivation) × (f c ≡ IsDeclarator (Some d) ds))
      by true e g = (e, named_by s w f d (f c) (occurs_in (automatic_name w s f (f c)) d g))
      by false e g = absurd (omega (arith, g))

  names_one : (r : ℕ) → is_declarator s r ≡ false → (c e : ℕ) → contains (children_at s r) c ≡ true → contains (children_at s r) e ≡ true → 1 ≤ name_count c → 1 ≤ name_count e → c ≡ e
  names_one r off c e inc ine hc he =
      let (is, (ds, named)) = counted c hc in
      let (also, (es, called)) = counted e he in
      some_same (sym (known s senses are grown brought i d r c ds inc is off named) ∙ known s senses are grown brought i d r e es ine also off called)

  among_once : (r : ℕ) → is_declarator s r ≡ false → occurs (objects_among w s f (children_at s r)) d ≤ 1
  among_once r off =
      let sum = among_sum (children_at s r) in
      let one = sum_once name_count 0 (children_at s r) (families.ascend r) (λ c inside. count_most c) (names_one r off) in
      omega (arith, sum, one)

  rest_once : (ks : List ℕ) → occurs (objects_in_rest w s f ks) d ≤ 1
  rest_once [] = omega arith
  rest_once (c ∷ ks) = by (is_a s p_rest c) refl (rest_once ks)
    where
      by : (b : Bool) → is_a s p_rest c ≡ b → occurs (objects_in_rest w s f ks) d ≤ 1 → occurs (if b then objects_among w s f (children_at s c) else objects_in_rest w s f ks) d ≤ 1
      by true e later = among_once c (of_number s senses are grown brought c 2 e refl)
      by false e later = later

  -- beside the specifiers or in the rest, and not both
  not_both : (p : ℕ) → is_a s p_declaration p ≡ true → 1 ≤ occurs (objects_among w s f (children_at s p)) d → 1 ≤ occurs (objects_in_rest w s f (children_at s p)) d → ⊥
  not_both p is a b =
      let x = among s w f d (children_at s p) (occurs_in (objects_among w s f (children_at s p)) d a) in
      let y = in_rests s w f d (children_at s p) (occurs_in (objects_in_rest w s f (children_at s p)) d b) in
      let one = known s senses are grown brought i d p x.at x.derives x.inside x.is (of_number s senses are grown brought p 3 is refl) x.named in
      let two = known s senses are grown brought i d y.rest y.brings.at y.brings.derives y.brings.inside y.brings.is (of_number s senses are grown brought y.rest 2 y.is refl) y.brings.named in
      let same : y.brings.at ≡ x.at = some_same (sym two ∙ one) in
      let above : p ≡ y.rest = grown.once p y.rest x.at x.inside (subst (λ (c : ℕ). contains (children_at s y.rest) c ≡ true) same y.brings.inside) in
      never s p y.rest above is y.is

  pub declared_once : (p : ℕ) → is_a s p_declaration p ≡ true → occurs (objects_declared w s f p) d ≤ 1
  declared_once p is =
      let a : ℕ = occurs (objects_among w s f (children_at s p)) d in
      let b : ℕ = occurs (objects_in_rest w s f (children_at s p)) d in
      let sum : occurs (objects_declared w s f p) d ≡ a + b = occurs_both (objects_among w s f (children_at s p)) (objects_in_rest w s f (children_at s p)) d in
      let one : a + b ≤ 1 = one_of_two a b (among_once p (of_number s senses are grown brought p 3 is refl)) (rest_once (children_at s p)) (not_both p is) in
      omega (arith, sum, one)

  -- ---- a block

  abbrev declared_count : ℕ → ℕ
  declared_count c = if is_a s p_declaration c then occurs (objects_declared w s f c) d else 0

  objects_sum : (ks : List ℕ) → occurs (objects_in w s f ks) d ≡ sum_of declared_count ks
  objects_sum [] = refl
  objects_sum (c ∷ rest) = by (is_a s p_declaration c) (objects_sum rest)
    where
      by : (b : Bool) → occurs (objects_in w s f rest) d ≡ sum_of declared_count rest
          → occurs (if b then objects_declared w s f c ++ objects_in w s f rest else objects_in w s f rest) d ≡ (if b then occurs (objects_declared w s f c) d else 0) + sum_of declared_count rest
      by true h = let both = occurs_both (objects_declared w s f c) (objects_in w s f rest) d in omega (arith, both, h)
      by false h = omega (arith, h)

  declared_most : (c : ℕ) → declared_count c ≤ 1
  declared_most c = by (is_a s p_declaration c) refl
    where
      by : (b : Bool) → is_a s p_declaration c ≡ b → (if b then occurs (objects_declared w s f c) d else 0) ≤ 1
      by true e = declared_once c e
      by false e = omega arith

  lists_it : (c : ℕ) → 1 ≤ declared_count c → (is_a s p_declaration c ≡ true) × (contains (objects_declared w s f c) d ≡ true)
  lists_it c h = by (is_a s p_declaration c) refl h
    where
      by : (b : Bool) → is_a s p_declaration c ≡ b → 1 ≤ (if b then occurs (objects_declared w s f c) d else 0) → (is_a s p_declaration c ≡ true) × (contains (objects_declared w s f c) d ≡ true)
      by true e g = (e, occurs_in (objects_declared w s f c) d g)
      by false e g = absurd (omega (arith, g))

  pub objects_once : (b : ℕ) → occurs (objects_in w s f (children_at s b)) d ≤ 1
  objects_once b =
      let sum = objects_sum (children_at s b) in
      let one = sum_once declared_count 0 (children_at s b) (families.ascend b) (λ c inside. declared_most c)
      (λ c e inc ine hc he. let x = lists_it c hc in let y = lists_it e he in apart w w i i c e d x.0 y.0 x.1 y.1) in
      omega (arith, sum, one)
