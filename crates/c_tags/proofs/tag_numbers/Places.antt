-- The first declarations at places, one more at a time.
use Rattle.std.proofs.Common.{arith, ◌≡◌, ℕ, Bool, true, false, List, [], ◌∷◌, ◌++◌, Option, Some, None, cond, eqb, refl, sym, ap, ◌∙◌, option_map}
use Rattle.std.specs.Prelude.{◌==◌}
use Rattle.std.proofs.lemmas.Bool.Decides.{nat_tests}
use Rattle.c_scope.specs.declared.kinds.Declared.{Declared}
use Rattle.c_scope.specs.Known.{those_at, is_at}
use Rattle.c_senses.specs.Names.{entry_of, first_node}
use Rattle.c_senses.specs.World.{or_else}
use Rattle.c_tags.specs.tag_numbers.Firsts.{head_node, or_first, first_for}

same_number : (n : ℕ) → eqb n n ≡ true
same_number n = grind (arith, nat_tests)

those_next : (scope symbol : ℕ) (ds : List Declared) (d : Declared) → those_at scope symbol (ds ++ d ∷ []) ≡ those_at scope symbol ds ++ those_at scope symbol (d ∷ [])
those_next scope symbol [] d = refl
those_next scope symbol (x ∷ ds) d =
    elim (is_at scope symbol x) as (λ b. cond b (x ∷ those_at scope symbol (ds ++ d ∷ [])) (those_at scope symbol (ds ++ d ∷ [])) ≡ cond b (x ∷ those_at scope symbol ds) (those_at scope symbol ds) ++ those_at scope symbol (d ∷ [])) [
      | true ↦ ap (λ (zs : List Declared). x ∷ zs) (those_next scope symbol ds d)
      | false ↦ those_next scope symbol ds d
    ]

head_append : (xs ys : List Declared) → head_node (xs ++ ys) ≡ or_first (head_node xs) (head_node ys)
head_append [] ys = refl
head_append (x ∷ xs) ys = refl

head_one : (scope symbol : ℕ) (d : Declared) → head_node (those_at scope symbol (d ∷ [])) ≡ cond (is_at scope symbol d) (Some d.node) None
head_one scope symbol d = elim (is_at scope symbol d) as (λ b. head_node (cond b (d ∷ []) []) ≡ cond b (Some d.node) None) [ true ↦ refl | false ↦ refl ]

-- the first declaration at a place, with one declaration more
pub head_next : (scope symbol : ℕ) (ds : List Declared) (d : Declared) → head_node (those_at scope symbol (ds ++ d ∷ [])) ≡ or_first (head_node (those_at scope symbol ds)) (cond (is_at scope symbol d) (Some d.node) None)
head_next scope symbol ds d =
    ap head_node (those_next scope symbol ds d)
    ∙ (head_append (those_at scope symbol ds) (those_at scope symbol (d ∷ [])) ∙ ap (or_first (head_node (those_at scope symbol ds))) (head_one scope symbol d))

find_next : (q : ℕ) (ds : List Declared) (d : Declared) → entry_of ds q ≡ None → entry_of (ds ++ d ∷ []) q ≡ cond (d.node == q) (Some d) None
find_next q [] d h = refl
find_next q (x ∷ ds) d h =
    elim (eqb x.node q) as (λ b. cond b (Some x) (entry_of ds q) ≡ None → cond b (Some x) (entry_of (ds ++ d ∷ []) q) ≡ cond (d.node == q) (Some d) None) [
      | true ↦ λ k. cc
      | false ↦ λ k. find_next q ds d k
    ] h

find_kept : (q : ℕ) (ds : List Declared) (d e : Declared) → entry_of ds q ≡ Some e → entry_of (ds ++ d ∷ []) q ≡ Some e
find_kept q [] d e h = cc
find_kept q (x ∷ ds) d e h =
    elim (eqb x.node q) as (λ b. cond b (Some x) (entry_of ds q) ≡ Some e → cond b (Some x) (entry_of (ds ++ d ∷ []) q) ≡ Some e) [
      | true ↦ λ k. k
      | false ↦ λ k. find_kept q ds d e k
    ] h

own_place : (d : Declared) → is_at d.scope d.symbol d ≡ true
own_place d = rw (same_number d.scope, same_number d.symbol)

first_stays : (q : ℕ) (xs ys : List Declared) (n : ℕ) → head_node xs ≡ Some n → first_node q (xs ++ ys) ≡ first_node q xs
first_stays q [] ys n h = cc
first_stays q (x ∷ xs) ys n h = refl

head_is : (q : ℕ) (ds : List Declared) (e : Declared) → entry_of ds q ≡ Some e → (n : ℕ) × (head_node (those_at e.scope e.symbol ds) ≡ Some n)
head_is q [] e h = cc
head_is q (x ∷ ds) e h =
    elim (eqb x.node q) as (λ b. cond b (Some x) (entry_of ds q) ≡ Some e → (n : ℕ) × (head_node (those_at e.scope e.symbol (x ∷ ds)) ≡ Some n)) [
      | true ↦ λ k. let same : x ≡ e = cc in (x.node, ap (λ (b : Bool). head_node (cond b (x ∷ those_at e.scope e.symbol ds) (those_at e.scope e.symbol ds))) (ap (λ (y : Declared). is_at e.scope e.symbol y) same ∙ own_place e))
      | false ↦ λ k.
          let (n, at) = head_is q ds e k in
          elim (is_at e.scope e.symbol x) as (λ b. (m : ℕ) × (head_node (cond b (x ∷ those_at e.scope e.symbol ds) (those_at e.scope e.symbol ds)) ≡ Some m)) [
            | true ↦ (x.node, refl)
            | false ↦ (n, at)
          ]
    ] h

module _ (q : ℕ) (ds : List Declared) (d : Declared) (first : ℕ) (is : Some first ≡ or_first (head_node (those_at d.scope d.symbol ds)) (Some d.node)) where
  stays : (e : Declared) → entry_of ds q ≡ Some e → first_for (ds ++ d ∷ []) q ≡ first_for ds q
  stays e h =
      let (n, at) = head_is q ds e h in
      ap (option_map (λ (x : Declared). first_node q (those_at x.scope x.symbol (ds ++ d ∷ [])))) (find_kept q ds d e h)
      ∙ (ap Some (ap (first_node q) (those_next e.scope e.symbol ds d) ∙ first_stays q (those_at e.scope e.symbol ds) (those_at e.scope e.symbol (d ∷ [])) n at)
      ∙ sym (ap (option_map (λ (x : Declared). first_node q (those_at x.scope x.symbol ds))) h))

  head_here : head_node (those_at d.scope d.symbol (ds ++ d ∷ [])) ≡ Some first
  head_here =
      head_next d.scope d.symbol ds d
      ∙ (ap (λ (b : Bool). or_first (head_node (those_at d.scope d.symbol ds)) (cond b (Some d.node) None)) (own_place d) ∙ sym is)

  node_of_head : (xs : List Declared) (n : ℕ) → head_node xs ≡ Some n → first_node q xs ≡ n
  node_of_head [] n h = cc
  node_of_head (x ∷ xs) n h = cc

  found_here : entry_of ds q ≡ None → first_for (ds ++ d ∷ []) q ≡ cond (d.node == q) (Some first) None
  found_here h =
      ap (option_map (λ (x : Declared). first_node q (those_at x.scope x.symbol (ds ++ d ∷ [])))) (find_next q ds d h)
      ∙ (elim (d.node == q) as (λ b. option_map (λ (x : Declared). first_node q (those_at x.scope x.symbol (ds ++ d ∷ []))) (cond b (Some d) None) ≡ cond b (Some first) None) [
        | true ↦ ap Some (node_of_head (those_at d.scope d.symbol (ds ++ d ∷ [])) first head_here)
        | false ↦ refl
      ])

  -- what is kept for a leaf with one declaration more
  pub first_next : (o : Option Declared) → entry_of ds q ≡ o → first_for (ds ++ d ∷ []) q ≡ or_first (first_for ds q) (cond (d.node == q) (Some first) None)
  first_next None h = found_here h ∙ sym (ap (λ (o : Option Declared). or_first (option_map (λ (x : Declared). first_node q (those_at x.scope x.symbol ds)) o) (cond (d.node == q) (Some first) None)) h)
  first_next (Some e) h =
      let f : Declared → ℕ = λ x. first_node q (those_at x.scope x.symbol ds) in
      let known : first_for ds q ≡ Some (f e) = ap (option_map f) h in
      stays e h ∙ (known ∙ sym (ap (λ (o : Option ℕ). or_first o (cond (d.node == q) (Some first) None)) known))

-- a map of leaves with one declaration more
pub firsts_next : (ds : List Declared) (d : Declared) (first : ℕ) (old new : ℕ → Option ℕ) → Some first ≡ or_first (head_node (those_at d.scope d.symbol ds)) (Some d.node) → ((q : ℕ) → old q ≡ first_for ds q) → new d.node ≡ or_else (old d.node) (Some first) → ((q : ℕ) → (d.node ≡ q → ⊥) → new q ≡ old q) → (q : ℕ) → new q ≡ first_for (ds ++ d ∷ []) q
firsts_next ds d first old new is at here others q =
    let whole : first_for (ds ++ d ∷ []) q ≡ or_first (first_for ds q) (cond (d.node == q) (Some first) None) = first_next q ds d first is (entry_of ds q) refl in
    elim (d.node == q) as (λ b. (d.node == q) ≡ b → new q ≡ first_for (ds ++ d ∷ []) q) [
      | true ↦ λ t.
          let same : d.node ≡ q = grind (arith, nat_tests, t) in
          ap new (sym same)
          ∙ (here
          ∙ (ap (λ (k : ℕ). or_else (old k) (Some first)) same
          ∙ (ap (λ (o : Option ℕ). or_else o (Some first)) (at q)
          ∙ (same_choice (first_for ds q) (Some first) ∙ sym (whole ∙ ap (λ (b : Bool). or_first (first_for ds q) (cond b (Some first) None)) t)))))
      | false ↦ λ f.
          others q (λ same. let t : (d.node == q) ≡ true = ap (λ (k : ℕ). d.node == k) (sym same) ∙ same_number d.node in cc)
          ∙ (at q ∙ (no_choice (first_for ds q) ∙ sym (whole ∙ ap (λ (b : Bool). or_first (first_for ds q) (cond b (Some first) None)) f)))
    ] refl
  where
    same_choice : (a b : Option ℕ) → or_else a b ≡ or_first a b
    same_choice None b = refl
    same_choice (Some x) b = refl

    no_choice : (a : Option ℕ) → a ≡ or_first a None
    no_choice None = refl
    no_choice (Some x) = refl
