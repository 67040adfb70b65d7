-- The structures and unions that are complete, with one sense more.
use Rattle.std.proofs.Common.{zero, arith, ◌≡◌, ℕ, suc, ◌<◌, ◌+◌, Bool, true, false, List, [], ◌∷◌, ◌++◌, length, Option, Some, None, slice_get, refl, sym, ap, ◌∙◌, subst, append_assoc}
use Rattle.std.specs.Prelude.{if◌then◌else◌}
use Rattle.std.proofs.lemmas.List.{get_or_append_left}
use Rattle.c_grammar.specs.Productions.{p_struct, p_members}
use Rattle.c_inits.specs.Made.{TagParts}
use Rattle.c_senses.specs.Tree.{Source, is_a, children_at, child_of, first_where}
use Rattle.c_senses.specs.Sense.{Sense, Nothing, IsMembers, sense_in}
use Rattle.c_senses.specs.Tags.{tag_of, completed_from}
use Rattle.parsed_tree_laws.specs.sense_laws.Senses.{ChildrenFirst}
use Rattle.unit_worlds.specs.Growing.{completed_at}

first_found : (test : ℕ → Bool) (xs : List ℕ) (c : ℕ) → first_where test xs ≡ Some c → (k : ℕ) × (slice_get xs k ≡ Some c)
first_found test [] c e = cc
first_found test (x ∷ xs) c e = by (λ f. first_found test xs c f) (test x) e
  where
    by : (first_where test xs ≡ Some c → (k : ℕ) × (slice_get xs k ≡ Some c))
        → (b : Bool) → (if b then Some x else first_where test xs) ≡ Some c → (k : ℕ) × (slice_get (x ∷ xs) k ≡ Some c)
    by rest true f = (0, f)
    by rest false f = let found = rest f in (suc found.0, found.1)

module _ (s : Source) where
  -- the list of members of a specifier
  pub list_at : ℕ → Option ℕ
  list_at i = if is_a s p_struct i then child_of s p_members i else None

  entry_of : ℕ → Sense → List TagParts
  entry_of i (IsMembers parts) = record { tag = tag_of s i; members = parts } ∷ []
  entry_of i x = []

  entries_at : Option ℕ → (ℕ → Sense) → ℕ → List TagParts
  entries_at None f i = []
  entries_at (Some list) f i = entry_of i (f list)

  by_entry : (x : Sense) (rest : List Sense) (f : ℕ → Sense) (i : ℕ) → completed_from s (x ∷ rest) f i ≡ entries_at (list_at i) f i ++ completed_from s rest f (suc i)
  unfolding list_at entries_at entry_of
  by_entry x rest f i = by_list (if is_a s p_struct i then child_of s p_members i else None)
    where
      by_sense : (y : Sense) (more : List TagParts) → (elim y as (λ _. List TagParts) [ IsMembers parts ↦ record { tag = tag_of s i; members = parts } ∷ more | _ ↦ more ]) ≡ entry_of i y ++ more
      by_sense (IsMembers parts) more = refl
      by_sense y more = refl

      by_list : (o : Option ℕ) → (elim o as (λ _. List TagParts) [ None ↦ completed_from s rest f (suc i) | Some list ↦ elim (f list) as (λ _. List TagParts) [ IsMembers parts ↦ record { tag = tag_of s i; members = parts } ∷ completed_from s rest f (suc i) | _ ↦ completed_from s rest f (suc i) ] ]) ≡ entries_at o f i ++ completed_from s rest f (suc i)
      by_list None = refl
      by_list (Some list) = by_sense (f list) (completed_from s rest f (suc i))

  from_append : (xs ys : List Sense) (f : ℕ → Sense) (i n : ℕ) → i + length xs ≡ n → completed_from s (xs ++ ys) f i ≡ completed_from s xs f i ++ completed_from s ys f n
  from_append [] ys f i n e = ap (completed_from s ys f) (let same : i ≡ n = omega arith in same)
  from_append (x ∷ xs) ys f i n e =
      by_entry x (xs ++ ys) f i
      ∙ (ap (λ (l : List TagParts). entries_at (list_at i) f i ++ l) (from_append xs ys f (suc i) n (omega arith))
      ∙ (sym (append_assoc (entries_at (list_at i) f i) (completed_from s xs f (suc i)) (completed_from s ys f n))
      ∙ ap (λ (l : List TagParts). l ++ completed_from s ys f n) (sym (by_entry x xs f i))))

  module _ (first : ChildrenFirst s) where
    list_before : (i list : ℕ) → list_at i ≡ Some list → list < i
    unfolding list_at
    list_before i list e = by (is_a s p_struct i) e
      where
        by : (b : Bool) → (if b then child_of s p_members i else None) ≡ Some list → list < i
        by true f = let found = first_found (is_a s p_members) (children_at s i) list f in first i found.0 list found.1
        by false f = cc

    entries_same : (f g : ℕ → Sense) (i : ℕ) (o : Option ℕ) → list_at i ≡ o → ((j : ℕ) → j < i → f j ≡ g j) → entries_at o f i ≡ entries_at o g i
    unfolding entries_at
    entries_same f g i None e same = refl
    entries_same f g i (Some list) e same = ap (entry_of i) (same list (list_before i list e))

    completed_same : (xs : List Sense) (f g : ℕ → Sense) (i n : ℕ) → i + length xs ≡ n → ((j : ℕ) → j < n → f j ≡ g j) → completed_from s xs f i ≡ completed_from s xs g i
    completed_same [] f g i n e same = refl
    completed_same (x ∷ xs) f g i n e same =
        by_entry x xs f i
        ∙ (ap (λ (l : List TagParts). l ++ completed_from s xs f (suc i)) (entries_same f g i (list_at i) refl (λ j lt. same j (omega arith)))
        ∙ (ap (λ (l : List TagParts). entries_at (list_at i) g i ++ l) (completed_same xs f g (suc i) n (omega arith) same) ∙ sym (by_entry x xs g i)))

    sense_left : (xs : List Sense) (x : Sense) (j : ℕ) → j < length xs → sense_in (xs ++ x ∷ []) j ≡ sense_in xs j
    sense_left xs x j lt = get_or_append_left xs (x ∷ []) Nothing j lt

    one_same : (x : Sense) (f g : ℕ → Sense) (n : ℕ) → ((j : ℕ) → j < n → f j ≡ g j) → completed_from s (x ∷ []) f n ≡ completed_at s g n
    one_same x f g n same =
        by_entry x [] f n ∙ (ap (λ (l : List TagParts). l ++ []) (entries_same f g n (list_at n) refl same) ∙ sym (by_entry Nothing [] g n))

    -- with one sense more there is what its node completes
    pub completed_more : (xs : List Sense) (x : Sense) → completed_from s (xs ++ x ∷ []) (sense_in (xs ++ x ∷ [])) 0 ≡ completed_from s xs (sense_in xs) 0 ++ completed_at s (sense_in xs) (length xs)
    completed_more xs x =
        let f : ℕ → Sense = sense_in (xs ++ x ∷ []) in
        let g : ℕ → Sense = sense_in xs in
        from_append xs (x ∷ []) f 0 (length xs) (omega arith)
        ∙ (ap (λ (l : List TagParts). l ++ completed_from s (x ∷ []) f (length xs)) (completed_same xs f g 0 (length xs) (omega arith) (sense_left xs x))
        ∙ ap (λ (l : List TagParts). completed_from s xs g 0 ++ l) (one_same x f g (length xs) (sense_left xs x)))

  -- a node completes one at most
  unfoldable pub AreFew : List TagParts → Type 0
  AreFew [] = Unit {0}
  AreFew (c ∷ []) = Unit {0}
  AreFew (c ∷ d ∷ rest) = ⊥

  few_entries : (i : ℕ) (o : Option ℕ) (f : ℕ → Sense) → AreFew (entries_at o f i ++ [])
  unfolding entries_at entry_of AreFew
  few_entries i None f = tt
  few_entries i (Some list) f = by (f list)
    where
      by : (x : Sense) → AreFew (entry_of i x ++ [])
      by (IsMembers parts) = tt
      by x = tt

  pub few_at : (f : ℕ → Sense) (i : ℕ) → AreFew (completed_at s f i)
  few_at f i = subst AreFew (sym (by_entry Nothing [] f i)) (few_entries i (list_at i) f)
