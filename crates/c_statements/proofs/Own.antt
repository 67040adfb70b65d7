-- The own token of a node, from part to part.
use Rattle.std.proofs.Common.{arith, ◌≡◌, ℕ, suc, ◌+◌, ◌-◌, ◌<◌, ◌≤◌, Bool, true, false, cond, List, [], ◌∷◌, Option, Some, None, length, get_or, drop, refl, sym, ap, ◌∙◌}
use Rattle.std.proofs.lemmas.List.{drop_more}
use Rattle.pta_base.specs.declared.place.Place.{Place}
use Rattle.c_senses.specs.Tree.{Source, is_name, place_at, children_at, first_where}
use Rattle.c_senses.specs.Sense.{last_of}
use Rattle.c_senses.specs.Places.{Own, First, At, OfPart, own_of, own_within, name_within, is_declarator_part}

pub last_is : (first : ℕ) (rest : List ℕ) → get_or (first ∷ rest) (length rest) 0 ≡ last_of first rest
last_is x [] = refl
last_is x (y ∷ rest) = last_is y rest

pub last_read : (children : List ℕ) (first : ℕ) (rest : List ℕ) → children ≡ first ∷ rest → get_or children (length children - 1) 0 ≡ last_of first rest
last_read children first rest e =
    let n : suc (length rest) - 1 ≡ length rest = omega arith in
    ap (λ (l : List ℕ). get_or l (length l - 1) 0) e ∙ (ap (λ (k : ℕ). get_or (first ∷ rest) k 0) n ∙ last_is first rest)

-- what is taken where a test holds
pub taken : (b : Bool) (x y z : Own) → true ≡ b → x ≡ y → x ≡ cond b y z
taken true x y z e h = h
taken false x y z e h = cc

-- the first of a list that passes a test
pub found : (test : ℕ → Bool) (list : List ℕ) (i : ℕ) → i < length list → first_where test (drop i list) ≡ first_where test list → true ≡ test (get_or list i 0) → Some (get_or list i 0) ≡ first_where test list
found test list i h so_far e =
    let c = get_or list i 0 in
    here (test c) c (first_where test (drop (i + 1) list)) e ∙ (sym (ap (first_where test) (drop_more list i 0 h)) ∙ so_far)
  where
    here : (b : Bool) (c : ℕ) (later : Option ℕ) → true ≡ b → Some c ≡ cond b (Some c) later
    here true c later e = refl
    here false c later e = cc

pub passed : (test : ℕ → Bool) (list : List ℕ) (i : ℕ) → i < length list → first_where test (drop i list) ≡ first_where test list → false ≡ test (get_or list i 0) → first_where test (drop (i + 1) list) ≡ first_where test list
passed test list i h so_far e =
    let c = get_or list i 0 in
    here (test c) c (first_where test (drop (i + 1) list)) e ∙ (sym (ap (first_where test) (drop_more list i 0 h)) ∙ so_far)
  where
    here : (b : Bool) (c : ℕ) (later : Option ℕ) → false ≡ b → later ≡ cond b (Some c) later
    here true c later e = cc
    here false c later e = refl

module _ (s : Source) where
  -- one level of the search for a name
  abbrev by_name : ℕ → Option ℕ → Option ℕ → Option ℕ
  by_name depth (Some leaf) part = Some leaf
  by_name depth None None = None
  by_name depth None (Some c) = name_within s depth c

  by_cases : (depth : ℕ) (leaf part : Option ℕ) → (elim leaf [ Some l ↦ Some l | None ↦ elim part [ None ↦ None | Some c ↦ name_within s depth c ] ]) ≡ by_name depth leaf part
  by_cases depth (Some l) part = refl
  by_cases depth None None = refl
  by_cases depth None (Some c) = refl

  name_step : (n k here : ℕ) (leaf part : Option ℕ) → k < n + 1 → first_where (is_name s) (children_at s here) ≡ leaf → first_where (is_declarator_part s) (children_at s here) ≡ part → name_within s (suc n - k) here ≡ by_name (suc n - (k + 1)) leaf part
  name_step n k here leaf part l en ep =
      let d : suc n - k ≡ suc (suc n - (k + 1)) = omega arith in
      ap (λ (m : ℕ). name_within s m here) d
      ∙ (by_cases (suc n - (k + 1)) (first_where (is_name s) (children_at s here)) (first_where (is_declarator_part s) (children_at s here))
      ∙ (ap (λ (o : Option ℕ). by_name (suc n - (k + 1)) o (first_where (is_declarator_part s) (children_at s here))) en ∙ ap (λ (o : Option ℕ). by_name (suc n - (k + 1)) leaf o) ep))

  pub name_leaf : (n k here leaf node : ℕ) → k < n + 1 → Some leaf ≡ first_where (is_name s) (children_at s here) → name_within s (suc n - k) here ≡ name_within s (suc n) node → Some leaf ≡ name_within s (suc n) node
  name_leaf n k here leaf node l e so_far = sym (name_step n k here (Some leaf) _ l (sym e) refl) ∙ so_far

  pub name_none : (n k here node : ℕ) → k < n + 1 → None ≡ first_where (is_name s) (children_at s here) → None ≡ first_where (is_declarator_part s) (children_at s here) → name_within s (suc n - k) here ≡ name_within s (suc n) node → None ≡ name_within s (suc n) node
  name_none n k here node l e p so_far = sym (name_step n k here None None l (sym e) (sym p)) ∙ so_far

  pub name_part : (n k here part node : ℕ) → k < n + 1 → None ≡ first_where (is_name s) (children_at s here) → Some part ≡ first_where (is_declarator_part s) (children_at s here) → name_within s (suc n - k) here ≡ name_within s (suc n) node → name_within s (suc n - (k + 1)) part ≡ name_within s (suc n) node
  name_part n k here part node l e p so_far = sym (name_step n k here None (Some part) l (sym e) (sym p)) ∙ so_far

  pub name_end : (n k here node : ℕ) → n + 1 ≤ k → name_within s (suc n - k) here ≡ name_within s (suc n) node → None ≡ name_within s (suc n) node
  name_end n k here node l so_far =
      let d : suc n - k ≡ 0 = omega arith in
      sym (ap (λ (m : ℕ). name_within s m here) d) ∙ so_far

  -- one level of the search for the own token
  abbrev by_own : ℕ → ℕ → Own → Place
  by_own depth here First = place_at s here
  by_own depth here (At leaf) = place_at s leaf
  by_own depth here (OfPart c) = own_within s depth c

  own_cases : (depth here : ℕ) (o : Own) → (elim o [ First ↦ place_at s here | At leaf ↦ place_at s leaf | OfPart c ↦ own_within s depth c ]) ≡ by_own depth here o
  own_cases depth here First = refl
  own_cases depth here (At leaf) = refl
  own_cases depth here (OfPart c) = refl

  own_step : (n k here : ℕ) (o : Own) → k < n + 1 → o ≡ own_of s here → own_within s (suc n - k) here ≡ by_own (suc n - (k + 1)) here o
  own_step n k here o l e =
      let d : suc n - k ≡ suc (suc n - (k + 1)) = omega arith in
      ap (λ (m : ℕ). own_within s m here) d ∙ (own_cases (suc n - (k + 1)) here (own_of s here) ∙ ap (by_own (suc n - (k + 1)) here) (sym e))

  pub own_first : (n k here node : ℕ) (p : Place) → k < n + 1 → First ≡ own_of s here → p ≡ place_at s here → own_within s (suc n - k) here ≡ own_within s (suc n) node → p ≡ own_within s (suc n) node
  own_first n k here node p l e q so_far = q ∙ (sym (own_step n k here First l e) ∙ so_far)

  pub own_at : (n k here leaf node : ℕ) (p : Place) → k < n + 1 → At leaf ≡ own_of s here → p ≡ place_at s leaf → own_within s (suc n - k) here ≡ own_within s (suc n) node → p ≡ own_within s (suc n) node
  own_at n k here leaf node p l e q so_far = q ∙ (sym (own_step n k here (At leaf) l e) ∙ so_far)

  pub own_part : (n k here part node : ℕ) → k < n + 1 → OfPart part ≡ own_of s here → own_within s (suc n - k) here ≡ own_within s (suc n) node → own_within s (suc n - (k + 1)) part ≡ own_within s (suc n) node
  own_part n k here part node l e so_far = sym (own_step n k here (OfPart part) l e) ∙ so_far

  pub own_end : (n k here node : ℕ) (p : Place) → n + 1 ≤ k → p ≡ place_at s here → own_within s (suc n - k) here ≡ own_within s (suc n) node → p ≡ own_within s (suc n) node
  own_end n k here node p l q so_far =
      let d : suc n - k ≡ 0 = omega arith in
      q ∙ (sym (ap (λ (m : ℕ). own_within s m here) d) ∙ so_far)
