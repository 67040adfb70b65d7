-- What a node is to an initialiser, by its production and its children.
use Rattle.std.proofs.Common.{arith, ◌≡◌, ◌<◌, ◌≤◌, ℕ, zero, suc, ◌+◌, ◌&&◌, nat_lt, cond, refl, ap, sym, ◌∙◌, subst, List, [], ◌∷◌, ◌++◌, length, length-append, get_or, slice_get, Option, Some, None, Bool, true, false, eqb, if◌then◌else◌}
use Rattle.std.proofs.Math.Path.{fun_ext}
use Rattle.std.proofs.lemmas.Bool.{eqb-true}
use Rattle.c_grammar.specs.declared.trees.SyntaxNode.{SyntaxNode}
use Rattle.c_grammar.specs.Productions.{p_init, p_items, p_item, p_designator}
use Rattle.c_inits.specs.Syntax.{Designator, Items}
use Rattle.c_inits.specs.View.{Source, SyntaxPart, AnInit, AList, AnItem, ADesignator, Other, parts, part_over, list_part, first_list, init_part, first_init, with_designator, all_designators, with_item, all_items, braced_or_value, index_or_name, or_first}
use Rattle.c_inits.proofs.Onward.{chosen, chosen_not}
use Rattle.c_initialise.specs.Nodes.{production_of, children_of, is_before, first_such}
use Rattle.c_initialise.specs.Read.{part_at, before}

by_bool : {X : Type 0} (b : Bool) → (b ≡ true → X) → (b ≡ false → X) → X
by_bool true f g = f refl
by_bool false f g = g refl

both_left : (a b : Bool) → (a && b) ≡ true → a ≡ true
both_left true b e = refl
both_left false b e = cc

both_right : (a b : Bool) → (a && b) ≡ true → b ≡ true
both_right true b e = e
both_right false b e = cc

taken : {X : Type 0} (b : Bool) (x y : X) → b ≡ true → (if b then x else y) ≡ x
taken true x y e = refl
taken false x y e = cc

left_out : {X : Type 0} (b : Bool) (x y : X) → b ≡ false → (if b then x else y) ≡ y
left_out true x y e = cc
left_out false x y e = refl

some_same : (x y : ℕ) → ◌≡◌ {A = Option ℕ} (Some x) (Some y) → x ≡ y
some_same x y e = cc

-- what a node of a production is, over what its children are
abbrev pub part_by : Source → (ℕ → SyntaxPart) → ℕ → List ℕ → ℕ → SyntaxPart
part_by s part i kids p =
    cond (eqb p p_init) (AnInit (braced_or_value s i (first_list part kids)))
    (cond (eqb p p_items) (AList (all_items part kids))
    (cond (eqb p p_item) (AnItem (all_designators part kids) (first_init part kids))
    (cond (eqb p p_designator) (ADesignator (index_or_name s i (s.index_at i))) Other)))

read_left : (xs ys : List SyntaxPart) (i : ℕ) → i < length xs → get_or (xs ++ ys) i Other ≡ get_or xs i Other
read_left [] ys i lt = absurd (omega (arith, lt))
read_left (x ∷ xs) ys zero lt = refl
read_left (x ∷ xs) ys (suc i) lt = read_left xs ys i (omega (arith, lt))

read_last : (xs : List SyntaxPart) (y : SyntaxPart) → get_or (xs ++ y ∷ []) (length xs) Other ≡ y
read_last [] y = refl
read_last (x ∷ xs) y = read_last xs y

read_past : (xs : List SyntaxPart) (i : ℕ) → length xs ≤ i → get_or xs i Other ≡ Other
read_past [] i le = refl
read_past (x ∷ xs) zero le = absurd (omega (arith, le))
read_past (x ∷ xs) (suc i) le = read_past xs i (omega (arith, le))

module _ (s : Source) where
  read_done : (done : List SyntaxPart) (i : ℕ) (nodes : List SyntaxNode) (j : ℕ) → j < length done → get_or (parts s done i nodes) j Other ≡ get_or done j Other
  read_done done i [] j lt = refl
  read_done done i (n ∷ rest) j lt =
      let x : SyntaxPart = part_over s (λ k. get_or done k Other) i n in
      read_done (done ++ x ∷ []) (suc i) rest j (omega (arith, lt, length-append done (x ∷ []))) ∙ read_left done (x ∷ []) j lt

  all_long : (done : List SyntaxPart) (i : ℕ) (nodes : List SyntaxNode) → length (parts s done i nodes) ≡ length done + length nodes
  all_long done i [] = omega arith
  all_long done i (n ∷ rest) =
      let x : SyntaxPart = part_over s (λ k. get_or done k Other) i n in
      let next : length (parts s (done ++ x ∷ []) (suc i) rest) ≡ length (done ++ x ∷ []) + length rest = all_long (done ++ x ∷ []) (suc i) rest in
      omega (arith, next, length-append done (x ∷ []))

  -- what was made so far is what stands before
  same_before : (done : List SyntaxPart) (i : ℕ) (nodes : List SyntaxNode) (d : ℕ) → d ≡ length done → (λ j. get_or done j Other) ≡ before d (λ j. get_or (parts s done i nodes) j Other)
  same_before done i nodes d e = fun_ext (λ j. by_bool (nat_lt j d)
      (λ h. let lt : j < d = grind (arith, h) in
      sym (chosen (nat_lt j d) (get_or (parts s done i nodes) j Other) Other h ∙ read_done done i nodes j (omega (arith, lt, e))))
      (λ h. let ge : d ≤ j = grind (arith, h) in
      read_past done j (omega (arith, ge, e)) ∙ sym (chosen_not (nat_lt j d) (get_or (parts s done i nodes) j Other) Other h)))

  at_rest : (done : List SyntaxPart) (d : ℕ) (nodes : List SyntaxNode) (k i : ℕ) (n : SyntaxNode) → d ≡ length done → i ≡ d + k → slice_get nodes k ≡ Some n →
      get_or (parts s done d nodes) i Other ≡ part_over s (before i (λ j. get_or (parts s done d nodes) j Other)) i n
  at_rest done d [] k i n e f at = cc
  at_rest done d (m ∷ rest) zero i n e f at =
      let same : m ≡ n = cc in
      let x : SyntaxPart = part_over s (λ k. get_or done k Other) d m in
      let here : i ≡ d = omega (arith, f) in
      let first : i ≡ length done = here ∙ e in
      let long : length done < length (done ++ x ∷ []) = omega (arith, length-append done (x ∷ [])) in
      ap (λ j. get_or (parts s done d (m ∷ rest)) j Other) first
      ∙ read_done (done ++ x ∷ []) (suc d) rest (length done) long
      ∙ read_last done x
      ∙ ap (λ f. part_over s f d m) (same_before done d (m ∷ rest) i first)
      ∙ ap (λ j. part_over s (before i (λ q. get_or (parts s done d (m ∷ rest)) q Other)) j m) (sym here)
      ∙ ap (λ (q : SyntaxNode). part_over s (before i (λ q. get_or (parts s done d (m ∷ rest)) q Other)) i q) same
  at_rest done d (m ∷ rest) (suc k) i n e f at =
      let x : SyntaxPart = part_over s (λ k. get_or done k Other) d m in
      at_rest (done ++ x ∷ []) (suc d) rest k i n (omega (arith, e, length-append done (x ∷ []))) (omega (arith, f)) at

past_end : (nodes : List SyntaxNode) (i : ℕ) → slice_get nodes i ≡ None → length nodes ≤ i
past_end [] i e = omega arith
past_end (n ∷ rest) zero e = cc
past_end (n ∷ rest) (suc i) e = let more : length rest ≤ i = past_end rest i e in omega (arith, more)

module _ (s : Source) (nodes : List SyntaxNode) where
  abbrev pub whole : ℕ → SyntaxPart
  whole = part_at s nodes

  abbrev pub produced : ℕ → ℕ
  produced i = production_of (slice_get nodes i)

  abbrev pub kids : ℕ → List ℕ
  kids i = children_of (slice_get nodes i)

  pub part_is : (i : ℕ) → whole i ≡ part_by s (before i whole) i (kids i) (produced i)
  unfolding part_at
  part_is i = go (slice_get nodes i) refl
    where
      go : (o : Option SyntaxNode) → slice_get nodes i ≡ o → get_or (parts s [] 0 nodes) i Other ≡ part_by s (before i (λ j. get_or (parts s [] 0 nodes) j Other)) i (children_of o) (production_of o)
      go None e = let long : length (parts s [] 0 nodes) ≡ 0 + length nodes = all_long s [] 0 nodes in let past : length nodes ≤ i = past_end nodes i e in read_past (parts s [] 0 nodes) i (omega (arith, long, past))
      go (Some n) e = at_rest s [] 0 nodes i i n refl (omega arith) e

  of_production : (i p : ℕ) → produced i ≡ p → whole i ≡ part_by s (before i whole) i (kids i) p
  of_production i p e = part_is i ∙ ap (part_by s (before i whole) i (kids i)) e

  pub init_is : (i : ℕ) → produced i ≡ p_init → whole i ≡ AnInit (braced_or_value s i (first_list (before i whole) (kids i)))
  init_is i e = of_production i p_init e

  pub list_is : (i : ℕ) → produced i ≡ p_items → whole i ≡ AList (all_items (before i whole) (kids i))
  list_is i e = of_production i p_items e

  pub item_is : (i : ℕ) → produced i ≡ p_item → whole i ≡ AnItem (all_designators (before i whole) (kids i)) (first_init (before i whole) (kids i))
  item_is i e = of_production i p_item e

  pub designator_is : (i : ℕ) → produced i ≡ p_designator → whole i ≡ ADesignator (index_or_name s i (s.index_at i))
  designator_is i e = of_production i p_designator e

-- nodes of a list by their production
module _ (s : Source) (nodes : List SyntaxNode) (i : ℕ) where
  abbrev ahead : ℕ → SyntaxPart
  ahead = before i (whole s nodes)

  pub is_ahead : (p c : ℕ) → is_before nodes p i c ≡ true → (ahead c ≡ whole s nodes c) × (produced s nodes c ≡ p)
  is_ahead p c h = (
    chosen (nat_lt c i) (whole s nodes c) Other (both_left (nat_lt c i) (eqb (produced s nodes c) p) h),
    eqb-true (produced s nodes c) p (both_right (nat_lt c i) (eqb (produced s nodes c) p) h),
  )

  pub is_lower : (p c : ℕ) → is_before nodes p i c ≡ true → c < i
  is_lower p c h = let lt : nat_lt c i ≡ true = both_left (nat_lt c i) (eqb (produced s nodes c) p) h in grind (arith, lt)

  -- what is said of another node
  otherwise : {X : Type 0} (f : SyntaxPart → X) (x : X) (p c : ℕ) → is_before nodes p i c ≡ false → f Other ≡ x → (eqb (produced s nodes c) p ≡ false → f (whole s nodes c) ≡ x) → f (ahead c) ≡ x
  otherwise f x p c h none some =
      by_bool (nat_lt c i)
      (λ e. ap f (chosen (nat_lt c i) (whole s nodes c) Other e) ∙ some (sym (ap (λ b. b && eqb (produced s nodes c) p) e) ∙ h))
      (λ e. ap f (chosen_not (nat_lt c i) (whole s nodes c) Other e) ∙ none)

  no_list : (c : ℕ) → is_before nodes p_items i c ≡ false → list_part (ahead c) ≡ None
  no_list c h = otherwise list_part None p_items c h refl (λ e. ap list_part (part_is s nodes c)
      ∙ by_bool (eqb (produced s nodes c) p_init) (λ a. ap list_part (chosen _ _ _ a)) (λ a. ap list_part (chosen_not _ _ _ a ∙ chosen_not _ _ _ e)
      ∙ by_bool (eqb (produced s nodes c) p_item) (λ b. ap list_part (chosen _ _ _ b)) (λ b. ap list_part (chosen_not _ _ _ b)
      ∙ by_bool (eqb (produced s nodes c) p_designator) (λ d. ap list_part (chosen _ _ _ d)) (λ d. ap list_part (chosen_not _ _ _ d)))))

  no_init : (c : ℕ) → is_before nodes p_init i c ≡ false → init_part (ahead c) ≡ None
  no_init c h = otherwise init_part None p_init c h refl (λ e. ap init_part (part_is s nodes c ∙ chosen_not _ _ _ e)
      ∙ by_bool (eqb (produced s nodes c) p_items) (λ a. ap init_part (chosen _ _ _ a)) (λ a. ap init_part (chosen_not _ _ _ a)
      ∙ by_bool (eqb (produced s nodes c) p_item) (λ b. ap init_part (chosen _ _ _ b)) (λ b. ap init_part (chosen_not _ _ _ b)
      ∙ by_bool (eqb (produced s nodes c) p_designator) (λ d. ap init_part (chosen _ _ _ d)) (λ d. ap init_part (chosen_not _ _ _ d)))))

  pub no_item : (c : ℕ) (rest : Items) → is_before nodes p_item i c ≡ false → with_item (ahead c) rest ≡ rest
  no_item c rest h = otherwise (λ x. with_item x rest) rest p_item c h refl (λ e. ap (λ x. with_item x rest) (part_is s nodes c)
      ∙ by_bool (eqb (produced s nodes c) p_init) (λ a. ap (λ x. with_item x rest) (chosen _ _ _ a)) (λ a. ap (λ x. with_item x rest) (chosen_not _ _ _ a)
      ∙ by_bool (eqb (produced s nodes c) p_items) (λ b. ap (λ x. with_item x rest) (chosen _ _ _ b)) (λ b. ap (λ x. with_item x rest) (chosen_not _ _ _ b ∙ chosen_not _ _ _ e)
      ∙ by_bool (eqb (produced s nodes c) p_designator) (λ d. ap (λ x. with_item x rest) (chosen _ _ _ d)) (λ d. ap (λ x. with_item x rest) (chosen_not _ _ _ d)))))

  pub no_designator : (c : ℕ) (rest : List Designator) → is_before nodes p_designator i c ≡ false → with_designator (ahead c) rest ≡ rest
  no_designator c rest h = otherwise (λ x. with_designator x rest) rest p_designator c h refl (λ e. ap (λ x. with_designator x rest) (part_is s nodes c)
      ∙ by_bool (eqb (produced s nodes c) p_init) (λ a. ap (λ x. with_designator x rest) (chosen _ _ _ a)) (λ a. ap (λ x. with_designator x rest) (chosen_not _ _ _ a)
      ∙ by_bool (eqb (produced s nodes c) p_items) (λ b. ap (λ x. with_designator x rest) (chosen _ _ _ b)) (λ b. ap (λ x. with_designator x rest) (chosen_not _ _ _ b)
      ∙ by_bool (eqb (produced s nodes c) p_item) (λ d. ap (λ x. with_designator x rest) (chosen _ _ _ d)) (λ d. ap (λ x. with_designator x rest) (chosen_not _ _ _ d ∙ chosen_not _ _ _ e)))))

  -- the first list, and the first initialiser, among children
  abbrev pub part_in : {X : Type 0} → (SyntaxPart → Option X) → Option ℕ → Option X
  part_in f None = None
  part_in f (Some c) = f (whole s nodes c)

  pub first_list_is : (cs : List ℕ) → first_list ahead cs ≡ part_in list_part (first_such (is_before nodes p_items i) cs)
  first_list_is [] = refl
  first_list_is (c ∷ cs) = by_bool (is_before nodes p_items i c)
      (λ h. let at = is_ahead p_items c h in
      ap (λ o. or_first o (first_list ahead cs)) (ap list_part (at.0 ∙ list_is s nodes c at.1))
      ∙ ap list_part (sym (list_is s nodes c at.1))
      ∙ ap (part_in list_part) (sym (taken (is_before nodes p_items i c) (Some c) (first_such (is_before nodes p_items i) cs) h)))
      (λ h. ap (λ o. or_first o (first_list ahead cs)) (no_list c h) ∙ first_list_is cs
      ∙ ap (part_in list_part) (sym (left_out (is_before nodes p_items i c) (Some c) (first_such (is_before nodes p_items i) cs) h)))

  pub first_init_is : (cs : List ℕ) → first_init ahead cs ≡ part_in init_part (first_such (is_before nodes p_init i) cs)
  first_init_is [] = refl
  first_init_is (c ∷ cs) = by_bool (is_before nodes p_init i c)
      (λ h. let at = is_ahead p_init c h in
      ap (λ o. or_first o (first_init ahead cs)) (ap init_part (at.0 ∙ init_is s nodes c at.1))
      ∙ ap init_part (sym (init_is s nodes c at.1))
      ∙ ap (part_in init_part) (sym (taken (is_before nodes p_init i c) (Some c) (first_such (is_before nodes p_init i) cs) h)))
      (λ h. ap (λ o. or_first o (first_init ahead cs)) (no_init c h) ∙ first_init_is cs
      ∙ ap (part_in init_part) (sym (left_out (is_before nodes p_init i c) (Some c) (first_such (is_before nodes p_init i) cs) h)))

  -- the first that passes a test passes it
  pub such_is : (p : ℕ) (cs : List ℕ) (c : ℕ) → first_such (is_before nodes p i) cs ≡ Some c → is_before nodes p i c ≡ true
  such_is p [] c e = cc
  such_is p (x ∷ cs) c e = by_bool (is_before nodes p i x)
      (λ h. let same : x ≡ c = some_same x c (sym (taken (is_before nodes p i x) (Some x) (first_such (is_before nodes p i) cs) h) ∙ e) in subst (λ k. is_before nodes p i k ≡ true) same h)
      (λ h. such_is p cs c (sym (left_out (is_before nodes p i x) (Some x) (first_such (is_before nodes p i) cs) h) ∙ e))
