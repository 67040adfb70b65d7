-- The names that are declared, one after another.
use Rattle.std.proofs.Common.{◌≡◌, ◌∙◌, ℕ, ◌+◌, ◌<◌, ◌≤◌, ◌++◌, Bool, true, false, cond, List, [], ◌∷◌, length, get_or, map, drop, Option, Some, None, append-nil, append_assoc, refl, sym, ap}
use Rattle.std.proofs.Math.ListN.{drop_of_length-le}
use Rattle.std.proofs.lemmas.List.{map-append}
use Rattle.c_grammar.specs.Productions.{p_external, p_rest, p_declarator}
use Rattle.c_senses.specs.Tree.{Source, is_a, spelling_at, children_at, first_where, child_of}
use Rattle.c_senses.specs.Keys.{declaration_with, names_among, names_in_rest, names_with}
use Rattle.c_senses.specs.Sense.{Sense, IsDeclarator}
use Rattle.unit_keys.specs.Free.{name_in, leaf_in}
use Rattle.unit_keys.proofs.Lists.{drop_step}

module _ (s : Source) (sense : ℕ → Sense) where
  listed : Option ℕ → List (List ℕ) → List (List ℕ)
  listed None rest = rest
  listed (Some leaf) rest = spelling_at s leaf ∷ rest

  by_sense : (b : Bool) (x : Sense) (rest : List (List ℕ)) → cond b (elim x [ IsDeclarator (Some leaf) ds ↦ spelling_at s leaf ∷ rest | _ ↦ rest ]) rest ≡ listed (cond b (name_in x) None) rest
  unfolding listed
  by_sense false x rest = refl
  by_sense true (IsDeclarator None ds) rest = refl
  by_sense true (IsDeclarator (Some leaf) ds) rest = refl
  by_sense true x rest = refl

  one_name : (c : ℕ) (rest : List ℕ) → names_among s sense (c ∷ rest) ≡ listed (leaf_in s sense c) (names_among s sense rest)
  one_name c rest = by_sense (is_a s p_declarator c) (sense c) (names_among s sense rest)

  -- a declarator that declares a name, and one that doesn't
  pub leaf_more : (nodes : List ℕ) (i leaf : ℕ) (old new : List ℕ) → i < length nodes → Some leaf ≡ leaf_in s sense (get_or nodes i 0) → new ≡ old ++ leaf ∷ [] → map (spelling_at s) new ++ names_among s sense (drop (i + 1) nodes) ≡ map (spelling_at s) old ++ names_among s sense (drop i nodes)
  unfolding listed
  leaf_more nodes i leaf old new lt e en =
      let rest = names_among s sense (drop (i + 1) nodes) in
      let step : names_among s sense (drop i nodes) ≡ spelling_at s leaf ∷ rest = ap (names_among s sense) (drop_step nodes i lt) ∙ (one_name (get_or nodes i 0) (drop (i + 1) nodes) ∙ ap (λ (o : Option ℕ). listed o rest) (sym e)) in
      ap (λ (l : List ℕ). map (spelling_at s) l ++ rest) en
      ∙ (ap (λ (l : List (List ℕ)). l ++ rest) (map-append (spelling_at s) old (leaf ∷ []))
      ∙ (append_assoc (map (spelling_at s) old) (spelling_at s leaf ∷ []) rest ∙ ap (λ (l : List (List ℕ)). map (spelling_at s) old ++ l) (sym step)))

  pub leaf_none : (nodes : List ℕ) (i : ℕ) (old : List ℕ) → i < length nodes → None ≡ leaf_in s sense (get_or nodes i 0) → map (spelling_at s) old ++ names_among s sense (drop (i + 1) nodes) ≡ map (spelling_at s) old ++ names_among s sense (drop i nodes)
  unfolding listed
  leaf_none nodes i old lt e =
      let rest = names_among s sense (drop (i + 1) nodes) in
      let step : names_among s sense (drop i nodes) ≡ rest = ap (names_among s sense) (drop_step nodes i lt) ∙ (one_name (get_or nodes i 0) (drop (i + 1) nodes) ∙ ap (λ (o : Option ℕ). listed o rest) (sym e)) in
      ap (λ (l : List (List ℕ)). map (spelling_at s) old ++ l) (sym step)

  pub leaves_done : (nodes : List ℕ) (i : ℕ) (old : List ℕ) (wanted : List (List ℕ)) → length nodes ≤ i → map (spelling_at s) old ++ names_among s sense (drop i nodes) ≡ wanted → map (spelling_at s) old ≡ wanted
  leaves_done nodes i old wanted le h =
      sym (append-nil (map (spelling_at s) old)) ∙ (ap (λ (l : List ℕ). map (spelling_at s) old ++ names_among s sense l) (sym (drop_of_length-le nodes le)) ∙ h)

  -- the names behind the first one
  rest_names : Option ℕ → List (List ℕ)
  rest_names None = []
  rest_names (Some rest) = names_among s sense (children_at s rest)

  by_rest : (b : Bool) (c : ℕ) (o : Option ℕ) (names : List (List ℕ)) → names ≡ rest_names o → cond b (names_among s sense (children_at s c)) names ≡ rest_names (cond b (Some c) o)
  unfolding rest_names
  by_rest true c o names e = refl
  by_rest false c o names e = e

  rest_among : (nodes : List ℕ) → names_in_rest s sense nodes ≡ rest_names (first_where (is_a s p_rest) nodes)
  unfolding rest_names
  rest_among [] = refl
  rest_among (c ∷ nodes) = by_rest (is_a s p_rest c) c (first_where (is_a s p_rest) nodes) (names_in_rest s sense nodes) (rest_among nodes)

  pub rest_found : (declaration rest : ℕ) → Some rest ≡ child_of s p_rest declaration → names_in_rest s sense (children_at s declaration) ≡ names_among s sense (children_at s rest)
  unfolding rest_names
  rest_found declaration rest e = rest_among (children_at s declaration) ∙ ap rest_names (sym e)

  pub rest_missing : (declaration : ℕ) → None ≡ child_of s p_rest declaration → names_in_rest s sense (children_at s declaration) ≡ []
  unfolding rest_names
  rest_missing declaration e = rest_among (children_at s declaration) ∙ ap rest_names (sym e)

  -- all names that are declared with a node
  with_names : Option ℕ → List (List ℕ)
  with_names None = []
  with_names (Some p) = cond (is_a s p_external p) (names_among s sense (children_at s p) ++ names_in_rest s sense (children_at s p)) []

  with_is : (o : Option ℕ) → (elim o [ None ↦ [] | Some p ↦ cond (is_a s p_external p) (names_among s sense (children_at s p) ++ names_in_rest s sense (children_at s p)) [] ]) ≡ with_names o
  unfolding with_names
  with_is None = refl
  with_is (Some p) = refl

  pub with_none : (i : ℕ) → None ≡ declaration_with s sense i → [] ≡ names_with s sense i
  unfolding with_names
  with_none i e = ap with_names e ∙ sym (with_is (declaration_with s sense i))

  pub with_other : (i p : ℕ) → Some p ≡ declaration_with s sense i → is_a s p_external p ≡ false → [] ≡ names_with s sense i
  unfolding with_names
  with_other i p e off =
      sym (ap (λ (b : Bool). cond b (names_among s sense (children_at s p) ++ names_in_rest s sense (children_at s p)) []) off) ∙ (ap with_names e ∙ sym (with_is (declaration_with s sense i)))

  pub with_external : (i p : ℕ) → Some p ≡ declaration_with s sense i → is_a s p_external p ≡ true → names_among s sense (children_at s p) ++ names_in_rest s sense (children_at s p) ≡ names_with s sense i
  unfolding with_names
  with_external i p e on =
      sym (ap (λ (b : Bool). cond b (names_among s sense (children_at s p) ++ names_in_rest s sense (children_at s p)) []) on) ∙ (ap with_names e ∙ sym (with_is (declaration_with s sense i)))
