-- What the rows of a block and of a `for` list.
use Rattle.std.proofs.Common.{◌≡◌, ◌==◌, ◌||◌, ◌&&◌, nat_eq, ℕ, Bool, true, false, List, [], ◌∷◌, ◌++◌, Option, Some, eq-eqb, refl, sym, ap, ◌∙◌, subst, inl, inr}
use Rattle.std.specs.Prelude.{if◌then◌else◌}
use Rattle.std.proofs.lemmas.Bool.{eqb-true}
use Rattle.c_lexer.specs.declared.TokenKind.{TokenKind}
use Rattle.c_lexer.specs.declared.TokenKind.TheVariants.{Keyword}
use Rattle.c_grammar.specs.Productions.{p_rest, p_declaration, p_declarator}
use Rattle.c_grammar.specs.Terminals.{contains}
use Rattle.c_grammar.specs.Words.{word_for, sign_semicolon}
use Rattle.c_consts.specs.Core.{Core, kind_of}
use Rattle.c_senses.specs.Tree.{Source, is_a, is_leaf, is_name, is_identifier, is_number, has_sign, has_word, kind_at, sign_of_kind, word_of_kind, word_at, children_at}
use Rattle.c_senses.specs.Given.{Given, Fits, Refuses, ◌>>=◌}
use Rattle.c_senses.specs.World.{World}
use Rattle.c_senses.specs.Sense.{Sense, IsCore, IsDeclarator, Derivation, fits}
use Rattle.c_senses.specs.Statements.{is_automatic_object, automatic_name, objects_among, objects_in_rest, objects_declared, objects_in, ForParts, for_parts, for_objects, for_first, for_condition, for_after, for_of, body_of, statements_among, of_word, leaf_statement, statement_row}
use Rattle.core_node_laws.proofs.near_nodes.Giving.{Gives, after}
use Rattle.declaration_laws.specs.declared_type_laws.owner_laws.passed.definition_laws.scope_laws.Scoped.{IsPart}
use Rattle.declaration_laws.proofs.declared_type_laws.owner_laws.run_initialisers.Shapes.{Calm, EndsIn}
use Rattle.valid_unit_laws.specs.object_initialiser_laws.block_trees.Covered.{ListsIt}

head_in : (k : ℕ) (ks : List ℕ) → contains (k ∷ ks) k ≡ true
head_in k ks = ap (λ (b : Bool). b || contains ks k) (eq-eqb k k refl)

next_in : (k x : ℕ) (ks : List ℕ) → contains ks x ≡ true → contains (k ∷ ks) x ≡ true
next_in k x ks h = by (nat_eq k x)
  where
    by : (b : Bool) → (b || contains ks x) ≡ true
    by true = refl
    by false = h

first_in : (xs ys : List ℕ) (x : ℕ) → contains xs x ≡ true → contains (xs ++ ys) x ≡ true
first_in [] ys x h = cc
first_in (k ∷ xs) ys x h = by (nat_eq k x) h (first_in xs ys x)
  where
    by : (b : Bool) → (b || contains xs x) ≡ true → (contains xs x ≡ true → contains (xs ++ ys) x ≡ true) → (b || contains (xs ++ ys) x) ≡ true
    by true h later = refl
    by false h later = later h

second_in : (xs ys : List ℕ) (x : ℕ) → contains ys x ≡ true → contains (xs ++ ys) x ≡ true
second_in [] ys x h = h
second_in (k ∷ xs) ys x h = next_in k x (xs ++ ys) (second_in xs ys x h)

module _ (w : World) (s : Source) (f : ℕ → Sense) (leaf : ℕ) where
  among : (ks : List ℕ) (o : ℕ) (ds : List Derivation) → contains ks o ≡ true → is_a s p_declarator o ≡ true → f o ≡ IsDeclarator (Some leaf) ds → is_automatic_object w s f leaf ≡ true → contains (objects_among w s f ks) leaf ≡ true
  among [] o ds h declares is auto = cc
  among (c ∷ rest) o ds h declares is auto = by (nat_eq c o) refl h (λ g. among rest o ds g declares is auto)
    where
      own : contains (automatic_name w s f (f o)) leaf ≡ true
      own = ap (λ (x : Sense). contains (automatic_name w s f x) leaf) is ∙ (ap (λ (b : Bool). contains (if b then leaf ∷ [] else []) leaf) auto ∙ head_in leaf [])

      here : c ≡ o → (b : Bool) → is_a s p_declarator c ≡ b → contains (if b then automatic_name w s f (f c) ++ objects_among w s f rest else objects_among w s f rest) leaf ≡ true
      here same true e = first_in (automatic_name w s f (f c)) (objects_among w s f rest) leaf (ap (λ (x : ℕ). contains (automatic_name w s f (f x)) leaf) same ∙ own)
      here same false e = let both : true ≡ false = sym declares ∙ (ap (is_a s p_declarator) (sym same) ∙ e) in cc

      there : contains (objects_among w s f rest) leaf ≡ true → (b : Bool) → contains (if b then automatic_name w s f (f c) ++ objects_among w s f rest else objects_among w s f rest) leaf ≡ true
      there g true = second_in (automatic_name w s f (f c)) (objects_among w s f rest) leaf g
      there g false = g

      by : (b : Bool) → nat_eq c o ≡ b → (b || contains rest o) ≡ true → (contains rest o ≡ true → contains (objects_among w s f rest) leaf ≡ true)
          → contains (if is_a s p_declarator c then automatic_name w s f (f c) ++ objects_among w s f rest else objects_among w s f rest) leaf ≡ true
      by true e h later = here (eqb-true c o e) (is_a s p_declarator c) refl
      by false e h later = there (later h) (is_a s p_declarator c)

  -- in the rest, which is the last part
  calm_rest : (c : ℕ) → Calm s c → is_a s p_rest c ≡ false
  calm_rest c (inl e) = ap (λ (p : ℕ). p == p_rest) e
  calm_rest c (inr h) = by (is_a s p_rest c) refl
    where
      by : (b : Bool) → is_a s p_rest c ≡ b → b ≡ false
      by false e = refl
      by true e = let two : contains (5 ∷ 6 ∷ 19 ∷ []) p_rest ≡ true = subst (λ (p : ℕ). contains (5 ∷ 6 ∷ 19 ∷ []) p ≡ true) (eqb-true _ p_rest e) h in cc

  in_rest : (ks : List ℕ) (r : ℕ) → EndsIn s r ks → is_a s p_rest r ≡ true → contains (objects_among w s f (children_at s r)) leaf ≡ true → contains (objects_in_rest w s f ks) leaf ≡ true
  in_rest [] r ends is h = absurd ends
  in_rest (c ∷ rest) r (inl same) is h = by (is_a s p_rest c) (ap (is_a s p_rest) same ∙ is)
    where
      by : (b : Bool) → b ≡ true → contains (if b then objects_among w s f (children_at s c) else objects_in_rest w s f rest) leaf ≡ true
      by true e = subst (λ (k : ℕ). contains (objects_among w s f (children_at s k)) leaf ≡ true) (sym same) h
      by false e = cc
  in_rest (c ∷ rest) r (inr (calm, ends)) is h = by (is_a s p_rest c) (calm_rest c calm) (in_rest rest r ends is h)
    where
      by : (b : Bool) → b ≡ false → contains (objects_in_rest w s f rest) leaf ≡ true → contains (if b then objects_among w s f (children_at s c) else objects_in_rest w s f rest) leaf ≡ true
      by false e later = later
      by true e later = cc

  pub in_declaration : (q o : ℕ) (ds : List Derivation) → IsPart s q o → is_a s p_declarator o ≡ true → f o ≡ IsDeclarator (Some leaf) ds → is_automatic_object w s f leaf ≡ true → contains (objects_declared w s f q) leaf ≡ true
  in_declaration q o ds child declares is auto = first_in (objects_among w s f (children_at s q)) (objects_in_rest w s f (children_at s q)) leaf (among (children_at s q) o ds child declares is auto)

  pub in_its_rest : (q r o : ℕ) (ds : List Derivation) → EndsIn s r (children_at s q) → is_a s p_rest r ≡ true → IsPart s r o → is_a s p_declarator o ≡ true → f o ≡ IsDeclarator (Some leaf) ds → is_automatic_object w s f leaf ≡ true
      → contains (objects_declared w s f q) leaf ≡ true
  in_its_rest q r o ds ends rest child declares is auto =
      second_in (objects_among w s f (children_at s q)) (objects_in_rest w s f (children_at s q)) leaf (in_rest (children_at s q) r ends rest (among (children_at s r) o ds child declares is auto))

  -- ---- a block

  pub in_block : (ks : List ℕ) (q : ℕ) → contains ks q ≡ true → is_a s p_declaration q ≡ true → contains (objects_declared w s f q) leaf ≡ true → contains (objects_in w s f ks) leaf ≡ true
  in_block [] q h is has = cc
  in_block (c ∷ rest) q h is has = by (nat_eq c q) refl h (λ g. in_block rest q g is has)
    where
      here : c ≡ q → (b : Bool) → is_a s p_declaration c ≡ b → contains (if b then objects_declared w s f c ++ objects_in w s f rest else objects_in w s f rest) leaf ≡ true
      here same true e = first_in (objects_declared w s f c) (objects_in w s f rest) leaf (subst (λ (k : ℕ). contains (objects_declared w s f k) leaf ≡ true) (sym same) has)
      here same false e = let both : true ≡ false = sym is ∙ (ap (is_a s p_declaration) (sym same) ∙ e) in cc

      there : contains (objects_in w s f rest) leaf ≡ true → (b : Bool) → contains (if b then objects_declared w s f c ++ objects_in w s f rest else objects_in w s f rest) leaf ≡ true
      there g true = second_in (objects_declared w s f c) (objects_in w s f rest) leaf g
      there g false = g

      by : (b : Bool) → nat_eq c q ≡ b → (b || contains rest q) ≡ true → (contains rest q ≡ true → contains (objects_in w s f rest) leaf ≡ true)
          → contains (if is_a s p_declaration c then objects_declared w s f c ++ objects_in w s f rest else objects_in w s f rest) leaf ≡ true
      by true e h later = here (eqb-true c q e) (is_a s p_declaration c) refl
      by false e h later = there (later h) (is_a s p_declaration c)

  -- ---- a `for`

  abbrev CoreLists : Core → Type 0
  CoreLists c = ListsIt leaf (kind_of c)

  abbrev pub SenseLists : Sense → Type 0
  SenseLists (IsCore c) = ListsIt leaf (kind_of c)
  SenseLists x = ⊥

  abbrev OptionLists : Option ℕ → Type 0
  OptionLists o = contains (for_objects w s f o) leaf ≡ true

  for_lists : (at : ℕ) (parts : ForParts) (ks : List ℕ) → OptionLists parts.first → Gives CoreLists (for_of w s f at parts ks)
  for_lists at parts ks h =
      after CoreLists (for_first w s f at parts.first) _
      (λ first. after CoreLists (for_condition w s f at parts.condition) _ (λ condition. after CoreLists (for_after w s f at parts.after) _ (λ next. after CoreLists (body_of w s f at (statements_among w s f ks)) _ (λ body. h))))

  if_true : {A : Type 0} (P : A → Type 0) (b : Bool) (x y : A) → b ≡ true → P x → P (if b then x else y)
  if_true P true x y e h = h
  if_true P false x y e h = cc

  if_false : {A : Type 0} (P : A → Type 0) (b : Bool) (x y : A) → b ≡ false → P y → P (if b then x else y)
  if_false P false x y e h = h
  if_false P true x y e h = cc

  declared_first : (q : ℕ) (rest : List ℕ) → is_a s p_declaration q ≡ true → contains (objects_declared w s f q) leaf ≡ true → OptionLists (for_parts w s f (q ∷ rest)).first
  declared_first q rest is has = if_true (λ (p : ForParts). OptionLists p.first) (is_a s p_declaration q) _ _ is (if_true (λ (l : List ℕ). contains l leaf ≡ true) (is_a s p_declaration q) (objects_declared w s f q) [] is has)

  sensed : (g : Given Core) → Gives CoreLists g → Gives SenseLists (g >>= fits)
  sensed (Fits c) h = h
  sensed (Refuses kind node) h = tt

  kinds : (k : TokenKind) → is_number (word_of_kind k) word_for ≡ true → k ≡ Keyword word_for
  kinds (Keyword n) h = ap (λ (x : ℕ). Keyword x) (eqb-true n word_for h)
  kinds k h = cc

  none_of : (b : Bool) → (b && false) ≡ false
  none_of true = refl
  none_of false = refl

  both : (a b : Bool) → (a && b) ≡ true → (a ≡ true) × (b ≡ true)
  both true b e = (refl, e)
  both false b e = cc

  pub for_statement : (at word parenthesis q : ℕ) (rest : List ℕ) → has_word s word_for word ≡ true → is_a s p_declaration q ≡ true → contains (objects_declared w s f q) leaf ≡ true → Gives SenseLists (statement_row w s f at (word ∷ parenthesis ∷ q ∷ rest))
  for_statement at word parenthesis q rest has is lists =
      let children : List ℕ = word ∷ parenthesis ∷ q ∷ rest in
      let parts = both (is_leaf s word) (is_number (word_at s word) word_for) has in
      let kind : kind_at s word ≡ Keyword word_for = kinds (kind_at s word) parts.1 in
      let no_sign : has_sign s sign_semicolon word ≡ false = ap (λ (k : TokenKind). is_leaf s word && is_number (sign_of_kind k) sign_semicolon) kind ∙ none_of (is_leaf s word) in
      let no_name : is_name s word ≡ false = ap (λ (k : TokenKind). is_leaf s word && is_identifier k) kind ∙ none_of (is_leaf s word) in
      let for_word : word_at s word ≡ Some word_for = ap word_of_kind kind in
      let row : Gives CoreLists (of_word w s f at children (Some word_for)) = for_lists at (for_parts w s f (q ∷ rest)) (q ∷ rest) (declared_first q rest is lists) in
      let own : Gives CoreLists (of_word w s f at children (word_at s word)) = subst (λ (o : Option ℕ). Gives CoreLists (of_word w s f at children o)) (sym for_word) row in
      let whole : Gives CoreLists (leaf_statement w s f at word children) = if_false (Gives CoreLists) (has_sign s sign_semicolon word) _ _ no_sign (if_false (Gives CoreLists) (is_name s word) _ _ no_name own) in
      if_true (Gives SenseLists) (is_leaf s word) _ _ parts.0 (sensed (leaf_statement w s f at word children) whole)
