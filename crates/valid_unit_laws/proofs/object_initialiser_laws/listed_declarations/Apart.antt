-- Two declarations that list one object are one.
use Rattle.std.proofs.Common.{arith, ◌≡◌, ◌<◌, ℕ, zero, suc, nat_eq, not, Bool, true, false, ◌&&◌, ◌||◌, List, [], ◌∷◌, ◌++◌, Option, Some, None, take, length, eq-eqb, refl, sym, ap, ◌∙◌, subst, ◌⊎◌, inl, inr}
use Rattle.std.specs.Prelude.{if◌then◌else◌}
use Rattle.std.proofs.lemmas.Bool.{eqb-true}
use Rattle.c_grammar.specs.Productions.{p_declaration, p_rest, p_declarator, p_abstract, p_either}
use Rattle.c_grammar.specs.Terminals.{contains}
use Rattle.c_senses.specs.Names.{source_of, numbered}
use Rattle.c_senses.specs.Tree.{Source, is_a, production_at, children_at, parent_of}
use Rattle.c_senses.specs.World.{World}
use Rattle.c_senses.specs.Declarators.{is_declarator, is_outermost, outermost_of}
use Rattle.c_senses.specs.Sense.{Sense, IsDeclarator, Derivation, sense_in}
use Rattle.c_senses.specs.Statements.{is_automatic_object, automatic_name, objects_among, objects_in_rest, objects_declared}
use Rattle.c_senses.specs.Rows.{AreSenses}
use Rattle.parsed_tree_laws.proofs.placed_laws.Climbing.{Grown}
use Rattle.parsed_tree_laws.specs.grown_parts.Parts.{IsBrought}
use Rattle.parsed_tree_laws.proofs.grown_parts.Reading.{units_bring}
use Rattle.valid_unit_laws.proofs.object_initialiser_laws.internal_name_laws.passed.declared_type_laws.declared_leaves.Climbing.{leaves_declared}
use Rattle.declaration_laws.proofs.declared_type_laws.owner_laws.passed.definition_laws.linkage_laws.Reading.{tree_is}
use Rattle.declaration_laws.proofs.declared_type_laws.owner_laws.passed.definition_laws.linkage_laws.Seen.{some_same, no_both, parent_is}
use Rattle.valid_unit_laws.specs.object_initialiser_laws.listed_declarations.Listed.{ListedApart}

pub member : (k x : ℕ) (ks : List ℕ) → contains (k ∷ ks) x ≡ true → (k ≡ x) ⊎ (contains ks x ≡ true)
member k x ks h = by (nat_eq k x) refl h
  where
    by : (b : Bool) → nat_eq k x ≡ b → (b || contains ks x) ≡ true → (k ≡ x) ⊎ (contains ks x ≡ true)
    by true e f = inl (eqb-true k x e)
    by false e f = inr f

pub head_in : (k : ℕ) (ks : List ℕ) → contains (k ∷ ks) k ≡ true
head_in k ks = ap (λ (b : Bool). b || contains ks k) (eq-eqb k k refl)

pub next_in : (k x : ℕ) (ks : List ℕ) → contains ks x ≡ true → contains (k ∷ ks) x ≡ true
next_in k x ks h = by (nat_eq k x)
  where
    by : (b : Bool) → (b || contains ks x) ≡ true
    by true = refl
    by false = h

pub either_list : (xs ys : List ℕ) (x : ℕ) → contains (xs ++ ys) x ≡ true → (contains xs x ≡ true) ⊎ (contains ys x ≡ true)
either_list [] ys x h = inr h
either_list (k ∷ xs) ys x h = by (member k x (xs ++ ys) h) (λ f. either_list xs ys x f)
  where
    more : (contains xs x ≡ true) ⊎ (contains ys x ≡ true) → (contains (k ∷ xs) x ≡ true) ⊎ (contains ys x ≡ true)
    more (inl f) = inl (next_in k x xs f)
    more (inr f) = inr f

    by : (k ≡ x) ⊎ (contains (xs ++ ys) x ≡ true) → (contains (xs ++ ys) x ≡ true → (contains xs x ≡ true) ⊎ (contains ys x ≡ true)) → (contains (k ∷ xs) x ≡ true) ⊎ (contains ys x ≡ true)
    by (inl same) later = inl (subst (λ (y : ℕ). contains (k ∷ xs) y ≡ true) same (head_in k xs))
    by (inr f) later = more (later f)

name_in : Sense → Option ℕ
name_in x = elim x as (λ _. Option ℕ) [ IsDeclarator name ds ↦ name | _ ↦ None ]

-- a declarator that is seen so is one at the end
seen_later : (xs : List Sense) (i m : ℕ) (d : ℕ) (ds : List Derivation) → sense_in (take i xs) m ≡ IsDeclarator (Some d) ds → (sense_in xs m ≡ IsDeclarator (Some d) ds) × (m < length xs)
seen_later [] zero m d ds e = cc
seen_later [] (suc i) m d ds e = cc
seen_later (x ∷ xs) zero m d ds e = cc
seen_later (x ∷ xs) (suc i) zero d ds e = (e, omega arith)
seen_later (x ∷ xs) (suc i) (suc m) d ds e = let (is, lt) = seen_later xs i m d ds e in (is, omega (arith, lt))

module _ (s : Source) (w : World) (sense : ℕ → Sense) (d : ℕ) where
  -- the declarator that brings an object
  pub record Brings (ks : List ℕ) : Type 0 where
    pub at : ℕ
    pub inside : contains ks at ≡ true
    pub is : is_a s p_declarator at ≡ true
    pub derives : List Derivation
    pub named : sense at ≡ IsDeclarator (Some d) derives

  pub named_by : (x : Sense) → contains (automatic_name w s sense x) d ≡ true → (ds : List Derivation) × (x ≡ IsDeclarator (Some d) ds)
  named_by (IsDeclarator (Some l) ds) h = by (is_automatic_object w s sense l) h
    where
      by : (b : Bool) → contains (if b then l ∷ [] else []) d ≡ true → (es : List Derivation) × (IsDeclarator (Some l) ds ≡ IsDeclarator (Some d) es)
      by true f = one (member l d [] f)
        where
          one : (l ≡ d) ⊎ (contains [] d ≡ true) → (es : List Derivation) × (IsDeclarator (Some l) ds ≡ IsDeclarator (Some d) es)
          one (inl same) = (ds, ap (λ (y : ℕ). IsDeclarator (Some y) ds) same)
          one (inr none) = cc
      by false f = cc
  named_by x h = cc

  more_brings : (k : ℕ) (ks : List ℕ) → Brings ks → Brings (k ∷ ks)
  more_brings k ks b = record { at = b.at; inside = next_in k b.at ks b.inside; is = b.is; derives = b.derives; named = b.named }

  pub among : (ks : List ℕ) → contains (objects_among w s sense ks) d ≡ true → Brings ks
  among [] h = cc
  among (c ∷ rest) h = by (is_a s p_declarator c) refl h (λ f. more_brings c rest (among rest f))
    where
      pick : is_a s p_declarator c ≡ true → (contains (automatic_name w s sense (sense c)) d ≡ true) ⊎ (contains (objects_among w s sense rest) d ≡ true) → (contains (objects_among w s sense rest) d ≡ true → Brings (c ∷ rest)) → Brings (c ∷ rest)
      pick e (inl f) later = let (ds, named) = named_by (sense c) f in record { at = c; inside = head_in c rest; is = e; derives = ds; named = named }
      pick e (inr f) later = later f

      by : (b : Bool) → is_a s p_declarator c ≡ b → contains (if b then automatic_name w s sense (sense c) ++ objects_among w s sense rest else objects_among w s sense rest) d ≡ true
          → (contains (objects_among w s sense rest) d ≡ true → Brings (c ∷ rest)) → Brings (c ∷ rest)
      by true e f later = pick e (either_list (automatic_name w s sense (sense c)) (objects_among w s sense rest) d f) later
      by false e f later = later f

  pub record InRest (ks : List ℕ) : Type 0 where
    pub rest : ℕ
    pub inside : contains ks rest ≡ true
    pub is : is_a s p_rest rest ≡ true
    pub brings : Brings (children_at s rest)

  pub in_rests : (ks : List ℕ) → contains (objects_in_rest w s sense ks) d ≡ true → InRest ks
  in_rests [] h = cc
  in_rests (c ∷ ks) h = by (is_a s p_rest c) refl h (λ f. more (in_rests ks f))
    where
      more : InRest ks → InRest (c ∷ ks)
      more r = record { rest = r.rest; inside = next_in c r.rest ks r.inside; is = r.is; brings = r.brings }

      by : (b : Bool) → is_a s p_rest c ≡ b → contains (if b then objects_among w s sense (children_at s c) else objects_in_rest w s sense ks) d ≡ true → (contains (objects_in_rest w s sense ks) d ≡ true → InRest (c ∷ ks)) → InRest (c ∷ ks)
      by true e f later = record { rest = c; inside = head_in c ks; is = e; brings = among (children_at s c) f }
      by false e f later = later f

  -- beside the specifiers, or in the rest
  declared : (p : ℕ) → contains (objects_declared w s sense p) d ≡ true → Brings (children_at s p) ⊎ InRest (children_at s p)
  declared p h = by (either_list (objects_among w s sense (children_at s p)) (objects_in_rest w s sense (children_at s p)) d h)
    where
      by : (contains (objects_among w s sense (children_at s p)) d ≡ true) ⊎ (contains (objects_in_rest w s sense (children_at s p)) d ≡ true) → Brings (children_at s p) ⊎ InRest (children_at s p)
      by (inl f) = inl (among (children_at s p) f)
      by (inr f) = inr (in_rests (children_at s p) f)

module _ (s : Source) (senses : List Sense) (are : AreSenses s senses) (grown : Grown s) (brought : IsBrought s) where
  F : ℕ → ℕ → Sense
  F i c = sense_in (take i senses) c

  -- where the declarator stands, which is that of the name
  record Stands (d p : ℕ) : Type 0 where
    at : ℕ
    above : ℕ
    inside : contains (children_at s above) at ≡ true
    outer : outermost_of s d ≡ Some at
    which : ((above ≡ p) × (is_a s p_declaration above ≡ true)) ⊎ ((contains (children_at s p) above ≡ true) × (is_a s p_rest above ≡ true))

  is_outer : (r c : ℕ) → contains (children_at s r) c ≡ true → is_a s p_declarator c ≡ true → is_declarator s r ≡ false → is_outermost s c ≡ true
  is_outer r c child is off =
      ap (λ (b : Bool). ((b || is_a s p_abstract c) || is_a s p_either c) && elim (parent_of s c) as (λ _. Bool) [ None ↦ true | Some p ↦ not (is_declarator s p) ]) is
      ∙ (ap (λ (o : Option ℕ). elim o as (λ _. Bool) [ None ↦ true | Some p ↦ not (is_declarator s p) ]) (parent_is s grown r c child) ∙ ap not off)

  pub of_number : (p n : ℕ) → is_a s n p ≡ true → ((nat_eq n 19 || nat_eq n 20) || nat_eq n 21) ≡ false → is_declarator s p ≡ false
  of_number p n e off = ap (λ (q : ℕ). (nat_eq q 19 || nat_eq q 20) || nat_eq q 21) (eqb-true (production_at s p) n e) ∙ off

  pub known : (i d r c : ℕ) (ds : List Derivation) → contains (children_at s r) c ≡ true → is_a s p_declarator c ≡ true → is_declarator s r ≡ false → sense_in (take i senses) c ≡ IsDeclarator (Some d) ds → outermost_of s d ≡ Some c
  known i d r c ds child is off named =
      let (later, lt) = seen_later senses i c d ds named in
      (leaves_declared.by_sense s senses are grown brought c d ds lt (is_outer r c child is off) later).outermost

  stands : (w : World) (i p d : ℕ) → is_a s p_declaration p ≡ true → contains (objects_declared w s (sense_in (take i senses)) p) d ≡ true → Stands d p
  stands w i p d is h = by (declared s w (sense_in (take i senses)) d p h)
    where
      by : Brings s w (sense_in (take i senses)) d (children_at s p) ⊎ InRest s w (sense_in (take i senses)) d (children_at s p) → Stands d p
      by (inl b) = record { at = b.at; above = p; inside = b.inside; outer = known i d p b.at b.derives b.inside b.is (of_number p 3 is refl) b.named; which = inl (refl, is) }
      by (inr r) =
          record {
            at = r.brings.at;
            above = r.rest;
            inside = r.brings.inside;
            outer = known i d r.rest r.brings.at r.brings.derives r.brings.inside r.brings.is (of_number r.rest 2 r.is refl) r.brings.named;
            which = inr (r.inside, r.is);
          }

  one : (d p q : ℕ) → Stands d p → Stands d q → p ≡ q
  one d p q x y =
      let same : y.at ≡ x.at = some_same (sym y.outer ∙ x.outer) in
      let above : x.above ≡ y.above = grown.once x.above y.above x.at x.inside (subst (λ (c : ℕ). contains (children_at s y.above) c ≡ true) same y.inside) in
      by above x.which y.which
    where
      never : (a b : ℕ) → a ≡ b → is_a s p_declaration a ≡ true → is_a s p_rest b ≡ true → ⊥
      never a b same e f = no_both (nat_eq 3 2) (ap (λ (n : ℕ). nat_eq n 2) (sym (eqb-true (production_at s a) 3 e)) ∙ (ap (is_a s p_rest) same ∙ f)) refl

      by : x.above ≡ y.above → ((x.above ≡ p) × (is_a s p_declaration x.above ≡ true)) ⊎ ((contains (children_at s p) x.above ≡ true) × (is_a s p_rest x.above ≡ true))
          → ((y.above ≡ q) × (is_a s p_declaration y.above ≡ true)) ⊎ ((contains (children_at s q) y.above ≡ true) × (is_a s p_rest y.above ≡ true)) → p ≡ q
      by same (inl a) (inl b) = sym a.0 ∙ (same ∙ b.0)
      by same (inl a) (inr b) = absurd (never x.above y.above same a.1 b.1)
      by same (inr a) (inl b) = absurd (never y.above x.above (sym same) b.1 a.1)
      by same (inr a) (inr b) = grown.once p q x.above a.0 (subst (λ (c : ℕ). contains (children_at s q) c ≡ true) (sym same) b.0)

pub listed_apart : ListedApart
listed_apart tokens unit tree tag_number senses read are v w i j p q d a b h g =
    let s = numbered tag_number (source_of tokens tree) in
    let grown = (tree_is tokens unit tree read tag_number).grown in
    let brought = units_bring tokens unit tree tag_number read in
    one s senses are grown brought d p q (stands s senses are grown brought v i p d a h) (stands s senses are grown brought w j q d b g)
