-- Lists of declarations, of some of them, and of their types.
use Rattle.std.proofs.Common.{◌≡◌, ◌⊎◌, inl, inr, nat_eq, ℕ, suc, Bool, true, false, List, [], ◌∷◌, ◌++◌, slice_get, Option, Some, None, refl, sym, ap, ◌∙◌}
use Rattle.std.specs.Prelude.{if◌then◌else◌}
use Rattle.c_types.specs.Trees.{Ctype}
use Rattle.c_scope.specs.declared.kinds.Declared.{Declared}
use Rattle.c_senses.specs.Tree.{Source}
use Rattle.c_senses.specs.Names.{made_before, entry_of}
use Rattle.c_senses.specs.Entities.{first_of, keep, own_type, types_of}
use Rattle.c_senses.specs.Sense.{Sense}
use Rattle.declaration_laws.proofs.declared_type_laws.declared_once.Knowing.{In}

abbrev with_own : Option Ctype → List Ctype → List Ctype
with_own o l = elim o as (λ _. List Ctype) [ None ↦ l | Some u ↦ u ∷ l ]

head_same : (t u : Ctype) (ts us : List Ctype) → t ∷ ts ≡ u ∷ us → (t ≡ u) × (ts ≡ us)
head_same t u ts us e = (cc, cc)

-- one of a list, what stands before it, and what stands behind
pub record SplitAt (ds : List Declared) (d : Declared) : Type 0 where
  pub front : List Declared
  pub back : List Declared
  pub are : ds ≡ front ++ d ∷ back

pub split_at : (ds : List Declared) (d : Declared) → In d ds → SplitAt ds d
split_at [] d h = absurd h
split_at (x ∷ ds) d (inl e) = record { front = []; back = ds; are = ap (λ (y : Declared). y ∷ ds) e }
split_at (x ∷ ds) d (inr h) = let more = split_at ds d h in record { front = x ∷ more.front; back = more.back; are = ap (λ (l : List Declared). x ∷ l) more.are }

-- what is made before a declaration that is found stands before it
pub found_at : (ds : List Declared) (leaf : ℕ) (d : Declared) → entry_of ds leaf ≡ Some d → (back : List Declared) × (ds ≡ made_before leaf ds ++ d ∷ back)
found_at [] leaf d e = cc
found_at (x ∷ ds) leaf d e = by (nat_eq x.node leaf) e (λ f. found_at ds leaf d f)
  where
    by : (b : Bool) → (if b then Some x else entry_of ds leaf) ≡ Some d → (entry_of ds leaf ≡ Some d → (back : List Declared) × (ds ≡ made_before leaf ds ++ d ∷ back))
        → (back : List Declared) × (x ∷ ds ≡ (if b then [] else x ∷ made_before leaf ds) ++ d ∷ back)
    by true f later = let same : x ≡ d = cc in (ds, ap (λ (y : Declared). y ∷ ds) same)
    by false f later = let more = later f in (more.0, ap (λ (l : List Declared). x ∷ l) more.1)

pub behind_front : (front : List Declared) (d : Declared) (back : List Declared) → In d (front ++ d ∷ back)
behind_front [] d back = inl refl
behind_front (x ∷ front) d back = inr (behind_front front d back)

module _ (s : Source) (f : ℕ → Sense) where
  pub in_kept : (test : Declared → Bool) (ds : List Declared) (d : Declared) → In d ds → test d ≡ true → In d (keep s f test ds)
  in_kept test [] d h e = absurd h
  in_kept test (x ∷ ds) d h e = by (test x) refl h (λ i. in_kept test ds d i e)
    where
      by : (b : Bool) → test x ≡ b → (x ≡ d) ⊎ In d ds → (In d ds → In d (keep s f test ds)) → In d (if b then x ∷ keep s f test ds else keep s f test ds)
      by true k (inl same) later = inl same
      by true k (inr more) later = inr (later more)
      by false k (inl same) later = absurd (let both : true ≡ false = sym e ∙ (ap test (sym same) ∙ k) in cc)
      by false k (inr more) later = later more

  -- one of those that are kept
  pub record KeptAt (test : Declared → Bool) (ds front : List Declared) (d : Declared) : Type 0 where
    pub before : List Declared
    pub behind : List Declared
    pub are : ds ≡ before ++ d ∷ behind
    pub passes : test d ≡ true
    pub kept : keep s f test before ≡ front

  pub kept_at : (test : Declared → Bool) (ds front : List Declared) (d : Declared) (back : List Declared) → keep s f test ds ≡ front ++ d ∷ back → KeptAt test ds front d
  kept_at test [] [] d back e = cc
  kept_at test [] (x ∷ front) d back e = cc
  kept_at test (y ∷ ds) front d back e = by (test y) refl e (λ g h. kept_at test ds g d back h)
    where
      skipped : test y ≡ false → KeptAt test ds front d → KeptAt test (y ∷ ds) front d
      skipped k r = record {
        before = y ∷ r.before;
        behind = r.behind;
        are = ap (λ (l : List Declared). y ∷ l) r.are;
        passes = r.passes;
        kept = ap (λ (b : Bool). if b then y ∷ keep s f test r.before else keep s f test r.before) k ∙ r.kept;
      }

      taken : (g : List Declared) → test y ≡ true → y ∷ keep s f test ds ≡ g ++ d ∷ back → ((h : List Declared) → keep s f test ds ≡ h ++ d ∷ back → KeptAt test ds h d) → KeptAt test (y ∷ ds) g d
      taken [] k e later = let same : y ≡ d = cc in record { before = []; behind = ds; are = ap (λ (z : Declared). z ∷ ds) same; passes = ap test (sym same) ∙ k; kept = refl }
      taken (x ∷ g) k e later =
          let same : y ≡ x = cc in
          let rest : keep s f test ds ≡ g ++ d ∷ back = cc in
          let r = later g rest in
          record {
            before = y ∷ r.before;
            behind = r.behind;
            are = ap (λ (l : List Declared). y ∷ l) r.are;
            passes = r.passes;
            kept = ap (λ (b : Bool). if b then y ∷ keep s f test r.before else keep s f test r.before) k ∙ (ap (λ (l : List Declared). y ∷ l) r.kept ∙ ap (λ (z : Declared). z ∷ g) same);
          }

      by : (b : Bool) → test y ≡ b → (if b then y ∷ keep s f test ds else keep s f test ds) ≡ front ++ d ∷ back → ((h : List Declared) → keep s f test ds ≡ h ++ d ∷ back → KeptAt test ds h d) → KeptAt test (y ∷ ds) front d
      by true k g later = taken front k g later
      by false k g later = skipped k (later front g)

  -- the declaration that one of the types is of
  pub record TypeAt (ds : List Declared) (before : List Ctype) (t : Ctype) : Type 0 where
    pub front : List Declared
    pub entry : Declared
    pub back : List Declared
    pub are : ds ≡ front ++ entry ∷ back
    pub own : own_type s f entry.node ≡ Some t
    pub types : types_of s f front ≡ before

  pub type_at : (ds : List Declared) (before : List Ctype) (t : Ctype) (after : List Ctype) → types_of s f ds ≡ before ++ t ∷ after → TypeAt ds before t
  type_at [] [] t after e = cc
  type_at [] (b ∷ before) t after e = cc
  type_at (d ∷ ds) before t after e = by (own_type s f d.node) refl e (λ g h. type_at ds g t after h)
    where
      skipped : own_type s f d.node ≡ None → TypeAt ds before t → TypeAt (d ∷ ds) before t
      skipped none r = record {
        front = d ∷ r.front;
        entry = r.entry;
        back = r.back;
        are = ap (λ (l : List Declared). d ∷ l) r.are;
        own = r.own;
        types = ap (λ (o : Option Ctype). with_own o (types_of s f r.front)) none ∙ r.types;
      }

      taken : (u : Ctype) (g : List Ctype) → own_type s f d.node ≡ Some u → u ∷ types_of s f ds ≡ g ++ t ∷ after → ((h : List Ctype) → types_of s f ds ≡ h ++ t ∷ after → TypeAt ds h t) → TypeAt (d ∷ ds) g t
      taken u [] own k later = record { front = []; entry = d; back = ds; are = refl; own = own ∙ ap Some (head_same u t (types_of s f ds) after k).0; types = refl }
      taken u (x ∷ g) own k later =
          let both = head_same u x (types_of s f ds) (g ++ t ∷ after) k in
          let r = later g both.1 in
          record {
            front = d ∷ r.front;
            entry = r.entry;
            back = r.back;
            are = ap (λ (l : List Declared). d ∷ l) r.are;
            own = r.own;
            types = ap (λ (o : Option Ctype). with_own o (types_of s f r.front)) own ∙ (ap (λ (l : List Ctype). u ∷ l) r.types ∙ ap (λ (y : Ctype). y ∷ g) both.0);
          }

      by : (o : Option Ctype) → own_type s f d.node ≡ o → with_own o (types_of s f ds) ≡ before ++ t ∷ after → ((h : List Ctype) → types_of s f ds ≡ h ++ t ∷ after → TypeAt ds h t) → TypeAt (d ∷ ds) before t
      by None own k later = skipped own (later before k)
      by (Some u) own k later = taken u before own k later

  pub type_in : (ds : List Declared) (d : Declared) (t : Ctype) → In d ds → own_type s f d.node ≡ Some t → (k : ℕ) × (slice_get (types_of s f ds) k ≡ Some t)
  type_in [] d t h e = absurd h
  type_in (x ∷ ds) d t h e = by (own_type s f x.node) refl h (λ i. type_in ds d t i e)
    where
      by : (o : Option Ctype) → own_type s f x.node ≡ o → (x ≡ d) ⊎ In d ds → (In d ds → (k : ℕ) × (slice_get (types_of s f ds) k ≡ Some t))
          → (k : ℕ) × (slice_get (elim o as (λ _. List Ctype) [ None ↦ types_of s f ds | Some u ↦ u ∷ types_of s f ds ]) k ≡ Some t)
      by None own (inl same) later = absurd (let bad : ◌≡◌ {A = Option Ctype} (Some t) None = sym e ∙ (ap (λ (y : Declared). own_type s f y.node) (sym same) ∙ own) in cc)
      by None own (inr more) later = later more
      by (Some u) own (inl same) later = (0, sym own ∙ (ap (λ (y : Declared). own_type s f y.node) same ∙ e))
      by (Some u) own (inr more) later = let found = later more in (suc found.0, found.1)

  -- the first of those that are kept, up to one of them
  pub first_up_to : (leaf : ℕ) (test : Declared → Bool) (front : List Declared) (d : Declared) (back : List Declared) → test d ≡ true → first_of s f leaf (keep s f test (front ++ d ∷ back)) ≡ first_of s f leaf (keep s f test front ++ d ∷ [])
  first_up_to leaf test [] d back e = ap (λ (b : Bool). first_of s f leaf (if b then d ∷ keep s f test back else keep s f test back)) e
  first_up_to leaf test (x ∷ front) d back e = by (test x) (first_up_to leaf test front d back e)
    where
      by : (b : Bool) → first_of s f leaf (keep s f test (front ++ d ∷ back)) ≡ first_of s f leaf (keep s f test front ++ d ∷ [])
          → first_of s f leaf (if b then x ∷ keep s f test (front ++ d ∷ back) else keep s f test (front ++ d ∷ back)) ≡ first_of s f leaf ((if b then x ∷ keep s f test front else keep s f test front) ++ d ∷ [])
      by true later = refl
      by false later = later

pub first_same : (s : Source) (f g : ℕ → Sense) (leaf : ℕ) (ds : List Declared) → first_of s f leaf ds ≡ first_of s g leaf ds
first_same s f g leaf [] = refl
first_same s f g leaf (d ∷ ds) = refl
