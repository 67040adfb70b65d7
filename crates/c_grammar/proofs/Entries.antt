-- Entries of names, as one is changed or added.
use Rattle.std.proofs.Common.{◌≡◌, ◌≢◌, ℕ, ◌<◌, ◌≤◌, Bool, true, false, Option, Some, None, List, [], ◌∷◌, ◌++◌, length, length-append, get_or, set, take, cond, refl, sym, ap, ◌∙◌, subst, arith, ⊎_elim}
use Rattle.std.proofs.Math.Seq.{get_or-append_seam, take-append_seam, take-length}
use Rattle.std.proofs.Math.ListN.{get_or-append, length-set}
use Rattle.std.proofs.lemmas.Bool.{cases_Bool, cases_lt, cond-true, cond-false}
use Rattle.std.proofs.lemmas.List.{get_or-set_same, get_or-set_other}
use Rattle.std.proofs.lemmas.Option.{slice_get-get_or, slice_get_within}
use Rattle.std.specs.Global.{Vec}
use Rattle.std.specs.Prelude.{IfSome, Result, Ok, Err, is_ok, is_err}
use Rattle.std.specs.List.{slice_get}
use Rattle.std.specs.Map.{lookup}
use Rattle.std.specs.Str.{bytes_eq}
use Rattle.std.specs.Cmp.Lexicographic.{bytes_decides, nat_list_eq_equiv}
use Rattle.c_grammar.specs.declared.current.Current.{Current}
use Rattle.c_grammar.specs.Current.{place_in, meant_at, known, Indexed, Means}

-- entries of the same names, by the same map
pub indexed_by : (c n : Current) → n.spelled.items ≡ c.spelled.items → length n.meant.items ≡ length c.meant.items → n.places.entries ≡ c.places.entries → Indexed c → Indexed n
indexed_by c n es em ep ix = record {
  count = em ∙ (ix.count ∙ ap length (sym es));
  each = λ place s g. subst (λ p. lookup (λ (k : Vec ℕ). bytes_eq s.items k.items) p ≡ Some place) (sym ep) (ix.each place s (subst (λ l. slice_get l place ≡ Some s) es g));
  there = λ name place e.
      let r = ix.there name place (subst (λ p. lookup (λ (k : Vec ℕ). bytes_eq name k.items) p ≡ Some place) ep e) in (
        r.0,
        subst (λ l. slice_get l place ≡ Some r.0) (sym es) r.1,
        r.2,
      );
}

pub known_by : (c n : Current) → n.meant.items ≡ c.meant.items → n.places.entries ≡ c.places.entries → (q : List ℕ) → known n q ≡ known c q
known_by c n em ep q = ap (λ ms. meant_at ms (place_in n.places q)) em ∙ ap (λ p. meant_at c.meant.items (lookup (λ (k : Vec ℕ). bytes_eq q k.items) p)) ep

pub entry_within : (c : Current) → Indexed c → (name : List ℕ) (place : ℕ) → place_in c.places name ≡ Some place → place < length c.spelled.items
entry_within c ix name place e =
    let r = ix.there name place e in
    slice_get_within c.spelled.items place r.0 r.1

pub within_of : (c : Current) → Indexed c → (name : List ℕ) (o : Option ℕ) → o ≡ place_in c.places name → IfSome o (λ place. place < length c.spelled.items)
within_of c ix name None e = tt
within_of c ix name (Some place) e = entry_within c ix name place (sym e)

-- what was added to a list, or wasn't, is taken back
pub undone : {X : Type 0} (b : Bool) (xs : List X) (x : X) (k : ℕ) → k ≡ length xs → take k (cond b (xs ++ x ∷ []) xs) ≡ xs
undone true xs x k e = ap (λ n. take n (xs ++ x ∷ [])) e ∙ take-append_seam xs (x ∷ [])
undone false xs x k e = ap (λ n. take n xs) e ∙ take-length xs

-- a push that isn't refused has put the element there
pub pushed : {X E : Type 0} (r : Result Unit E) (xs : List X) (x : X) → {ys : List X} → {b : Bool} → ys ≡ cond (is_ok r) (xs ++ x ∷ []) xs → b ≡ is_err r → b ≡ false → ys ≡ xs ++ x ∷ []
pushed (Ok u) xs x e f g = e
pushed (Err f) xs x e g h = let n : false ≡ true = sym h ∙ g in absurd (cc)

-- names with one entry are one
one_name : (c : Current) → Indexed c → (name q : List ℕ) (i j : ℕ) → place_in c.places name ≡ Some i → place_in c.places q ≡ Some j → j ≡ i → name ≡ q
one_name c ix name q i j e f s =
    let a = ix.there name i e in
    let b = ix.there q j f in
    let g : slice_get c.spelled.items i ≡ Some b.0 = subst (λ k. slice_get c.spelled.items k ≡ Some b.0) s b.1 in
    let h : a.0 ≡ b.0 = cc in
    sym a.2 ∙ (ap (λ (v : Vec ℕ). v.items) h ∙ b.2)

-- the name of an entry means something else
module _ (c n : Current) (place : ℕ) (w : Option Bool) (ix : Indexed c) (em : n.meant.items ≡ set c.meant.items place w) (ep : n.places.entries ≡ c.places.entries) (name : List ℕ) (e : place_in c.places name ≡ Some place) where
  others : (q : List ℕ) → bytes_eq name q ≡ false → (o : Option ℕ) → place_in c.places q ≡ o → meant_at (set c.meant.items place w) o ≡ meant_at c.meant.items o
  others q n None f = refl
  others q n (Some j) f =
      get_or-set_other c.meant.items place j w None (λ s.
      let same : name ≡ q = one_name c ix name q place j e f s in
      let y : bytes_eq name q ≡ true = (bytes_decides name q).1 same in
      absurd (cc))

  pub means_set : Means c name w n
  means_set q =
      let l : place < length c.meant.items = omega (arith, ix.count, entry_within c ix name place e) in
      ap (λ ms. meant_at ms (place_in n.places q)) em
      ∙ (ap (λ p. meant_at (set c.meant.items place w) (lookup (λ (k : Vec ℕ). bytes_eq q k.items) p)) ep
      ∙ ⊎_elim
      (λ y.
      let own : place_in c.places q ≡ Some place = subst (λ l. place_in c.places l ≡ Some place) ((bytes_decides name q).0 y) e in
      ap (λ o. meant_at (set c.meant.items place w) o) own ∙ (get_or-set_same c.meant.items place w None l ∙ sym (cond-true (bytes_eq name q) w (known c q) y)))
      (λ f. others q f (place_in c.places q) refl ∙ sym (cond-false (bytes_eq name q) w (known c q) f))
      (cases_Bool (bytes_eq name q)))

got_left : (xs : List (Vec ℕ)) (s : Vec ℕ) (i : ℕ) → i < length xs → slice_get (xs ++ s ∷ []) i ≡ slice_get xs i
got_left xs s i l =
    let m : i < length (xs ++ s ∷ []) = omega (arith, length-append xs (s ∷ [])) in
    slice_get-get_or (xs ++ s ∷ []) i s m ∙ (ap Some (get_or-append xs (s ∷ []) s i l) ∙ sym (slice_get-get_or xs i s l))

got_last : (xs : List (Vec ℕ)) (s : Vec ℕ) → slice_get (xs ++ s ∷ []) (length xs) ≡ Some s
got_last xs s =
    let m : length xs < length (xs ++ s ∷ []) = omega (arith, length-append xs (s ∷ [])) in
    slice_get-get_or (xs ++ s ∷ []) (length xs) s m ∙ ap Some (get_or-append_seam xs s [] s)

-- an entry more, for a name that has none
module _ (c n : Current) (name : List ℕ) (s : Vec ℕ) (ix : Indexed c) (new : place_in c.places name ≡ None) (is : s.items ≡ name) (es : n.spelled.items ≡ c.spelled.items ++ s ∷ [])
    (em : n.meant.items ≡ c.meant.items ++ None ∷ []) (up : (q : List ℕ) → place_in n.places q ≡ cond (bytes_eq name q) (Some (length c.spelled.items)) (place_in c.places q)) where
  unknown : (q : List ℕ) → bytes_eq name q ≡ true → place_in c.places q ≡ None
  unknown q y = subst (λ l. place_in c.places l ≡ None) ((bytes_decides name q).0 y) new

  as_new : (q : List ℕ) → bytes_eq name q ≡ true → place_in n.places q ≡ Some (length c.spelled.items)
  as_new q y = up q ∙ cond-true (bytes_eq name q) (Some (length c.spelled.items)) (place_in c.places q) y

  as_old : (q : List ℕ) → bytes_eq name q ≡ false → place_in n.places q ≡ place_in c.places q
  as_old q f = up q ∙ cond-false (bytes_eq name q) (Some (length c.spelled.items)) (place_in c.places q) f

  still : (q : List ℕ) (o : Option ℕ) → place_in c.places q ≡ o → meant_at (c.meant.items ++ None ∷ []) o ≡ meant_at c.meant.items o
  still q None e = refl
  still q (Some j) e =
      let l : j < length c.meant.items = omega (arith, ix.count, entry_within c ix q j e) in
      get_or-append c.meant.items (None ∷ []) None j l

  pub added_known : (q : List ℕ) → known n q ≡ known c q
  added_known q =
      let xs : List (Option Bool) = c.meant.items ++ None ∷ [] in
      let last : get_or xs (length c.spelled.items) None ≡ None = subst (λ k. get_or xs k None ≡ None) ix.count (get_or-append_seam c.meant.items None [] None) in
      ap (λ ms. meant_at ms (place_in n.places q)) em
      ∙ ⊎_elim
      (λ y. ap (λ o. meant_at xs o) (as_new q y) ∙ (last ∙ sym (ap (λ o. meant_at c.meant.items o) (unknown q y))))
      (λ f. ap (λ o. meant_at xs o) (as_old q f) ∙ still q (place_in c.places q) refl)
      (cases_Bool (bytes_eq name q))

  pub added_place : place_in n.places name ≡ Some (length c.spelled.items)
  added_place = as_new name (nat_list_eq_equiv.refl name)

  each_of : (place : ℕ) (t : Vec ℕ) → slice_get (c.spelled.items ++ s ∷ []) place ≡ Some t → place_in n.places t.items ≡ Some place
  each_of place t g =
      let l : place < length (c.spelled.items ++ s ∷ []) = slice_get_within (c.spelled.items ++ s ∷ []) place t g in
      ⊎_elim
      (λ before.
      let old : place_in c.places t.items ≡ Some place = ix.each place t (sym (got_left c.spelled.items s place before) ∙ g) in
      ⊎_elim
      (λ y. let none : place_in c.places t.items ≡ None = unknown t.items y in absurd (cc))
      (λ f. as_old t.items f ∙ old)
      (cases_Bool (bytes_eq name t.items)))
      (λ past.
      let k : length c.spelled.items ≡ place = omega (arith, length-append c.spelled.items (s ∷ [])) in
      let h : slice_get (c.spelled.items ++ s ∷ []) place ≡ Some s = subst (λ m. slice_get (c.spelled.items ++ s ∷ []) m ≡ Some s) k (got_last c.spelled.items s) in
      let m : s ≡ t = cc in
      as_new t.items ((bytes_decides name t.items).1 (sym is ∙ ap (λ (v : Vec ℕ). v.items) m)) ∙ ap Some k)
      (cases_lt place (length c.spelled.items))

  pub added_indexed : Indexed n
  added_indexed = record {
    count = omega (arith, ap length em, ap length es, length-append c.meant.items (None ∷ []), length-append c.spelled.items (s ∷ []), ix.count);
    each = λ place t g. each_of place t (subst (λ l. slice_get l place ≡ Some t) es g);
    there = λ q j e.
        ⊎_elim
        (λ y.
        let g : Some (length c.spelled.items) ≡ Some j = sym (as_new q y) ∙ e in
        let k : length c.spelled.items ≡ j = cc in (
          s,
          subst (λ l. slice_get l j ≡ Some s) (sym es) (subst (λ m. slice_get (c.spelled.items ++ s ∷ []) m ≡ Some s) k (got_last c.spelled.items s)),
          is ∙ (bytes_decides name q).0 y,
        ))
        (λ f.
        let r = ix.there q j (sym (as_old q f) ∙ e) in (
          r.0,
          subst (λ l. slice_get l j ≡ Some r.0) (sym es) (got_left c.spelled.items s j (slice_get_within c.spelled.items j r.0 r.1) ∙ r.1),
          r.2,
        ))
        (cases_Bool (bytes_eq name q));
  }
