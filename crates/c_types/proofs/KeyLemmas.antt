-- Terms have one key exactly where they are one type.
use Rattle.std.proofs.Common.{arith, ◌≡◌, ℕ, zero, suc, ◌<◌, ◌⊎◌, inl, inr, List, [], ◌∷◌, ◌++◌, length, refl, ap, sym, ◌∙◌, subst, Option, Some, None, slice_get, slice_index, map, All, Bool, true, false}
use Rattle.std.proofs.lemmas.List.{get_or_append_left, length-map}
use Rattle.std.proofs.lemmas.Bool.Decides.{eqb_tells}
use Rattle.std.proofs.lemmas.List.Elements.{All-head, All-tail}
use Rattle.c_types.specs.declared.term.Term.{Term}
use Rattle.c_types.specs.declared.term.Term.TheVariants.{Void, Bool as BoolTerm, Integer, Floating, VaList, Pointer, Array, Function, Structure, Union}
use Rattle.c_types.specs.declared.term.Form.{Form}
use Rattle.c_types.specs.declared.term.Form.TheVariants.{Fixed, Variadic, Unspecified}
use Rattle.c_types.specs.declared.term.TypeId.{TypeId}
use Rattle.c_types.specs.declared.table.Entry.{Entry}
use Rattle.c_types.specs.Trees.{Ctype, tree_at, trees_at, grow, grown}
use Rattle.c_types.specs.Table.{IsAfter}
use Rattle.c_types.specs.Inside.{terms_of, AreEntries}
use Rattle.c_types.specs.Index.{number_at}
use Rattle.c_types.specs.Keys.{form_number, sign_number, firsts_of, key_of, IsIndex}
use Rattle.c_types.proofs.Push.{slice_get_push}
use Rattle.c_types.proofs.Grow.{types_length, after_more}

-- numbers of first types tell types apart
pub record Tells (types : List Ctype) (firsts : List ℕ) : Type 0 where
  pub same : (i j : ℕ) → i < length types → j < length types → tree_at types i ≡ tree_at types j → slice_index firsts i ≡ slice_index firsts j
  pub one : (i j : ℕ) → i < length types → j < length types → slice_index firsts i ≡ slice_index firsts j → tree_at types i ≡ tree_at types j

form_one : (a b : Form) → form_number a ≡ form_number b → a ≡ b
form_one Fixed Fixed e = refl
form_one Variadic Variadic e = refl
form_one Unspecified Unspecified e = refl
form_one a b e = absurd (omega arith)

sign_one : (a b : Bool) → sign_number a ≡ sign_number b → a ≡ b
sign_one true true e = refl
sign_one false false e = refl
sign_one a b e = absurd (omega arith)

first_number : List ℕ → ℕ
first_number [] = 0
first_number (x ∷ xs) = x

module _ (types : List Ctype) (firsts : List ℕ) (tells : Tells types firsts) where
  keys_same : (a b : List TypeId) → All (λ id. id.0 < length types) a → All (λ id. id.0 < length types) b → trees_at types a ≡ trees_at types b → map (λ (id : TypeId). slice_index firsts id.0) a ≡ map (λ (id : TypeId). slice_index firsts id.0) b
  keys_same [] [] h k e = refl
  keys_same [] (y ∷ b) h k e = cc
  keys_same (x ∷ a) [] h k e = cc
  keys_same (x ∷ a) (y ∷ b) h k e =
      let first : tree_at types x.0 ≡ tree_at types y.0 = cc in
      let rest : trees_at types a ≡ trees_at types b = cc in
      let one = tells.same x.0 y.0 (All-head (λ id. id.0 < length types) x a h) (All-head (λ id. id.0 < length types) y b k) first in
      let more = keys_same a b (All-tail (λ id. id.0 < length types) x a h) (All-tail (λ id. id.0 < length types) y b k) rest in
      cc

  keys_one : (a b : List TypeId) → All (λ id. id.0 < length types) a → All (λ id. id.0 < length types) b → map (λ (id : TypeId). slice_index firsts id.0) a ≡ map (λ (id : TypeId). slice_index firsts id.0) b → trees_at types a ≡ trees_at types b
  keys_one [] [] h k e = refl
  keys_one [] (y ∷ b) h k e = cc
  keys_one (x ∷ a) [] h k e = cc
  keys_one (x ∷ a) (y ∷ b) h k e =
      let first : slice_index firsts x.0 ≡ slice_index firsts y.0 = cc in
      let rest : map (λ (id : TypeId). slice_index firsts id.0) a ≡ map (λ (id : TypeId). slice_index firsts id.0) b = cc in
      let one = tells.one x.0 y.0 (All-head (λ id. id.0 < length types) x a h) (All-head (λ id. id.0 < length types) y b k) first in
      let more = keys_one a b (All-tail (λ id. id.0 < length types) x a h) (All-tail (λ id. id.0 < length types) y b k) rest in
      cc

  pub key_same : (a b : Term) → IsAfter (length types) a → IsAfter (length types) b → grow types a ≡ grow types b → key_of firsts a ≡ key_of firsts b
  key_same Void Void h k e = refl
  key_same BoolTerm BoolTerm h k e = refl
  key_same (Integer s r g) (Integer t q f) h k e = cc
  key_same Floating Floating h k e = refl
  key_same VaList VaList h k e = refl
  key_same (Pointer x) (Pointer y) h k e =
      let first : tree_at types x.0 ≡ tree_at types y.0 = cc in
      let one = tells.same x.0 y.0 h k first in
      cc
  key_same (Array x n) (Array y m) h k e =
      let first : tree_at types x.0 ≡ tree_at types y.0 = cc in
      let one = tells.same x.0 y.0 h k first in
      let n_is : n ≡ m = cc in
      cc
  key_same (Function x ps f) (Function y qs g) h k e =
      let first : tree_at types x.0 ≡ tree_at types y.0 = cc in
      let one = tells.same x.0 y.0 h.0 k.0 first in
      let rest : trees_at types ps ≡ trees_at types qs = cc in
      let more = keys_same ps qs h.1 k.1 rest in
      let form : f ≡ g = cc in
      cc
  key_same (Structure s) (Structure t) h k e = cc
  key_same (Union s) (Union t) h k e = cc
  key_same a b h k e = cc

  pub key_one : (a b : Term) → IsAfter (length types) a → IsAfter (length types) b → key_of firsts a ≡ key_of firsts b → grow types a ≡ grow types b
  unfolding first_number
  key_one Void Void h k e = refl
  key_one BoolTerm BoolTerm h k e = refl
  key_one (Integer s r g) (Integer t q f) h k e =
      let signs : sign_number g ≡ sign_number f = cc in
      let sign = sign_one g f signs in
      cc
  key_one Floating Floating h k e = refl
  key_one VaList VaList h k e = refl
  key_one (Pointer x) (Pointer y) h k e =
      let first : slice_index firsts x.0 ≡ slice_index firsts y.0 = cc in
      let one = tells.one x.0 y.0 h k first in
      cc
  key_one (Array x None) (Array y None) h k e =
      let first : slice_index firsts x.0 ≡ slice_index firsts y.0 = cc in
      let one = tells.one x.0 y.0 h k first in
      cc
  key_one (Array x (Some n)) (Array y (Some m)) h k e =
      let first : slice_index firsts x.0 ≡ slice_index firsts y.0 = cc in
      let one = tells.one x.0 y.0 h k first in
      let n_is : n ≡ m = cc in
      cc
  key_one (Array x None) (Array y (Some m)) h k e = cc
  key_one (Array x (Some n)) (Array y None) h k e = cc
  key_one (Function x ps f) (Function y qs g) h k e =
      let forms : form_number f ≡ form_number g = cc in
      let form = form_one f g forms in
      let first : slice_index firsts x.0 ≡ slice_index firsts y.0 = cc in
      let one = tells.one x.0 y.0 h.0 k.0 first in
      let rest : map (λ (id : TypeId). slice_index firsts id.0) ps ≡ map (λ (id : TypeId). slice_index firsts id.0) qs = cc in
      let more = keys_one ps qs h.1 k.1 rest in
      cc
  key_one (Structure s) (Structure t) h k e = cc
  key_one (Union s) (Union t) h k e = cc
  key_one a b h k e = let head = ap first_number e in absurd (omega arith)

first_at : (entries : List Entry) (i : ℕ) (e : Entry) → slice_get entries i ≡ Some e → slice_index (firsts_of entries) i ≡ e.first
first_at [] i e h = cc
first_at (x ∷ entries) zero e h = let same : x ≡ e = cc in ap (λ (y : Entry). y.first) same
first_at (x ∷ entries) (suc i) e h = first_at entries i e h

there_at : (entries : List Entry) (i : ℕ) → i < length entries → (e : Entry) × (slice_get entries i ≡ Some e)
there_at [] i h = absurd (omega arith)
there_at (x ∷ entries) zero h = (x, refl)
there_at (x ∷ entries) (suc i) h = there_at entries i (omega arith)

pub tells_entries : (entries : List Entry) (tags : ℕ) → AreEntries entries tags → Tells (grown [] (terms_of entries)) (firsts_of entries)
tells_entries entries tags all = record { same = same; one = one }
  where
    types : List Ctype
    types = grown [] (terms_of entries)

    same : (i j : ℕ) → i < length (grown [] (terms_of entries)) → j < length (grown [] (terms_of entries)) → tree_at (grown [] (terms_of entries)) i ≡ tree_at (grown [] (terms_of entries)) j → slice_index (firsts_of entries) i ≡ slice_index (firsts_of entries) j
    same i j hi hj e =
        let (a, at) = there_at entries i (omega (arith, types_length entries)) in
        let (b, bt) = there_at entries j (omega (arith, types_length entries)) in
        let p = all.each i a at in
        let q = all.each j b bt in
        let below : a.first < b.first → ⊥ = λ lt. q.first_least a.first lt (p.first_same ∙ e) in
        let above : b.first < a.first → ⊥ = λ lt. p.first_least b.first lt (q.first_same ∙ sym e) in
        let one : a.first ≡ b.first = grind (arith, below, above) in
        first_at entries i a at ∙ (one ∙ sym (first_at entries j b bt))

    one : (i j : ℕ) → i < length (grown [] (terms_of entries)) → j < length (grown [] (terms_of entries)) → slice_index (firsts_of entries) i ≡ slice_index (firsts_of entries) j → tree_at (grown [] (terms_of entries)) i ≡ tree_at (grown [] (terms_of entries)) j
    one i j hi hj e =
        let (a, at) = there_at entries i (omega (arith, types_length entries)) in
        let (b, bt) = there_at entries j (omega (arith, types_length entries)) in
        let p = all.each i a at in
        let q = all.each j b bt in
        let same : a.first ≡ b.first = sym (first_at entries i a at) ∙ (e ∙ first_at entries j b bt) in
        sym p.first_same ∙ (ap (tree_at (grown [] (terms_of entries))) same ∙ q.first_same)

-- keys stay with further entries
map_before : (firsts more : List ℕ) (ids : List TypeId) → All (λ id. id.0 < length firsts) ids → map (λ (id : TypeId). slice_index (firsts ++ more) id.0) ids ≡ map (λ (id : TypeId). slice_index firsts id.0) ids
map_before firsts more [] h = refl
map_before firsts more (x ∷ ids) h =
    let first = get_or_append_left firsts more 0 x.0 (All-head (λ id. id.0 < length firsts) x ids h) in
    let rest = map_before firsts more ids (All-tail (λ id. id.0 < length firsts) x ids h) in
    cc

key_before : (firsts more : List ℕ) (t : Term) → IsAfter (length firsts) t → key_of (firsts ++ more) t ≡ key_of firsts t
key_before firsts more (Pointer to) h = let e = get_or_append_left firsts more 0 to.0 h in cc
key_before firsts more (Array of n) h = let e = get_or_append_left firsts more 0 of.0 h in cc
key_before firsts more (Function result parameters form) h =
    let e = get_or_append_left firsts more 0 result.0 h.0 in
    let rest = map_before firsts more parameters h.1 in
    cc
key_before firsts more Void h = refl
key_before firsts more BoolTerm h = refl
key_before firsts more (Integer size rank signed) h = refl
key_before firsts more Floating h = refl
key_before firsts more VaList h = refl
key_before firsts more (Structure tag) h = refl
key_before firsts more (Union tag) h = refl

firsts_push : (entries : List Entry) (e : Entry) → firsts_of (entries ++ e ∷ []) ≡ firsts_of entries ++ e.first ∷ []
firsts_push [] e = refl
firsts_push (x ∷ entries) e = ap (λ (r : List ℕ). x.first ∷ r) (firsts_push entries e)

firsts_length : (entries : List Entry) → length (firsts_of entries) ≡ length entries
firsts_length entries = length-map entries (λ (e : Entry). e.first)

after_of : (n m : ℕ) (t : Term) → n ≡ m → IsAfter n t → IsAfter m t
after_of n m t e h = subst (λ (k : ℕ). IsAfter k t) e h

key_push : (entries : List Entry) (e : Entry) (t : Term) → IsAfter (length entries) t → key_of (firsts_of (entries ++ e ∷ [])) t ≡ key_of (firsts_of entries) t
key_push entries e t h =
    ap (λ (fs : List ℕ). key_of fs t) (firsts_push entries e) ∙ key_before (firsts_of entries) (e.first ∷ []) t (after_of _ _ t (sym (firsts_length entries)) h)

left_get : {X : Type 0} (xs : List X) (y : X) (i : ℕ) (e : X) → slice_get xs i ≡ Some e → slice_get (xs ++ y ∷ []) i ≡ Some e
left_get [] y i e h = cc
left_get (x ∷ xs) y zero e h = h
left_get (x ∷ xs) y (suc i) e h = left_get xs y i e h

end_get : {X : Type 0} (xs : List X) (y : X) → slice_get (xs ++ y ∷ []) (length xs) ≡ Some y
end_get [] y = refl
end_get (x ∷ xs) y = end_get xs y

some_one : {A : Type 0} (x y : A) → ◌≡◌ {A = Option A} (Some x) (Some y) → x ≡ y
some_one x y e = cc

within : {X : Type 0} (xs : List X) (i : ℕ) (e : X) → slice_get xs i ≡ Some e → i < length xs
within [] i e h = cc
within (x ∷ xs) zero e h = omega arith
within (x ∷ xs) (suc i) e h = omega (arith, within xs i e h)

same_or_not : (a b : List ℕ) → (a ≡ b) ⊎ (a ≡ b → ⊥)
same_or_not [] [] = inl refl
same_or_not [] (y ∷ b) = inr (λ e. cc)
same_or_not (x ∷ a) [] = inr (λ e. cc)
same_or_not (x ∷ a) (y ∷ b) =
    elim (eqb_tells x y) [
      | inl p ↦ elim (same_or_not a b) [
        | inl q ↦ let first = p.1 in let rest = q in inl cc
        | inr q ↦ inr (λ e. let rest : a ≡ b = cc in q rest)
      ]
      | inr p ↦ inr (λ e. let first : x ≡ y = cc in p.1 first)
    ]

pub index_same : (entries : List Entry) (old new : List (List ℕ × ℕ)) → IsIndex entries old → ((q : List ℕ) → number_at new q ≡ number_at old q) → IsIndex entries new
index_same entries old new index same =
    record { found = λ q f h. index.found q f (sym (same q) ∙ h); each = λ i e h. same (key_of (firsts_of entries) e.term) ∙ index.each i e h }

module _ (entries : List Entry) (tags : ℕ) (all : AreEntries entries tags) (old : List (List ℕ × ℕ)) (index : IsIndex entries old) (e : Entry) (after : IsAfter (length entries) e.term) where
  key_old : (i : ℕ) (d : Entry) → slice_get entries i ≡ Some d → key_of (firsts_of (entries ++ e ∷ [])) d.term ≡ key_of (firsts_of entries) d.term
  key_old i d at = key_push entries e d.term (after_weaker (all.each i d at).after (within entries i d at))
    where
      after_weaker : IsAfter i d.term → i < length entries → IsAfter (length entries) d.term
      after_weaker h lt = after_more i (length entries) d.term lt h

  found_old : (q : List ℕ) (f : ℕ) → number_at old q ≡ Some f → (d : Entry) × (slice_get (entries ++ e ∷ []) f ≡ Some d) × (d.first ≡ f) × (key_of (firsts_of (entries ++ e ∷ [])) d.term ≡ q)
  found_old q f h =
      let (d, at, first, key) = index.found q f h in
      (d, left_get entries e f d at, first, key_old f d at ∙ key)

  -- with one more entry of a type that there was
  pub index_more : number_at old (key_of (firsts_of entries) e.term) ≡ Some e.first → IsIndex (entries ++ e ∷ []) old
  index_more known = record {
    found = found_old;
    each = λ i d at. elim (slice_get_push entries e i d at) [
      | inl p ↦ ap (number_at old) (key_old i d p.1) ∙ index.each i d p.1
      | inr p ↦ rw p.1 (ap (number_at old) (key_push entries e e.term after) ∙ known)
    ];
  }

  -- with the first entry of a type
  pub index_new : (new : List (List ℕ × ℕ)) (key : List ℕ) → key ≡ key_of (firsts_of entries) e.term → number_at old key ≡ None → e.first ≡ length entries → number_at new key ≡ Some (length entries) → ((q : List ℕ) → (key ≡ q → ⊥) → number_at new q ≡ number_at old q) → IsIndex (entries ++ e ∷ []) new
  index_new new key is unseen first here others = record {
    found = λ q f h. found_new q f h;
    each = λ i d at. elim (slice_get_push entries e i d at) [
      | inl p ↦ ap (number_at new) (key_old i d p.1) ∙ (others _ (λ same. clash _ (index.each i d p.1) same) ∙ index.each i d p.1)
      | inr p ↦ rw p.1 (ap (number_at new) (key_push entries e e.term after ∙ sym is) ∙ (here ∙ ap Some (sym first)))
    ];
  }
    where
      clash : {n : ℕ} (q : List ℕ) → number_at old q ≡ Some n → key ≡ q → ⊥
      clash q h same = let g = ap (number_at old) same in cc

      found_new : (q : List ℕ) (f : ℕ) → number_at new q ≡ Some f → (d : Entry) × (slice_get (entries ++ e ∷ []) f ≡ Some d) × (d.first ≡ f) × (key_of (firsts_of (entries ++ e ∷ [])) d.term ≡ q)
      found_new q f h = split (same_or_not key q)
        where
          split : (key ≡ q) ⊎ (key ≡ q → ⊥) → (d : Entry) × (slice_get (entries ++ e ∷ []) f ≡ Some d) × (d.first ≡ f) × (key_of (firsts_of (entries ++ e ∷ [])) d.term ≡ q)
          split (inl same) =
              let place : length entries ≡ f = some_one _ _ (sym here ∙ (ap (number_at new) same ∙ h)) in
              (e, rw (← place) (end_get entries e), first ∙ place, key_push entries e e.term after ∙ (sym is ∙ same))
          split (inr apart) = found_old q f (sym (others q apart) ∙ h)

-- what the index says of a term
module _ (entries : List Entry) (tags : ℕ) (all : AreEntries entries tags) (index : List (List ℕ × ℕ)) (right : IsIndex entries index) (t : Term) (after : IsAfter (length entries) t) where
  here : IsAfter (length (grown [] (terms_of entries))) t
  here = after_of _ _ t (sym (types_length entries)) after

  term_here : (i : ℕ) (d : Entry) → slice_get entries i ≡ Some d → IsAfter (length (grown [] (terms_of entries))) d.term
  term_here i d at = after_of _ _ d.term (sym (types_length entries)) (after_more i (length entries) d.term (within entries i d at) (all.each i d at).after)

  -- a number for its key is that of its first type
  pub first_known : (f : ℕ) → number_at index (key_of (firsts_of entries) t) ≡ Some f → (f < length entries) × (tree_at (grown [] (terms_of entries)) f ≡ grow (grown [] (terms_of entries)) t) × ((j : ℕ) → j < f → tree_at (grown [] (terms_of entries)) j ≡ grow (grown [] (terms_of entries)) t → ⊥)
  first_known f h =
      let (d, at, first, key) = right.found (key_of (firsts_of entries) t) f h in
      let e = all.each f d at in
      let tree : tree_at (grown [] (terms_of entries)) f ≡ grow (grown [] (terms_of entries)) t =
      e.term ∙ key_one (grown [] (terms_of entries)) (firsts_of entries) (tells_entries entries tags all) d.term t (term_here f d at) here key in
      (within entries f d at, tree, λ j lt same. e.first_least j (rw first lt) (same ∙ sym tree))

  -- where there is none, there is no such type
  pub first_unknown : number_at index (key_of (firsts_of entries) t) ≡ None → (j : ℕ) → j < length entries → tree_at (grown [] (terms_of entries)) j ≡ grow (grown [] (terms_of entries)) t → ⊥
  first_unknown h j lt same =
      let (d, at) = there_at entries j lt in
      let e = all.each j d at in
      let key = key_same (grown [] (terms_of entries)) (firsts_of entries) (tells_entries entries tags all) d.term t (term_here j d at) here (sym e.term ∙ same) in
      let found = right.each j d at in
      let clash : number_at index (key_of (firsts_of entries) d.term) ≡ None = ap (number_at index) key ∙ h in
      cc
