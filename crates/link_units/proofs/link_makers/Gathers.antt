-- What is gathered of each name, declaration by declaration.
use Rattle.std.proofs.Common.{◌≡◌, ◌≢◌, ℕ, suc, zero, ◌≤◌, ◌+◌, ◌-◌, ◌<◌, Bool, true, false, Option, Some, None, List, [], ◌∷◌, ◌++◌, length, take, get_or, set, length-set, cond, refl, sym, ap, subst, ◌∙◌, arith, inl, inr}
use Rattle.std.proofs.lemmas.List.{get_or-set_same, get_or-set_other}
use Rattle.std.proofs.lemmas.Bool.{cases_Bool, false≢true}
use Rattle.std.specs.List.{slice_get, position_from, fold, find, filter}
use Rattle.std.specs.Option.{option_or}
use Rattle.core_tree.specs.declared.node.Unit.{Unit}
use Rattle.link_names.specs.declared.declared.Declared.{Declared}
use Rattle.link_names.specs.Externals.{Joined, AreDeclarations, is_named, name_at, item_of, has_body, is_defined}
use Rattle.link_names.specs.Together.{of_name}
use Rattle.link_names.specs.Firsts.{first_of, AreFirsts}
use Rattle.link_names.proofs.FirstLemmas.{is_named_own}
use Rattle.link_names.proofs.Gathering.{of_name_more, first_in, one_text, one_name, declared_at, declared_name}
use Rattle.link_units.specs.link_makers.Gathered.{AreGathered, first_passing}
use Rattle.link_units.specs.link_makers.Made.{AreMakers}

fold_one : {V X : Type 0} (step : V → X → V) (s : V) (xs : List X) (x : X) → fold step s (xs ++ x ∷ []) ≡ step (fold step s xs) x
fold_one step s [] x = refl
fold_one step s (y ∷ ys) x = fold_one step (step s y) ys x

fold_none : {V X : Type 0} (step : V → X → V) (s : V) (xs : List X) → fold step s (xs ++ []) ≡ fold step s xs
fold_none step s [] = refl
fold_none step s (y ∷ ys) = fold_none step (step s y) ys

same_first : (a b : ℕ) → ◌≡◌ {A = Option ℕ} (Some a) (Some b) → a ≡ b
same_first a b e = cc

-- one declaration more
pub gathered_more : {V : Type 0} (units : List Unit) (ds : List Declared) (step : V → Declared → V) (start : V) (firsts : List ℕ) (list now : List V) (i : ℕ) (d : Declared)
    → AreDeclarations units ds → AreFirsts units ds firsts → i < length ds → slice_get ds i ≡ Some d → AreGathered units ds step start (take i ds) list
    → now ≡ set list (get_or firsts i 0) (step (get_or list (get_or firsts i 0) start) d) → AreGathered units ds step start (take (i + 1) ds) now
gathered_more units ds step start firsts list now i d declared are l at h is =
    let x = declared_at units ds i d declared l at in
    let name = x.entity.name in
    let named = declared_name units d x in
    let f0 = get_or firsts i 0 in
    let v = step (get_or list f0 start) d in
    let here : first_of units ds name ≡ Some f0 = are.each i d name at named in
    let within : f0 < length list = let a = (first_in units ds name f0 d here).0 in let b = h.all in omega arith in
    subst (AreGathered units ds step start (take (i + 1) ds)) (sym is) (record {
      all = length-set list f0 v ∙ h.all;
      each = λ n f first. elim (cases_Bool (is_named units n d)) [
        | inl its ↦
            let one : n ≡ name = one_text (name_at units (item_of d)) n name its (is_named_own units d name named) in
            let fs : f ≡ f0 = same_first f f0 (sym first ∙ (ap (first_of units ds) one ∙ here)) in
            ap (λ k. get_or (set list f0 v) k start) fs
            ∙ (get_or-set_same list f0 v start within
            ∙ (ap (λ w. step w d) (ap (λ k. get_or list k start) (sym fs) ∙ h.each n f first)
            ∙ sym (ap (fold step start) (of_name_more units ds i d n l at ∙ ap (λ b. of_name units n (take i ds) ++ cond b (d ∷ []) []) its) ∙ fold_one step start (of_name units n (take i ds)) d)))
        | inr not_its ↦
            let apart : f ≢ f0 = λ fs.
            let same : first_of units ds name ≡ Some f = here ∙ ap Some (sym fs) in
            let one : n ≡ name = one_name units ds n name f d first same in
            false≢true (sym not_its ∙ (ap (λ m. is_named units m d) one ∙ is_named_own units d name named)) in
            get_or-set_other list f0 f v start apart
            ∙ (h.each n f first
            ∙ sym (ap (fold step start) (of_name_more units ds i d n l at ∙ ap (λ b. of_name units n (take i ds) ++ cond b (d ∷ []) []) not_its) ∙ fold_none step start (of_name units n (take i ds))))
      ];
    })

-- the first one that passes
pub first_found : (test : Declared → Bool) (xs : List Declared) → fold (λ o d. first_passing o (test d) d) None xs ≡ find test xs
first_found test [] = refl
first_found test (x ∷ xs) = elim (cases_Bool (test x)) [
  | inl its ↦ ap (λ b. fold (λ o d. first_passing o (test d) d) (first_passing None b x) xs) its ∙ (stays xs x ∙ sym (ap (λ b. cond b (Some x) (find test xs)) its))
  | inr not_its ↦ ap (λ b. fold (λ o d. first_passing o (test d) d) (first_passing None b x) xs) not_its ∙ (first_found test xs ∙ sym (ap (λ b. cond b (Some x) (find test xs)) not_its))
]
  where
    stays : (ys : List Declared) (y : Declared) → fold (λ o d. first_passing o (test d) d) (Some y) ys ≡ Some y
    stays [] y = refl
    stays (z ∷ zs) y = stays zs y

none_some : {k : ℕ} → ◌≡◌ {A = Option ℕ} None (Some k) → ⊥
none_some h = cc

-- the first declaration of a name
pub first_any : (p : Declared → Bool) (i : ℕ) (xs : List Declared) (k : ℕ) → position_from p i xs ≡ Some k → find (λ d. true) (filter p xs) ≡ slice_get xs (k - i)
first_any p i [] k h = absurd (none_some h)
first_any p i (x ∷ xs) k h = elim (cases_Bool (p x)) [
  | inl its ↦
      let same : i ≡ k = same_first i k (sym (ap (λ b. cond b (Some i) (position_from p (i + 1) xs)) its) ∙ h) in
      let none : k - i ≡ zero = omega arith in
      ap (λ b. find (λ (d : Declared). true) (cond b (x ∷ filter p xs) (filter p xs))) its ∙ sym (ap (slice_get (x ∷ xs)) none)
  | inr not_its ↦
      let rest : position_from p (i + 1) xs ≡ Some k = sym (ap (λ b. cond b (Some i) (position_from p (i + 1) xs)) not_its) ∙ h in
      let le = from_le p (i + 1) xs k rest in
      let more : k - i ≡ suc (k - (i + 1)) = omega arith in
      ap (λ b. find (λ (d : Declared). true) (cond b (x ∷ filter p xs) (filter p xs))) not_its ∙ (first_any p (i + 1) xs k rest ∙ sym (ap (slice_get (x ∷ xs)) more))
]
  where
    from_le : (q : Declared → Bool) (a : ℕ) (ys : List Declared) (b : ℕ) → position_from q a ys ≡ Some b → a ≤ b
    from_le q a ys b e = (Rattle.link_names.proofs.Gathering.found q a ys b (record { unit = 0; line = 0; column = 0; number = 0 }) e).0

-- what makes each name
pub makers_right : (j : Joined) (ds : List Declared) (bodies defined : List (Option Declared)) (list : List Declared)
    → AreGathered j.units ds (λ o d. first_passing o (has_body j.units (item_of d)) d) None ds bodies
    → AreGathered j.units ds (λ o d. first_passing o (is_defined j (item_of d)) d) None ds defined
    → length list ≡ length ds
    → ((k : ℕ) → k < length ds → slice_get list k ≡ option_or (get_or bodies k None) (option_or (get_or defined k None) (slice_get ds k)))
    → AreMakers j ds list
makers_right j ds bodies defined list hb hd all each = record {
  all = all;
  each = λ name first at.
      let named = of_name j.units name ds in
      let within = (first_in j.units ds name first (record { unit = 0; line = 0; column = 0; number = 0 }) at).0 in
      let body = hb.each name first at ∙ first_found (λ d. has_body j.units (item_of d)) named in
      let placed = hd.each name first at ∙ first_found (λ d. is_defined j (item_of d)) named in
      let none : first - 0 ≡ first = omega arith in
      let any = first_any (is_named j.units name) 0 ds first at ∙ ap (slice_get ds) none in
      each first within
      ∙ (ap (λ o. option_or o (option_or (get_or defined first None) (slice_get ds first))) body
      ∙ (ap (λ o. option_or (find (λ d. has_body j.units (item_of d)) named) (option_or o (slice_get ds first))) placed
      ∙ ap (λ o. option_or (find (λ d. has_body j.units (item_of d)) named) (option_or (find (λ d. is_defined j (item_of d)) named) o)) (sym any)));
}
