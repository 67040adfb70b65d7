-- The functions of a system stand in the order of their locations, and its facts are those of the space.
use Rattle.std.proofs.Common.{arith, ◌≡◌, ◌∙◌, ℕ, zero, suc, ◌+◌, ◌<◌, ◌≤◌, ◌==◌, Bool, true, false, List, [], ◌∷◌, Option, Some, None, cond, length, map, get_or, slice_get, refl, sym, ap, subst, unwrap_or, inl, inr}
use Rattle.std.specs.List.{range_with_len, AllZip, enumerate_from, filter_map, find, cons_option}
use Rattle.std.specs.Option.{option_map_or}
use Rattle.std.proofs.lemmas.Bool.{false≢true}
use Rattle.std.proofs.lemmas.Bool.Decides.{eqb_tells}
use Rattle.std.proofs.lemmas.List.FromFn.{length-map-range_with_len}
use Rattle.c_types.specs.declared.key.ObjectKey.{ObjectKey}
use Rattle.core_tree.specs.Typed.{CoreTrees}
use Rattle.sol_model.specs.declared.system.System.{System}
use Rattle.sol_model.specs.declared.system.Function.{Function}
use Rattle.sol_model.specs.declared.system.LocationFact.{LocationFact}
use Rattle.obj_space.specs.View.{SpaceView}
use Rattle.obj_space.proofs.Placed.{get_mapped}
use Rattle.row_numbers.specs.Functions.{begins_at, object_at, function_keys, functions_below}
use Rattle.normal_form.specs.Facts.{IsFunctionFact, AreFunctions, location_fact, location_facts}
use Rattle.constraints.specs.System.{AreInOrder, AgreesWith}

-- each of these stands behind those before it
abbrev Rising : ℕ → List Function → Type 0
Rising low [] = Unit {0}
Rising low (f ∷ fs) = (low ≤ f.location) × Rising (f.location + 1) fs

rising_from : (low lower : ℕ) (fs : List Function) → lower ≤ low → Rising low fs → Rising lower fs
rising_from low lower [] le h = tt
rising_from low lower (f ∷ fs) le h = (omega (arith, h.0), h.1)

-- each of these stands from there on
rising_each : (low : ℕ) (fs : List Function) (j : ℕ) (d : Function) → j < length fs → Rising low fs → low ≤ (get_or fs j d).location
rising_each low [] j d within h = absurd (omega arith)
rising_each low (f ∷ fs) zero d within h = h.0
rising_each low (f ∷ fs) (suc j) d within h =
    let rest = rising_each (f.location + 1) fs j d (omega arith) h.1 in omega (arith, rest, h.0)

rising_pairs : (low : ℕ) (fs : List Function) (i j : ℕ) (d : Function) → i < j → j < length fs → Rising low fs → (get_or fs i d).location < (get_or fs j d).location
rising_pairs low [] i j d lt within h = absurd (omega arith)
rising_pairs low (f ∷ fs) i zero d lt within h = absurd (omega arith)
rising_pairs low (f ∷ fs) zero (suc j) d lt within h =
    let rest = rising_each (f.location + 1) fs j d (omega arith) h.1 in omega (arith, rest)
rising_pairs low (f ∷ fs) (suc i) (suc j) d lt within h = rising_pairs (f.location + 1) fs i j d (omega arith) (omega arith) h.1

-- what is found passes the test
found_case : (test : ObjectKey → Bool) (x : ObjectKey) (xs : List ObjectKey) (key : ObjectKey) (b : Bool) → test x ≡ b → (find test xs ≡ Some key → test key ≡ true) → cond b (Some x) (find test xs) ≡ Some key → test key ≡ true
found_case test x xs key true is later h = let same : x ≡ key = cc in subst (λ (k : ObjectKey). test k ≡ true) same is
found_case test x xs key false is later h = later h

found : (test : ObjectKey → Bool) (xs : List ObjectKey) (key : ObjectKey) → find test xs ≡ Some key → test key ≡ true
found test [] key h = cc
found test (x ∷ xs) key h = found_case test x xs key (test x) refl (found test xs key) h

first_is : (o : Option ℕ) (location : ℕ) → option_map_or (λ first. first == location) o false ≡ true → unwrap_or o 0 ≡ location
first_is None location h = absurd (false≢true h)
first_is (Some first) location h = elim (eqb_tells first location) [ inl same ↦ same.1 | inr other ↦ absurd (false≢true (sym other.0 ∙ h)) ]

module _ (u : CoreTrees) (s : SpaceView) (keys : List ObjectKey) where
  abbrev IsFact : ℕ × ObjectKey → Function → Type 0
  IsFact entry function = IsFunctionFact u s entry.0 entry.1 function

  abbrev found_from : ℕ → ℕ → List ObjectKey
  found_from a n = filter_map (λ found. found) (map (object_at s keys) (range_with_len a n))

  rising_case : (a n k : ℕ) (o : Option ObjectKey) (fs : List Function) → ((k : ℕ) (fs : List Function) → AllZip IsFact (enumerate_from k (found_from (a + 1) n)) fs → Rising (a + 1) fs)
      → object_at s keys a ≡ o → AllZip IsFact (enumerate_from k (cons_option o (found_from (a + 1) n))) fs → Rising a fs
  rising_case a n k None fs rest is h = rising_from (a + 1) a fs (omega arith) (rest k fs h)
  rising_case a n k (Some key) [] rest is h = absurd h
  rising_case a n k (Some key) (f ∷ fs) rest is h =
      let first = first_is (s.first key) a (found (begins_at s a) keys key is) in
      let here : f.location ≡ a = h.0.location ∙ first in
      (omega (arith, here), rising_from (a + 1) (f.location + 1) fs (omega (arith, here)) (rest (k + 1) fs h.1))

  rising_all : (a n k : ℕ) (fs : List Function) → AllZip IsFact (enumerate_from k (found_from a n)) fs → Rising a fs
  rising_all a zero k [] h = tt
  rising_all a zero k (f ∷ fs) h = absurd h
  rising_all a (suc n) k fs h = rising_case a n k (object_at s keys a) fs (rising_all (a + 1) n) refl h

pub in_order : (u : CoreTrees) (s : SpaceView) (system : System) → AreFunctions u s system.functions → AreInOrder system
unfolding functions_below
in_order u s system h i j d lt within = rising_pairs 0 system.functions i j d lt within (rising_all u s (function_keys u) 0 s.count 0 system.functions h)

range_at : (a n k x : ℕ) → slice_get (range_with_len a n) k ≡ Some x → x ≡ a + k
range_at a zero k x h = cc
range_at a (suc n) zero x h = let e : a ≡ x = cc in omega (arith, e)
range_at a (suc n) (suc k) x h = let e = range_at (a + 1) n k x h in omega (arith, e)

pub agrees_with : (u : CoreTrees) (s : SpaceView) (system : System) → system.locations ≡ location_facts u s → AgreesWith s system
agrees_with u s system is = record {
  count = ap (λ (l : List LocationFact). length l) is ∙ length-map-range_with_len (location_fact u s) 0 s.count;
  facts = λ l fact at.
      let m = get_mapped (location_fact u s) (range_with_len 0 s.count) l fact (ap (λ (facts : List LocationFact). slice_get facts l) (sym is) ∙ at) in
      let same : m.0 ≡ l = let e = range_at 0 s.count l m.0 m.1 in omega (arith, e) in
      let here : location_fact u s l ≡ fact = ap (location_fact u s) (sym same) ∙ m.2 in
      (ap (λ (f : LocationFact). f.collapsed) (sym here), ap (λ (f : LocationFact). f.ty) (sym here));
}
