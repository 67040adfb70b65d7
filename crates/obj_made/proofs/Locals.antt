-- Counting locals by a list of numbers.
use Rattle.std.proofs.Common.{◌≡◌, ℕ, zero, suc, ◌+◌, add-one, Bool, true, false, Option, Some, List, cond, refl, sym, ap, ◌∙◌, subst, arith, ◌<◌, length, get_or, take}
use Rattle.std.specs.Global.{Vec}
use Rattle.std.specs.Option.{is_some, unwrap_or}
use Rattle.std.specs.BTreeMap.{BTreeMap, get_by, UpdatesBy}
use Rattle.std.specs.Ordering.{nat_cmp, is_eq}
use Rattle.std.specs.declared.cmp.Ordering.{Ordering}
use Rattle.std.specs.declared.cmp.Ordering.TheVariants.{Equal}
use Rattle.std.specs.Cmp.Lexicographic.{slice_cmp}
use Rattle.std.proofs.lemmas.Cmp.{nat_list_cmp_total}
use Rattle.std.proofs.lemmas.Map.Text.{is_eq-slice_cmp}
use Rattle.std.specs.Map.{lookup, IsKeyTest, AreApart, KeepsOthers}
use Rattle.std.specs.Bool.{nat_lt}
use Rattle.std.specs.Str.{bytes_eq}
use Rattle.std.specs.Cmp.Lexicographic.{bytes_decides, nat_list_eq_equiv}
use Rattle.std.proofs.lemmas.Bool.{cases_Bool, cond-true, cond-false}
use mathlib.Core.Logic.{⊎_elim}
use Rattle.std.proofs.lemmas.Bool.Decides.{nat_tests}
use Rattle.std.proofs.lemmas.List.Sums.{count_by_more_no, count_by_more_yes}
use Rattle.core_tree.specs.declared.node.Entity.{Entity}
use Rattle.obj_made.specs.Spelling.{several, is_key, local_key, locals_of}

is_equal : (o : Ordering) → is_eq o ≡ true → o ≡ Equal
is_equal Equal h = refl
is_equal _ h = cc

apart : (bs cs ks : List ℕ) → bytes_eq bs cs ≡ false → is_eq (slice_cmp nat_cmp bs ks) ≡ true → is_eq (slice_cmp nat_cmp cs ks) ≡ false
apart bs cs ks n y =
    let same : bytes_eq bs ks ≡ true = sym (is_eq-slice_cmp bs ks) ∙ y in
    is_eq-slice_cmp cs ks ∙ (nat_list_eq_equiv.symm cs ks ∙ (sym (nat_list_eq_equiv.congr bs ks cs same) ∙ n))

module _ {K : Type 0} (eq : K → K → Bool) (test : K → Bool) where
  other_entries : {X : Type 0} (old new : List (K × X)) → KeepsOthers eq test old new → (other : K → Bool) → IsKeyTest eq other → AreApart test other → lookup other new ≡ lookup other old
  unfolding KeepsOthers
  other_entries old new h = h

by_bytes : {W : Type 0} (f g : List ℕ → W) (bs : List ℕ) (w : W) → g bs ≡ w → ((cs : List ℕ) → bytes_eq bs cs ≡ false → g cs ≡ f cs) → (cs : List ℕ) → g cs ≡ cond (bytes_eq bs cs) w (f cs)
by_bytes f g bs w here other cs =
    ⊎_elim
    (λ y. subst (λ l. g l ≡ w) ((bytes_decides bs cs).0 y) here ∙ sym (cond-true (bytes_eq bs cs) w (f cs) y))
    (λ n. other cs n ∙ sym (cond-false (bytes_eq bs cs) w (f cs) n))
    (cases_Bool (bytes_eq bs cs))

-- what a map says of each list after a change at one
pub updates_bytes : {X : Type 0} (bs : List ℕ) (m n : BTreeMap (Vec ℕ) X) (w : Option X) → UpdatesBy (λ x y. slice_cmp nat_cmp x.items y.items) (λ k. slice_cmp nat_cmp bs k.items) m n w
    → (cs : List ℕ) → get_by (λ k. slice_cmp nat_cmp cs k.items) n ≡ cond (bytes_eq bs cs) w (get_by (λ k. slice_cmp nat_cmp cs k.items) m)
updates_bytes bs m n w h =
    by_bytes (λ ds. get_by (λ k. slice_cmp nat_cmp ds k.items) m) (λ ds. get_by (λ k. slice_cmp nat_cmp ds k.items) n) bs w h.1
    (λ cs e. other_entries _ _ _ _ h.3 _ (λ x y h. sym (ap is_eq (sym (nat_list_cmp_total.congr cs x.items y.items (is_equal _ h))))) (λ k. apart bs cs k.items e))

one_more : (n : ℕ) → Some (is_some (several n)) ≡ several (suc n)
one_more zero = refl
one_more (suc zero) = refl
one_more (suc (suc n)) = refl

-- one more of a list
pub counted : (f g : List ℕ → Option Bool) (bs cs : List ℕ) (there : Bool) (n : ℕ) → there ≡ is_some (f bs) → g cs ≡ cond (bytes_eq bs cs) (Some there) (f cs) → f cs ≡ several n → g cs ≡ several (cond (bytes_eq bs cs) (n + 1) n)
counted f g bs cs there n is after before =
    ⊎_elim
    (λ y.
    after ∙ (cond-true (bytes_eq bs cs) (Some there) (f cs) y
    ∙ (ap (λ (b : Bool). Some b) (is ∙ ap (λ l. is_some (f l)) ((bytes_decides bs cs).0 y) ∙ ap is_some before)
    ∙ (one_more n ∙ (ap several (sym (add-one n)) ∙ ap several (sym (cond-true (bytes_eq bs cs) (n + 1) n y)))))))
    (λ no. after ∙ (cond-false (bytes_eq bs cs) (Some there) (f cs) no ∙ (before ∙ ap several (sym (cond-false (bytes_eq bs cs) (n + 1) n no)))))
    (cases_Bool (bytes_eq bs cs))

-- more than one
pub is_several : (n : ℕ) → unwrap_or (several n) false ≡ nat_lt 1 n
is_several zero = refl
is_several (suc zero) = refl
is_several (suc (suc n)) = grind (arith, nat_tests)

-- one entity more
pub locals_more : (xs : List Entity) (i : ℕ) (e : Entity) → i < length xs → e ≡ get_or xs i e → (key : List ℕ)
    → several (cond (is_key key (local_key e)) (locals_of (take i xs) key + 1) (locals_of (take i xs) key)) ≡ several (locals_of (take (i + 1) xs) key)
locals_more xs i e lt is key =
    let p : Entity → Bool = λ x. is_key key (local_key x) in
    ap several (⊎_elim
    (λ y. cond-true (p e) (locals_of (take i xs) key + 1) (locals_of (take i xs) key) y ∙ sym (count_by_more_yes p xs i e lt (ap p (sym is) ∙ y)))
    (λ n. cond-false (p e) (locals_of (take i xs) key + 1) (locals_of (take i xs) key) n ∙ sym (count_by_more_no p xs i e lt (ap p (sym is) ∙ n)))
    (cases_Bool (p e)))
