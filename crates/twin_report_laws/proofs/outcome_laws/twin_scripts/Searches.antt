-- Members of lists that are sifted, numbered and searched.
use Rattle.std.proofs.Common.{arith, ◌≡◌, ◌∙◌, ◌+◌, ◌<◌, ℕ, zero, suc, Bool, true, false, cond, List, [], ◌∷◌, Option, Some, None, refl, sym, ap, subst, inl, inr}
use Rattle.std.specs.Prelude.{find}
use Rattle.std.specs.List.{slice_get, filter_map, enumerate_from, range_with_len, cons_option}
use Rattle.std.proofs.lemmas.Bool.{cases_Bool}
use Rattle.twin_report_laws.proofs.outcome_laws.twin_locations.Options.{some_one, none_some}
use Rattle.twin_report_laws.proofs.outcome_laws.twin_locations.Members.{Member}

pub member_filter : {X Y : Type 0} (h : X → Option Y) (xs : List X) (y : Y) → Member (filter_map h xs) y → (x : X) × Member xs x × (h x ≡ Some y)
member_filter h [] y m = absurd m
member_filter h (x ∷ xs) y m = by (h x) refl m (member_filter h xs y)
  where
    by : (o : Option _) → h x ≡ o → Member (cons_option o (filter_map h xs)) y → (Member (filter_map h xs) y → (z : _) × Member xs z × (h z ≡ Some y)) → (z : _) × Member (x ∷ xs) z × (h z ≡ Some y)
    by None is n more = (let (z, there, same) = more n in (z, inr there, same))
    by (Some w) is (inl same) more = (x, inl refl, is ∙ ap Some same)
    by (Some w) is (inr n) more = (let (z, there, same) = more n in (z, inr there, same))

pub filter_member : {X Y : Type 0} (h : X → Option Y) (xs : List X) (x : X) (y : Y) → Member xs x → h x ≡ Some y → Member (filter_map h xs) y
filter_member h [] x y m is = absurd m
filter_member h (z ∷ xs) x y (inl same) is = subst (λ o. Member (cons_option o (filter_map h xs)) y) (sym (ap h same ∙ is)) (inl refl)
filter_member h (z ∷ xs) x y (inr m) is = by (h z) (filter_member h xs x y m is)
  where
    by : (o : Option _) → Member (filter_map h xs) y → Member (cons_option o (filter_map h xs)) y
    by None n = n
    by (Some w) n = inr n

pub member_numbered : {X : Type 0} (n : ℕ) (xs : List X) (e : ℕ × X) → Member (enumerate_from n xs) e → (i : ℕ) × (slice_get xs i ≡ Some e.1) × (e.0 ≡ n + i)
member_numbered n [] e h = absurd h
member_numbered n (x ∷ xs) e (inl same) = (let first = ap (λ z. z.0) same in (0, ap (λ z. Some z.1) same, omega (arith, first)))
member_numbered n (x ∷ xs) e (inr h) = (let (i, at, number) = member_numbered (n + 1) xs e h in (suc i, at, omega (arith, number)))

pub numbered_member : {X : Type 0} (n : ℕ) (xs : List X) (i : ℕ) (x : X) → slice_get xs i ≡ Some x → Member (enumerate_from n xs) (n + i, x)
numbered_member n [] i x at = absurd (none_some at)
numbered_member n (y ∷ xs) zero x at = (let e : n ≡ n + 0 = omega arith in inl (ap (λ z. (n, z)) (some_one at) ∙ ap (λ m. (m, x)) e))
numbered_member n (y ∷ xs) (suc i) x at =
    let e : (n + 1) + i ≡ n + suc i = omega arith in
    inr (subst (λ m. Member (enumerate_from (n + 1) xs) (m, x)) e (numbered_member (n + 1) xs i x at))

pub find_member : {X : Type 0} (test : X → Bool) (xs : List X) (x : X) → find test xs ≡ Some x → Member xs x × (test x ≡ true)
find_member test [] x h = absurd (none_some h)
find_member test (y ∷ xs) x h = elim (cases_Bool (test y)) [
  | inl its ↦ (let same = some_one (sym (ap (λ b. cond b (Some y) (find test xs)) its) ∙ h) in (inl same, ap test (sym same) ∙ its))
  | inr isnt ↦ (let r = find_member test xs x (sym (ap (λ b. cond b (Some y) (find test xs)) isnt) ∙ h) in (inr r.0, r.1))
]

pub find_some : {X : Type 0} (test : X → Bool) (xs : List X) (x : X) → Member xs x → test x ≡ true → (y : X) × (find test xs ≡ Some y)
find_some test [] x h passes = absurd h
find_some test (y ∷ xs) x (inl same) passes = (y, ap (λ b. cond b (Some y) (find test xs)) (ap test same ∙ passes))
find_some test (y ∷ xs) x (inr h) passes = by (test y) (find_some test xs x h passes)
  where
    by : (b : Bool) → (z : _) × (find test xs ≡ Some z) → (z : _) × (cond b (Some y) (find test xs) ≡ Some z)
    by true r = (y, refl)
    by false r = r

pub range_at : (a n i : ℕ) → i < n → slice_get (range_with_len a n) i ≡ Some (a + i)
range_at a zero i lt = absurd (omega arith)
range_at a (suc n) zero lt = (let e : a ≡ a + 0 = omega arith in ap Some e)
range_at a (suc n) (suc i) lt = (let e : (a + 1) + i ≡ a + suc i = omega arith in range_at (a + 1) n i (omega arith) ∙ ap Some e)

pub at_range : (a n i x : ℕ) → slice_get (range_with_len a n) i ≡ Some x → (i < n) × (x ≡ a + i)
at_range a zero i x at = absurd (none_some at)
at_range a (suc n) zero x at = (let same = some_one at in (omega arith, omega (arith, same)))
at_range a (suc n) (suc i) x at = (let (lt, is) = at_range (a + 1) n i x at in (omega (arith, lt), omega (arith, is)))
