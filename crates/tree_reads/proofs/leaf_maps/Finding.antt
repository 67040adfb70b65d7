-- Numbers found among leaves that rise.
use Rattle.std.proofs.Common.{arith, ◌≡◌, ℕ, zero, suc, ◌+◌, ◌-◌, ◌<◌, ◌≤◌, Bool, true, false, List, [], ◌∷◌, ◌++◌, Option, Some, None, cond, length, get_or, refl, sym, ap, ◌∙◌, length-append, ◌⊎◌, inl, inr}
use Rattle.std.proofs.lemmas.List.{get_or_append_left}
use Rattle.std.proofs.Math.Seq.{get_or-append_seam}
use Rattle.std.proofs.lemmas.Bool.Decides.{leb_tells}
use Rattle.std.specs.Ordering.{nat_cmp, is_eq}
use Rattle.c_senses.specs.World.{or_else}
use Rattle.tree_reads.specs.leaf_maps.Numbers.{number_at}
use Rattle.tree_reads.specs.leaf_maps.Rising.{pairs_of, AreRising}
use Rattle.tree_reads.proofs.leaf_maps.Apart.{not_equal, equal_to}

-- what is found in one list behind another
pub found_in : (xs ys : List (ℕ × ℕ)) (q : ℕ) → number_at (xs ++ ys) q ≡ or_else (number_at xs q) (number_at ys q)
found_in [] ys q = refl
found_in ((k, v) ∷ xs) ys q = elim (is_eq (nat_cmp q k)) as (λ b. cond b (Some v) (number_at (xs ++ ys) q) ≡ or_else (cond b (Some v) (number_at xs q)) (number_at ys q)) [
  | true ↦ refl
  | false ↦ found_in xs ys q
]

-- a leaf that is there
pub found_at : (leaves numbers : List ℕ) (i q : ℕ) → length leaves ≤ length numbers → ((a b : ℕ) → a < b → b < length leaves → get_or leaves a 0 < get_or leaves b 0) → i < length leaves → get_or leaves i 0 ≡ q → number_at (pairs_of leaves numbers) q ≡ Some (get_or numbers i 0)
found_at [] numbers i q long rises h e = absurd (omega arith)
found_at (k ∷ ks) [] i q long rises h e = absurd (omega arith)
found_at (k ∷ ks) (v ∷ vs) zero q long rises h e = ap (λ (b : Bool). cond b (Some v) (number_at (pairs_of ks vs) q)) (equal_to q k (sym e))
found_at (k ∷ ks) (v ∷ vs) (suc i) q long rises h e =
    let above : k < get_or ks i 0 = rises 0 (suc i) (omega arith) h in
    let rest = found_at ks vs i q (omega arith) (λ a b less k. rises (suc a) (suc b) (omega arith) (omega arith)) (omega arith) e in
    ap (λ (b : Bool). cond b (Some v) (number_at (pairs_of ks vs) q)) (not_equal q k (λ same. omega (arith, above, e, same))) ∙ rest

-- one that isn't
pub missing : (leaves numbers : List ℕ) (q : ℕ) → ((i : ℕ) → i < length leaves → get_or leaves i 0 ≡ q → ⊥) → number_at (pairs_of leaves numbers) q ≡ None
missing [] numbers q none = refl
missing (k ∷ ks) [] q none = refl
missing (k ∷ ks) (v ∷ vs) q none =
    ap (λ (b : Bool). cond b (Some v) (number_at (pairs_of ks vs) q)) (not_equal q k (λ same. none 0 (omega arith) (sym same)))
    ∙ missing ks vs q (λ i h e. none (suc i) (omega arith) e)

-- one leaf more
pub pairs_more : (leaves numbers : List ℕ) (leaf number : ℕ) → length leaves ≡ length numbers → pairs_of (leaves ++ leaf ∷ []) (numbers ++ number ∷ []) ≡ pairs_of leaves numbers ++ (leaf, number) ∷ []
pairs_more [] [] leaf number e = refl
pairs_more [] (v ∷ vs) leaf number e = absurd (omega arith)
pairs_more (k ∷ ks) [] leaf number e = absurd (omega arith)
pairs_more (k ∷ ks) (v ∷ vs) leaf number e = ap (λ (l : List (ℕ × ℕ)). (k, v) ∷ l) (pairs_more ks vs leaf number (omega arith))

below_or_end : (i n : ℕ) → i < n + 1 → (i < n) ⊎ (i ≡ n)
below_or_end i n h = elim (leb_tells (suc i) n) [ inl less ↦ let lt = less.1 in inl (omega arith) | inr more ↦ let ge = more.1 in inr (omega arith) ]

pub rising_more : (leaves numbers : List ℕ) (leaf number : ℕ) → AreRising leaves numbers → (0 < length leaves → get_or leaves (length leaves - 1) 0 < leaf) → AreRising (leaves ++ leaf ∷ []) (numbers ++ number ∷ [])
rising_more leaves numbers leaf number are behind = record {
  long = omega (arith, are.long, length-append leaves (leaf ∷ []), length-append numbers (number ∷ []));
  rises = λ i j less h.
      let n = length leaves in
      let long : length (leaves ++ leaf ∷ []) ≡ n + 1 = omega (arith, length-append leaves (leaf ∷ [])) in
      elim (below_or_end j n (omega arith)) [
        | inl before ↦
            let a = get_or_append_left leaves (leaf ∷ []) 0 i (omega arith) in
            let b = get_or_append_left leaves (leaf ∷ []) 0 j before in
            let c = are.rises i j less before in
            omega (arith, a, b, c)
        | inr end ↦
            let a = get_or_append_left leaves (leaf ∷ []) 0 i (omega arith) in
            let b : get_or (leaves ++ leaf ∷ []) j 0 ≡ leaf = ap (λ (k : ℕ). get_or (leaves ++ leaf ∷ []) k 0) end ∙ get_or-append_seam leaves leaf [] 0 in
            let c = behind (omega arith) in
            let d = last_above i (omega arith) in
            omega (arith, a, b, c, d)
      ];
}
  where
    last_above : (i : ℕ) → i < length leaves → get_or leaves i 0 ≤ get_or leaves (length leaves - 1) 0
    last_above i h = elim (below_or_end i (length leaves - 1) (omega arith)) [
      | inl less ↦ let c = are.rises i (length leaves - 1) less (omega arith) in omega (arith, c)
      | inr same ↦ let e = ap (λ (k : ℕ). get_or leaves k 0) same in omega (arith, e)
    ]

pub rising_longer : (leaves numbers : List ℕ) (number : ℕ) → AreRising leaves numbers → AreRising leaves (numbers ++ number ∷ [])
rising_longer leaves numbers number are = record { long = omega (arith, are.long, length-append numbers (number ∷ [])); rises = are.rises }

pub rises_all : (leaves numbers : List ℕ) → AreRising leaves numbers → (i j : ℕ) → i ≤ j → j < length leaves → get_or leaves i 0 ≤ get_or leaves j 0
rises_all leaves numbers are i j le h = elim (leb_tells (suc i) j) [
  | inl less ↦ let lt = less.1 in let c = are.rises i j (omega arith) h in omega (arith, c)
  | inr more ↦ let ge = more.1 in let same : i ≡ j = omega arith in let e = ap (λ (k : ℕ). get_or leaves k 0) same in omega (arith, e)
]

-- a leaf behind those that rise isn't among them
pub missing_behind : (leaves numbers : List ℕ) (leaf : ℕ) → AreRising leaves numbers → (0 < length leaves → get_or leaves (length leaves - 1) 0 < leaf) → number_at (pairs_of leaves numbers) leaf ≡ None
missing_behind leaves numbers leaf are behind = missing leaves numbers leaf (λ i h e.
    let last = behind (omega arith) in
    let below = rises_all leaves numbers are i (length leaves - 1) (omega arith) (omega arith) in
    omega (arith, last, below, e))

none_first : (a b : Option ℕ) → or_else a b ≡ None → a ≡ None
none_first None b h = refl
none_first (Some x) b h = h

none_kept : (a b : Option ℕ) → or_else (or_else a None) b ≡ or_else a b
none_kept None b = refl
none_kept (Some x) b = refl

-- a leaf behind the others gets its number
pub put_behind : (leaves numbers : List ℕ) (others : List (ℕ × ℕ)) (leaf number : ℕ) → length leaves ≡ length numbers → number_at (pairs_of leaves numbers ++ others) leaf ≡ None → number_at (pairs_of (leaves ++ leaf ∷ []) (numbers ++ number ∷ []) ++ others) leaf ≡ Some number
put_behind leaves numbers others leaf number long free =
    let pairs = pairs_of leaves numbers in
    let none : number_at pairs leaf ≡ None = none_first (number_at pairs leaf) (number_at others leaf) (sym (found_in pairs others leaf) ∙ free) in
    let one : number_at ((leaf, number) ∷ []) leaf ≡ Some number = ap (λ (b : Bool). cond b (Some number) None) (equal_to leaf leaf refl) in
    let here : number_at (pairs ++ (leaf, number) ∷ []) leaf ≡ Some number =
    found_in pairs ((leaf, number) ∷ []) leaf ∙ (ap (λ (o : Option ℕ). or_else o (number_at ((leaf, number) ∷ []) leaf)) none ∙ one) in
    ap (λ (l : List (ℕ × ℕ)). number_at (l ++ others) leaf) (pairs_more leaves numbers leaf number long)
    ∙ (found_in (pairs ++ (leaf, number) ∷ []) others leaf ∙ ap (λ (o : Option ℕ). or_else o (number_at others leaf)) here)

pub kept_behind : (leaves numbers : List ℕ) (others : List (ℕ × ℕ)) (leaf number q : ℕ) → length leaves ≡ length numbers → (leaf ≡ q → ⊥) → number_at (pairs_of (leaves ++ leaf ∷ []) (numbers ++ number ∷ []) ++ others) q ≡ number_at (pairs_of leaves numbers ++ others) q
kept_behind leaves numbers others leaf number q long apart =
    let pairs = pairs_of leaves numbers in
    let one : number_at ((leaf, number) ∷ []) q ≡ None = ap (λ (b : Bool). cond b (Some number) None) (not_equal q leaf (λ same. apart (sym same))) in
    let more : number_at (pairs ++ (leaf, number) ∷ []) q ≡ or_else (number_at pairs q) None =
    found_in pairs ((leaf, number) ∷ []) q ∙ ap (or_else (number_at pairs q)) one in
    ap (λ (l : List (ℕ × ℕ)). number_at (l ++ others) q) (pairs_more leaves numbers leaf number long)
    ∙ (found_in (pairs ++ (leaf, number) ∷ []) others q
    ∙ (ap (λ (o : Option ℕ). or_else o (number_at others q)) more
    ∙ (none_kept (number_at pairs q) (number_at others q) ∙ sym (found_in pairs others q))))

-- a number among the others
pub put_other : (pairs old new : List (ℕ × ℕ)) (leaf number : ℕ) → number_at (pairs ++ old) leaf ≡ None → number_at new leaf ≡ Some number → number_at (pairs ++ new) leaf ≡ Some number
put_other pairs old new leaf number free there =
    let none : number_at pairs leaf ≡ None = none_first (number_at pairs leaf) (number_at old leaf) (sym (found_in pairs old leaf) ∙ free) in
    found_in pairs new leaf ∙ (ap (λ (o : Option ℕ). or_else o (number_at new leaf)) none ∙ there)

pub kept_other : (pairs old new : List (ℕ × ℕ)) (q : ℕ) → number_at new q ≡ number_at old q → number_at (pairs ++ new) q ≡ number_at (pairs ++ old) q
kept_other pairs old new q same = found_in pairs new q ∙ (ap (or_else (number_at pairs q)) same ∙ sym (found_in pairs old q))
