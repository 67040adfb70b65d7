-- The index as a list of keys and numbers.
use Rattle.std.proofs.Common.{◌≡◌, ℕ, List, [], ◌∷◌, refl, ap, sym, ◌∙◌, Option, Some, map, Bool, true, false, cond, Vec}
use Rattle.std.specs.declared.cmp.Ordering.{Ordering}
use Rattle.std.specs.declared.cmp.Ordering.TheVariants.{Equal}
use Rattle.std.specs.Global.{Global}
use Rattle.std.specs.Ordering.{nat_cmp, is_eq, eq_by_cmp}
use Rattle.std.specs.Cmp.Lexicographic.{slice_cmp}
use Rattle.std.proofs.lemmas.Cmp.{nat_list_cmp_total}
use Rattle.std.proofs.lemmas.Map.Lookups.{exact_bytes}
use Rattle.std.specs.Map.{lookup, KeepsOthers}
use Rattle.c_types.specs.Index.{number_at}

abbrev pub shown : List (Vec ℕ Global × ℕ) → List (List ℕ × ℕ)
shown es = map (λ e. (e.0.items, e.1)) es

pub shown_lookup : (es : List (Vec ℕ Global × ℕ)) (q : List ℕ) → number_at (shown es) q ≡ lookup (λ v. is_eq (slice_cmp nat_cmp q v.items)) es
shown_lookup [] q = refl
shown_lookup (e ∷ es) q =
    ap (λ (r : Option ℕ). cond (is_eq (slice_cmp nat_cmp q e.0.items)) (Some e.1) r) (shown_lookup es q)

is_equal : (o : Ordering) → is_eq o ≡ true → o ≡ Equal
is_equal Equal h = refl
is_equal _ h = cc

not_true : (b : Bool) → (b ≡ true → ⊥) → b ≡ false
not_true true h = absurd (h refl)
not_true false h = refl

-- a query for another list finds what it found
pub shown_others : (old new : List (Vec ℕ Global × ℕ)) (key : Vec ℕ Global) → KeepsOthers (eq_by_cmp (λ x y. slice_cmp nat_cmp x.items y.items)) (λ v. is_eq (slice_cmp nat_cmp key.items v.items)) old new → (q : List ℕ) → (key.items ≡ q → ⊥) → number_at (shown new) q ≡ number_at (shown old) q
unfolding KeepsOthers
shown_others old new key keeps q apart =
    shown_lookup new q
    ∙ (keeps (λ v. is_eq (slice_cmp nat_cmp q v.items)) (λ x y h. sym (ap is_eq (sym (nat_list_cmp_total.congr q x.items y.items (is_equal _ h)))))
    (λ v h. not_true _ (λ g. apart (exact_bytes key.items v.items (is_equal _ h) ∙ sym (exact_bytes q v.items (is_equal _ g)))))
    ∙ sym (shown_lookup old q))
