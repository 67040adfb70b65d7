-- What a call gets from a library function is among the call's fresh objects.
use Rattle.std.proofs.Common.{arith, ◌≡◌, ◌∙◌, ℕ, zero, suc, ◌+◌, Bool, true, cond, List, [], ◌∷◌, Option, Some, None, slice_get, Contains, sym, ap, subst}
use Rattle.std.specs.Option.{option_map}
use Rattle.std.specs.List.{filter_map, enumerate_from, cons_option}
use Rattle.lib_summaries.specs.Table.{effects_of}
use Rattle.c_types.specs.declared.key.ObjectKey.{ObjectKey}
use Rattle.c_types.specs.declared.key.ObjectKey.TheVariants.{Function as FunctionKey}
use Rattle.core_tree.specs.declared.node.Node.{Node}
use Rattle.sol_model.specs.declared.system.CallSite.{CallSite}
use Rattle.row_numbers.specs.Functions.{functions_of}
use Rattle.row_numbers.specs.Setting.{Setting}
use Rattle.call_sites.specs.Calls.{named_library, is_giver, giver_in, givers_in, object_by, fresh_by, IsCallSite}
use Rattle.covering_laws.proofs.covered_rows.Lists.{first_has, behind_has}

some_one : {X : Type 0} → {x y : X} → ◌≡◌ {A = Option X} (Some x) (Some y) → x ≡ y
some_one h = cc

none_some : {X : Type 0} → {x : X} → ◌≡◌ {A = Option X} None (Some x) → ⊥
none_some h = cc

pub filter_map_has : {X Y : Type 0} (h : X → Option Y) (xs : List X) (x : X) (y : Y) → Contains xs x → h x ≡ Some y → Contains (filter_map h xs) y
filter_map_has h [] x y c e = absurd (let lt = c.1 in omega arith)
filter_map_has {Y = Y} h (z ∷ xs) x y (zero, lt, is) e = subst (λ (o : Option Y). Contains (cons_option o (filter_map h xs)) y) (sym (ap h is ∙ e)) (first_has y (filter_map h xs))
filter_map_has {Y = Y} h (z ∷ xs) x y (suc k, lt, is) e = by (h z) (filter_map_has h xs x y (k, omega arith, is) e)
  where
    by : (o : Option Y) → Contains (filter_map h xs) y → Contains (cons_option o (filter_map h xs)) y
    by None c = c
    by (Some v) c = behind_has y v (filter_map h xs) c

pub numbered_has : (n : ℕ) (xs : List ObjectKey) (i : ℕ) (x : ObjectKey) → slice_get xs i ≡ Some x → Contains {X = ℕ × ObjectKey} (enumerate_from n xs) (n + i, x)
numbered_has n [] i x e = absurd (none_some e)
numbered_has n (y ∷ xs) zero x e =
    subst (λ (z : ObjectKey). Contains {X = ℕ × ObjectKey} ((n, y) ∷ enumerate_from (n + 1) xs) (n + 0, z)) (some_one e)
    (subst (λ (k : ℕ). Contains {X = ℕ × ObjectKey} ((n, y) ∷ enumerate_from (n + 1) xs) (k, y)) (let q : n ≡ n + 0 = omega arith in q) (first_has {X = ℕ × ObjectKey} (n, y) (enumerate_from (n + 1) xs)))
numbered_has n (y ∷ xs) (suc i) x e =
    subst (λ (k : ℕ). Contains {X = ℕ × ObjectKey} ((n, y) ∷ enumerate_from (n + 1) xs) (k, x)) (let q : (n + 1) + i ≡ n + suc i = omega arith in q)
    (behind_has {X = ℕ × ObjectKey} ((n + 1) + i, x) (n, y) (enumerate_from (n + 1) xs) (numbered_has (n + 1) xs i x e))

-- the object that a call gets from the library function of a number
pub fresh_there : (w : Setting) (n : ℕ) (node : Node) (site : CallSite) → IsCallSite w n node site → (target library l : ℕ) → slice_get (functions_of w.trees w.space) target ≡ Some (FunctionKey library)
    → is_giver (FunctionKey library) ≡ true → object_by w.space n (named_library w.trees node) library (effects_of library) ≡ Some l → Contains {X = ℕ × ℕ} site.fresh (target, l)
fresh_there w n node site call target library l there giver object =
    subst (λ (list : List (ℕ × ℕ)). Contains {X = ℕ × ℕ} list (target, l)) (sym call.fresh)
    (filter_map_has {X = ℕ × ℕ} {Y = ℕ × ℕ} (fresh_by w.space n (named_library w.trees node)) (givers_in (functions_of w.trees w.space)) (target, library) (target, l)
    (filter_map_has {X = ℕ × ObjectKey} {Y = ℕ × ℕ} (λ entry. giver_in entry.0 entry.1) (enumerate_from 0 (functions_of w.trees w.space)) (target, FunctionKey library) (target, library)
    (subst (λ (k : ℕ). Contains {X = ℕ × ObjectKey} (enumerate_from 0 (functions_of w.trees w.space)) (k, FunctionKey library)) (let q : 0 + target ≡ target = omega arith in q)
    (numbered_has 0 (functions_of w.trees w.space) target (FunctionKey library) there))
    (ap (λ (b : Bool). let r : Option (ℕ × ℕ) = cond b (Some (target, library)) None in r) giver))
    (ap (λ (o : Option ℕ). let r : Option (ℕ × ℕ) = option_map (λ (k : ℕ). (target, k)) o in r) object))
