-- What a program demands, demand by demand, and how often it stands in the system.
use Rattle.std.proofs.Common.{arith, ◌≡◌, ℕ, zero, suc, ◌+◌, ◌<◌, ◌⊎◌, inl, inr, List, [], ◌∷◌, ◌++◌, Option, Some, length, map, ap, sym, ◌∙◌}
use Rattle.std.specs.Prelude.{◌↔◌, Contains}
use Rattle.std.specs.List.{slice_get, range_with_len}
use Rattle.std.specs.Option.{option_map}
use Rattle.std.proofs.lemmas.List.Elements.{Contains-append_left, Contains-append_right, Contains-append_cases}
use Rattle.std.proofs.lemmas.List.Sorted.{IsPermutation-sym, Contains-permutation, length_permutation}
use Rattle.core_tree.specs.declared.node.Program.{Program}
use Rattle.sol_model.specs.declared.system.System.{System}
use Rattle.sol_model.specs.declared.system.Constraint.{Constraint}
use Rattle.sol_model.specs.declared.system.Constraint.TheVariants.{Call}
use Rattle.sol_model.proofs.Members.{Contains-at, at_Contains, at_range, Contains-range, Contains-map}
use Rattle.obj_space.specs.View.{SpaceView}
use Rattle.row_numbers.specs.Setting.{Setting}
use Rattle.normal_form.specs.declared.normal.Assignment.{Assignment}
use Rattle.normal_form.specs.Assignments.{assignments_of}
use Rattle.normal_form.specs.SystemOf.{constraint_of, library_constraints, start_constraints, demands_of, Demands, by_node, by_call, by_library, by_start, setting_of, SystemOf}

get_map : {X Y : Type 0} (f : X → Y) (xs : List X) (i : ℕ) (x : X) → slice_get xs i ≡ Some x → slice_get (map f xs) i ≡ Some (f x)
get_map f [] i x e = cc
get_map f (y ∷ xs) zero x e = ap (option_map f) e
get_map f (y ∷ xs) (suc i) x e = get_map f xs i x e

map_has : {X Y : Type 0} (f : X → Y) (xs : List X) (x : X) → Contains xs x → Contains (map f xs) (f x)
map_has f xs x h = let w = at_Contains xs x h in Contains-at (map f xs) w.0 (f x) (get_map f xs w.0 x w.2)

range_has : (n i : ℕ) → i < n → Contains (range_with_len 0 n) i
range_has n i lt = Contains-at (range_with_len 0 n) i i (at_range 0 n i lt ∙ ap (λ (k : ℕ). Some k) (omega arith))

four_cases : (a b c d : List Constraint) (k : Constraint) → Contains (a ++ b ++ c ++ d) k → (Contains a k ⊎ Contains b k) ⊎ (Contains c k ⊎ Contains d k)
four_cases a b c d k h = last (Contains-append_cases (a ++ b ++ c) d k h) where
  first : Contains a k ⊎ Contains b k → (Contains a k ⊎ Contains b k) ⊎ (Contains c k ⊎ Contains d k)
  first h = inl h

  middle : Contains (a ++ b) k ⊎ Contains c k → (Contains a k ⊎ Contains b k) ⊎ (Contains c k ⊎ Contains d k)
  middle (inl h) = first (Contains-append_cases a b k h)
  middle (inr h) = inr (inl h)

  last : Contains (a ++ b ++ c) k ⊎ Contains d k → (Contains a k ⊎ Contains b k) ⊎ (Contains c k ⊎ Contains d k)
  last (inl h) = middle (Contains-append_cases (a ++ b) c k h)
  last (inr h) = inr (inr h)

module _ (w : Setting) (calls : ℕ) (k : Constraint) where
  abbrev nodes : List Constraint
  nodes = map constraint_of (assignments_of w)

  abbrev rules : List Constraint
  rules = map (λ (call : ℕ). Call call) (range_with_len 0 calls)

  abbrev held : List Constraint
  held = library_constraints w.space

  abbrev begun : List Constraint
  begun = start_constraints w.trees w.space w.entries

  of_node : (a : Assignment) × Contains (assignments_of w) a × (k ≡ constraint_of a) → Demands w calls k
  of_node (a, h, e) = by_node h (sym e)

  of_call : (call : ℕ) × Contains (range_with_len 0 calls) call × (k ≡ Call call) → Demands w calls k
  of_call (call, h, e) = let (i, lt, q) = Contains-range 0 calls call h in by_call (omega (arith, lt, q)) (sym e)

  made : (Contains nodes k ⊎ Contains rules k) ⊎ (Contains held k ⊎ Contains begun k) → Demands w calls k
  made (inl (inl h)) = of_node (Contains-map constraint_of (assignments_of w) k h)
  made (inl (inr h)) = of_call (Contains-map {Y = Constraint} (λ (call : ℕ). Call call) (range_with_len 0 calls) k h)
  made (inr (inl h)) = by_library h
  made (inr (inr h)) = by_start h

  there : Demands w calls k → Contains (demands_of w calls) k
  there (by_node {a} h e) =
      Contains-append_left (nodes ++ rules ++ held) begun k
      (Contains-append_left (nodes ++ rules) held k (Contains-append_left nodes rules k (rw (← e) (map_has constraint_of (assignments_of w) a h))))
  there (by_call {call} lt e) =
      Contains-append_left (nodes ++ rules ++ held) begun k
      (Contains-append_left (nodes ++ rules) held k (Contains-append_right nodes rules k (rw (← e) (map_has {Y = Constraint} (λ (c : ℕ). Call c) (range_with_len 0 calls) call (range_has calls call lt)))))
  there (by_library h) = Contains-append_left (nodes ++ rules ++ held) begun k (Contains-append_right (nodes ++ rules) held k h)
  there (by_start h) = Contains-append_right (nodes ++ rules ++ held) begun k h

  pub demanded_list : Contains (demands_of w calls) k ↔ Demands w calls k
  demanded_list = (λ h. made (four_cases nodes rules held begun k h), there)

-- the constraints of a program's system are those that it demands
pub demanded : (p : Program) (s : SpaceView) (system : System) (is : SystemOf p s system) (c : Constraint) → Contains system.constraints c ↔ Demands (setting_of p s is.owners) (length system.calls) c
demanded p s system is c =
    let w : Setting = setting_of p s is.owners in
    let list : List Constraint = demands_of w (length system.calls) in (
      (λ h. (demanded_list w (length system.calls) c).0 (Contains-permutation system.constraints list c (IsPermutation-sym list system.constraints is.constraints) h)),
      λ d. Contains-permutation list system.constraints c is.constraints ((demanded_list w (length system.calls) c).1 d),
    )

-- and each stands there once for each demand
pub no_double : (p : Program) (s : SpaceView) (system : System) (c : Constraint) (is : SystemOf p s system) (double : SystemOf p s (record system { constraints = c ∷ system.constraints })) → double.owners ≡ is.owners → ⊥
no_double p s system c is double same =
    let n : ℕ = length system.calls in
    let one = length_permutation (demands_of (setting_of p s is.owners) n) system.constraints is.constraints in
    let other = length_permutation (demands_of (setting_of p s double.owners) n) (c ∷ system.constraints) double.constraints in
    let lists = ap (λ (owners : List (Option ℕ)). length (demands_of (setting_of p s owners) n)) same in
    omega (arith, one, other, lists)
