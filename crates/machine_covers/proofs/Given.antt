-- The rows of a function's result are those of its number.
use Rattle.std.proofs.Common.{arith, ◌≡◌, ◌∙◌, ℕ, zero, suc, ◌+◌, ◌<◌, ◌≤◌, Bool, true, false, cond, List, [], ◌∷◌, Option, Some, None, length, map, sum, take, slice_get, refl, sym, ap, subst}
use Rattle.std.specs.Prelude.{unwrap_or, sum_by, count_by}
use Rattle.std.specs.Option.{is_some, option_map_or}
use Rattle.std.specs.List.{AllZip, cons_option, enumerate_from, filter_map, range_with_len}
use Rattle.std.proofs.lemmas.List.{length-map, take_all}
use Rattle.std.proofs.lemmas.List.Sums.{sum_by-cons}
use Rattle.std.proofs.lemmas.Option.{slice_get_within}
use Rattle.c_types.specs.declared.key.ObjectKey.{ObjectKey}
use Rattle.c_types.specs.declared.key.ObjectKey.TheVariants.{Entity as EntityKey}
use Rattle.core_tree.specs.Typed.{CoreTrees}
use Rattle.sol_model.specs.declared.system.Function.{Function}
use Rattle.sol_model.specs.declared.system.LocationFact.{LocationFact}
use Rattle.obj_space.specs.declared.location.Location.{Location}
use Rattle.obj_space.specs.View.{SpaceView, first_from, view_of}
use Rattle.row_numbers.specs.Kept.{kept_count}
use Rattle.row_numbers.specs.Functions.{object_at, function_keys, functions_below, functions_of, number_of}
use Rattle.row_numbers.specs.Setting.{width, widths, result_nodes, result_widths, result_row, start_at}
use Rattle.normal_form.specs.Facts.{IsFunctionFact, number_if, location_fact}
use Rattle.covering_laws.proofs.covered_memory.Firsts.{is_first}
use Rattle.covering_laws.specs.covered_state.World.{World, trees_of, view_in}
use Rattle.covered_runs.proofs.covered_steps.covered_effects.Needs.{function_first}
use Rattle.machine_covers.specs.Frames.{numbered, width_in, width_of, result_start}

none_some : {X : Type 0} → {x : X} → ◌≡◌ {A = Option X} None (Some x) → ⊥
none_some h = cc

take_range : (a n k : ℕ) → k ≤ n → take k (range_with_len a n) ≡ range_with_len a k
take_range a n zero le = refl
take_range a zero (suc k) le = absurd (omega arith)
take_range a (suc n) (suc k) le = ap (λ (xs : List ℕ). a ∷ xs) (take_range (a + 1) n k (omega arith))

take_map : {X Y : Type 0} (f : X → Y) (xs : List X) (k : ℕ) → take k (map f xs) ≡ map f (take k xs)
take_map f xs zero = refl
take_map f [] (suc k) = refl
take_map f (x ∷ xs) (suc k) = ap (λ (ys : List _). f x ∷ ys) (take_map f xs k)

abbrev stands : LocationFact → Bool
stands fact = is_some fact.function

one_more : (o : Option ObjectKey) (before : ℕ) (rest : List ObjectKey) → cond (is_some (number_if o before)) 1 0 + length rest ≡ length (cons_option o rest)
one_more None before rest = (let e : 0 + length rest ≡ length rest = omega arith in e)
one_more (Some key) before rest = (let e : 1 + length rest ≡ suc (length rest) = omega arith in e)

module _ (u : CoreTrees) (s : SpaceView) where
  counted : (a n : ℕ) → count_by stands (map (location_fact u s) (range_with_len a n)) ≡ length (filter_map (λ (found : Option ObjectKey). found) (map (object_at s (function_keys u)) (range_with_len a n)))
  counted a zero = refl
  counted a (suc n) =
      sum_by-cons (λ (x : LocationFact). cond (stands x) 1 0) (location_fact u s a) (map (location_fact u s) (range_with_len (a + 1) n))
      ∙ (ap (λ (k : ℕ). cond (stands (location_fact u s a)) 1 0 + k) (counted (a + 1) n)
      ∙ one_more (object_at s (function_keys u) a) (length (functions_below u s a)) (filter_map (λ (found : Option ObjectKey). found) (map (object_at s (function_keys u)) (range_with_len (a + 1) n))))

module _ (u : CoreTrees) (space : List Location) where
  abbrev key_width : ObjectKey → ℕ
  key_width key = kept_count (result_nodes u key)

  widths_along : (base : ℕ) (keys : List ObjectKey) (functions : List Function) → AllZip (λ (entry : ℕ × ObjectKey) (function : Function). IsFunctionFact u (view_of space) entry.0 entry.1 function) (enumerate_from base keys) functions
      → ((i : ℕ) (key : ObjectKey) → slice_get keys i ≡ Some key → (l : ℕ) × (first_from 0 space key ≡ Some l)) → map (width_of u space) functions ≡ map key_width keys
  widths_along base [] [] h first = refl
  widths_along base [] (f ∷ functions) h first = absurd h
  widths_along base (key ∷ keys) [] h first = absurd h
  widths_along base (key ∷ keys) (f ∷ functions) h first =
      let l = first 0 key refl in
      let here = (is_first space key l.0 l.1).here in
      let at : f.location ≡ l.0 = h.0.location ∙ ap (λ (o : Option ℕ). unwrap_or o 0) l.1 in
      let one : width_of u space f ≡ key_width key =
      ap (λ (k : ℕ). width_in u (slice_get space k)) at ∙ (ap (width_in u) here.1 ∙ ap key_width here.2) in
      ap (λ (k : ℕ). k ∷ map (width_of u space) functions) one ∙ ap (λ (ks : List ℕ). key_width key ∷ ks) (widths_along (base + 1) keys functions h.1 (λ i k e. first (suc i) k e))

module _ (world : World) where
  abbrev u' : CoreTrees
  u' = trees_of world

  before : (l : ℕ) → l ≤ length world.space → numbered world.system (Some l) ≡ length (functions_below u' (view_in world) l)
  unfolding functions_below
  before l le =
      ap (λ (facts : List LocationFact). count_by stands (take l facts)) world.is_system.locations
      ∙ (ap (count_by stands) (take_map (location_fact u' (view_in world)) (range_with_len 0 (length world.space)) l ∙ ap (map (location_fact u' (view_in world))) (take_range 0 (length world.space) l le))
      ∙ counted u' (view_in world) 0 l)

  number_is : (f : ℕ) → numbered world.system (first_from 0 world.space (EntityKey f)) ≡ number_of u' (view_in world) f
  number_is f = by (first_from 0 world.space (EntityKey f)) refl
    where
      by : (o : Option ℕ) → first_from 0 world.space (EntityKey f) ≡ o → numbered world.system (first_from 0 world.space (EntityKey f)) ≡ number_of u' (view_in world) f
      by None e = ap (numbered world.system) e ∙ sym (ap (λ (o : Option ℕ). option_map_or (λ (l : ℕ). length (functions_below u' (view_in world) l)) o 0) e)
      by (Some l) e =
          let here = (is_first world.space (EntityKey f) l e).here in
          let lt = slice_get_within world.space l here.0 here.1 in
          ap (numbered world.system) e ∙ (before l (omega arith) ∙ sym (ap (λ (o : Option ℕ). option_map_or (λ (k : ℕ). length (functions_below u' (view_in world) k)) o 0) e))

  pub start_same : (f : ℕ) → result_start u' world.space world.system (numbered world.system (first_from 0 world.space (EntityKey f))) ≡ result_row u' (view_in world) (number_of u' (view_in world) f)
  unfolding result_row
  start_same f =
      let long = length-map u'.nodes (width u') in
      let all : take (length u'.nodes) (widths u') ≡ widths u' = take_all (length u'.nodes) (widths u') (omega arith) in
      ap (λ (ws : List ℕ). start_at (length world.space + sum ws) (map (width_of u' world.space) world.system.functions) (numbered world.system (first_from 0 world.space (EntityKey f)))) all
      ∙ (ap (λ (ws : List ℕ). start_at (length world.space + sum (widths u')) ws (numbered world.system (first_from 0 world.space (EntityKey f)))) (widths_along u' world.space 0 (functions_of u' (view_in world)) world.system.functions world.is_system.functions (λ i key e. function_first u' (view_in world) i key e))
      ∙ ap (λ (n : ℕ). start_at (length world.space + sum (widths u')) (result_widths u' (view_in world)) n) (number_is f))
