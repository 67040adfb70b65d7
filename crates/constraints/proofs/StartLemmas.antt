-- The constraints of a start, one more.
use Rattle.std.proofs.Common.{◌≡◌, ◌∙◌, ℕ, ◌+◌, ◌<◌, Bool, cond, List, [], ◌∷◌, ◌++◌, length, take, get_or, map, ap, sym, append_assoc, append-nil}
use Rattle.std.specs.Prelude.{◌==◌, filter, not}
use Rattle.std.specs.List.{flat_map}
use Rattle.std.proofs.lemmas.List.{take_more, map-append}
use Rattle.std.proofs.lemmas.List.Elements.{filter_more}
use Rattle.std.proofs.lemmas.List.Concat.{flat_map-append}
use Rattle.c_types.specs.declared.key.ObjectKey.{ObjectKey}
use Rattle.core_tree.specs.Typed.{CoreTrees}
use Rattle.sol_model.specs.declared.system.Constraint.{Constraint}
use Rattle.sol_model.specs.declared.system.Constraint.TheVariants.{Copy}
use Rattle.obj_space.specs.View.{SpaceView}
use Rattle.row_numbers.specs.Functions.{parameters_of}
use Rattle.row_numbers.specs.Setting.{none_row}
use Rattle.normal_form.specs.Facts.{parameter_rows}
use Rattle.normal_form.specs.SystemOf.{taken_in, given_out, result_rows, entry_constraints}

-- what one element more adds
pub added_more : {X Y : Type 0} (f : X → List Y) (xs : List X) (i : ℕ) (d : X) (start old new : List Y) → i < length xs
    → new ≡ old ++ f (get_or xs i d) → old ≡ start ++ flat_map f (take i xs) → new ≡ start ++ flat_map f (take (i + 1) xs)
added_more f xs i d start old new lt more before =
    let x = get_or xs i d in
    let last : flat_map f (take (i + 1) xs) ≡ flat_map f (take i xs) ++ f x =
    ap (flat_map f) (take_more xs i d lt) ∙ (flat_map-append f (take i xs) (x ∷ []) ∙ ap (λ (ys : List _). flat_map f (take i xs) ++ ys) (append-nil (f x))) in
    more ∙ (ap (λ (ys : List _). ys ++ f x) before ∙ (append_assoc start (flat_map f (take i xs)) (f x) ∙ ap (λ (ys : List _). start ++ ys) (sym last)))

-- and one that a test lets through or not
pub picked_more : {X Y : Type 0} (f : X → Y) (test : X → Bool) (xs : List X) (i : ℕ) (d : X) (b : Bool) (start old new : List Y) → i < length xs → test (get_or xs i d) ≡ b
    → new ≡ old ++ map f (cond b (get_or xs i d ∷ []) []) → old ≡ start ++ map f (filter test (take i xs)) → new ≡ start ++ map f (filter test (take (i + 1) xs))
picked_more f test xs i d b start old new lt is more before =
    let x = get_or xs i d in
    let kept = filter test (take i xs) in
    let last : map f (filter test (take (i + 1) xs)) ≡ map f kept ++ map f (cond b (x ∷ []) []) =
    ap (map f) (filter_more test xs i d lt) ∙ (map-append f kept (cond (test x) (x ∷ []) []) ∙ ap (λ (passes : Bool). map f kept ++ map f (cond passes (x ∷ []) [])) is) in
    more ∙ (ap (λ (ys : List _). ys ++ map f (cond b (x ∷ []) [])) before ∙ (append_assoc start (map f kept) (map f (cond b (x ∷ []) [])) ∙ ap (λ (ys : List _). start ++ ys) (sym last)))

module _ (u : CoreTrees) (s : SpaceView) (outside none : ℕ) (is : none ≡ none_row u s) where
  -- one parameter more
  pub parameter_more : (keys : List ObjectKey) (i : ℕ) (d : ObjectKey) (rows seen : List ℕ) (start old new : List Constraint) → i < length keys → rows ≡ parameter_rows u s (get_or keys i d) → seen ≡ rows
      → new ≡ old ++ map (λ row. Copy outside row) (filter (λ row. not (row == none)) seen)
      → old ≡ start ++ flat_map (λ key. taken_in u s outside (parameter_rows u s key)) (take i keys)
      → new ≡ start ++ flat_map (λ key. taken_in u s outside (parameter_rows u s key)) (take (i + 1) keys)
  parameter_more keys i d rows seen start old new lt its same more before =
      let given : map {B = Constraint} (λ row. Copy outside row) (filter (λ row. not (row == none)) seen) ≡ taken_in u s outside (parameter_rows u s (get_or keys i d)) =
      ap (λ (n : ℕ). map {B = Constraint} (λ row. Copy outside row) (filter (λ row. not (row == n)) seen)) is ∙ ap (taken_in u s outside) (same ∙ its) in
      added_more (λ key. taken_in u s outside (parameter_rows u s key)) keys i d start old new lt (more ∙ ap (λ (ks : List Constraint). old ++ ks) given) before

  -- what is written for an entry
  pub entry_written : (e : ℕ) (keys : List ObjectKey) (rows seen : List ℕ) (start middle new : List Constraint) → keys ≡ parameters_of u s e
      → middle ≡ start ++ flat_map (λ key. taken_in u s outside (parameter_rows u s key)) keys → rows ≡ result_rows u s e → seen ≡ rows
      → new ≡ middle ++ map (λ row. Copy row outside) (filter (λ row. not (row == none)) seen) → new ≡ start ++ entry_constraints u s outside e
  entry_written e keys rows seen start middle new owned before its same more =
      let taken = λ (ks : List ObjectKey). flat_map (λ key. taken_in u s outside (parameter_rows u s key)) ks in
      let given : map {B = Constraint} (λ row. Copy row outside) (filter (λ row. not (row == none)) seen) ≡ given_out u s outside (result_rows u s e) =
      ap (λ (n : ℕ). map {B = Constraint} (λ row. Copy row outside) (filter (λ row. not (row == n)) seen)) is ∙ ap (given_out u s outside) (same ∙ its) in
      let first : middle ≡ start ++ taken (parameters_of u s e) = before ∙ ap (λ (ks : List ObjectKey). start ++ taken ks) owned in
      more
      ∙ (ap (λ (ks : List Constraint). middle ++ ks) given
      ∙ (ap (λ (ks : List Constraint). ks ++ given_out u s outside (result_rows u s e)) first ∙ append_assoc start (taken (parameters_of u s e)) (given_out u s outside (result_rows u s e))))
