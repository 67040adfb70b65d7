-- The parts of a system with new numbers for its rows.
use Rattle.std.proofs.Common.{◌≡◌, ℕ, zero, suc, List, [], ◌∷◌, map, Option, Some, None, slice_get, option_map, option_and_then, Contains, zip, refl, sym, ◌∙◌, ap, subst}
use Rattle.std.proofs.lemmas.Option.{none-some, same_Some, slice_get-map}
use Rattle.sol_model.specs.declared.system.CallSite.{CallSite}
use Rattle.sol_model.specs.declared.system.Function.{Function}
use Rattle.sol_model.specs.Rules.{first_row, argument_row, parameter_row, AreJoined}
use Rattle.sol_model.proofs.Members.{at_Contains, Contains-at, Contains-map}
use Rattle.row_share.specs.share_laws.Renumbering.{renumbered_call, renumbered_function}

pub zip-map : {X X' Y Y' : Type 0} (f : X → X') (g : Y → Y') (xs : List X) (ys : List Y) → zip (map f xs) (map g ys) ≡ map (λ p. (f p.0, g p.1)) (zip xs ys)
zip-map f g [] ys = refl
zip-map f g (x ∷ xs) [] = refl
zip-map f g (x ∷ xs) (y ∷ ys) = ap (λ t. (f x, g y) ∷ t) (zip-map f g xs ys)

pub map_Contains : {X Y : Type 0} (f : X → Y) (xs : List X) (x : X) → Contains xs x → Contains (map f xs) (f x)
map_Contains f xs x h =
    let w = at_Contains xs x h in
    Contains-at (map f xs) w.0 (f x) (slice_get-map f xs w.0 ∙ ap (option_map f) w.2)

-- a pair of mapped lists, from a pair
pub zip_forward : {X Y : Type 0} (f : X → Y) (xs ys : List X) (x y : X) → Contains (zip xs ys) (x, y) → Contains (zip (map f xs) (map f ys)) (f x, f y)
zip_forward {X} {Y} f xs ys x y h = subst (λ (ps : List (Y × Y)). Contains ps (f x, f y)) (sym (zip-map f f xs ys)) (map_Contains (λ (p : X × X). (f p.0, f p.1)) (zip xs ys) (x, y) h)

-- and back
pub zip_back : {X Y : Type 0} (f : X → Y) (xs ys : List X) (x' y' : Y) → Contains (zip (map f xs) (map f ys)) (x', y')
    → (x : X) × (y : X) × (x' ≡ f x) × (y' ≡ f y) × Contains (zip xs ys) (x, y)
zip_back {X} {Y} f xs ys x' y' h =
    let w = Contains-map (λ (p : X × X). (f p.0, f p.1)) (zip xs ys) (x', y') (subst (λ (ps : List (Y × Y)). Contains ps (x', y')) (zip-map f f xs ys) h) in
    (w.0.0, w.0.1, ap (λ (p : Y × Y). p.0) w.2, ap (λ (p : Y × Y). p.1) w.2, w.1)

pub mapped_some : {X Y : Type 0} (f : X → Y) (o : Option X) (y : Y) → option_map f o ≡ Some y → (x : X) × (o ≡ Some x) × (y ≡ f x)
mapped_some f None y h = absurd (none-some y h)
mapped_some f (Some x) y h = (x, refl, sym (same_Some _ _ h))

module _ (new : ℕ → ℕ) where
  first_some : (o : Option (List ℕ)) → option_and_then first_row (option_map (map new) o) ≡ option_map new (option_and_then first_row o)
  first_some None = refl
  first_some (Some rows) = slice_get-map new rows 0

  first_map : (lists : List (List ℕ)) (k : ℕ) → option_and_then first_row (slice_get (map (map new) lists) k) ≡ option_map new (option_and_then first_row (slice_get lists k))
  first_map lists k = ap (option_and_then first_row) (slice_get-map (map new) lists k) ∙ first_some (slice_get lists k)

  pub argument_new : (call : CallSite) (k : ℕ) → argument_row (renumbered_call new call) k ≡ option_map new (argument_row call k)
  argument_new call zero = refl
  argument_new call (suc k) = first_map call.arguments k

  pub parameter_new : (function : Function) (k : ℕ) → parameter_row (renumbered_function new function) k ≡ option_map new (parameter_row function k)
  parameter_new function k = first_map function.parameters k

  pub result_new : (rows : List ℕ) → first_row (map new rows) ≡ option_map new (first_row rows)
  result_new rows = slice_get-map new rows 0

  pub joined_forward : (from to : List (List ℕ)) (a b : ℕ) → AreJoined from to a b → AreJoined (map (map new) from) (map (map new) to) (new a) (new b)
  joined_forward from to a b h = ((map new h.0.0, map new h.0.1), zip_forward (map new) from to h.0.0 h.0.1 h.1, zip_forward new h.0.0 h.0.1 a b h.2)

  pub joined_back : (from to : List (List ℕ)) (a' b' : ℕ) → AreJoined (map (map new) from) (map (map new) to) a' b'
      → (a : ℕ) × (b : ℕ) × (a' ≡ new a) × (b' ≡ new b) × AreJoined from to a b
  joined_back from to a' b' h =
      let o = zip_back (map new) from to h.0.0 h.0.1 h.1 in
      let i = zip_back new o.0 o.1 a' b' (subst (λ (xs : List ℕ). Contains (zip xs (map new o.1)) (a', b')) o.2 (subst (λ (ys : List ℕ). Contains (zip h.0.0 ys) (a', b')) o.3 h.2)) in
      (i.0, i.1, i.2, i.3, ((o.0, o.1), o.4, i.4))
