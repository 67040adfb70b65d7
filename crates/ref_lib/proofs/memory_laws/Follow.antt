-- Memories that follow others.
use Rattle.std.proofs.Common.{◌≡◌, ◌∙◌, ℕ, zero, suc, ◌<◌, ◌≤◌, ◌&&◌, Bool, true, false, ◌⊎◌, inl, inr, List, [], ◌∷◌, ◌++◌, Option, Some, None, length, set, refl, sym, ap, subst, arith, length-append}
use Rattle.std.specs.Prelude.{not}
use Rattle.std.specs.List.{slice_get}
use Rattle.std.proofs.Math.ListN.{length-set}
use Rattle.std.proofs.lemmas.Bool.{cases_eq, eq-eqb, ne_eqb}
use Rattle.std.proofs.lemmas.Option.{slice_get_within, get_or_from_slice_get}
use Rattle.std.proofs.lemmas.List.Elements.{All-set, All-push}
use Rattle.ref_cells.specs.declared.instance.Instance.{Instance}
use Rattle.ref_cells.specs.Places.{IsKnown, AreKnown}
use Rattle.ref_mem.specs.Writes.{changed}
use Rattle.ref_lib.specs.memory_laws.Kept.{IsLater, Stands, is_ended, Follows}

set_same : {X : Type 0} (xs : List X) (i : ℕ) (v : X) → i < length xs → slice_get (set xs i v) i ≡ Some v
set_same [] i v h = absurd (omega arith)
set_same (x ∷ xs) zero v h = refl
set_same (x ∷ xs) (suc i) v h = set_same xs i v (omega arith)

set_other : {X : Type 0} (xs : List X) (i j : ℕ) (v : X) → (i ≡ j → ⊥) → slice_get (set xs i v) j ≡ slice_get xs j
set_other [] i j v h = refl
set_other (x ∷ xs) zero zero v h = absurd (h refl)
set_other (x ∷ xs) zero (suc j) v h = refl
set_other (x ∷ xs) (suc i) zero v h = refl
set_other (x ∷ xs) (suc i) (suc j) v h = set_other xs i j v (λ q. h (ap (λ (n : ℕ). suc n) q))

get_front : {X : Type 0} (xs ys : List X) (i : ℕ) (a : X) → slice_get xs i ≡ Some a → slice_get (xs ++ ys) i ≡ Some a
get_front [] ys i a e = cc
get_front (x ∷ xs) ys zero a e = e
get_front (x ∷ xs) ys (suc i) a e = get_front xs ys i a e

-- the type of an instance of a memory is known
pub known_at : (types : ℕ) (memory : List Instance) (i : ℕ) (a : Instance) → AreKnown types memory → slice_get memory i ≡ Some a → IsKnown types a.ty
known_at types memory i a known e =
    let lt : i < length memory = slice_get_within memory i a e in
    subst (λ (x : Instance). IsKnown types x.ty) (get_or_from_slice_get memory i a a e) (known i a lt)

live_on : (b : Bool) → b ≡ (b && not false)
live_on true = refl
live_on false = refl

dead_now : (b : Bool) → false ≡ (b && not true)
dead_now true = refl
dead_now false = refl

-- what isn't ended is itself later
pub later_same : (ends : Bool) (a : Instance) → ends ≡ false → IsLater ends a a
later_same ends a e = record {
  key = refl;
  bytes = refl;
  typed = λ id h. h;
  live = live_on a.live ∙ ap (λ (x : Bool). a.live && not x) (sym e);
}

later_then : (ends : Bool) (a b c : Instance) → IsLater false a b → IsLater ends b c → IsLater ends a c
later_then ends a b c f g = record {
  key = g.key ∙ f.key;
  bytes = g.bytes ∙ f.bytes;
  typed = λ id h. g.typed id (f.typed id h);
  live = g.live ∙ ap (λ (x : Bool). x && not ends) (f.live ∙ sym (live_on a.live));
}

stands_at : (ends : Bool) (a b : Instance) (o : Option Instance) → o ≡ Some b → IsLater ends a b → Stands ends a o
stands_at ends a b o e h = subst (Stands ends a) (sym e) h

-- a memory follows itself
pub same : (types : ℕ) (memory : List Instance) → AreKnown types memory → Follows types None memory memory
same types memory known = record {
  known = known;
  stands = λ i a h. stands_at false a a (slice_get memory i) h (later_same false a refl);
  number = omega arith;
}

-- a memory with a new instance follows
pub with_more : (types : ℕ) (memory : List Instance) (inst : Instance) → AreKnown types memory → IsKnown types inst.ty → Follows types None memory (memory ++ inst ∷ [])
with_more types memory inst known h = record {
  known = All-push (λ (x : Instance). IsKnown types x.ty) memory inst known h;
  stands = λ i a e. stands_at false a a (slice_get (memory ++ inst ∷ []) i) (get_front memory (inst ∷ []) i a e) (later_same false a refl);
  number = omega (arith, length-append memory (inst ∷ []));
}

-- a memory with one instance set follows
pub with_set : (types : ℕ) (ended : Option ℕ) (memory : List Instance) (i : ℕ) (a b : Instance) → AreKnown types memory → slice_get memory i ≡ Some a →
    ((j : ℕ) → (i ≡ j → ⊥) → is_ended ended j ≡ false) → IsLater (is_ended ended i) a b → IsKnown types b.ty → Follows types ended memory (set memory i b)
with_set types ended memory i a b known here other later typed = record {
  known = All-set (λ (x : Instance). IsKnown types x.ty) memory i b typed known;
  stands = λ j x e. at j x e (cases_eq i j);
  number = omega (arith, length-set memory i b);
}
  where
    at : (j : ℕ) (x : Instance) → slice_get memory j ≡ Some x → (i ≡ j) ⊎ (i ≡ j → ⊥) → Stands (is_ended ended j) x (slice_get (set memory i b) j)
    at j x e (inl q) =
        let lt : i < length memory = slice_get_within memory i a here in
        let whole : slice_get (set memory i b) j ≡ Some b = ap (slice_get (set memory i b)) (sym q) ∙ set_same memory i b lt in
        let one : slice_get memory i ≡ Some x = ap (slice_get memory) q ∙ e in
        let same_one : a ≡ x = cc in
        stands_at (is_ended ended j) x b (slice_get (set memory i b) j) whole
        (subst (λ (k : ℕ). IsLater (is_ended ended k) x b) q (subst (λ (y : Instance). IsLater (is_ended ended i) y b) same_one later))
    at j x e (inr ne) =
        stands_at (is_ended ended j) x x (slice_get (set memory i b) j) (set_other memory i j b ne ∙ e) (later_same (is_ended ended j) x (other j ne))

-- a memory with one instance changed follows
pub with_change : (types : ℕ) (ended : Option ℕ) (memory : List Instance) (i : ℕ) (change : Instance → Instance) → AreKnown types memory →
    ((j : ℕ) → (i ≡ j → ⊥) → is_ended ended j ≡ false) → ((a : Instance) → IsLater (is_ended ended i) a (change a)) →
    ((a : Instance) → IsKnown types a.ty → IsKnown types (change a).ty) → Follows types ended memory (changed memory i (slice_get memory i) change)
with_change types ended memory i change known other later typed = at (slice_get memory i) refl
  where
    apart : (j : ℕ) (x : Instance) → slice_get memory i ≡ None → slice_get memory j ≡ Some x → i ≡ j → ⊥
    apart j x none e q = let both : slice_get memory i ≡ Some x = ap (slice_get memory) q ∙ e in cc

    at : (o : Option Instance) → slice_get memory i ≡ o → Follows types ended memory (changed memory i o change)
    at None e = record {
      known = known;
      stands = λ j x h. stands_at (is_ended ended j) x x (slice_get memory j) h (later_same (is_ended ended j) x (other j (apart j x e h)));
      number = omega arith;
    }
    at (Some a) e = with_set types ended memory i a (change a) known e other (later a) (typed a (known_at types memory i a known e))

-- what follows a memory without an end, and then ends one
pub then_follows : (types : ℕ) (ended : Option ℕ) (a b c : List Instance) → Follows types None a b → Follows types ended b c → Follows types ended a c
then_follows types ended a b c f g = record {
  known = g.known;
  stands = λ i x h. first i x (slice_get b i) refl (f.stands i x h);
  number = let p : length a ≤ length b = f.number in let q : length b ≤ length c = g.number in omega arith;
}
  where
    second : (i : ℕ) (x y : Instance) (o : Option Instance) → IsLater false x y → Stands (is_ended ended i) y o → Stands (is_ended ended i) x o
    second i x y None l h = h
    second i x y (Some z) l h = later_then (is_ended ended i) x y z l h

    first : (i : ℕ) (x : Instance) (o : Option Instance) → slice_get b i ≡ o → Stands false x o → Stands (is_ended ended i) x (slice_get c i)
    first i x None e h = absurd h
    first i x (Some y) e h = second i x y (slice_get c i) h (g.stands i y e)

-- a memory where an instance ended follows
pub with_end : (types : ℕ) (memory : List Instance) (i : ℕ) → AreKnown types memory →
    Follows types (Some i) memory (changed memory i (slice_get memory i) (λ inst. record inst { live = false }))
with_end types memory i known =
    with_change types (Some i) memory i (λ inst. record inst { live = false }) known (λ j ne. ne_eqb i j ne)
    (λ a. record {
      key = refl;
      bytes = refl;
      typed = λ id h. h;
      live = dead_now a.live ∙ ap (λ (x : Bool). a.live && not x) (sym (eq-eqb i i refl));
    })
    (λ a h. h)
