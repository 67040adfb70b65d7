-- Lists of declarations, and types that are given together.
use Rattle.std.proofs.Common.{◌≡◌, ◌⊎◌, inl, inr, nat_eq, ℕ, suc, Bool, true, false, ◌&&◌, ◌||◌, not, cond, List, [], ◌∷◌, ◌++◌, slice_get, Option, Some, None, eq-eqb, refl, sym, ap, ◌∙◌, subst}
use Rattle.std.specs.Prelude.{if◌then◌else◌}
use Rattle.std.proofs.lemmas.Bool.{eqb-true}
use Rattle.c_types.specs.declared.term.Form.TheVariants.{Fixed, Variadic, Unspecified}
use Rattle.c_types.specs.Trees.{Ctype, ArrayOf, FunctionFrom}
use Rattle.c_scope.specs.declared.kinds.Declared.{Declared}
use Rattle.c_senses.specs.Tree.{Source}
use Rattle.c_senses.specs.Names.{entry_of}
use Rattle.c_senses.specs.Limits.{lacks_a_length}
use Rattle.c_senses.specs.Entities.{agree, fuller, together, all_together, own_type, types_of, some_such, last_of, same_internal, is_internal}
use Rattle.c_senses.specs.World.{World}
use Rattle.c_senses.specs.Sense.{Sense}
use Rattle.declaration_laws.specs.declared_type_laws.seen_onward.Seen as seen
use Rattle.declaration_laws.proofs.declared_type_laws.declared_once.Knowing.{In}

-- ---- one of some declarations

pub to_seen : (d : Declared) (ds : List Declared) → In d ds → seen.In d ds
to_seen d [] h = h
to_seen d (x ∷ xs) (inl e) = inl e
to_seen d (x ∷ xs) (inr h) = inr (to_seen d xs h)

pub from_seen : (d : Declared) (ds : List Declared) → seen.In d ds → In d ds
from_seen d [] h = h
from_seen d (x ∷ xs) (inl e) = inl e
from_seen d (x ∷ xs) (inr h) = inr (from_seen d xs h)

pub in_at : (ds : List Declared) (d : Declared) → In d ds → (k : ℕ) × (slice_get ds k ≡ Some d)
in_at [] d h = absurd h
in_at (x ∷ xs) d (inl same) = (0, ap (λ (y : Declared). Some y) same)
in_at (x ∷ xs) d (inr h) = let k = in_at xs d h in (suc k.0, k.1)

-- a leaf of some declaration is found
pub finds : (leaf : ℕ) (ds : List Declared) (d : Declared) → In d ds → d.node ≡ leaf → (y : Declared) × (entry_of ds leaf ≡ Some y) × In y ds × (y.node ≡ leaf)
finds leaf [] d h e = absurd h
finds leaf (x ∷ xs) d h e = by (nat_eq x.node leaf) refl h (λ k. finds leaf xs d k e)
  where
    no_both : (b : Bool) → b ≡ true → b ≡ false → ⊥
    no_both b f g = let both : true ≡ false = sym f ∙ g in cc

    by : (b : Bool) → nat_eq x.node leaf ≡ b → (x ≡ d) ⊎ In d xs → (In d xs → (y : Declared) × (entry_of xs leaf ≡ Some y) × In y xs × (y.node ≡ leaf))
        → (y : Declared) × (cond b (Some x) (entry_of xs leaf) ≡ Some y) × In y (x ∷ xs) × (y.node ≡ leaf)
    by true f h later = (x, refl, inl refl, eqb-true x.node leaf f)
    by false f (inl same) later = absurd (no_both (nat_eq x.node leaf) (eq-eqb x.node leaf (ap (λ (y : Declared). y.node) same ∙ e)) f)
    by false f (inr h) later = let k = later h in (k.0, k.1, inr k.2, k.3)

-- on which side of one of them another stands
pub either_side : (front : List Declared) (a : Declared) (back : List Declared) (b : Declared) → In b (front ++ a ∷ back) → In b front ⊎ ((a ≡ b) ⊎ In b back)
either_side [] a back b (inl same) = inr (inl same)
either_side [] a back b (inr h) = inr (inr h)
either_side (x ∷ front) a back b (inl same) = inl (inl same)
either_side (x ∷ front) a back b (inr h) = by (either_side front a back b h)
  where
    by : In b front ⊎ ((a ≡ b) ⊎ In b back) → In b (x ∷ front) ⊎ ((a ≡ b) ⊎ In b back)
    by (inl k) = inl (inr k)
    by (inr k) = inr k

pub append_behind : (front : List Declared) (a : Declared) (middle : List Declared) (b : Declared) (back : List Declared) → front ++ a ∷ (middle ++ b ∷ back) ≡ (front ++ a ∷ middle) ++ b ∷ back
append_behind [] a middle b back = refl
append_behind (x ∷ front) a middle b back = ap (λ (l : List Declared). x ∷ l) (append_behind front a middle b back)

-- what some declaration of a list is
pub such : (s : Source) (f : ℕ → Sense) (test : Declared → Bool) (ds : List Declared) → some_such s f test ds ≡ true → (d : Declared) × In d ds × (test d ≡ true)
such s f test [] e = cc
such s f test (x ∷ xs) e = by (test x) refl e (λ h. such s f test xs h)
  where
    by : (b : Bool) → test x ≡ b → (b || some_such s f test xs) ≡ true → (some_such s f test xs ≡ true → (d : Declared) × In d xs × (test d ≡ true)) → (d : Declared) × In d (x ∷ xs) × (test d ≡ true)
    by true t h later = (x, inl refl, t)
    by false t h later = let found = later h in (found.0, inr found.1, found.2)

pub such_true : (s : Source) (f : ℕ → Sense) (test : Declared → Bool) (ds : List Declared) (d : Declared) → In d ds → test d ≡ true → some_such s f test ds ≡ true
such_true s f test [] d h e = absurd h
such_true s f test (x ∷ xs) d (inl same) e = ap (λ (b : Bool). b || some_such s f test xs) (ap test same ∙ e)
such_true s f test (x ∷ xs) d (inr h) e = by (test x) (such_true s f test xs d h e)
  where
    by : (b : Bool) → some_such s f test xs ≡ true → (b || some_such s f test xs) ≡ true
    by true k = refl
    by false k = k

-- all that has the same linkage
pub same_linkage : (w : World) (s : Source) (f : ℕ → Sense) (internal : Bool) (ds : List Declared) (d : Declared) → same_internal w s f internal ds ≡ true → In d ds → is_internal s f d.node ≡ internal
same_linkage w s f internal [] d e h = absurd h
same_linkage w s f internal (x ∷ xs) d e (inl same) = subst (λ (y : Declared). is_internal s f y.node ≡ internal) same (by (is_internal s f x.node) internal _ e)
  where
    by : (b c more : Bool) → ((if b then c else not c) && more) ≡ true → b ≡ c
    by true true more k = refl
    by false false more k = refl
    by true false more k = cc
    by false true more k = cc
same_linkage w s f internal (x ∷ xs) d e (inr h) = same_linkage w s f internal xs d (by (if is_internal s f x.node then internal else not internal) _ e) h
  where
    by : (a b : Bool) → (a && b) ≡ true → b ≡ true
    by true b k = k
    by false b k = cc

-- ---- the last of some declarations

pub last_is : (s : Source) (f : ℕ → Sense) (P : ℕ → Type 0) (leaf : ℕ) (ds : List Declared) → P leaf → ((d : Declared) → In d ds → P d.node) → P (last_of s f leaf ds)
last_is s f P leaf [] own each = own
last_is s f P leaf (d ∷ ds) own each = last_is s f P d.node ds (each d (inl refl)) (λ x h. each x (inr h))

pub record Last (s : Source) (f : ℕ → Sense) (leaf : ℕ) (ds : List Declared) : Type 0 where
  pub front : List Declared
  pub last : Declared
  pub are : ds ≡ front ++ last ∷ []
  pub there : In last ds
  pub named : last_of s f leaf ds ≡ last.node

pub last_at : (s : Source) (f : ℕ → Sense) (leaf : ℕ) (d : Declared) (ds : List Declared) → Last s f leaf (d ∷ ds)
last_at s f leaf d [] = record { front = []; last = d; are = refl; there = inl refl; named = refl }
last_at s f leaf d (x ∷ ds) =
    let more = last_at s f d.node x ds in record { front = d ∷ more.front; last = more.last; are = ap (λ (l : List Declared). d ∷ l) more.are; there = inr more.there; named = more.named }

-- ---- types, one behind another

pub types_append : (s : Source) (f : ℕ → Sense) (xs : List Declared) (d : Declared) (t : Ctype) → own_type s f d.node ≡ Some t → types_of s f (xs ++ d ∷ []) ≡ types_of s f xs ++ t ∷ []
types_append s f [] d t e = ap (λ (o : Option Ctype). elim o as (λ _. List Ctype) [ None ↦ [] | Some u ↦ u ∷ [] ]) e
types_append s f (x ∷ xs) d t e = by (own_type s f x.node) (types_append s f xs d t e)
  where
    by : (o : Option Ctype) → types_of s f (xs ++ d ∷ []) ≡ types_of s f xs ++ t ∷ []
        → (elim o as (λ _. List Ctype) [ None ↦ types_of s f (xs ++ d ∷ []) | Some u ↦ u ∷ types_of s f (xs ++ d ∷ []) ]) ≡ (elim o as (λ _. List Ctype) [ None ↦ types_of s f xs | Some u ↦ u ∷ types_of s f xs ]) ++ t ∷ []
    by None k = k
    by (Some u) k = ap (λ (l : List Ctype). u ∷ l) k

all_next : (a : Ctype) (xs : List Ctype) (t : Ctype) → (w : Ctype) × (all_together (Some a) xs ≡ Some w) × (all_together (Some a) (xs ++ t ∷ []) ≡ Some (together w t))
all_next a [] t = (a, refl, refl)
all_next a (x ∷ xs) t = all_next (together a x) xs t

-- what some types give together, and with another one behind them
pub next_of : (xs : List Ctype) (u t : Ctype) → (w : Ctype) × (all_together None (xs ++ u ∷ []) ≡ Some w) × (all_together None ((xs ++ u ∷ []) ++ t ∷ []) ≡ Some (together w t))
next_of [] u t = (u, refl, refl)
next_of (x ∷ xs) u t = all_next x (xs ++ u ∷ []) t

-- with an open array a type with a length alone is no open array
pub together_open : (w b : Ctype) → lacks_a_length (together w (ArrayOf b None)) ≡ false → together w (ArrayOf b None) ≡ w
together_open w b h = by (agree w (ArrayOf b None)) h
  where
    full : (w : Ctype) → lacks_a_length (fuller w (ArrayOf b None)) ≡ false → fuller w (ArrayOf b None) ≡ w
    full (ArrayOf a (Some n)) h = refl
    full (ArrayOf a None) h = cc
    full (FunctionFrom r ps Fixed) h = cc
    full (FunctionFrom r ps Variadic) h = cc
    full (FunctionFrom r ps Unspecified) h = cc
    full w h = cc

    by : (d : Bool) → lacks_a_length (if d then fuller w (ArrayOf b None) else ArrayOf b None) ≡ false → (if d then fuller w (ArrayOf b None) else ArrayOf b None) ≡ w
    by true k = full w k
    by false k = cc

pub open_array : (t : Ctype) → lacks_a_length t ≡ true → (of : Ctype) × (t ≡ ArrayOf of None)
open_array (ArrayOf of None) h = (of, refl)
open_array t h = cc
