-- The list of what the names of a unit declare, one leaf after another.
use Rattle.std.proofs.Common.{arith, ◌≡◌, ℕ, zero, suc, ◌+◌, ◌<◌, ◌≤◌, Bool, true, false, ◌&&◌, cond, List, [], ◌∷◌, ◌++◌, append-nil, All, Option, Some, None, IfSome, length, slice_get, option_map, inl, inr, ◌⊎◌, refl, sym, ap, subst, ◌∙◌}
use Rattle.std.specs.Option.{option_to_list}
use Rattle.std.proofs.lemmas.Bool.{cases_lt}
use Rattle.std.proofs.lemmas.List.Elements.{All-nil, All-cons, All-head, All-tail, All-push, All-weaker, All-get_or}
use Rattle.std.proofs.lemmas.Option.{slice_get_within, get_or_from_slice_get}
use Rattle.c_types.specs.Trees.{Ctype}
use Rattle.c_types.specs.Table.{type_of}
use Rattle.core_tree.specs.declared.node.Unit.{Unit}
use Rattle.c_consts.specs.Core.{Core}
use Rattle.core_nodes.specs.Standing.{Builds, core_at}
use Rattle.c_senses.specs.Tree.{Source, is_name}
use Rattle.c_senses.specs.Sense.{Sense}
use Rattle.c_senses.specs.Right.{declared_name, declares_entity, is_declaring, stands_in_declaration, entity_type, declared_as}
use Rattle.c_senses.specs.Right as right
use Rattle.name_places.proofs.Standing.{name_below}
use Rattle.unit_finish.specs.declared.unit_parts.declared.Declared.{Declared}
use Rattle.unit_finish.specs.unit_parts.Entities.{bodies_of, with_body}
use Rattle.unit_finish.specs.Walked.{declared_seen, AreNames}
use Rattle.unit_names.specs.Entries.{IsDeclaredIn}

-- what is declared, in a unit that has grown
body_kept : (old new : Unit) → Builds old new → (o : Option ℕ) → IfSome o (λ b. b < length old.nodes.items) → option_map (core_at new) o ≡ option_map (core_at old) o
body_kept old new b None h = refl
body_kept old new b (Some i) h = ap (λ (c : Core). Some c) (b.cores i h)

body_more : (old new : Unit) → Builds old new → (o : Option ℕ) → IfSome o (λ b. b < length old.nodes.items) → IfSome o (λ b. b < length new.nodes.items)
body_more old new b None h = tt
body_more old new b (Some i) h = omega (arith, b.more)

pub seen_kept : (old new : Unit) → Builds old new → (x : Declared) → IsDeclaredIn old x → declared_seen new x ≡ declared_seen old x
seen_kept old new b x h =
    let R : Ctype → Option Core → right.Declared = λ t c. record { name = x.name; place = x.place; type = t; linkage = x.linkage; storage = x.storage; owner = x.owner; body = c } in
    ap (λ (t : Ctype). R t (option_map (core_at new) x.body)) (b.types x.ty.0 h.ty) ∙ ap (λ (c : Option Core). R (type_of old.types x.ty.0) c) (body_kept old new b x.body h.body)

pub declared_more : (old new : Unit) → Builds old new → (x : Declared) → IsDeclaredIn old x → IsDeclaredIn new x
declared_more old new b x h = record { ty = omega (arith, h.ty, b.terms); body = body_more old new b x.body h.body }

-- the list has what each of the first so many leaves declares, in their order, and nothing else
pub record ListsTo (s : Source) (senses : List Sense) (u : Unit) (n : ℕ) (list : List Declared) : Type 0 where
  pub each : (k : ℕ) (x : Declared) → slice_get list k ≡ Some x → declared_name s senses x.leaf ≡ Some (declared_seen u x)
  pub all : (d : ℕ) (what : right.Declared) → d < n → declared_name s senses d ≡ Some what → (k : ℕ) × (x : Declared) × (slice_get list k ≡ Some x) × (x.leaf ≡ d)
  pub below : (k : ℕ) (x : Declared) → slice_get list k ≡ Some x → x.leaf < n
  pub once : (j k : ℕ) (x y : Declared) → slice_get list j ≡ Some x → slice_get list k ≡ Some y → x.leaf ≡ y.leaf → j ≡ k
  pub ascend : (j k : ℕ) (x y : Declared) → j < k → slice_get list j ≡ Some x → slice_get list k ≡ Some y → x.leaf < y.leaf

get_front : (xs : List Declared) (ys : List Declared) (k : ℕ) (x : Declared) → slice_get xs k ≡ Some x → slice_get (xs ++ ys) k ≡ Some x
get_front [] ys k x e = absurd (cc)
get_front (y ∷ xs) ys zero x e = e
get_front (y ∷ xs) ys (suc k) x e = get_front xs ys k x e

get_last : (xs : List Declared) (x : Declared) → slice_get (xs ++ x ∷ []) (length xs) ≡ Some x
get_last [] x = refl
get_last (y ∷ xs) x = get_last xs x

get_push : (xs : List Declared) (y : Declared) (k : ℕ) (x : Declared) → slice_get (xs ++ y ∷ []) k ≡ Some x → (slice_get xs k ≡ Some x) ⊎ (y ≡ x)
get_push [] y zero x e = let same : y ≡ x = cc in inr same
get_push [] y (suc k) x e = absurd (cc)
get_push (z ∷ xs) y zero x e = inl e
get_push (z ∷ xs) y (suc k) x e = get_push xs y k x e

-- with the place of the last one
get_pushed : (xs : List Declared) (y : Declared) (k : ℕ) (x : Declared) → slice_get (xs ++ y ∷ []) k ≡ Some x → (slice_get xs k ≡ Some x) ⊎ ((k ≡ length xs) × (y ≡ x))
get_pushed [] y zero x e = let same : y ≡ x = cc in inr (refl, same)
get_pushed [] y (suc k) x e = absurd (cc)
get_pushed (z ∷ xs) y zero x e = inl e
get_pushed (z ∷ xs) y (suc k) x e = elim (get_pushed xs y k x e) [
  | inl front ↦ inl front
  | inr last ↦ inr (ap suc last.0, last.1)
]

pub lists_none : (s : Source) (senses : List Sense) (u : Unit) → ListsTo s senses u 0 []
lists_none s senses u = record {
  each = λ k x e. absurd (cc);
  all = λ d what lt e. absurd (omega arith);
  below = λ k x e. absurd (cc);
  once = λ j k x y e f same. absurd (cc);
  ascend = λ j k x y less e f. absurd (cc);
}

module _ (s : Source) (senses : List Sense) (old new : Unit) (b : Builds old new) (n : ℕ) (list : List Declared) (inside : All (IsDeclaredIn old) list) (h : ListsTo s senses old n list) where
  each_kept : (k : ℕ) (x : Declared) → slice_get list k ≡ Some x → declared_name s senses x.leaf ≡ Some (declared_seen new x)
  each_kept k x e =
      let at : IsDeclaredIn old x = subst (IsDeclaredIn old) (get_or_from_slice_get list k x x e) (All-get_or (IsDeclaredIn old) list k x (slice_get_within list k x e) inside) in
      h.each k x e ∙ ap (λ (w : right.Declared). Some w) (sym (seen_kept old new b x at))

  -- the new one has a leaf of its own
  once_more : (x : Declared) → x.leaf ≡ n → (j k : ℕ) (y z : Declared) → slice_get (list ++ x ∷ []) j ≡ Some y → slice_get (list ++ x ∷ []) k ≡ Some z → y.leaf ≡ z.leaf → j ≡ k
  once_more x leaf j k y z e f same =
      elim (get_pushed list x j y e) [
        | inl early ↦ elim (get_pushed list x k z f) [
          | inl too ↦ h.once j k y z early too same
          | inr late ↦ (let lt = h.below j y early in
              let at : z.leaf ≡ n = ap (λ (w : Declared). w.leaf) (sym late.1) ∙ leaf in absurd (omega (arith, lt, at, same)))
        ]
        | inr last ↦ elim (get_pushed list x k z f) [
          | inl early ↦ (let lt = h.below k z early in
              let at : y.leaf ≡ n = ap (λ (w : Declared). w.leaf) (sym last.1) ∙ leaf in absurd (omega (arith, lt, at, same)))
          | inr late ↦ last.0 ∙ sym late.0
        ]
      ]

  -- and a greater one than those before it
  ascend_more : (x : Declared) → x.leaf ≡ n → (j k : ℕ) (y z : Declared) → j < k → slice_get (list ++ x ∷ []) j ≡ Some y → slice_get (list ++ x ∷ []) k ≡ Some z → y.leaf < z.leaf
  ascend_more x leaf j k y z less e f =
      elim (get_pushed list x k z f) [
        | inl early ↦ elim (get_pushed list x j y e) [
          | inl first ↦ h.ascend j k y z less first early
          | inr past ↦ (let lt = slice_get_within list k z early in absurd (omega (arith, less, lt, past.0)))
        ]
        | inr late ↦ elim (get_pushed list x j y e) [
          | inl first ↦ (let lt = h.below j y first in
              let at : z.leaf ≡ n = ap (λ (w : Declared). w.leaf) (sym late.1) ∙ leaf in omega (arith, lt, at))
          | inr past ↦ absurd (omega (arith, less, late.0, past.0))
        ]
      ]

  pub lists_more : (found : Option Declared) → option_map (declared_seen new) found ≡ declared_name s senses n → IfSome found (λ x. x.leaf ≡ n) → ListsTo s senses new (n + 1) (list ++ option_to_list found)
  lists_more None is leaf = record {
    each = λ k x e. each_kept k x (sym (ap (λ (l : List Declared). slice_get l k) (append-nil list)) ∙ e);
    all = λ d what lt e.
        elim (cases_lt d n) [
          | inl below ↦ let there = h.all d what below e in (there.0, there.1, ap (λ (l : List Declared). slice_get l there.0) (append-nil list) ∙ there.2, there.3)
          | inr past ↦ let here : n ≡ d = omega arith in let none : None ≡ Some what = is ∙ (ap (declared_name s senses) here ∙ e) in absurd (cc)
        ];
    below = λ k x e. (let lt = h.below k x (sym (ap (λ (l : List Declared). slice_get l k) (append-nil list)) ∙ e) in omega (arith, lt));
    once = λ j k x y e f same. h.once j k x y (sym (ap (λ (l : List Declared). slice_get l j) (append-nil list)) ∙ e) (sym (ap (λ (l : List Declared). slice_get l k) (append-nil list)) ∙ f) same;
    ascend = λ j k x y less e f. h.ascend j k x y less (sym (ap (λ (l : List Declared). slice_get l j) (append-nil list)) ∙ e) (sym (ap (λ (l : List Declared). slice_get l k) (append-nil list)) ∙ f);
  }
  lists_more (Some x) is leaf = record {
    each = λ k y e.
        elim (get_push list x k y e) [
          | inl front ↦ each_kept k y front
          | inr same ↦ subst (λ (z : Declared). declared_name s senses z.leaf ≡ Some (declared_seen new z)) same (ap (declared_name s senses) leaf ∙ sym is)
        ];
    all = λ d what lt e.
        elim (cases_lt d n) [
          | inl below ↦ let there = h.all d what below e in (there.0, there.1, get_front list (x ∷ []) there.0 there.1 there.2, there.3)
          | inr past ↦ let here : n ≡ d = omega arith in (length list, x, get_last list x, leaf ∙ here)
        ];
    below = λ k y e.
        elim (get_push list x k y e) [
          | inl front ↦ (let lt = h.below k y front in omega (arith, lt))
          | inr same ↦ (let at : y.leaf ≡ n = ap (λ (z : Declared). z.leaf) (sym same) ∙ leaf in omega (arith, at))
        ];
    once = λ j k y z e f same. once_more x leaf j k y z e f same;
    ascend = λ j k y z less e f. ascend_more x leaf j k y z less e f;
  }

pub inside_more : (old new : Unit) → Builds old new → (list : List Declared) (found : Option Declared) → All (IsDeclaredIn old) list → IfSome found (IsDeclaredIn new) → All (IsDeclaredIn new) (list ++ option_to_list found)
inside_more old new b list None all h =
    subst (All (IsDeclaredIn new)) (sym (append-nil list)) (All-weaker (IsDeclaredIn old) (IsDeclaredIn new) (declared_more old new b) list all)
inside_more old new b list (Some x) all h =
    All-push (IsDeclaredIn new) list x (All-weaker (IsDeclaredIn old) (IsDeclaredIn new) (declared_more old new b) list all) h

-- the leaves of names are nodes
name_declares : (s : Source) (senses : List Sense) (d : ℕ) (what : right.Declared) → declared_name s senses d ≡ Some what → is_name s d ≡ true
name_declares s senses d what e = first (is_name s d) _ _ (declares (declares_entity s senses d) e)
  where
    declares : (b : Bool) → cond b (option_map (declared_as s senses d) (entity_type s senses d)) None ≡ Some what → b ≡ true
    declares true h = refl
    declares false h = absurd (cc)

    first : (a more others : Bool) → ((a && more) && others) ≡ true → a ≡ true
    first true more others h = refl
    first false more others h = absurd (cc)

pub lists_all : (s : Source) (senses : List Sense) (u : Unit) (n : ℕ) (list : List Declared) → length s.nodes ≤ n → All (IsDeclaredIn u) list → ListsTo s senses u n list → AreNames s senses u list
lists_all s senses u n list whole inside h = record {
  each = h.each;
  all = λ d what e. let below : d < length s.nodes = name_below s d (name_declares s senses d what e) in h.all d what (omega arith) e;
  once = h.once;
  ascend = h.ascend;
  typed = λ k x e. (let at : IsDeclaredIn u x = subst (IsDeclaredIn u) (get_or_from_slice_get list k x x e) (All-get_or (IsDeclaredIn u) list k x (slice_get_within list k x e) inside) in at.ty);
}

-- their bodies are the unit's
pub bodies_within : (u : Unit) (list : List Declared) → All (IsDeclaredIn u) list → All (λ b. b < length u.nodes.items) (bodies_of list)
bodies_within u [] all = All-nil (λ b. b < length u.nodes.items)
bodies_within u (x ∷ rest) all = with_more x.body (All-head (IsDeclaredIn u) x rest all).body (bodies_within u rest (All-tail (IsDeclaredIn u) x rest all))
  where
    P : ℕ → Type 0
    P b = b < length u.nodes.items

    with_more : (o : Option ℕ) → IfSome o (λ b. b < length u.nodes.items) → All (λ b. b < length u.nodes.items) (bodies_of rest) → All (λ b. b < length u.nodes.items) (with_body o (bodies_of rest))
    with_more None h those = those
    with_more (Some b) h those = All-cons (λ c. c < length u.nodes.items) b (bodies_of rest) h those
