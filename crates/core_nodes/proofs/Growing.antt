-- The trees of nodes as nodes and types are added.
use Rattle.std.proofs.Common.{arith, ◌≡◌, ℕ, zero, suc, ◌<◌, ◌≤◌, ◌+◌, List, [], ◌∷◌, ◌++◌, Option, Some, None, slice_get, length, length-append, get_or, refl, sym, ap, ◌∙◌, subst, map, All, ◌⊎◌, inl, inr}
use Rattle.std.proofs.lemmas.List.{get_or_append_left}
use Rattle.c_types.specs.Trees.{Ctype}
use Rattle.c_types.specs.Table.{Table, type_of, members_in, extent_in}
use Rattle.core_tree.specs.declared.node.Node.{Node}
use Rattle.core_tree.specs.declared.node.Unit.{Unit}
use Rattle.c_senses.specs.passed.c_consts.Core.{Core, Of, MoreCores, InOrder}
use Rattle.c_types.specs.Made.{IsMade}
use Rattle.c_types.specs.declared.term.MemberTerm.{MemberTerm}
use Rattle.c_senses.specs.World.{World}
use Rattle.core_nodes.specs.Once.{HasOnce}
use Rattle.core_nodes.specs.Standing.{no_core, cores_among, core_over, cores_grown, cores_of, core_at, cores_at, part_of, part_with, parts_in, IsReady, Builds, Knows}

cores_append : (t : Table) (done : List Core) (a b : List Node) → cores_grown t done (a ++ b) ≡ cores_grown t (cores_grown t done a) b
cores_append t done [] b = refl
cores_append t done (n ∷ a) b = cores_append t (done ++ core_over t done n ∷ []) a b

cores_length : (t : Table) (done : List Core) (a : List Node) → length (cores_grown t done a) ≡ length done + length a
cores_length t done [] = omega arith
cores_length t done (n ∷ a) = omega (arith, cores_length t (done ++ core_over t done n ∷ []) a, length-append done (core_over t done n ∷ []))

get_or_last : {X : Type 0} (xs : List X) (y d : X) → get_or (xs ++ y ∷ []) (length xs) d ≡ y
get_or_last [] y d = refl
get_or_last (x ∷ xs) y d = get_or_last xs y d

among_at : (u : Unit) (is : List ℕ) → cores_among (cores_of u) is ≡ cores_at u is
unfolding core_at
among_at u [] = refl
among_at u (i ∷ is) = ap (MoreCores (get_or (cores_of u) i no_core)) (among_at u is)

module _ (old new : Unit) (n : Node) (types : new.types ≡ old.types) (nodes : new.nodes.items ≡ old.nodes.items ++ n ∷ []) where
  cores_pushed : cores_of new ≡ cores_of old ++ core_over old.types (cores_of old) n ∷ []
  unfolding cores_of
  cores_pushed =
      ap (λ (t : Table). cores_grown t [] new.nodes.items) types ∙ ap (λ (ns : List Node). cores_grown old.types [] ns) nodes ∙ cores_append old.types [] old.nodes.items (n ∷ [])

  long : length (cores_of old) ≡ length old.nodes.items
  unfolding cores_of
  long = omega (arith, cores_length old.types [] old.nodes.items)

  pub core_pushed : core_at new (length old.nodes.items) ≡ Of n.kind n.place (type_of old.types n.ty.0) (cores_at old n.children)
  unfolding core_at
  core_pushed =
      let e : get_or (cores_of new) (length old.nodes.items) no_core ≡ get_or (cores_of old ++ core_over old.types (cores_of old) n ∷ []) (length (cores_of old)) no_core = ap (λ (cs : List Core). get_or cs (length old.nodes.items) no_core) cores_pushed ∙ ap (λ (k : ℕ). get_or (cores_of old ++ core_over old.types (cores_of old) n ∷ []) k no_core) (sym long) in
      e ∙ get_or_last (cores_of old) (core_over old.types (cores_of old) n) no_core ∙ ap (Of n.kind n.place (type_of old.types n.ty.0)) (among_at old n.children)

  core_kept : (i : ℕ) → i < length old.nodes.items → core_at new i ≡ core_at old i
  unfolding core_at
  core_kept i h =
      ap (λ (cs : List Core). get_or cs i no_core) cores_pushed ∙ get_or_append_left (cores_of old) (core_over old.types (cores_of old) n ∷ []) no_core i (omega (arith, long))

  pub push_builds : new.entities.items ≡ old.entities.items → Builds old new
  push_builds entities = record {
    more = rw nodes (omega (arith, length-append old.nodes.items (n ∷ [])));
    cores = core_kept;
    terms = rw types (omega arith);
    types = λ id h. ap (λ (t : Table). type_of t id) types;
    tags = ap (λ (t : Table). t.tags) types;
    parts = λ tag. ap (λ (t : Table). parts_in t (members_in t tag)) types;
    extents = λ x. ap (λ (t : Table). extent_in t x) types;
    entities = entities;
    once = λ h. subst (λ (t : Table). HasOnce t) (sym types) h;
  }

slice_get_last : {X : Type 0} (xs : List X) (y : X) (i : ℕ) (e : X) → slice_get (xs ++ y ∷ []) i ≡ Some e → ((i < length xs) × (slice_get xs i ≡ Some e)) ⊎ ((i ≡ length xs) × (e ≡ y))
slice_get_last [] y zero e h = inr (refl, cc)
slice_get_last [] y (suc i) e h = cc
slice_get_last (x ∷ xs) y zero e h = inl (omega arith, h)
slice_get_last (x ∷ xs) y (suc i) e h = elim (slice_get_last xs y i e h) [ inl p ↦ inl (omega (arith, p.0), p.1) | inr p ↦ inr (omega (arith, p.0), p.1) ]

pub ready_pushed : (t : Table) (nodes : List Node) (n : Node) → InOrder t nodes → n.ty.0 < length t.terms → All (λ c. c < length nodes) n.children → InOrder t (nodes ++ n ∷ [])
ready_pushed t nodes n order ty children = record {
  types = λ i m h. elim (slice_get_last nodes n i m h) [ inl p ↦ order.types i m p.1 | inr p ↦ subst (λ (x : Node). x.ty.0 < length t.terms) (sym p.1) ty ];
  children = λ i m h. elim (slice_get_last nodes n i m h) [
    | inl p ↦ order.children i m p.1
    | inr p ↦ subst (λ (k : ℕ). All (λ c. c < k) m.children) (sym p.0) (subst (λ (x : Node). All (λ c. c < length nodes) x.children) (sym p.1) children)
  ];
}

-- with more types
cores_retyped : (t t' : Table) (done : List Core) (nodes : List Node) → ((i : ℕ) (n : Node) → slice_get nodes i ≡ Some n → n.ty.0 < length t.terms) → ((id : ℕ) → id < length t.terms → type_of t' id ≡ type_of t id) → cores_grown t' done nodes ≡ cores_grown t done nodes
cores_retyped t t' done [] typed kept = refl
cores_retyped t t' done (n ∷ nodes) typed kept =
    let e : core_over t' done n ≡ core_over t done n = ap (λ (x : Ctype). Of n.kind n.place x (cores_among done n.children)) (kept n.ty.0 (typed 0 n refl)) in
    ap (λ (c : Core). cores_grown t' (done ++ c ∷ []) nodes) e ∙ cores_retyped t t' (done ++ core_over t done n ∷ []) nodes (λ i m h. typed (suc i) m h) kept

module _ (old new : Unit) (ready : IsReady old) (nodes : new.nodes ≡ old.nodes) (kept : (id : ℕ) → id < length old.types.terms → type_of new.types id ≡ type_of old.types id) where
  cores_same : cores_of new ≡ cores_of old
  unfolding cores_of
  cores_same = ap (λ (ns : List Node). cores_grown new.types [] ns) (ap (λ v. v.items) nodes) ∙ cores_retyped old.types new.types [] old.nodes.items ready.types kept

  pub core_retyped : (i : ℕ) → core_at new i ≡ core_at old i
  unfolding core_at
  core_retyped i = ap (λ (cs : List Core). get_or cs i no_core) cores_same

pub ready_retyped : (t t' : Table) (nodes : List Node) → InOrder t nodes → length t.terms ≤ length t'.terms → InOrder t' nodes
ready_retyped t t' nodes order more = record { types = λ i n h. omega (arith, order.types i n h); children = order.children }

-- where nothing is added
module _ (old new : Unit) (types : new.types ≡ old.types) (nodes : new.nodes.items ≡ old.nodes.items) where
  cores_unchanged : cores_of new ≡ cores_of old
  unfolding cores_of
  cores_unchanged = ap (λ (t : Table). cores_grown t [] new.nodes.items) types ∙ ap (λ (ns : List Node). cores_grown old.types [] ns) nodes

  core_unchanged : (i : ℕ) → i < length old.nodes.items → core_at new i ≡ core_at old i
  unfolding core_at
  core_unchanged i h = ap (λ (cs : List Core). get_or cs i no_core) cores_unchanged

  pub same_builds : new.entities.items ≡ old.entities.items → Builds old new
  same_builds entities = record {
    more = rw nodes (omega arith);
    cores = core_unchanged;
    terms = rw types (omega arith);
    types = λ id h. ap (λ (t : Table). type_of t id) types;
    tags = ap (λ (t : Table). t.tags) types;
    parts = λ tag. ap (λ (t : Table). parts_in t (members_in t tag)) types;
    extents = λ x. ap (λ (t : Table). extent_in t x) types;
    entities = entities;
    once = λ h. subst (λ (t : Table). HasOnce t) (sym types) h;
  }

pub ready_same : (t : Table) (nodes more : List Node) → more ≡ nodes → InOrder t nodes → InOrder t more
ready_same t nodes more e order = subst (λ (ns : List Node). InOrder t ns) (sym e) order

-- one step after another
pub builds_on : (a b c : Unit) → Builds a b → Builds b c → Builds a c
builds_on a b c p q = record {
  more = omega (arith, p.more, q.more);
  cores = λ i h. q.cores i (omega (arith, p.more)) ∙ p.cores i h;
  terms = omega (arith, p.terms, q.terms);
  types = λ id h. q.types id (omega (arith, p.terms)) ∙ p.types id h;
  tags = q.tags ∙ p.tags;
  parts = λ tag. q.parts tag ∙ p.parts tag;
  extents = λ x. q.extents x ∙ p.extents x;
  entities = q.entities ∙ p.entities;
  once = λ h. q.once (p.once h);
}

-- members keep their types
list_retyped : (old new : Table) → ((id : ℕ) → id < length old.terms → type_of new id ≡ type_of old id) → (ms : List MemberTerm) → ((k : ℕ) (m : MemberTerm) → slice_get ms k ≡ Some m → m.ty.0 < length old.terms) → map (part_of new) ms ≡ map (part_of old) ms
list_retyped old new kept [] within = refl
list_retyped old new kept (m ∷ ms) within =
    let first : part_of new m ≡ part_of old m = ap (λ (t : Ctype). part_with m t) (kept m.ty.0 (within 0 m refl)) in
    let rest = list_retyped old new kept ms (λ k n h. within (suc k) n h) in
    cc

parts_retyped : (old new : Table) → ((id : ℕ) → id < length old.terms → type_of new id ≡ type_of old id) → (o : Option (List MemberTerm)) → ((list : List MemberTerm) → o ≡ Some list → (k : ℕ) (m : MemberTerm) → slice_get list k ≡ Some m → m.ty.0 < length old.terms) → parts_in new o ≡ parts_in old o
parts_retyped old new kept None within = refl
parts_retyped old new kept (Some list) within = ap Some (list_retyped old new kept list (within list refl))

pub type_builds : (old new : Unit) → IsReady old → (nodes : new.nodes ≡ old.nodes) → ((id : ℕ) → id < length old.types.terms → type_of new.types id ≡ type_of old.types id) → length old.types.terms ≤ length new.types.terms → new.types.tags ≡ old.types.tags → IsMade old.types → ((tag : ℕ) → members_in new.types tag ≡ members_in old.types tag) → ((t : Ctype) → extent_in new.types t ≡ extent_in old.types t) → new.entities.items ≡ old.entities.items → (HasOnce old.types → HasOnce new.types) → Builds old new
type_builds old new ready nodes kept terms tags is_made members extents entities once = record {
  more = rw nodes (omega arith);
  cores = λ i h. core_retyped old new ready nodes kept i;
  terms = terms;
  types = kept;
  tags = tags;
  parts = λ tag. ap (parts_in new.types) (members tag) ∙ parts_retyped old.types new.types kept (members_in old.types tag) (λ list at k m here. (is_made.members tag list at k m here).0);
  extents = extents;
  entities = entities;
  once = once;
}

-- what a world says goes on being true
pub knows_on : (w : World) (old new : Unit) → Builds old new → Knows w old → Knows w new
knows_on w old new b k = record {
  members = λ tag. k.members tag ∙ sym (b.parts tag);
  extents = λ t. k.extents t ∙ sym (b.extents t);
  tags = k.tags ∙ sym b.tags;
}
