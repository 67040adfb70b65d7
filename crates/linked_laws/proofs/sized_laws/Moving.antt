-- The complete types of a unit take as much in the table.
use Rattle.std.proofs.Common.{arith, ◌≡◌, ◌∙◌, ◌⊎◌, ℕ, zero, suc, ◌^◌, ◌+◌, ◌<◌, List, [], ◌∷◌, take, Option, Some, None, IsSome, is_some, cond, slice_get, refl, sym, ap, subst, inl, inr}
use Rattle.std.specs.Prelude.{nat_lt}
use Rattle.std.specs.Option.{option_map}
use Rattle.std.proofs.lemmas.Bool.{false≢true}
use Rattle.c_types.specs.declared.term.MemberTerm.{MemberTerm}
use Rattle.c_types.specs.Trees.{Ctype, ArrayOf}
use Rattle.c_types.specs.Layout.{Extent, extent_of, member_extent}
use Rattle.c_types.specs.Table.{Table, type_of, look_in, extent_in, extents_in, members_in, members_among, size_below, nodes_within}
use Rattle.c_types.specs.Made.{IsMade, IsComplete, IsFlexible, earlier}
use Rattle.type_rules.specs.Sizes.{HasSize}
use Rattle.core_tree.specs.declared.node.Unit.{Unit}
use Rattle.link_model.specs.Merged.{Numbering, moved, AreMoved, IsMerged}
use Rattle.linked_laws.specs.merged_laws.Merged.{AreTables}
use Rattle.linked_laws.proofs.merged_laws.Members.{types_is, list_moved}
use Rattle.linked_laws.proofs.merged_laws.Completing.{IsAmong, among_first, among_some, known_completed, none_known, take_within}
use Rattle.linked_laws.proofs.sized_laws.Extents.{IsAsLarge, Alike, AreAsLarge, ListsAlike, KnowAlike, LooksSo, extent_alike, member_alike}

pub some_of : {A : Type 0} (o : Option A) → IsSome o → (x : A) × (o ≡ Some x)
some_of None h = absurd (false≢true h)
some_of (Some x) h = (x, refl)

pub lists_alike : (a b : Option (List Extent)) (es ds : List Extent) → a ≡ Some es → b ≡ Some ds → AreAsLarge es ds → ListsAlike a b
lists_alike a b es ds ea eb h = subst (λ (o : Option (List Extent)). ListsAlike o b) (sym ea) (subst (λ (o : Option (List Extent)). ListsAlike (Some es) o) (sym eb) h)

looks_so : (table : Table) (t : Ctype) → IsFlexible table t → LooksSo (look_in table) t
looks_so table (ArrayOf of None) h = h
looks_so table t h = absurd h

-- sizes of extents that are alike
size_alike : (a b : Option Extent) → Alike a b → IsSome (size_below a) → IsSome (size_below b)
size_alike None b h some = absurd h
size_alike (Some e) None h some = absurd h
size_alike (Some e) (Some d) h some = subst (λ (n : ℕ). IsSome (cond (nat_lt n (2 ^ 63)) (Some n) None)) (sym h.size) some

nodes_alike : (a b : Option Extent) → Alike a b → IsSome (nodes_within a) → IsSome (nodes_within b)
nodes_alike None b h some = absurd h
nodes_alike (Some e) None h some = absurd h
nodes_alike (Some e) (Some d) h some = subst (λ (n : ℕ). IsSome (cond (nat_lt n (2 ^ 24 + 1)) (Some n) None)) (sym h.nodes) some

alike_some : (a b : Option Extent) → Alike a b → IsSome b
alike_some None b h = absurd h
alike_some (Some e) None h = absurd h
alike_some (Some e) (Some d) h = refl

sized_some : (o : Option Extent) → IsSome (size_below o) → IsSome o
sized_some None h = h
sized_some (Some e) h = refl

-- what has a size is complete
pub sized_complete : (table : Table) (t : Ctype) → HasSize table t → IsComplete table t
sized_complete table t h = sized_some (extent_in table t) h.0

-- what is as large has a size, too
pub sized_alike : (table other : Table) (s t : Ctype) → Alike (extent_in table s) (extent_in other t) → HasSize table s → HasSize other t
sized_alike table other s t h sized = (size_alike (extent_in table s) (extent_in other t) h sized.0, nodes_alike (extent_in table s) (extent_in other t) h sized.1)

module _ (units : List Unit) (n : Numbering) (table : Table) (tables : AreTables units) (again : IsMade table) (merged : IsMerged units n table) (u : ℕ) (x : Unit) (is : slice_get units u ≡ Some x) where
  own : IsMade x.types
  own = tables.made u x is

  -- what a member may be
  abbrev MayStand : ℕ → MemberTerm → Type 0
  MayStand at m = IsComplete (earlier x.types at) (type_of x.types m.ty.0) ⊎ IsFlexible (earlier x.types at) (type_of x.types m.ty.0)

  members_alike : (at : ℕ) → KnowAlike (n.tag u) (look_in (earlier x.types at)) (look_in x.types) (look_in table) → (ms ks : List MemberTerm) → AreMoved units n table u ms ks
      → ((i : ℕ) (m : MemberTerm) → slice_get ms i ≡ Some m → MayStand at m) → AreAsLarge (extents_in x.types ms) (extents_in table ks)
  members_alike at knows [] [] moves each = tt
  members_alike at knows [] (k ∷ ks) moves each = absurd moves
  members_alike at knows (m ∷ ms) [] moves each = absurd moves
  members_alike at knows (m ∷ ms) (k ∷ ks) moves each =
      let t = type_of x.types m.ty.0 in
      let type : type_of table k.ty.0 ≡ moved n u t = moves.2 ∙ ap (λ (a : Table). moved n u (type_of a m.ty.0)) (types_is units n table tables merged u x is) in
      let may : IsSome (extent_of (look_in (earlier x.types at)) t) ⊎ LooksSo (look_in (earlier x.types at)) t =
      (elim (each 0 m refl) [ inl complete ↦ inl complete | inr loose ↦ inr (looks_so (earlier x.types at) t loose) ]) in
      let one = member_alike (n.tag u) (look_in (earlier x.types at)) (look_in x.types) (look_in table) knows t may in (
        subst (λ (s : Ctype). IsAsLarge (member_extent (look_in x.types) t) (member_extent (look_in table) s)) (sym type) one,
        members_alike at knows ms ks moves.3 (λ i y there. each (suc i) y there),
      )

  -- the tags that were complete before one are alike
  abbrev AlikeBefore : ℕ → Type 0
  AlikeBefore at = (tag : ℕ) (list : List MemberTerm) → members_in x.types tag ≡ Some list → (a : IsAmong x.types.completed tag list) → a.at < at → ListsAlike (look_in x.types tag) (look_in table (n.tag u tag))

  known_alike : (at : ℕ) → AlikeBefore at → KnowAlike (n.tag u) (look_in (earlier x.types at)) (look_in x.types) (look_in table)
  known_alike at before tag h = elim (known_completed (earlier x.types at) [] (take at x.types.completed) tag h) [
    | inl none ↦ absurd (none_known tag none)
    | inr some ↦
        let (list, among) = some_of (members_among (take at x.types.completed) tag) some in
        let b = among_first (take at x.types.completed) tag list among in
        let w = take_within x.types.completed at b.at (record { tag = tag; members = list }) b.there in
        let (first, first_is) = some_of (members_in x.types tag) (among_some x.types.completed b.at (record { tag = tag; members = list }) w.1) in
        let c = among_first x.types.completed tag first first_is in
        let le = c.first b.at (record { tag = tag; members = list }) w.1 refl in
        let lt = w.0 in
        before tag first first_is c (omega arith)
  ]

  from_before : (tag : ℕ) (list : List MemberTerm) (a : IsAmong x.types.completed tag list) → AlikeBefore a.at → (ks : List MemberTerm) → AreMoved units n table u list ks
      → AreAsLarge (extents_in x.types list) (extents_in table ks)
  from_before tag list a before ks moves =
      members_alike a.at (known_alike a.at before) list ks moves
      (λ i m there. elim (own.ordered a.at (record { tag = tag; members = list }) a.there i m there).1.object [ inl complete ↦ inl complete | inr loose ↦ inr loose.flexible ])

  alike_below : (at : ℕ) → AlikeBefore at
  alike_below zero tag list e a lt = absurd (omega arith)
  alike_below (suc at) tag list e a lt =
      let l = list_moved units n table tables merged u x is tag list e in
      lists_alike (look_in x.types tag) (look_in table (n.tag u tag)) (extents_in x.types list) (extents_in table l.members)
      (own.laid tag ∙ ap (option_map (extents_in x.types)) e) (again.laid (n.tag u tag) ∙ ap (option_map (extents_in table)) l.members_are)
      (from_before tag list a (λ other first first_is c less. alike_below at other first first_is c (omega arith)) l.members l.moved)

  -- a list takes as much in the table
  pub list_alike : (tag : ℕ) (list : List MemberTerm) → members_in x.types tag ≡ Some list → (ks : List MemberTerm) → AreMoved units n table u list ks → AreAsLarge (extents_in x.types list) (extents_in table ks)
  list_alike tag list e ks moves = (let a = among_first x.types.completed tag list e in from_before tag list a (alike_below a.at) ks moves)

  look_some : (tag : ℕ) (o : Option (List MemberTerm)) → members_in x.types tag ≡ o → look_in x.types tag ≡ option_map (extents_in x.types) o → IsSome (look_in x.types tag) → (list : List MemberTerm) × (members_in x.types tag ≡ Some list)
  look_some tag None e laid h = absurd (false≢true (sym (ap is_some laid) ∙ h))
  look_some tag (Some list) e laid h = (list, e)

  knows_all : KnowAlike (n.tag u) (look_in x.types) (look_in x.types) (look_in table)
  knows_all tag h =
      let (list, e) = look_some tag (members_in x.types tag) refl (own.laid tag) h in
      let a = among_first x.types.completed tag list e in
      alike_below (suc a.at) tag list e a (omega arith)

  -- what is complete in the unit takes as much in the table
  pub type_alike : (t : Ctype) → IsComplete x.types t → Alike (extent_in x.types t) (extent_in table (moved n u t))
  type_alike t h = extent_alike (n.tag u) (look_in x.types) (look_in x.types) (look_in table) knows_all t h

  pub complete_moved : (t : Ctype) → IsComplete x.types t → IsComplete table (moved n u t)
  complete_moved t h = alike_some (extent_in x.types t) (extent_in table (moved n u t)) (type_alike t h)

  pub sized_moved : (t : Ctype) → HasSize x.types t → HasSize table (moved n u t)
  sized_moved t h = sized_alike x.types table t (moved n u t) (type_alike t (sized_complete x.types t h)) h
