-- The structures of a merged table have at most 2^24 nodes.
use Rattle.std.proofs.Common.{arith, ◌≡◌, ◌∙◌, ◌⊎◌, ℕ, zero, suc, ◌+◌, ◌^◌, ◌<◌, Bool, true, false, cond, List, [], ◌∷◌, length, length-append, take, Option, Some, None, IsSome, is_some, slice_get, refl, sym, ap, subst, inl, inr}
use Rattle.std.specs.Prelude.{nat_eq, nat_lt, ◌||◌}
use Rattle.std.specs.List.{list_any}
use Rattle.std.specs.Option.{option_map}
use Rattle.std.proofs.lemmas.Bool.{cases_lt, false≢true}
use Rattle.std.proofs.lemmas.Bool.Decides.{eqb_tells}
use Rattle.std.proofs.lemmas.Option.{slice_get_within}
use borrow.Author.Tests.{ltb-true}
use Rattle.c_types.specs.declared.term.Term.{Term}
use Rattle.c_types.specs.declared.term.Term.TheVariants.{Structure, Union}
use Rattle.c_types.specs.declared.term.MemberTerm.{MemberTerm}
use Rattle.c_types.specs.Trees.{Ctype, StructureOf, UnionOf}
use Rattle.c_types.specs.Layout.{Extent, all_nodes, of_members, structure_of, member_extent}
use Rattle.c_types.specs.Table.{Table, type_of, look_in, extent_in, extents_in, members_in, members_among, nodes_within}
use Rattle.c_types.specs.Made.{IsMade, AreNamed, IsComplete, IsFlexible, earlier}
use Rattle.c_types.proofs.Nodes.{structure_nodes}
use Rattle.type_rules.specs.Kinds.{IsAggregate}
use Rattle.type_rules.specs.Sizes.{TagsHaveSizes}
use Rattle.core_tree.specs.declared.node.Unit.{Unit}
use Rattle.link_model.specs.declared.item.Item.{Item}
use Rattle.link_model.specs.Units.{item, types_if, types_in, is_union_of, is_union, label_at, Label, key_at}
use Rattle.link_model.specs.Apart.{CountsAs}
use Rattle.link_model.specs.Merged.{Numbering, moved, tag_of, AreMoved, IsMerged}
use Rattle.linked_laws.specs.merged_laws.Merged.{AreTables, AreSizes, TagsFit}
use Rattle.linked_laws.proofs.merged_laws.Members.{stands_within, types_is, list_moved}
use Rattle.linked_laws.proofs.merged_laws.Completing.{IsAmong, among_first, among_some, known_completed, none_known, take_within}
use Rattle.linked_laws.proofs.merged_laws.Alike.{ListsAlike, KnowAlike, member_alike}
use Rattle.linked_laws.proofs.merged_laws.Terms.{type_of_term, union_term}

some_one : {X : Type 0} → {x y : X} → ◌≡◌ {A = Option X} (Some x) (Some y) → x ≡ y
some_one h = cc

none_some : {X : Type 0} → {x : X} → ◌≡◌ {A = Option X} None (Some x) → ⊥
none_some h = cc

some_of : {A : Type 0} (o : Option A) → IsSome o → (x : A) × (o ≡ Some x)
some_of None h = absurd (false≢true h)
some_of (Some x) h = (x, refl)

lists_alike : (a b : Option (List Extent)) (es ds : List Extent) → a ≡ Some es → b ≡ Some ds → length (all_nodes ds) ≡ length (all_nodes es) → ListsAlike a b
lists_alike a b es ds ea eb h = subst (λ (o : Option (List Extent)). ListsAlike o b) (sym ea) (subst (λ (o : Option (List Extent)). ListsAlike (Some es) o) (sym eb) h)

-- the list of a tag of unit u, where the table has it
module _ (units : List Unit) (n : Numbering) (table : Table) (tables : AreTables units) (again : IsMade table) (merged : IsMerged units n table) (u : ℕ) (x : Unit) (is : slice_get units u ≡ Some x) where
  own : IsMade x.types
  own = tables.made u x is

  -- what a member may be
  abbrev MayStand : ℕ → MemberTerm → Type 0
  MayStand at m = IsComplete (earlier x.types at) (type_of x.types m.ty.0) ⊎ IsFlexible (earlier x.types at) (type_of x.types m.ty.0)

  members_alike : (at : ℕ) → KnowAlike (n.tag u) (look_in (earlier x.types at)) (look_in x.types) (look_in table) → (ms ks : List MemberTerm) → AreMoved units n table u ms ks
      → ((i : ℕ) (m : MemberTerm) → slice_get ms i ≡ Some m → MayStand at m) → length (all_nodes (extents_in table ks)) ≡ length (all_nodes (extents_in x.types ms))
  members_alike at knows [] [] moves each = refl
  members_alike at knows [] (k ∷ ks) moves each = absurd moves
  members_alike at knows (m ∷ ms) [] moves each = absurd moves
  members_alike at knows (m ∷ ms) (k ∷ ks) moves each =
      let t = type_of x.types m.ty.0 in
      let type : type_of table k.ty.0 ≡ moved n u t = moves.2 ∙ ap (λ (a : Table). moved n u (type_of a m.ty.0)) (types_is units n table tables merged u x is) in
      let one : length (member_extent (look_in table) (type_of table k.ty.0)).nodes ≡ length (member_extent (look_in x.types) t).nodes =
      ap (λ (s : Ctype). length (member_extent (look_in table) s).nodes) type
      ∙ member_alike (earlier x.types at) (n.tag u) (look_in (earlier x.types at)) (look_in x.types) (look_in table) knows t (each 0 m refl) in
      let rest = members_alike at knows ms ks moves.3 (λ i y there. each (suc i) y there) in
      let a = length-append (member_extent (look_in table) (type_of table k.ty.0)).nodes (all_nodes (extents_in table ks)) in
      let b = length-append (member_extent (look_in x.types) t).nodes (all_nodes (extents_in x.types ms)) in
      omega arith

  -- the tags that were complete before one are alike
  abbrev AlikeBefore : ℕ → Type 0
  AlikeBefore at = (tag : ℕ) (list : List MemberTerm) → members_in x.types tag ≡ Some list → (a : IsAmong x.types.completed tag list) → a.at < at → ListsAlike (look_in x.types tag) (look_in table (n.tag u tag))

  known_alike : (at : ℕ) → AlikeBefore at → KnowAlike (n.tag u) (look_in (earlier x.types at)) (look_in x.types) (look_in table)
  known_alike at before tag h = elim (known_completed (earlier x.types at) [] (take at x.types.completed) tag h) [
    | inl none ↦ absurd (none_known tag none)
    | inr some ↦
        let (list, among) = some_of (members_among (take at x.types.completed) tag) some in
        let b = among_first (take at x.types.completed) tag list among in
        let w = take_within x.types.completed at b.at (record { tag = tag; members = list }) b.there in
        let (first, first_is) = some_of (members_in x.types tag) (among_some x.types.completed b.at (record { tag = tag; members = list }) w.1) in
        let c = among_first x.types.completed tag first first_is in
        let le = c.first b.at (record { tag = tag; members = list }) w.1 refl in
        let lt = w.0 in
        before tag first first_is c (omega arith)
  ]

  from_before : (tag : ℕ) (list : List MemberTerm) (a : IsAmong x.types.completed tag list) → AlikeBefore a.at → (ks : List MemberTerm) → AreMoved units n table u list ks
      → length (all_nodes (extents_in table ks)) ≡ length (all_nodes (extents_in x.types list))
  from_before tag list a before ks moves =
      members_alike a.at (known_alike a.at before) list ks moves
      (λ i m there. elim (own.ordered a.at (record { tag = tag; members = list }) a.there i m there).1.object [ inl complete ↦ inl complete | inr loose ↦ inr loose.flexible ])

  alike_below : (at : ℕ) → AlikeBefore at
  alike_below zero tag list e a lt = absurd (omega arith)
  alike_below (suc at) tag list e a lt =
      let l = list_moved units n table tables merged u x is tag list e in
      lists_alike (look_in x.types tag) (look_in table (n.tag u tag)) (extents_in x.types list) (extents_in table l.members)
      (own.laid tag ∙ ap (option_map (extents_in x.types)) e) (again.laid (n.tag u tag) ∙ ap (option_map (extents_in table)) l.members_are)
      (from_before tag list a (λ other first first_is c less. alike_below at other first first_is c (omega arith)) l.members l.moved)

  -- a list has as many nodes in the table
  list_alike : (tag : ℕ) (list : List MemberTerm) → members_in x.types tag ≡ Some list → (ks : List MemberTerm) → AreMoved units n table u list ks
      → length (all_nodes (extents_in table ks)) ≡ length (all_nodes (extents_in x.types list))
  list_alike tag list e ks moves = (let a = among_first x.types.completed tag list e in from_before tag list a (alike_below a.at) ks moves)

-- a structure that has a size has at most 2^24 nodes
within_true : (e : Extent) (b : Bool) → nat_lt (length e.nodes) (2 ^ 24 + 1) ≡ b → IsSome (cond b (Some (length e.nodes)) None) → length e.nodes < 2 ^ 24 + 1
within_true e true is h = ltb-true (length e.nodes) (2 ^ 24 + 1) is
within_true e false is h = absurd (false≢true h)

few_nodes : (o : Option Extent) (e : Extent) → o ≡ Some e → IsSome (nodes_within o) → length e.nodes < 2 ^ 24 + 1
few_nodes o e is h = within_true e (nat_lt (length e.nodes) (2 ^ 24 + 1)) refl (subst (λ (p : Option Extent). IsSome (nodes_within p)) is h)

structure_few : (table : Table) → IsMade table → TagsHaveSizes table → (tag i : ℕ) (list : List MemberTerm) → members_in table tag ≡ Some list → slice_get table.terms i ≡ Some (Structure tag) → length (all_nodes (extents_in table list)) < 2 ^ 24
structure_few table made sizes tag i list e at =
    let lt = slice_get_within table.terms i (Structure tag) at in
    let type : type_of table i ≡ StructureOf tag = (type_of_term table i (Structure tag) at).1 in
    let extent : extent_in table (type_of table i) ≡ Some (structure_of (StructureOf tag) (extents_in table list)) =
    ap (extent_in table) type ∙ ap (of_members (structure_of (StructureOf tag))) (made.laid tag ∙ ap (option_map (extents_in table)) e) in
    let sized = sizes i lt (subst IsAggregate (sym type) tt) (ap is_some extent) in
    let few = few_nodes (extent_in table (type_of table i)) (structure_of (StructureOf tag) (extents_in table list)) extent sized.1 in
    let count : length (structure_of (StructureOf tag) (extents_in table list)).nodes ≡ suc (length (all_nodes (extents_in table list))) = ap (λ (ns : List Ctype). length ns) (structure_nodes (StructureOf tag) (extents_in table list)) in
    omega arith

-- a tag that stands in a union
or_right : (a b : Bool) → b ≡ true → (a || b) ≡ true
or_right true b h = refl
or_right false b h = h

or_left : (a b : Bool) → a ≡ true → (a || b) ≡ true
or_left true b h = refl
or_left false b h = absurd (false≢true h)

same_number : (k : ℕ) → nat_eq k k ≡ true
same_number k = elim (eqb_tells k k) [ inl same ↦ same.0 | inr other ↦ absurd (other.1 refl) ]

any_union : (tag : ℕ) (terms : List Term) (i : ℕ) → slice_get terms i ≡ Some (Union tag) → list_any (is_union_of tag) terms ≡ true
any_union tag [] i at = absurd (none_some at)
any_union tag (t ∷ rest) zero at = or_left (is_union_of tag t) (list_any (is_union_of tag) rest) (ap (is_union_of tag) (some_one at) ∙ same_number tag)
any_union tag (t ∷ rest) (suc i) at = or_right (is_union_of tag t) (list_any (is_union_of tag) rest) (any_union tag rest i at)

union_is : (tag : ℕ) (t : Term) → is_union_of tag t ≡ true → t ≡ Union tag
union_is tag (Union other) h = elim (eqb_tells other tag) [ inl same ↦ ap (λ k. Union k) same.1 | inr other ↦ absurd (false≢true (sym other.0 ∙ h)) ]
union_is tag t h = absurd (false≢true h)

union_at : (tag : ℕ) (terms : List Term) → list_any (is_union_of tag) terms ≡ true → (i : ℕ) × (slice_get terms i ≡ Some (Union tag))
union_at tag [] h = absurd (false≢true h)
union_at tag (t ∷ rest) h = by (union_at tag rest) (is_union_of tag t) refl h
  where
    by : (list_any (is_union_of tag) rest ≡ true → (i : ℕ) × (slice_get rest i ≡ Some (Union tag))) → (b : Bool) → is_union_of tag t ≡ b → (b || list_any (is_union_of tag) rest) ≡ true
        → (i : ℕ) × (slice_get (t ∷ rest) i ≡ Some (Union tag))
    by later true is e = (0, ap (λ (s : Term). Some s) (union_is tag t is))
    by later false is e = let r = later e in (suc r.0, r.1)

module _ (units : List Unit) (n : Numbering) (table : Table) (tables : AreTables units) (sizes : AreSizes units) (made : IsMade table) (named : AreNamed table) (merged : IsMerged units n table) where
  -- a tag that stands in a union of its unit stands in one of the table
  union_there : (a : Item) → is_union units a ≡ true → (i : ℕ) × (slice_get table.terms i ≡ Some (Union (tag_of n a)))
  union_there a h =
      let (i, at) = union_at a.number (types_in units a.unit).terms h in
      let lt = slice_get_within (types_in units a.unit).terms i (Union a.number) at in
      let t = merged.types (item a.unit i) lt in
      let type : type_of table (n.type a.unit i) ≡ UnionOf (tag_of n a) = t.type_is ∙ ap (moved n a.unit) (type_of_term (types_in units a.unit) i (Union a.number) at).1 in
      (n.type a.unit i, union_term table (n.type a.unit i) (tag_of n a) t.within type)

  -- a tag and the one whose list counts for it stand with one keyword
  keyword : (a b : Item) (list : List MemberTerm) → CountsAs units a b list → is_union units b ≡ is_union units a
  keyword a b list counts = elim counts.which [
    | inl same ↦ ap (is_union units) (sym same)
    | inr first ↦
        let (label, one, other) = first.same_key in
        label_union b label other ∙ sym (label_union a label one)
  ]
    where
      label_by : (a : Item) (o : Option (List ℕ)) (label : Label) → option_map (λ (key : List ℕ). record { union = is_union units a; key = key }) o ≡ Some label → is_union units a ≡ label.union
      label_by a None label e = absurd (none_some e)
      label_by a (Some key) label e = ap (λ (l : Label). l.union) (some_one e)

      label_union : (a : Item) (label : Label) → label_at units a ≡ Some label → is_union units a ≡ label.union
      label_union a label e = label_by a (key_at units a) label e

  -- the list that counts has few nodes
  counted_few : (a b : Item) (list ks : List MemberTerm) → CountsAs units a b list → (is_union units a ≡ true → ⊥) → AreMoved units n table b.unit list ks → length (all_nodes (extents_in table ks)) < 2 ^ 24
  counted_few a b list ks counts not_union moves = by_unit (slice_get units b.unit) refl
    where
      by_unit : (o : Option Unit) → slice_get units b.unit ≡ o → length (all_nodes (extents_in table ks)) < 2 ^ 24
      by_unit None is = absurd (none_some (sym (ap (λ (o : Option Unit). members_in (types_if o) b.number) is) ∙ counts.list_is))
      by_unit (Some x) is =
          let own = tables.made b.unit x is in
          let e : members_in x.types b.number ≡ Some list = sym (ap (λ (o : Option Unit). members_in (types_if o) b.number) is) ∙ counts.list_is in
          let same = list_alike units n table tables made merged b.unit x is b.number list e ks moves in
          elim (own.stands b.number list e) [
            | inl s ↦ (let few = structure_few x.types own (sizes.each b.unit x is) b.number s.0 list e s.1 in omega arith)
            | inr s ↦ absurd (not_union (sym (keyword a b list counts) ∙ (ap (λ (o : Option Unit). list_any (is_union_of b.number) (types_if o).terms) is ∙ any_union b.number x.types.terms s.0 s.1)))
          ]

  pub tags_fit : TagsFit table
  tags_fit = record {
    each = λ tag ms is no_union. elim (cases_lt (length (all_nodes (extents_in table ms))) (2 ^ 24)) [
      | inl less ↦ less
      | inr more ↦
          let within = stands_within table named tag (made.stands tag ms is) in
          let (a, is_tag, number) = merged.only tag within in
          let here : members_in table (tag_of n a) ≡ Some ms = ap (members_in table) number ∙ is in
          let none = merged.without a is_tag (λ b list counts.
          let l = merged.lists a b list is_tag counts in
          let same : l.members ≡ ms = some_one (sym l.members_are ∙ here) in
          let few = counted_few a b list l.members counts (λ h. let (i, at) = union_there a h in no_union i (at ∙ ap (λ k. Some (Union k)) number)) l.moved in
          let count : length (all_nodes (extents_in table l.members)) ≡ length (all_nodes (extents_in table ms)) = ap (λ (k : List MemberTerm). length (all_nodes (extents_in table k))) same in
          omega arith) in
          absurd (none_some (sym none ∙ here))
    ];
  }
