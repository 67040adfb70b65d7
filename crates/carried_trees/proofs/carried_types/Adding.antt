-- Members that are added to a table.
use Rattle.std.proofs.Common.{arith, ◌≡◌, ◌∙◌, ℕ, ◌+◌, ◌<◌, ◌⊎◌, inl, inr, Bool, false, ◌&&◌, cond, List, [], ◌∷◌, ◌++◌, All, length, map, get_or, refl, ap, sym, subst, Option, Some, None, slice_get, IsSome, is_some, MatchOption}
use Rattle.std.specs.Option.{option_map, option_and_then}
use Rattle.std.proofs.lemmas.Bool.{cases_lt}
use Rattle.std.proofs.lemmas.Bool.Decides.{eqb_tells}
use Rattle.std.proofs.lemmas.List.Elements.{All-head, All-tail}
use Rattle.std.proofs.lemmas.Option.{slice_get_within}
use Rattle.c_types.specs.declared.term.Term.{Term}
use Rattle.c_types.specs.declared.term.MemberTerm.{MemberTerm}
use Rattle.c_types.specs.Layout.{Extent}
use Rattle.c_types.specs.Trees.{Ctype, tree_at, grown}
use Rattle.c_types.specs.Table.{Table, TagMembers, type_of, extent_in, members_in, members_among}
use Rattle.c_inits.specs.Tables.{part_of}
use Rattle.carried_trees.specs.carried_types.Types.{carried_type, is_given_type}
use Rattle.carried_trees.specs.carried_types.Terms.{AreTypes, tag_type}
use Rattle.carried_trees.specs.carried_types.Members.{tag_named, number_of, carried_part, are_given_parts, are_flagged, moved_member, AreAdded, AreDone, AreComplete, Lacks}
use Rattle.carried_trees.proofs.carried_types.Membered.{among_first}

some_one : {X : Type 0} → {x y : X} → ◌≡◌ {A = Option X} (Some x) (Some y) → x ≡ y
some_one h = cc

none_some : {X : Type 0} → {x : X} → ◌≡◌ {A = Option X} None (Some x) → ⊥
none_some h = cc

some_of : {A : Type 0} (o : Option A) → IsSome o → (x : A) × (o ≡ Some x)
some_of None h = cc
some_of (Some x) h = (x, refl)

among_kept : (cs : List TagMembers) (c : TagMembers) (tag : ℕ) (list : List MemberTerm) → members_among cs tag ≡ Some list → members_among (cs ++ c ∷ []) tag ≡ Some list
among_kept [] c tag list h = absurd (none_some h)
among_kept (d ∷ cs) c tag list h = elim (eqb_tells d.tag tag) [
  | inl same ↦ ap (λ b. cond b (Some d.members) (members_among (cs ++ c ∷ []) tag)) same.0 ∙ (sym (ap (λ b. cond b (Some d.members) (members_among cs tag)) same.0) ∙ h)
  | inr other ↦ ap (λ b. cond b (Some d.members) (members_among (cs ++ c ∷ []) tag)) other.0 ∙ among_kept cs c tag list (sym (ap (λ b. cond b (Some d.members) (members_among cs tag)) other.0) ∙ h)
]

among_here : (cs : List TagMembers) (c : TagMembers) → members_among cs c.tag ≡ None → members_among (cs ++ c ∷ []) c.tag ≡ Some c.members
among_here [] c h = elim (eqb_tells c.tag c.tag) [
  | inl same ↦ ap (λ b. cond b (Some c.members) None) same.0
  | inr other ↦ absurd (other.1 refl)
]
among_here (d ∷ cs) c h = elim (eqb_tells d.tag c.tag) [
  | inl same ↦ absurd (none_some (sym h ∙ ap (λ b. cond b (Some d.members) (members_among cs c.tag)) same.0))
  | inr other ↦ ap (λ b. cond b (Some d.members) (members_among (cs ++ c ∷ []) c.tag)) other.0 ∙ among_here cs c (sym (ap (λ b. cond b (Some d.members) (members_among cs c.tag)) other.0) ∙ h)
]

among_which : (cs : List TagMembers) (c : TagMembers) (tag : ℕ) (list : List MemberTerm) → members_among (cs ++ c ∷ []) tag ≡ Some list → (members_among cs tag ≡ Some list) ⊎ ((c.tag ≡ tag) × (c.members ≡ list))
among_which [] c tag list h = elim (eqb_tells c.tag tag) [
  | inl same ↦ inr (same.1, some_one (sym (ap (λ b. cond b (Some c.members) None) same.0) ∙ h))
  | inr other ↦ absurd (none_some (sym (ap (λ b. cond b (Some c.members) None) other.0) ∙ h))
]
among_which (d ∷ cs) c tag list h = elim (eqb_tells d.tag tag) [
  | inl same ↦ inl (ap (λ b. cond b (Some d.members) (members_among cs tag)) same.0 ∙ (sym (ap (λ b. cond b (Some d.members) (members_among (cs ++ c ∷ []) tag)) same.0) ∙ h))
  | inr other ↦ elim (among_which cs c tag list (sym (ap (λ b. cond b (Some d.members) (members_among (cs ++ c ∷ []) tag)) other.0) ∙ h)) [
    | inl old ↦ inl (ap (λ b. cond b (Some d.members) (members_among cs tag)) other.0 ∙ old)
    | inr new ↦ inr new
  ]
]

-- what is added to a table step by step
module _ (tag : ℕ → Option Ctype) (from : Table) where
  pub added_self : (table : Table) → AreAdded tag from table table
  added_self table = record { terms = refl; tags = refl; kept = λ number members h. h; extents = λ t e h. h; added = λ number members h. inl h }

  -- members with their types in a table that has the same terms
  parts_kept : (old new : Table) → new.terms ≡ old.terms → (members : List MemberTerm) → map (part_of new) members ≡ map (part_of old) members
  parts_kept old new e [] = refl
  parts_kept old new e (m ∷ rest) =
      let t : type_of new m.ty.0 ≡ type_of old m.ty.0 = ap (λ (ts : List Term). tree_at (grown [] ts) m.ty.0) e in
      let first : part_of new m ≡ part_of old m = ap (λ (x : Ctype). record { name = m.name; type = x; bits = m.bits }) t in
      let others : map (part_of new) rest ≡ map (part_of old) rest = parts_kept old new e rest in
      cc

  pub added_on : (old mid new : Table) → AreAdded tag from old mid → AreAdded tag from mid new → AreAdded tag from old new
  added_on old mid new g h = record {
    terms = h.terms ∙ g.terms;
    tags = h.tags ∙ g.tags;
    kept = λ number members at. h.kept number members (g.kept number members at);
    extents = λ t e at. h.extents t e (g.extents t e at);
    added = λ number members at. elim (h.added number members at) [
      | inl before ↦ elim (g.added number members before) [
        | inl first ↦ inl first
        | inr own ↦ inr (record { own = own.own; is = own.is; list = own.list; list_is = own.list_is; carried = parts_kept mid new h.terms members ∙ own.carried })
      ]
      | inr own ↦ inr own
    ];
  }

  -- the members of one tag more
  pub added_one : (old new : Table) (own number : ℕ) (list members : List MemberTerm) → new ≡ record old { completed = old.completed ++ record { tag = number; members = members } ∷ [] } → ((t : Ctype) (e : Extent) → extent_in old t ≡ Some e → extent_in new t ≡ Some e)
      → members_in from own ≡ Some list → number_of tag own ≡ Some number → map (part_of old) members ≡ map (carried_part tag) (map (part_of from) list) → AreAdded tag from old new
  added_one old new own number list members is extents there numbered moved = record {
    terms = terms;
    tags = ap (λ (t : Table). t.tags) is;
    kept = λ n found at. ap (λ (t : Table). members_in t n) is ∙ among_kept old.completed (record { tag = number; members = members }) n found at;
    extents = extents;
    added = λ n found at. elim (among_which old.completed (record { tag = number; members = members }) n found (sym (ap (λ (t : Table). members_in t n) is) ∙ at)) [
      | inl before ↦ inl before
      | inr one ↦ inr (record {
        own = own;
        is = numbered ∙ ap Some one.0;
        list = list;
        list_is = there;
        carried = subst (λ (ms : List MemberTerm). map (part_of new) ms ≡ map (carried_part tag) (map (part_of from) list)) one.1 (parts_kept old new terms members ∙ moved);
      })
    ];
  }
    where
      terms : new.terms ≡ old.terms
      terms = ap (λ (t : Table). t.terms) is

  pub completed_here : (old new : Table) (number : ℕ) (members : List MemberTerm) → new ≡ record old { completed = old.completed ++ record { tag = number; members = members } ∷ [] } → members_in old number ≡ None → IsSome (members_in new number)
  completed_here old new number members is none = ap is_some (ap (λ (t : Table). members_in t number) is ∙ among_here old.completed (record { tag = number; members = members }) none)

  pub done_kept : (old new : Table) (count : ℕ) → AreAdded tag from old new → AreDone tag from old count → AreDone tag from new count
  done_kept old new count g h j c number lt at is = (let (members, there) = some_of (members_in old number) (h j c number lt at is) in ap is_some (g.kept number members there))

  pub done_more : (table : Table) (count : ℕ) (c : TagMembers) → slice_get from.completed count ≡ Some c → ((number : ℕ) → number_of tag c.tag ≡ Some number → IsSome (members_in table number)) → AreDone tag from table count → AreDone tag from table (count + 1)
  done_more table count c at here h j d number lt there is = elim (cases_lt j count) [
    | inl less ↦ h j d number less there is
    | inr ge ↦
        let same : j ≡ count = omega arith in
        let one : d ≡ c = some_one (sym there ∙ (ap (slice_get from.completed) same ∙ at)) in
        here number (sym (ap (λ (x : TagMembers). number_of tag x.tag) one) ∙ is)
  ]

  pub done_all : (table : Table) → AreDone tag from table (length from.completed) → AreComplete tag from table
  done_all table h own number is some =
      let (list, there) = some_of (members_in from own) some in
      let a = among_first from.completed own list there in
      h a.at (record { tag = own; members = list }) number (slice_get_within from.completed a.at (record { tag = own; members = list }) a.there) a.there is

-- the members of a list under the numbers of their types
module _ (tag : ℕ → Option Ctype) (from table : Table) (ids : List ℕ) (given : List Bool) (types : AreTypes tag from (length from.terms) ids given table) where
  pub parts_carried : (list : List MemberTerm) → All (λ m. m.ty.0 < length from.terms) list → map (part_of table) (map (moved_member ids) list) ≡ map (carried_part tag) (map (part_of from) list)
  parts_carried [] all = refl
  parts_carried (m ∷ rest) all =
      let t : type_of table (get_or ids m.ty.0 0) ≡ carried_type tag (type_of from m.ty.0) = types.types m.ty.0 (All-head (λ (x : MemberTerm). x.ty.0 < length from.terms) m rest all) in
      let first : part_of table (moved_member ids m) ≡ carried_part tag (part_of from m) = ap (λ (x : Ctype). record { name = m.name; type = x; bits = m.bits }) t in
      let others : map (part_of table) (map (moved_member ids) rest) ≡ map (carried_part tag) (map (part_of from) rest) = parts_carried rest (All-tail (λ (x : MemberTerm). x.ty.0 < length from.terms) m rest all) in
      cc

  pub flags_given : (list : List MemberTerm) → All (λ m. m.ty.0 < length from.terms) list → are_flagged given list ≡ are_given_parts tag (map (part_of from) list)
  flags_given [] all = refl
  flags_given (m ∷ rest) all =
      let first : get_or given m.ty.0 false ≡ is_given_type tag (type_of from m.ty.0) = types.given_are m.ty.0 (All-head (λ (x : MemberTerm). x.ty.0 < length from.terms) m rest all) in
      let others : are_flagged given rest ≡ are_given_parts tag (map (part_of from) rest) = flags_given rest (All-tail (λ (x : MemberTerm). x.ty.0 < length from.terms) m rest all) in
      ap (λ (b : Bool). b && are_flagged given rest) first ∙ ap (λ (b : Bool). is_given_type tag (type_of from m.ty.0) && b) others

-- in a table with the same terms the types of tags are the same
pub tags_same : (old new : Table) (tags : List (Option ℕ)) → new.terms ≡ old.terms → tag_type new tags ≡ tag_type old tags
tags_same old new tags e = ap (λ (ts : List Term). (λ (k : ℕ). option_map (λ (id : ℕ). tree_at (grown [] ts) id) (get_or tags k None))) e

pub types_same : (tag : ℕ → Option Ctype) (from old new : Table) (count : ℕ) (ids : List ℕ) (given : List Bool) → new.terms ≡ old.terms → AreTypes tag from count ids given old → AreTypes tag from count ids given new
types_same tag from old new count ids given e h = record {
  long = h.long;
  flags = h.flags;
  within = λ j lt. subst (λ (ts : List Term). get_or ids j 0 < length ts) (sym e) (h.within j lt);
  types = λ j lt. ap (λ (ts : List Term). tree_at (grown [] ts) (get_or ids j 0)) e ∙ h.types j lt;
  given_are = h.given_are;
}

-- what is lacking at the end was lacking at the beginning
pub lacks_before : (tag : ℕ → Option Ctype) (from old new : Table) → AreAdded tag from old new → Lacks tag from new → Lacks tag from old
lacks_before tag from old new g h = record {
  own = h.own;
  number = h.number;
  is = h.is;
  was_open = none_before (members_in old h.number) refl;
  list = h.list;
  list_is = h.list_is;
  lacks = h.lacks;
}
  where
    none_before : (o : Option (List MemberTerm)) → members_in old h.number ≡ o → members_in old h.number ≡ None
    none_before None e = e
    none_before (Some ms) e = absurd (none_some (sym h.was_open ∙ g.kept h.number ms e))

pub none_has : {A : Type 0} (o : Option A) → o ≡ None → IsSome o → ⊥
none_has None e h = cc
none_has (Some x) e h = cc

-- a tag has one number
pub one_number : (tag : ℕ → Option Ctype) (k : ℕ) (a b : ℕ) → number_of tag k ≡ Some a → number_of tag k ≡ Some b → a ≡ b
one_number tag k a b g h = some_one (sym g ∙ h)

pub no_number : (tag : ℕ → Option Ctype) (k number : ℕ) → tag k ≡ None → number_of tag k ≡ Some number → ⊥
no_number tag k number e h = none_some (sym (ap (λ (o : Option Ctype). option_and_then tag_named o) e) ∙ h)

pub numbered_by : (table : Table) (tags : List (Option ℕ)) (k id number : ℕ) → get_or tags k None ≡ Some id → tag_named (type_of table id) ≡ Some number → number_of (tag_type table tags) k ≡ Some number
numbered_by table tags k id number e named = ap (λ (o : Option ℕ). option_and_then tag_named (option_map (λ (i : ℕ). type_of table i) o)) e ∙ named

pub match_none : {A : Type 0} (r : Option A) (P : Type 0) (Q : A → Type 0) → is_some r ≡ false → MatchOption r P Q → P
match_none None P Q e h = h
match_none (Some x) P Q e h = cc
