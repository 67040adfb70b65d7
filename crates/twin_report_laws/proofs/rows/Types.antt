-- Types of two programs that are one, but for numbers: their nodes and members.
use Rattle.std.proofs.Common.{◌≡◌, ◌∙◌, ◌+◌, ◌<◌, ◌^◌, ℕ, zero, suc, Bool, true, false, List, [], ◌∷◌, map, take, length, Option, Some, None, unwrap_or, refl, sym, ap, subst, inl, inr}
use Rattle.std.specs.Prelude.{if◌then◌else◌, nat_lt, ◌==◌}
use Rattle.std.specs.List.{slice_get}
use Rattle.std.specs.Option.{option_map, option_and_then}
use Rattle.std.proofs.lemmas.List.{length-map}
use Rattle.std.proofs.lemmas.Option.{slice_get-map}
use Rattle.c_types.specs.declared.term.MemberTerm.{MemberTerm}
use Rattle.c_types.specs.declared.term.PathStep.{PathStep}
use Rattle.c_types.specs.declared.term.PathStep.TheVariants.{Index, Member as MemberStep}
use Rattle.c_types.specs.Trees.{Ctype, VoidType, BoolType, IntegerType, FloatingType, VaListType, PointerTo, ArrayOf, FunctionFrom, StructureOf, UnionOf}
use Rattle.c_types.specs.Layout.{Extent, all_nodes}
use Rattle.c_types.specs.Parts.{position, unless_flexible, member_node as place_in, within_32, field_in}
use Rattle.c_types.specs.Paths.{with_length, member_type, part_type}
use Rattle.c_types.specs.Table.{Table, type_of, extent_in, extents_in, members_in}
use Rattle.core_tree.specs.declared.node.Node.{Node}
use Rattle.core_tree.specs.declared.node.Program.{Program}
use Rattle.core_tree.specs.Typed.{sort_of, sort_in, type_in, trees_in, sort_at, type_at}
use Rattle.link_model.specs.Renamed.{renamed}
use Rattle.link_model.specs.Partition.{HasTags}
use Rattle.link_merge.proofs.Own.{type_tags}
use Rattle.row_numbers.specs.Kept.{nodes_in, nodes_of, member_node, is_kept, kept_at, kept_from, kept, kept_count}
use Rattle.row_numbers.specs.Numbers.{integer_number, type_number}
use Rattle.twin_report_laws.specs.outcome_laws.twin_programs.One.{Numbers, SameMembers}
use Rattle.twin_report_laws.specs.outcome_laws.twin_locations.Same.{number_moved}
use Rattle.twin_report_laws.proofs.outcome_laws.twin_locations.Cells.{tag_moved}
use Rattle.linked_laws.proofs.merged_laws.Completing.{among_first}
use Rattle.linked_laws.proofs.merged_laws.Members.{stands_within}
use Rattle.twin_report_laws.proofs.outcome_laws.twin_words.Sums.{none_some}
use Rattle.twin_report_laws.proofs.outcome_laws.twin_words.Extents.{Alike, members_alike, known_before, alike_below}
use Rattle.twin_report_laws.proofs.outcome_laws.twin_words.Kept.{kept_same}
use Rattle.twin_report_laws.proofs.outcome_laws.twin_words.Tables.{extents}
use Rattle.twin_report_laws.proofs.outcome_laws.twin_words.Results.{sort_same}
use Rattle.twin_report_laws.specs.rows.Paired.{ArePaired}

-- ---- lists
pub take_map : {X Y : Type 0} (f : X → Y) (n : ℕ) (xs : List X) → take n (map f xs) ≡ map f (take n xs)
take_map f zero xs = refl
take_map f (suc n) [] = refl
take_map f (suc n) (x ∷ xs) = ap (λ ys. f x ∷ ys) (take_map f n xs)

pub from_take : {X : Type 0} (n : ℕ) (xs : List X) (i : ℕ) (x : X) → slice_get (take n xs) i ≡ Some x → slice_get xs i ≡ Some x
from_take zero xs i x at = absurd (none_some at)
from_take (suc n) [] i x at = absurd (none_some at)
from_take (suc n) (y ∷ xs) zero x at = at
from_take (suc n) (y ∷ xs) (suc i) x at = from_take n xs i x at

-- ---- nodes that have rows
module _ (f : ℕ → ℕ) where
  pub nodes_in_moved : (a b : Option Extent) → Alike f a b → nodes_in b ≡ map (renamed f) (nodes_in a)
  nodes_in_moved None None h = refl
  nodes_in_moved None (Some d) h = absurd h
  nodes_in_moved (Some e) None h = absurd h
  nodes_in_moved (Some e) (Some d) h =
      ap (λ (ns : List Ctype). if nat_lt (length ns) (2 ^ 24 + 1) then ns else []) h
      ∙ (ap (λ (n : ℕ). if nat_lt n (2 ^ 24 + 1) then map (renamed f) e.nodes else []) (length-map e.nodes (renamed f)) ∙ by (nat_lt (length e.nodes) (2 ^ 24 + 1)))
    where
      by : (b : Bool) → (if b then map (renamed f) e.nodes else []) ≡ map (renamed f) (if b then e.nodes else [])
      by true = refl
      by false = refl

  kept_from_moved : (i : ℕ) (ts : List Ctype) → kept_from i (map (renamed f) ts) ≡ kept_from i ts
  kept_from_moved i [] = refl
  kept_from_moved i (t ∷ rest) =
      ap (λ (b : Bool). if b then i ∷ kept_from (i + 1) (map (renamed f) rest) else kept_from (i + 1) (map (renamed f) rest)) (kept_same f t)
      ∙ ap (λ (ks : List ℕ). if is_kept t then i ∷ ks else ks) (kept_from_moved (i + 1) rest)

  pub kept_moved : (ts : List Ctype) → kept (map (renamed f) ts) ≡ kept ts
  kept_moved ts = kept_from_moved 0 ts

  pub kept_take : (i : ℕ) (ts : List Ctype) → kept_count (take i (map (renamed f) ts)) ≡ kept_count (take i ts)
  kept_take i ts = ap kept_count (take_map (renamed f) i ts) ∙ ap (λ (ks : List ℕ). length ks) (kept_moved (take i ts))

  pub kept_at_moved : (i : ℕ) (ts : List Ctype) → kept_at (slice_get (map (renamed f) ts) i) ≡ kept_at (slice_get ts i)
  kept_at_moved i ts = ap kept_at (slice_get-map (renamed f) ts i) ∙ by (slice_get ts i)
    where
      by : (o : Option Ctype) → kept_at (option_map (renamed f) o) ≡ kept_at o
      by None = refl
      by (Some t) = kept_same f t

  -- ---- numbers of types
  integer_fixed : (size : ℕ) → integer_number size ≡ number_moved f (integer_number size)
  integer_fixed size = by (size == 1) (size == 2) (size == 4)
    where
      by : (a b c : Bool) → (if a then 0 else (if b then 1 else (if c then 2 else 3))) ≡ number_moved f (if a then 0 else (if b then 1 else (if c then 2 else 3)))
      by true b c = refl
      by false true c = refl
      by false false true = refl
      by false false false = refl

  pub type_number_moved : (t : Ctype) → type_number (renamed f t) ≡ number_moved f (type_number t)
  type_number_moved VoidType = refl
  type_number_moved BoolType = refl
  type_number_moved (IntegerType size rank signed) = integer_fixed size
  type_number_moved FloatingType = refl
  type_number_moved VaListType = refl
  type_number_moved (PointerTo to) = refl
  type_number_moved (ArrayOf of length) = type_number_moved of
  type_number_moved (FunctionFrom result parameters form) = refl
  type_number_moved (StructureOf tag) = tag_moved f tag
  type_number_moved (UnionOf tag) = tag_moved f tag

  -- ---- members
  flexible_same : (t : Ctype) (n : ℕ) → unless_flexible (renamed f t) n ≡ unless_flexible t n
  flexible_same (ArrayOf of None) n = refl
  flexible_same (ArrayOf of (Some k)) n = refl
  flexible_same t n = refl

  length_same : (t : Ctype) → with_length (renamed f t) ≡ option_map (renamed f) (with_length t)
  length_same (ArrayOf of None) = refl
  length_same (ArrayOf of (Some k)) = refl
  length_same t = refl

  module _ (one other : Table) where
    field_list : (n : ℕ) (ms ks : List MemberTerm) → SameMembers one other f ms ks → (k : ℕ)
        → option_and_then (λ (m : MemberTerm). unless_flexible (type_of other m.ty.0) n) (slice_get ks k) ≡ option_and_then (λ (m : MemberTerm). unless_flexible (type_of one m.ty.0) n) (slice_get ms k)
    field_list n [] [] h k = refl
    field_list n [] (x ∷ ks) h k = absurd h
    field_list n (m ∷ ms) [] h k = absurd h
    field_list n (m ∷ ms) (x ∷ ks) h zero = ap (λ (t : Ctype). unless_flexible t n) h.2 ∙ flexible_same (type_of one m.ty.0) n
    field_list n (m ∷ ms) (x ∷ ks) h (suc k) = field_list n ms ks h.3 k

    type_list : (ms ks : List MemberTerm) → SameMembers one other f ms ks → (k : ℕ)
        → option_and_then (λ (m : MemberTerm). with_length (type_of other m.ty.0)) (slice_get ks k) ≡ option_map (renamed f) (option_and_then (λ (m : MemberTerm). with_length (type_of one m.ty.0)) (slice_get ms k))
    type_list [] [] h k = refl
    type_list [] (x ∷ ks) h k = absurd h
    type_list (m ∷ ms) [] h k = absurd h
    type_list (m ∷ ms) (x ∷ ks) h zero = ap with_length h.2 ∙ length_same (type_of one m.ty.0)
    type_list (m ∷ ms) (x ∷ ks) h (suc k) = type_list ms ks h.3 k

    take_same : (n : ℕ) (ms ks : List MemberTerm) → SameMembers one other f ms ks → SameMembers one other f (take n ms) (take n ks)
    take_same zero ms ks h = tt
    take_same (suc n) [] [] h = tt
    take_same (suc n) [] (x ∷ ks) h = absurd h
    take_same (suc n) (m ∷ ms) [] h = absurd h
    take_same (suc n) (m ∷ ms) (x ∷ ks) h = (h.0, h.1, h.2, take_same n ms ks h.3)

    pub as_many_members : (ms ks : List MemberTerm) → SameMembers one other f ms ks → length ks ≡ length ms
    as_many_members [] [] h = refl
    as_many_members [] (x ∷ ks) h = absurd h
    as_many_members (m ∷ ms) [] h = absurd h
    as_many_members (m ∷ ms) (x ∷ ks) h = ap suc (as_many_members ms ks h.3)

extents_take : (table : Table) (n : ℕ) (ms : List MemberTerm) → take n (extents_in table ms) ≡ extents_in table (take n ms)
extents_take table n ms = take_map _ n (map (λ (m : MemberTerm). type_of table m.ty.0) ms) ∙ ap (map _) (take_map (λ (m : MemberTerm). type_of table m.ty.0) n ms)

module _ (p q : Program) (to back : Numbers) (h : ArePaired p q to back) where
  pub nodes_moved : (t : Ctype) → HasTags p.types.tags t → nodes_of q.types (renamed to.tag t) ≡ map (renamed to.tag) (nodes_of p.types t)
  nodes_moved t has = nodes_in_moved to.tag (extent_in p.types t) (extent_in q.types (renamed to.tag t)) (extents p q to back h.lead h.again h.sound h.other_sound t has)

  pub own_tags : (id : ℕ) → HasTags p.types.tags (type_of p.types id)
  own_tags id = type_tags p.types id h.sound.named

  pub lists : (tag : ℕ) (ms : List MemberTerm) → members_in p.types tag ≡ Some ms → (ks : List MemberTerm) × (members_in q.types (to.tag tag) ≡ Some ks) × SameMembers p.types q.types to.tag ms ks
  lists tag ms at = h.lead.members tag ms (stands_within p.types h.sound.named tag (h.sound.made.stands tag ms at)) at

  nodes_upto : (tag : ℕ) (ms ks : List MemberTerm) → members_in p.types tag ≡ Some ms → SameMembers p.types q.types to.tag ms ks → (k : ℕ)
      → all_nodes (extents_in q.types (take k ks)) ≡ map (renamed to.tag) (all_nodes (extents_in p.types (take k ms)))
  nodes_upto tag ms ks e same k =
      let a = among_first p.types.completed tag ms e in
      members_alike p.types q.types to.tag h.sound.made h.other_sound.made lists a.at
      (known_before p.types q.types to.tag h.sound.made h.other_sound.made lists a.at (alike_below p.types q.types to.tag h.sound.made h.other_sound.made lists a.at))
      (take k ms) (take k ks) (take_same to.tag p.types q.types k ms ks same)
      (λ i m there. elim (h.sound.made.ordered a.at (record { tag = tag; members = ms }) a.there i m (from_take k ms i m there)).1.object [ inl complete ↦ inl complete | inr loose ↦ inr loose.flexible ])

  position_same : (tag : ℕ) (ms ks : List MemberTerm) → members_in p.types tag ≡ Some ms → SameMembers p.types q.types to.tag ms ks → (k : ℕ) → position (extents_in q.types ks) k ≡ position (extents_in p.types ms) k
  position_same tag ms ks e same k =
      ap (λ (es : List Extent). 1 + length (all_nodes es)) (extents_take q.types k ks)
      ∙ (ap (λ (ns : List Ctype). 1 + length ns) (nodes_upto tag ms ks e same k)
      ∙ (ap (λ (n : ℕ). 1 + n) (length-map (all_nodes (extents_in p.types (take k ms))) (renamed to.tag))
      ∙ sym (ap (λ (es : List Extent). 1 + length (all_nodes es)) (extents_take p.types k ms))))

  pub no_members : (tag : ℕ) → tag < p.types.tags → members_in p.types tag ≡ None → members_in q.types (to.tag tag) ≡ None
  no_members tag lt at = by (members_in q.types (to.tag tag)) refl
    where
      by : (o : Option (List MemberTerm)) → members_in q.types (to.tag tag) ≡ o → members_in q.types (to.tag tag) ≡ None
      by None e = e
      by (Some ks) e =
          let round = h.lead.tag_back tag lt in
          let (ms, there, same) = h.again.members (to.tag tag) ks round.0 e in
          absurd (none_some (sym at ∙ (ap (members_in p.types) (sym round.1) ∙ there)))

  -- members of a tag, by what is known of both lists
  by_members : (tag : ℕ) → tag < p.types.tags → (P : Option (List MemberTerm) → Option (List MemberTerm) → Type 0) → P None None
      → ((ms ks : List MemberTerm) → members_in p.types tag ≡ Some ms → SameMembers p.types q.types to.tag ms ks → P (Some ms) (Some ks)) → P (members_in p.types tag) (members_in q.types (to.tag tag))
  by_members tag lt P none some = by (members_in p.types tag) refl
    where
      by : (o : Option (List MemberTerm)) → members_in p.types tag ≡ o → P o (members_in q.types (to.tag tag))
      by None e = subst (P None) (sym (no_members tag lt e)) none
      by (Some ms) e = (let (ks, at, same) = lists tag ms e in subst (P (Some ms)) (sym at) (some ms ks e same))

  pub field_moved : (whole : Ctype) → HasTags p.types.tags whole → (k : ℕ) → field_in q.types (renamed to.tag whole) k ≡ field_in p.types whole k
  field_moved (StructureOf tag) has k =
      by_members tag has
      (λ a b. place_in q.types (λ ms. position (extents_in q.types ms) k) b k ≡ place_in p.types (λ ms. position (extents_in p.types ms) k) a k) refl
      (λ ms ks e same.
      ap (λ (n : ℕ). option_and_then (λ (m : MemberTerm). unless_flexible (type_of q.types m.ty.0) n) (slice_get ks k)) (position_same tag ms ks e same k)
      ∙ field_list to.tag p.types q.types (position (extents_in p.types ms) k) ms ks same k)
  field_moved (UnionOf tag) has k =
      by_members tag has (λ a b. place_in q.types (λ ms. 0) b k ≡ place_in p.types (λ ms. 0) a k) refl (λ ms ks e same. field_list to.tag p.types q.types 0 ms ks same k)
  field_moved VoidType has k = refl
  field_moved BoolType has k = refl
  field_moved (IntegerType size rank signed) has k = refl
  field_moved FloatingType has k = refl
  field_moved VaListType has k = refl
  field_moved (PointerTo to) has k = refl
  field_moved (ArrayOf of length) has k = refl
  field_moved (FunctionFrom result parameters form) has k = refl

  pub member_moved : (whole : Ctype) → HasTags p.types.tags whole → (k : ℕ) → member_node q.types (renamed to.tag whole) k ≡ member_node p.types whole k
  member_moved whole has k = ap (λ (o : Option ℕ). unwrap_or (within_32 o) 0) (field_moved whole has k)

  pub part_moved : (t : Ctype) → HasTags p.types.tags t → (step : PathStep) → part_type q.types (renamed to.tag t) step ≡ option_map (renamed to.tag) (part_type p.types t step)
  part_moved (ArrayOf of None) has (Index i) = refl
  part_moved (ArrayOf of None) has (MemberStep k) = refl
  part_moved (ArrayOf of (Some n)) has (Index i) = by (nat_lt i n)
    where
      by : (b : Bool) → (if b then Some (renamed to.tag of) else None) ≡ option_map (renamed to.tag) (if b then Some of else None)
      by true = refl
      by false = refl
  part_moved (ArrayOf of (Some n)) has (MemberStep k) = refl
  part_moved (StructureOf tag) has (Index i) = refl
  part_moved (StructureOf tag) has (MemberStep k) =
      by_members tag has (λ a b. member_type q.types b k ≡ option_map (renamed to.tag) (member_type p.types a k)) refl (λ ms ks e same. type_list to.tag p.types q.types ms ks same k)
  part_moved (UnionOf tag) has (Index i) = refl
  part_moved (UnionOf tag) has (MemberStep k) =
      by_members tag has (λ a b. member_type q.types b k ≡ option_map (renamed to.tag) (member_type p.types a k)) refl (λ ms ks e same. type_list to.tag p.types q.types ms ks same k)
  part_moved VoidType has step = refl
  part_moved BoolType has step = refl
  part_moved (IntegerType size rank signed) has step = refl
  part_moved FloatingType has step = refl
  part_moved VaListType has step = refl
  part_moved (PointerTo to) has step = refl
  part_moved (FunctionFrom result parameters form) has step = refl

  -- ---- nodes of the trees
  pub sort_moved : (n : ℕ) (x : Node) → slice_get p.nodes.items n ≡ Some x → sort_at (trees_in q) (to.node n) ≡ sort_at (trees_in p) n
  sort_moved n x at =
      let (y, there, same) = h.lead.nodes n x at in
      ap sort_in there ∙ (ap sort_of same.kind ∙ (sort_same to.entity x.kind ∙ sym (ap sort_in at)))

  pub type_moved : (n : ℕ) (x : Node) → slice_get p.nodes.items n ≡ Some x → type_at (trees_in q) (to.node n) ≡ renamed to.tag (type_at (trees_in p) n)
  type_moved n x at =
      let (y, there, same) = h.lead.nodes n x at in
      ap (type_in q.types) there ∙ (same.type ∙ sym (ap (λ (o : Option Node). renamed to.tag (type_in p.types o)) at))

  pub tags_at : (n : ℕ) (x : Node) → slice_get p.nodes.items n ≡ Some x → HasTags p.types.tags (type_at (trees_in p) n)
  tags_at n x at = subst (λ (o : Option Node). HasTags p.types.tags (type_in p.types o)) (sym at) (own_tags x.ty.0)
