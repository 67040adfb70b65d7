-- What the types of a table are in a longer one.
use Rattle.std.proofs.Common.{◌≡◌, ◌∙◌, ℕ, ◌+◌, ◌||◌, Bool, false, cond, List, [], ◌∷◌, ◌++◌, length, map, replicate, Option, Some, None, slice_get, refl, sym, ap, unwrap_or}
use Rattle.std.specs.List.{list_any, range_with_len}
use Rattle.std.specs.Option.{option_map, option_and_then}
use Rattle.c_types.specs.declared.term.Term.{Term}
use Rattle.c_types.specs.declared.term.Term.TheVariants.{Void, Bool as BoolTerm, Integer, Floating, VaList, Pointer, Array, Function, Structure, Union}
use Rattle.c_types.specs.declared.term.MemberTerm.{MemberTerm}
use Rattle.c_types.specs.declared.term.PathStep.{PathStep}
use Rattle.c_types.specs.declared.term.PathStep.TheVariants.{Index, Member}
use Rattle.c_types.specs.Trees.{Ctype, ArrayOf, StructureOf, UnionOf}
use Rattle.c_types.specs.Layout.{Extent, Look, member_extent}
use Rattle.c_types.specs.Table.{Table, type_of, extents_in, members_in}
use Rattle.c_types.specs.Made.{IsMade}
use Rattle.c_types.specs.Parts.{position, unless_flexible, member_node, field_in, within_32}
use Rattle.c_types.specs.Paths.{with_length, member_type, part_type}
use Rattle.row_numbers.specs.Kept.{nodes_in, nodes_of, member_node as kept_member, kept_row}
use Rattle.obj_space.specs.Spots.{Reached, reached, member_reached, step_by, part_at}
use Rattle.obj_space.proofs.Followed.{step_member}
use Rattle.normal_form.specs.Assignments.{path_node, part_first}
use Rattle.normal_form.specs.Facts.{plain_fact, is_union, tagged, positions_by, tag_fact_by, tag_fact, type_facts}
use Rattle.sol_model.specs.declared.system.TypeFact.{TypeFact}
use Rattle.covering_laws.specs.grown_programs.Grown.{with_terms, IsSimple, MayFollow, IsKept}
use Rattle.covering_laws.proofs.grown_programs.Tables.{map_same}

pub both : {A B C : Type 0} (f : A → B → C) {a b : A} {c d : B} → a ≡ b → c ≡ d → f a c ≡ f b d
both f p q = cc

pub three : {A B C D : Type 0} (f : A → B → C → D) {a b : A} {c d : B} {x y : C} → a ≡ b → c ≡ d → x ≡ y → f a c x ≡ f b d y
three f p q r = cc

-- a test of each element, and of those of a list behind it that all fail
any_more : {X : Type 0} (test : X → Bool) (xs ys : List X) → list_any test ys ≡ false → list_any test (xs ++ ys) ≡ list_any test xs
any_more test [] ys h = h
any_more test (x ∷ xs) ys h = ap (λ (b : Bool). test x || b) (any_more test xs ys h)

no_union : (tag : ℕ) (t : Term) → IsSimple t → is_union tag t ≡ false
no_union tag (Structure other) h = absurd h
no_union tag (Union other) h = absurd h
no_union tag (Function r ps f) h = absurd h
no_union tag Void h = refl
no_union tag BoolTerm h = refl
no_union tag (Integer size rank signed) h = refl
no_union tag Floating h = refl
no_union tag VaList h = refl
no_union tag (Pointer to) h = refl
no_union tag (Array of n) h = refl

no_unions : (tag n : ℕ) (more : List Term) → MayFollow n more → list_any (is_union tag) more ≡ false
no_unions tag n [] h = refl
no_unions tag n (t ∷ rest) h = ap (λ (b : Bool). b || list_any (is_union tag) rest) (no_union tag t h.0.2) ∙ no_unions tag (n + 1) rest h.1

module _ (table : Table) (more : List Term) (made : IsMade table) (follow : MayFollow (length table.terms) more) (kept : IsKept table (with_terms table more)) where
  abbrev new : Table
  new = with_terms table more

  pub nodes_same : (t : Ctype) → nodes_of new t ≡ nodes_of table t
  nodes_same t = ap nodes_in (kept.extents t)

  -- the members of a tag have types of the table
  member_same : (tag k : ℕ) (ms : List MemberTerm) (m : MemberTerm) → members_in table tag ≡ Some ms → slice_get ms k ≡ Some m → type_of new m.ty.0 ≡ type_of table m.ty.0
  member_same tag k ms m is at = kept.types m.ty.0 (made.members tag ms is k m at).0

  pub extents_same : (tag : ℕ) (ms : List MemberTerm) → members_in table tag ≡ Some ms → extents_in new ms ≡ extents_in table ms
  extents_same tag ms is =
      both (λ (look : Look) (ts : List Ctype). map (member_extent look) ts) kept.look (map_same (λ (m : MemberTerm). type_of new m.ty.0) (λ (m : MemberTerm). type_of table m.ty.0) ms (λ k m at. member_same tag k ms m is at))

  -- the node of a member
  node_by : (place other : List MemberTerm → ℕ) (tag k : ℕ) (o : Option (List MemberTerm)) → members_in table tag ≡ o → ((ms : List MemberTerm) → members_in table tag ≡ Some ms → other ms ≡ place ms) → member_node new other o k ≡ member_node table place o k
  node_by place other tag k None is same = refl
  node_by place other tag k (Some ms) is same = at (slice_get ms k) refl
    where
      at : (d : Option MemberTerm) → slice_get ms k ≡ d → option_and_then (λ m. unless_flexible (type_of new m.ty.0) (other ms)) d ≡ option_and_then (λ m. unless_flexible (type_of table m.ty.0) (place ms)) d
      at None there = refl
      at (Some m) there = both unless_flexible (member_same tag k ms m is there) (same ms is)

  pub field_same : (t : Ctype) (k : ℕ) → field_in new t k ≡ field_in table t k
  field_same (StructureOf tag) k = node_by (λ ms. position (extents_in table ms) k) (λ ms. position (extents_in new ms) k) tag k (members_in table tag) refl (λ ms is. ap (λ (es : List Extent). position es k) (extents_same tag ms is))
  field_same (UnionOf tag) k = node_by (λ ms. 0) (λ ms. 0) tag k (members_in table tag) refl (λ ms is. refl)
  field_same t k = refl

  pub member_node_same : (t : Ctype) (k : ℕ) → kept_member new t k ≡ kept_member table t k
  member_node_same t k = ap (λ (o : Option ℕ). unwrap_or (within_32 o) 0) (field_same t k)

  type_by : (tag k : ℕ) (o : Option (List MemberTerm)) → members_in table tag ≡ o → member_type new o k ≡ member_type table o k
  type_by tag k None is = refl
  type_by tag k (Some ms) is = at (slice_get ms k) refl
    where
      at : (d : Option MemberTerm) → slice_get ms k ≡ d → option_and_then (λ m. with_length (type_of new m.ty.0)) d ≡ option_and_then (λ m. with_length (type_of table m.ty.0)) d
      at None there = refl
      at (Some m) there = ap with_length (member_same tag k ms m is there)

  pub part_type_same : (t : Ctype) (step : PathStep) → part_type new t step ≡ part_type table t step
  part_type_same (StructureOf tag) (Member k) = type_by tag k (members_in table tag) refl
  part_type_same (UnionOf tag) (Member k) = type_by tag k (members_in table tag) refl
  part_type_same t step = refl

  element_same : (t : Ctype) (node : ℕ) (inside : Bool) (i : ℕ) → step_by new t node inside (Index i) ≡ step_by table t node inside (Index i)
  element_same (ArrayOf of length) node inside i = refl
  element_same t node inside i = refl

  step_same : (t : Ctype) (node : ℕ) (inside : Bool) (step : PathStep) → step_by new t node inside step ≡ step_by table t node inside step
  step_same t node inside (Index i) = element_same t node inside i
  step_same t node inside (Member k) =
      step_member new t node inside k
      ∙ (both (λ (o : Option Ctype) (place : Option ℕ). member_reached t o place node inside) (part_type_same t (Member k)) (field_same t k) ∙ sym (step_member table t node inside k))

  -- where a path leads
  part_same : (path : List PathStep) (o : Option Reached) → part_at new o path ≡ part_at table o path
  part_same [] o = refl
  part_same (step ∷ rest) None = part_same rest None
  part_same (step ∷ rest) (Some r) =
      ap (λ (o : Option Reached). part_at new o rest) (step_same r.ty r.node r.inside step) ∙ part_same rest (step_by table r.ty r.node r.inside step)

  pub path_same : (path : List PathStep) (t : Option Ctype) → path_node new t path ≡ path_node table t path
  path_same path None = refl
  path_same path (Some t) = ap (λ (o : Option Reached). unwrap_or (option_map (λ (r : Reached). r.node) o) 0) (part_same path (Some (reached t 0 false)))

  pub first_same : (whole : Ctype) (first k : ℕ) → part_first new whole first k ≡ part_first table whole first k
  first_same whole first k = both (kept_row first) (nodes_same whole) (member_node_same whole k)

  -- what a system knows of each tag
  tagged_same : (tag : ℕ) → tagged new tag ≡ tagged table tag
  tagged_same tag = ap (λ (b : Bool). cond b (UnionOf tag) (StructureOf tag)) (any_more (is_union tag) table.terms more (no_unions tag (length table.terms) more follow))

  positions_same : (t : Ctype) (n : ℕ) → positions_by new t n ≡ positions_by table t n
  positions_same t n = map_same (kept_member new t) (kept_member table t) (range_with_len 0 n) (λ j k at. member_node_same t k)

  fact_by : (t : Ctype) (o : Option (List MemberTerm)) → tag_fact_by new t o ≡ tag_fact_by table t o
  fact_by t None = refl
  fact_by t (Some ms) =
      both (λ (n : ℕ) (ps : List ℕ). let r : TypeFact = record { nodes = n; members = ps } in r) (ap (λ (ts : List Ctype). length ts) (nodes_same t)) (positions_same t (length ms))

  fact_same : (tag : ℕ) → tag_fact new tag ≡ tag_fact table tag
  fact_same tag = fact_by (tagged new tag) (members_in table tag) ∙ ap (λ (t : Ctype). tag_fact_by table t (members_in table tag)) (tagged_same tag)

  pub facts_same : type_facts new ≡ type_facts table
  facts_same = ap (λ (fs : List TypeFact). replicate 8 plain_fact ++ fs) (map_same (tag_fact new) (tag_fact table) (range_with_len 0 table.tags) (λ j tag at. fact_same tag))
