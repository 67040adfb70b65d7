-- The facts of types.
use Rattle.std.proofs.Common.{arith, ◌≡◌, ◌∙◌, ℕ, zero, suc, ◌+◌, ◌<◌, ◌==◌, Bool, true, false, cond, List, [], ◌∷◌, ◌++◌, length, map, replicate, get_or, Option, Some, None, slice_get, refl, sym, ap, subst, inl, inr}
use Rattle.std.specs.Prelude.{⊤, ◌||◌}
use Rattle.std.specs.List.{All, list_any, range_with_len}
use Rattle.std.specs.Option.{option_map, option_map_or}
use Rattle.std.proofs.lemmas.Bool.{false≢true}
use Rattle.std.proofs.lemmas.Bool.Decides.{eqb_tells}
use Rattle.std.proofs.lemmas.List.Elements.{All-nil, All-append, All-map, All-replicate}
use Rattle.std.proofs.lemmas.List.{get_or_past}
use Rattle.std.proofs.lemmas.List.FromFn.{length-map-range_with_len}
use Rattle.std.proofs.lemmas.Option.{slice_get-map, slice_get_within, slice_get_cases}
use Rattle.c_types.specs.declared.term.Term.{Term}
use Rattle.c_types.specs.declared.term.Term.TheVariants.{Array, Structure, Union}
use Rattle.c_types.specs.declared.term.MemberTerm.{MemberTerm}
use Rattle.c_types.specs.Trees.{Ctype, VoidType, BoolType, IntegerType, FloatingType, VaListType, PointerTo, ArrayOf, FunctionFrom, StructureOf, UnionOf, grow}
use Rattle.c_types.specs.Layout.{Extent, repeated, of_members, structure_of, union_of}
use Rattle.c_types.specs.Table.{Table, types_of, type_of, extent_in, extents_in, members_in}
use Rattle.c_types.specs.Made.{IsMade, AreNamed}
use Rattle.c_types.proofs.Grow.{grown_length}
use Rattle.type_rules.specs.Members.{in_list, IsMemberOf}
use Rattle.sol_model.specs.declared.system.System.{System}
use Rattle.sol_model.specs.declared.system.TypeFact.{TypeFact}
use Rattle.sol_model.specs.Systems.{IsNodeOf, HasMember}
use Rattle.row_numbers.specs.Kept.{nodes_in, nodes_of, member_node}
use Rattle.row_numbers.specs.Numbers.{integer_number, type_number}
use Rattle.normal_form.specs.Facts.{plain_fact, is_union, tagged, positions_by, tag_fact_by, tag_fact, type_facts}
use Rattle.linked_laws.specs.merged_laws.Merged.{TagsFit}
use Rattle.linked_laws.proofs.merged_laws.Members.{stands_within}
use Rattle.linked_laws.specs.system_laws.fact_laws.Known.{FactsValid, NodesKnown, MembersKnown}
use Rattle.linked_laws.proofs.system_laws.fact_laws.Nodes.{union_member, structure_member}
use Rattle.type_rules.proofs.term_types.Grown.{types_grown}

some_one : {X : Type 0} → {x y : X} → ◌≡◌ {A = Option X} (Some x) (Some y) → x ≡ y
some_one h = cc

none_some : {X : Type 0} → {x : X} → ◌≡◌ {A = Option X} None (Some x) → ⊥
none_some h = cc

-- the facts of the types without tags stand first
plain_first : (n : ℕ) (xs : List TypeFact) (ty : ℕ) → ty < n → slice_get (replicate n plain_fact ++ xs) ty ≡ Some plain_fact
plain_first zero xs ty lt = absurd (omega arith)
plain_first (suc n) xs zero lt = refl
plain_first (suc n) xs (suc ty) lt = plain_first n xs ty (omega arith)

behind_plain : (n : ℕ) (xs : List TypeFact) (k : ℕ) → slice_get (replicate n plain_fact ++ xs) (n + k) ≡ slice_get xs k
behind_plain zero xs k = ap (slice_get xs) (let e : 0 + k ≡ k = omega arith in e)
behind_plain (suc n) xs k = ap (slice_get (replicate (suc n) plain_fact ++ xs)) (let e : suc n + k ≡ suc (n + k) = omega arith in e) ∙ behind_plain n xs k

range_there : (a n k : ℕ) → k < n → slice_get (range_with_len a n) k ≡ Some (a + k)
range_there a zero k lt = absurd (omega arith)
range_there a (suc n) zero lt = ap (λ (m : ℕ). Some m) (let e : a ≡ a + 0 = omega arith in e)
range_there a (suc n) (suc k) lt = range_there (a + 1) n k (omega arith) ∙ ap (λ (m : ℕ). Some m) (let e : (a + 1) + k ≡ a + suc k = omega arith in e)

-- the fact of a tag
tag_there : (table : Table) (tag : ℕ) → tag < table.tags → slice_get (type_facts table) (8 + tag) ≡ Some (tag_fact table tag)
tag_there table tag lt =
    behind_plain 8 (map (tag_fact table) (range_with_len 0 table.tags)) tag
    ∙ (slice_get-map (tag_fact table) (range_with_len 0 table.tags) tag
    ∙ ap (option_map (tag_fact table)) (range_there 0 table.tags tag lt ∙ ap (λ (m : ℕ). Some m) (let e : 0 + tag ≡ tag = omega arith in e)))

-- unions among terms
or_right : (a b : Bool) → b ≡ true → (a || b) ≡ true
or_right true b h = refl
or_right false b h = h

or_left : (a b : Bool) → a ≡ true → (a || b) ≡ true
or_left true b h = refl
or_left false b h = absurd (false≢true h)

same_number : (k : ℕ) → (k == k) ≡ true
same_number k = elim (eqb_tells k k) [ inl same ↦ same.0 | inr other ↦ absurd (other.1 refl) ]

any_union : (tag : ℕ) (terms : List Term) (i : ℕ) → slice_get terms i ≡ Some (Union tag) → list_any (is_union tag) terms ≡ true
any_union tag [] i at = absurd (none_some at)
any_union tag (t ∷ rest) zero at = or_left (is_union tag t) (list_any (is_union tag) rest) (ap (is_union tag) (some_one at) ∙ same_number tag)
any_union tag (t ∷ rest) (suc i) at = or_right (is_union tag t) (list_any (is_union tag) rest) (any_union tag rest i at)

union_is : (tag : ℕ) (t : Term) → is_union tag t ≡ true → t ≡ Union tag
union_is tag (Union other) h = elim (eqb_tells other tag) [ inl same ↦ ap (λ k. Union k) same.1 | inr other_one ↦ absurd (false≢true (sym other_one.0 ∙ h)) ]
union_is tag t h = absurd (false≢true h)

union_at : (tag : ℕ) (terms : List Term) → list_any (is_union tag) terms ≡ true → (i : ℕ) × (slice_get terms i ≡ Some (Union tag))
union_at tag [] h = absurd (false≢true h)
union_at tag (t ∷ rest) h = by (union_at tag rest) (is_union tag t) refl h
  where
    by : (list_any (is_union tag) rest ≡ true → (i : ℕ) × (slice_get rest i ≡ Some (Union tag))) → (b : Bool) → is_union tag t ≡ b → (b || list_any (is_union tag) rest) ≡ true
        → (i : ℕ) × (slice_get (t ∷ rest) i ≡ Some (Union tag))
    by later true is e = (0, ap (λ (s : Term). Some s) (union_is tag t is))
    by later false is e = let r = later e in (suc r.0, r.1)

tagged_union : (table : Table) (tag i : ℕ) → slice_get table.terms i ≡ Some (Union tag) → tagged table tag ≡ UnionOf tag
tagged_union table tag i at = ap (λ (b : Bool). cond b (UnionOf tag) (StructureOf tag)) (any_union tag table.terms i at)

tagged_structure : (table : Table) (tag : ℕ) → ((i : ℕ) → slice_get table.terms i ≡ Some (Union tag) → ⊥) → tagged table tag ≡ StructureOf tag
tagged_structure table tag none = by (list_any (is_union tag) table.terms) refl
  where
    by : (b : Bool) → list_any (is_union tag) table.terms ≡ b → tagged table tag ≡ StructureOf tag
    by true is = absurd (let r = union_at tag table.terms is in none r.0 r.1)
    by false is = ap (λ (b : Bool). cond b (UnionOf tag) (StructureOf tag)) is

-- positions of members
abbrev IsRight : TypeFact → Type 0
IsRight fact = All (λ position. position < fact.nodes) fact.members

positions_right : (table : Table) (t : Ctype) (n : ℕ) → ((k : ℕ) → member_node table t k < length (nodes_of table t)) → All (λ position. position < length (nodes_of table t)) (positions_by table t n)
positions_right table t n each = All-map (λ position. position < length (nodes_of table t)) (member_node table t) (range_with_len 0 n) (λ k d lt. each (get_or (range_with_len 0 n) k d))

tag_right : (table : Table) → IsMade table → TagsFit table → (tag : ℕ) → IsRight (tag_fact table tag)
tag_right table made fit tag = by (members_in table tag) refl
  where
    some : (ms : List MemberTerm) → members_in table tag ≡ Some ms → (b : Bool) → list_any (is_union tag) table.terms ≡ b
        → All (λ position. position < length (nodes_of table (cond b (UnionOf tag) (StructureOf tag)))) (positions_by table (cond b (UnionOf tag) (StructureOf tag)) (length ms))
    some ms is true kind = positions_right table (UnionOf tag) (length ms) (union_member table made tag ms is)
    some ms is false kind =
        positions_right table (StructureOf tag) (length ms)
        (structure_member table made tag ms is (fit.each tag ms is (λ i at. false≢true (sym kind ∙ any_union tag table.terms i at))))

    by : (o : Option (List MemberTerm)) → members_in table tag ≡ o → IsRight (tag_fact_by table (tagged table tag) o)
    by None is = All-nil (λ position. position < 1)
    by (Some ms) is = some ms is (list_any (is_union tag) table.terms) refl

pub facts_valid : FactsValid
facts_valid table made fit =
    All-append IsRight (replicate 8 plain_fact) (map (tag_fact table) (range_with_len 0 table.tags)) (All-replicate IsRight 8 plain_fact (All-nil (λ position. position < 1)))
    (All-map IsRight (tag_fact table) (range_with_len 0 table.tags) (λ k d lt. tag_right table made fit (get_or (range_with_len 0 table.tags) k d)))

module _ (table : Table) (made : IsMade table) (named : AreNamed table) (system : System) (types : system.types ≡ type_facts table) where
  known_at : (ty i : ℕ) (fact : TypeFact) → slice_get (type_facts table) ty ≡ Some fact → i < fact.nodes → IsNodeOf system ty i
  known_at ty i fact at lt =
      let there : slice_get system.types ty ≡ Some fact = ap (λ (fs : List TypeFact). slice_get fs ty) types ∙ at in
      record {
        known = slice_get_within system.types ty fact there;
        within = subst (λ (o : Option TypeFact). i < option_map_or (λ f. f.nodes) o 0) (sym there) lt;
      }

  plain_known : (ty i : ℕ) → ty < 8 → i < 1 → IsNodeOf system ty i
  plain_known ty i less lt = known_at ty i plain_fact (plain_first 8 (map (tag_fact table) (range_with_len 0 table.tags)) ty less) lt

  small_by : (a b c : Bool) → cond a 0 (cond b 1 (cond c 2 3)) < 8
  small_by true b c = omega arith
  small_by false true c = omega arith
  small_by false false true = omega arith
  small_by false false false = omega arith

  -- a type whose tags stand in the table with their keywords
  abbrev IsProper : Ctype → Type 0
  IsProper (StructureOf tag) = (i : ℕ) → slice_get table.terms i ≡ Some (Union tag) → ⊥
  IsProper (UnionOf tag) = (i : ℕ) × (slice_get table.terms i ≡ Some (Union tag))
  IsProper (ArrayOf of n) = IsProper of
  IsProper t = ⊤

  by_term : (id : ℕ) (t : Term) → slice_get table.terms id ≡ Some t → ((of : ℕ) → of < id → IsProper (type_of table of)) → IsProper (grow (types_of table) t)
  by_term id (Array of n) at f = f of.0 (named id (Array of n) at).0
  by_term id (Structure tag) at f = λ j there. made.apart.each id j tag at there
  by_term id (Union tag) at f = (id, at)
  by_term id t at f = tt

  proper_below : (bound id : ℕ) → id < bound → IsProper (type_of table id)
  proper_below zero id lt = absurd (omega arith)
  proper_below (suc bound) id lt = elim (slice_get_cases table.terms id).1 [
    | inl p ↦ subst IsProper (sym (types_grown table id p.0 named p.2)) (by_term id p.0 p.2 (λ of less. proper_below bound of (omega arith)))
    | inr past ↦
        let long = grown_length [] table.terms in
        let far = past.0 in
        let void : type_of table id ≡ VoidType = get_or_past (types_of table) id VoidType (omega arith) in
        subst IsProper (sym void) tt
  ]

  repeated_count : (n : ℕ) (o : Option Extent) → length (nodes_in (repeated n o)) ≡ length (nodes_in o)
  repeated_count n None = refl
  repeated_count n (Some e) = refl

  structure_known : (tag i : ℕ) → ((j : ℕ) → slice_get table.terms j ≡ Some (Union tag) → ⊥) → (o : Option (List MemberTerm)) → members_in table tag ≡ o → i < length (nodes_of table (StructureOf tag)) → IsNodeOf system (8 + tag) i
  structure_known tag i none None is lt =
      let zero_is : length (nodes_of table (StructureOf tag)) ≡ 0 = ap (λ (o : Option (List Extent)). length (nodes_in (of_members (structure_of (StructureOf tag)) o))) (made.laid tag ∙ ap (option_map (extents_in table)) is) in
      absurd (omega arith)
  structure_known tag i none (Some ms) is lt =
      known_at (8 + tag) i (tag_fact table tag) (tag_there table tag (stands_within table named tag (made.stands tag ms is)))
      (subst (λ (o : Option (List MemberTerm)). i < (tag_fact_by table (tagged table tag) o).nodes) (sym is) (subst (λ (t : Ctype). i < length (nodes_of table t)) (sym (tagged_structure table tag none)) lt))

  union_known : (tag i j : ℕ) → slice_get table.terms j ≡ Some (Union tag) → (o : Option (List MemberTerm)) → members_in table tag ≡ o → i < length (nodes_of table (UnionOf tag)) → IsNodeOf system (8 + tag) i
  union_known tag i j there None is lt =
      let zero_is : length (nodes_of table (UnionOf tag)) ≡ 0 = ap (λ (o : Option (List Extent)). length (nodes_in (of_members (union_of (UnionOf tag)) o))) (made.laid tag ∙ ap (option_map (extents_in table)) is) in
      absurd (omega arith)
  union_known tag i j there (Some ms) is lt =
      known_at (8 + tag) i (tag_fact table tag) (tag_there table tag (stands_within table named tag (made.stands tag ms is)))
      (subst (λ (o : Option (List MemberTerm)). i < (tag_fact_by table (tagged table tag) o).nodes) (sym is) (subst (λ (t : Ctype). i < length (nodes_of table t)) (sym (tagged_union table tag j there)) lt))

  node_known : (t : Ctype) → IsProper t → (i : ℕ) → i < length (nodes_of table t) → IsNodeOf system (type_number t) i
  node_known VoidType proper i lt = absurd (omega arith)
  node_known BoolType proper i lt = plain_known 0 i (omega arith) lt
  node_known (IntegerType size rank signed) proper i lt = plain_known (integer_number size) i (small_by (size == 1) (size == 2) (size == 4)) lt
  node_known FloatingType proper i lt = plain_known 6 i (omega arith) lt
  node_known VaListType proper i lt = plain_known 7 i (omega arith) lt
  node_known (PointerTo to) proper i lt = plain_known 4 i (omega arith) lt
  node_known (ArrayOf of None) proper i lt = absurd (omega arith)
  node_known (ArrayOf of (Some n)) proper i lt = node_known of proper i (subst (λ (k : ℕ). i < k) (repeated_count n (extent_in table of)) lt)
  node_known (FunctionFrom result parameters form) proper i lt = absurd (omega arith)
  node_known (StructureOf tag) proper i lt = structure_known tag i proper (members_in table tag) refl lt
  node_known (UnionOf tag) proper i lt = union_known tag i proper.0 proper.1 (members_in table tag) refl lt

  nodes_here : (id i : ℕ) → i < length (nodes_of table (type_of table id)) → IsNodeOf system (type_number (type_of table id)) i
  nodes_here id i lt = node_known (type_of table id) (proper_below (suc id) id (omega arith)) i lt

  -- a structure's tag stands in no union
  pub structure_proper : (id tag : ℕ) → type_of table id ≡ StructureOf tag → (i : ℕ) → slice_get table.terms i ≡ Some (Union tag) → ⊥
  structure_proper id tag is = subst IsProper is (proper_below (suc id) id (omega arith))

  tag_member : (tag k : ℕ) (m : MemberTerm) (o : Option (List MemberTerm)) → members_in table tag ≡ o → in_list o k ≡ Some m → HasMember system (8 + tag) k
  tag_member tag k m None is at = absurd (none_some at)
  tag_member tag k m (Some ms) is at = record {
    fact = tag_fact table tag;
    known = ap (λ (fs : List TypeFact). slice_get fs (8 + tag)) types ∙ tag_there table tag (stands_within table named tag (made.stands tag ms is));
    within =
        let many : length (positions_by table (tagged table tag) (length ms)) ≡ length ms = length-map-range_with_len (member_node table (tagged table tag)) 0 (length ms) in
        let less = slice_get_within ms k m at in
        let lt : k < length (positions_by table (tagged table tag) (length ms)) = omega arith in
        subst (λ (o : Option (List MemberTerm)). k < length (tag_fact_by table (tagged table tag) o).members) (sym is) lt;
  }

  member_here : (whole : Ctype) (k : ℕ) (t : Ctype) → IsMemberOf table whole k t → HasMember system (type_number whole) k
  member_here (StructureOf tag) k t m = tag_member tag k m.member (members_in table tag) refl m.stands
  member_here (UnionOf tag) k t m = tag_member tag k m.member (members_in table tag) refl m.stands
  member_here whole k t m = absurd (none_some m.stands)

pub nodes_known : NodesKnown
nodes_known table made named system types id i lt = nodes_here table made named system types id i lt

pub members_known : MembersKnown
members_known table made named system types whole k t m = member_here table made named system types whole k t m
