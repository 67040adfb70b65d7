-- What two systems know of types and locations, where their programs are one, but for numbers.
use Rattle.std.proofs.Common.{arith, ◌≡◌, ◌∙◌, ◌+◌, ◌-◌, ◌<◌, ◌++◌, ◌||◌, ℕ, zero, suc, Bool, true, false, cond, eqb, List, [], ◌∷◌, map, length, replicate, Contains, Option, Some, None, refl, sym, ap, subst, inl, inr}
use Rattle.std.specs.Prelude.{if◌then◌else◌, ◌==◌}
use Rattle.std.specs.List.{slice_get, range_with_len, list_any}
use Rattle.std.specs.Option.{option_map_or, option_and_then}
use Rattle.std.proofs.lemmas.Bool.{eqb-true, eq-eqb, lt-ltb, cases_lt}
use Rattle.std.proofs.lemmas.List.{length-map}
use Rattle.std.proofs.lemmas.List.FromFn.{length-map-range_with_len}
use Rattle.c_types.specs.declared.term.MemberTerm.{MemberTerm}
use Rattle.c_types.specs.declared.term.Term.{Term}
use Rattle.c_types.specs.declared.term.Term.TheVariants.{Union}
use Rattle.c_types.specs.Trees.{Ctype, StructureOf, UnionOf}
use Rattle.c_types.specs.Table.{Table, members_in}
use Rattle.core_tree.specs.declared.node.Program.{Program}
use Rattle.core_tree.specs.Typed.{trees_in}
use Rattle.sol_model.specs.declared.system.System.{System}
use Rattle.sol_model.specs.declared.system.LocationFact.{LocationFact}
use Rattle.sol_model.specs.declared.system.TypeFact.{TypeFact}
use Rattle.sol_model.specs.Places.{node_from, sub_of, member_position, field_of, nodes_of, pairs_of, pairs_between, deep}
use Rattle.sol_model.specs.Systems.{IsValid, IsNodeOf, IsLocation}
use Rattle.sol_model.proofs.InRange.{sub_location, deep_locations}
use Rattle.link_model.specs.Renamed.{renamed}
use Rattle.link_model.specs.Partition.{HasTags}
use Rattle.obj_space.specs.Space.{locations_in}
use Rattle.obj_space.specs.View.{view_of}
use Rattle.row_numbers.specs.Kept.{nodes_of as row_nodes, member_node}
use Rattle.normal_form.specs.Facts.{location_fact, location_facts, plain_fact, is_union, tagged, positions_by, tag_fact_by, tag_fact, type_facts}
use Rattle.obj_space.proofs.Preorder.{get_behind}
use Rattle.twin_report_laws.specs.outcome_laws.twin_programs.One.{Numbers}
use Rattle.twin_report_laws.specs.outcome_laws.twin_locations.Same.{number_moved}
use Rattle.twin_report_laws.proofs.outcome_laws.twin_locations.Cells.{tag_moved}
use Rattle.twin_report_laws.proofs.outcome_laws.twin_words.Sums.{some_one, none_some}
use Rattle.twin_report_laws.proofs.outcome_laws.twin_words.Options.{and_then_some, mapped_at, unmapped_at}
use Rattle.twin_report_laws.proofs.outcome_laws.twin_words.Members.{range_at, at_range}
use Rattle.twin_report_laws.specs.rows.Paired.{ArePaired}
use Rattle.twin_report_laws.proofs.rows.Views.{here, over, count_same, collapsed_same, type_same}
use Rattle.twin_report_laws.proofs.rows.Types.{nodes_moved, member_moved, as_many_members, no_members, lists}
use Rattle.twin_report_laws.proofs.rows.Rows.{same_map, row_moved, row_location}
use Rattle.twin_report_laws.proofs.rows.Nodes.{some_at}

-- ---- the fact of a type
pub plain_at : (n : ℕ) (ty : ℕ) (facts : List TypeFact) → ty < n → slice_get (replicate n plain_fact ++ facts) ty ≡ Some plain_fact
plain_at zero ty facts lt = absurd (omega (arith, lt))
plain_at (suc n) zero facts lt = refl
plain_at (suc n) (suc ty) facts lt = plain_at n ty facts (omega (arith, lt))

-- a number below 8 is of a type without a tag, any other one of a tag
pub data IsTypeAt (table : Table) (ty : ℕ) : Type 0 where
  plain : ty < 8 → IsTypeAt table ty
  of_tag : (tag : ℕ) → ty ≡ 8 + tag → tag < table.tags → IsTypeAt table ty

pub type_at : (table : Table) (ty : ℕ) (fact : TypeFact) → slice_get (type_facts table) ty ≡ Some fact → IsTypeAt table ty
type_at table ty fact at = elim (cases_lt ty 8) [
  | inl lt ↦ plain lt
  | inr ge ↦
      let place : ty ≡ 8 + (ty - 8) = omega (arith, ge) in
      let behind : slice_get (type_facts table) ty ≡ slice_get (map (tag_fact table) (range_with_len 0 table.tags)) (ty - 8) = get_behind (replicate 8 plain_fact) (map (tag_fact table) (range_with_len 0 table.tags)) ty (ty - 8) place in
      let (k, k_at, is) = unmapped_at (tag_fact table) (range_with_len 0 table.tags) (ty - 8) fact (sym behind ∙ at) in
      let (lt, number) = at_range 0 table.tags (ty - 8) k k_at in
      of_tag (ty - 8) place lt
]

pub tag_there : (table : Table) (tag : ℕ) → tag < table.tags → slice_get (type_facts table) (8 + tag) ≡ Some (tag_fact table tag)
tag_there table tag lt =
    let zero_is : 0 + tag ≡ tag = omega arith in
    get_behind (replicate 8 plain_fact) (map (tag_fact table) (range_with_len 0 table.tags)) (8 + tag) tag refl
    ∙ mapped_at (tag_fact table) (range_with_len 0 table.tags) tag tag (range_at 0 table.tags tag lt ∙ ap (λ (k : ℕ). Some k) zero_is)

-- a tag that is no union's
pub no_union : (terms : List Term) (tag : ℕ) → ((i : ℕ) → slice_get terms i ≡ Some (Union tag) → ⊥) → list_any (is_union tag) terms ≡ false
no_union [] tag none = refl
no_union (t ∷ rest) tag none = ap (λ (b : Bool). b || list_any (is_union tag) rest) (by t refl) ∙ no_union rest tag (λ i at. none (suc i) at)
  where
    other : (k : ℕ) → t ≡ Union k → (b : Bool) → (k == tag) ≡ b → b ≡ false
    other k e true f = absurd (none 0 (ap (λ (s : Term). Some s) (e ∙ ap (λ (n : ℕ). Union n) (eqb-true k tag f))))
    other k e false f = refl

    by : (s : Term) → t ≡ s → is_union tag s ≡ false
    by (Union k) e = other k e (k == tag) refl
    by s e = refl

pub tagged_structure : (table : Table) (tag : ℕ) → ((i : ℕ) → slice_get table.terms i ≡ Some (Union tag) → ⊥) → tagged table tag ≡ StructureOf tag
tagged_structure table tag none = ap (λ (b : Bool). if b then UnionOf tag else StructureOf tag) (no_union table.terms tag none)

-- a location that isn't collapsed, with a tag for its type, is a structure's: the tag stands in no union
pub record ApartTags (p : Program) : Type 0 where
  pub each : (l tag : ℕ) → (view_of (locations_in p)).collapsed l ≡ false → (view_of (locations_in p)).node_type l ≡ 8 + tag → (i : ℕ) → slice_get p.types.terms i ≡ Some (Union tag) → ⊥

pub small_moved : (f : ℕ → ℕ) (ty : ℕ) → ty < 8 → number_moved f ty ≡ ty
small_moved f ty lt = ap (λ (b : Bool). if b then ty else 8 + f (ty - 8)) (lt-ltb ty 8 lt)

module _ (p q : Program) (to back : Numbers) (h : ArePaired p q to back) (S T : System) (types : S.types ≡ type_facts p.types) (over_types : T.types ≡ type_facts q.types) where
  abbrev pub m_ty : ℕ → ℕ
  m_ty ty = number_moved to.tag ty

  pub fact_of : (tag : ℕ) → tag < p.types.tags → slice_get S.types (8 + tag) ≡ Some (tag_fact p.types tag)
  fact_of tag lt = ap (λ (fs : List TypeFact). slice_get fs (8 + tag)) types ∙ tag_there p.types tag lt

  pub fact_over : (tag : ℕ) → tag < p.types.tags → slice_get T.types (8 + to.tag tag) ≡ Some (tag_fact q.types (to.tag tag))
  fact_over tag lt = ap (λ (fs : List TypeFact). slice_get fs (8 + to.tag tag)) over_types ∙ tag_there q.types (to.tag tag) (h.lead.tag_back tag lt).0

  -- as many members
  members_there : (tag k d : ℕ) → tag < p.types.tags → slice_get (tag_fact p.types tag).members k ≡ Some d → (e : ℕ) × (slice_get (tag_fact q.types (to.tag tag)).members k ≡ Some e)
  members_there tag k d lt at = by (members_in p.types tag) refl at
    where
      by : (o : Option (List MemberTerm)) → members_in p.types tag ≡ o → slice_get (tag_fact_by p.types (tagged p.types tag) o).members k ≡ Some d → (e : ℕ) × (slice_get (tag_fact q.types (to.tag tag)).members k ≡ Some e)
      by None e f = absurd (none_some f)
      by (Some ms) e f =
          let (ks, ks_are, same) = lists p q to back h tag ms e in
          let (j, j_at, is) = unmapped_at (member_node p.types (tagged p.types tag)) (range_with_len 0 (length ms)) k d f in
          let (less, number) = at_range 0 (length ms) k j j_at in
          let many = as_many_members to.tag p.types q.types ms ks same in
          let zero_is : 0 + k ≡ k = omega arith in (
            member_node q.types (tagged q.types (to.tag tag)) k,
            ap (λ (o : Option (List MemberTerm)). slice_get (tag_fact_by q.types (tagged q.types (to.tag tag)) o).members k) ks_are
                ∙ mapped_at (member_node q.types (tagged q.types (to.tag tag))) (range_with_len 0 (length ks)) k k (range_at 0 (length ks) k (omega (arith, less, many)) ∙ ap (λ (n : ℕ). Some n) zero_is),
          )

  -- the same facts of a tag that is a structure's in both
  structure_same : (tag : ℕ) → tag < p.types.tags → tagged p.types tag ≡ StructureOf tag → tagged q.types (to.tag tag) ≡ StructureOf (to.tag tag) → tag_fact q.types (to.tag tag) ≡ tag_fact p.types tag
  structure_same tag lt one other = by (members_in p.types tag) refl
    where
      by : (o : Option (List MemberTerm)) → members_in p.types tag ≡ o → tag_fact q.types (to.tag tag) ≡ tag_fact p.types tag
      by None e =
          ap (tag_fact_by q.types (tagged q.types (to.tag tag))) (no_members p q to back h tag lt e) ∙ sym (ap (tag_fact_by p.types (tagged p.types tag)) e)
      by (Some ms) e =
          let (ks, ks_are, same) = lists p q to back h tag ms e in
          let many = as_many_members to.tag p.types q.types ms ks same in
          let has : HasTags p.types.tags (StructureOf tag) = lt in
          let counts : length (row_nodes q.types (StructureOf (to.tag tag))) ≡ length (row_nodes p.types (StructureOf tag)) =
          ap (λ (ns : List Ctype). length ns) (nodes_moved p q to back h (StructureOf tag) has) ∙ length-map (row_nodes p.types (StructureOf tag)) (renamed to.tag) in
          let places : positions_by q.types (StructureOf (to.tag tag)) (length ks) ≡ positions_by p.types (StructureOf tag) (length ms) =
          ap (λ (n : ℕ). map (member_node q.types (StructureOf (to.tag tag))) (range_with_len 0 n)) many
          ∙ same_map (member_node q.types (StructureOf (to.tag tag))) (member_node p.types (StructureOf tag)) (range_with_len 0 (length ms)) (λ k there. member_moved p q to back h (StructureOf tag) has k) in
          ap (tag_fact_by q.types (tagged q.types (to.tag tag))) ks_are
          ∙ (ap (λ (t : Ctype). tag_fact_by q.types t (Some ks)) other
          ∙ (ap (λ (n : ℕ). record { nodes = n; members = positions_by q.types (StructureOf (to.tag tag)) (length ks) }) counts
          ∙ (ap (λ (l : List ℕ). record { nodes = length (row_nodes p.types (StructureOf tag)); members = l }) places
          ∙ (sym (ap (λ (t : Ctype). tag_fact_by p.types t (Some ms)) one) ∙ sym (ap (tag_fact_by p.types (tagged p.types tag)) e)))))

  module _ (valid : IsValid S) (locations : S.locations ≡ location_facts (trees_in p) (here p q to back h)) (over_locations : T.locations ≡ location_facts (trees_in q) (over p q to back h))
      (tags_apart : ApartTags p) (over_apart : ApartTags q) where
    -- a location, and the one with its number
    pub record AreLocations (l : ℕ) (a : LocationFact) : Type 0 where
      pub within : l < length (locations_in p)
      pub other : LocationFact
      pub there : slice_get T.locations l ≡ Some other
      pub collapsed : other.collapsed ≡ a.collapsed
      pub ty : other.ty ≡ m_ty a.ty
      pub own_collapsed : a.collapsed ≡ (view_of (locations_in p)).collapsed l
      pub own_ty : a.ty ≡ (view_of (locations_in p)).node_type l

    pub location_there : (l : ℕ) (a : LocationFact) → slice_get S.locations l ≡ Some a → AreLocations l a
    location_there l a at =
        let (n, n_at, is) = unmapped_at (location_fact (trees_in p) (here p q to back h)) (range_with_len 0 (length (locations_in p))) l a (sym (ap (λ (fs : List LocationFact). slice_get fs l) locations) ∙ at) in
        let (lt, number) = at_range 0 (length (locations_in p)) l n n_at in
        let n_is : n ≡ l = omega (arith, number) in
        let own : location_fact (trees_in p) (here p q to back h) l ≡ a = ap (location_fact (trees_in p) (here p q to back h)) (sym n_is) ∙ is in
        let zero_is : 0 + l ≡ l = omega arith in
        let many = count_same p q to back h in
        record {
          within = lt;
          other = location_fact (trees_in q) (over p q to back h) l;
          there = ap (λ (fs : List LocationFact). slice_get fs l) over_locations
              ∙ mapped_at (location_fact (trees_in q) (over p q to back h)) (range_with_len 0 (length (locations_in q))) l l (range_at 0 (length (locations_in q)) l (omega (arith, lt, many)) ∙ ap (λ (k : ℕ). Some k) zero_is);
          collapsed = collapsed_same p q to back h l ∙ ap (λ (f : LocationFact). f.collapsed) own;
          ty = type_same p q to back h l ∙ ap (λ (f : LocationFact). m_ty f.ty) own;
          own_collapsed = sym (ap (λ (f : LocationFact). f.collapsed) own);
          own_ty = sym (ap (λ (f : LocationFact). f.ty) own);
        }

    -- the fact of the type of a location that isn't collapsed
    fact_same : (l : ℕ) (a : LocationFact) → slice_get S.locations l ≡ Some a → a.collapsed ≡ false → (tag : ℕ) → a.ty ≡ 8 + tag → tag < p.types.tags → tag_fact q.types (to.tag tag) ≡ tag_fact p.types tag
    fact_same l a at apart tag ty lt =
        let o = location_there l a at in
        let one = tagged_structure p.types tag (tags_apart.each l tag (sym o.own_collapsed ∙ apart) (sym o.own_ty ∙ ty)) in
        let moved : m_ty (8 + tag) ≡ 8 + to.tag tag = sym (tag_moved to.tag tag) in
        let other = tagged_structure q.types (to.tag tag)
        (over_apart.each l (to.tag tag) (collapsed_same p q to back h l ∙ (sym o.own_collapsed ∙ apart)) (type_same p q to back h l ∙ (ap m_ty (sym o.own_ty ∙ ty) ∙ moved))) in
        structure_same tag lt one other

    -- its nodes
    pub counts_same : (l : ℕ) (a : LocationFact) → slice_get S.locations l ≡ Some a → a.collapsed ≡ false → nodes_of T (m_ty a.ty) ≡ nodes_of S a.ty
    counts_same l a at apart =
        let (fact, fact_at) = some_at S.types a.ty (valid.locations l a at).typed in
        by fact fact_at (type_at p.types a.ty fact (sym (ap (λ (fs : List TypeFact). slice_get fs a.ty) types) ∙ fact_at))
      where
        by : (fact : TypeFact) → slice_get S.types a.ty ≡ Some fact → IsTypeAt p.types a.ty → nodes_of T (m_ty a.ty) ≡ nodes_of S a.ty
        by fact fact_at (plain lt) =
            ap (λ (n : ℕ). nodes_of T n) (small_moved to.tag a.ty lt)
            ∙ (ap (λ (fs : List TypeFact). option_map_or (λ f. f.nodes) (slice_get fs a.ty) 0) over_types
            ∙ (ap (λ (o : Option TypeFact). option_map_or (λ f. f.nodes) o 0) (plain_at 8 a.ty (map (tag_fact q.types) (range_with_len 0 q.types.tags)) lt)
            ∙ (sym (ap (λ (o : Option TypeFact). option_map_or (λ f. f.nodes) o 0) (plain_at 8 a.ty (map (tag_fact p.types) (range_with_len 0 p.types.tags)) lt))
            ∙ sym (ap (λ (fs : List TypeFact). option_map_or (λ f. f.nodes) (slice_get fs a.ty) 0) types))))
        by fact fact_at (of_tag tag ty lt) =
            ap (λ (n : ℕ). nodes_of T n) (ap m_ty ty ∙ sym (tag_moved to.tag tag))
            ∙ (ap (λ (o : Option TypeFact). option_map_or (λ f. f.nodes) o 0) (fact_over tag lt)
            ∙ (ap (λ (f : TypeFact). f.nodes) (fact_same l a at apart tag ty lt)
            ∙ (sym (ap (λ (o : Option TypeFact). option_map_or (λ f. f.nodes) o 0) (fact_of tag lt)) ∙ sym (ap (λ (n : ℕ). nodes_of S n) ty))))

    led_there : (c k t u : Bool) (l d n : ℕ) → k ≡ c → (t ≡ true → u ≡ true) → cond c (Some l) (cond t (Some (l + d)) None) ≡ Some n → cond k (Some l) (cond u (Some (l + d)) None) ≡ Some n
    led_there true k t u l d n e same f = ap (λ (b : Bool). cond b (Some l) (cond u (Some (l + d)) None)) e ∙ f
    led_there false k true u l d n e same f = ap (λ (b : Bool). cond b (Some l) (cond u (Some (l + d)) None)) e ∙ (ap (λ (b : Bool). cond b (Some (l + d)) None) (same refl) ∙ f)
    led_there false k false u l d n e same f = absurd (none_some f)

    pub node_there : (o : Option LocationFact) (l ty d n : ℕ) → slice_get S.locations l ≡ o → node_from o l ty d ≡ Some n → (node_from (slice_get T.locations l) l (m_ty ty) d ≡ Some n) × (l < length (locations_in p))
    node_there None l ty d n e f = absurd (none_some f)
    node_there (Some a) l ty d n e f =
        let o = location_there l a e in (
          ap (λ (k : Option LocationFact). node_from k l (m_ty ty) d) o.there
              ∙ led_there a.collapsed o.other.collapsed (eqb a.ty ty) (eqb o.other.ty (m_ty ty)) l d n o.collapsed (λ t. eq-eqb o.other.ty (m_ty ty) (o.ty ∙ ap m_ty (eqb-true a.ty ty t))) f,
          o.within,
        )

    stays : (l : ℕ) → IsLocation S l → row_moved p q to back h l ≡ l
    stays l within = row_location p q to back h l (subst (λ (n : ℕ). l < n) many within)
      where
        many : length S.locations ≡ length (locations_in p)
        many = ap (λ (fs : List LocationFact). length fs) locations ∙ length-map-range_with_len (location_fact (trees_in p) (here p q to back h)) 0 (length (locations_in p))

    pub subs_there : (l ty sub n : ℕ) → IsNodeOf S ty sub → sub_of S l ty sub ≡ Some n → sub_of T (row_moved p q to back h l) (m_ty ty) sub ≡ Some (row_moved p q to back h n)
    subs_there l ty sub n known f =
        let (there, within) = node_there (slice_get S.locations l) l ty sub n refl f in
        ap (λ (k : ℕ). sub_of T k (m_ty ty) sub) (row_location p q to back h l within) ∙ (there ∙ ap (λ (k : ℕ). Some k) (sym (stays n (sub_location S valid l ty sub n known f))))

    -- ---- members
    position_there : (ty k d : ℕ) → member_position S ty k ≡ Some d → (e : ℕ) × (member_position T (m_ty ty) k ≡ Some e)
    position_there ty k d f =
        let (fact, at, has) = and_then_some (λ (a : TypeFact). slice_get a.members k) (slice_get S.types ty) d f in
        by fact at has (type_at p.types ty fact (sym (ap (λ (fs : List TypeFact). slice_get fs ty) types) ∙ at))
      where
        by : (fact : TypeFact) → slice_get S.types ty ≡ Some fact → slice_get fact.members k ≡ Some d → IsTypeAt p.types ty → (e : ℕ) × (member_position T (m_ty ty) k ≡ Some e)
        by fact at has (plain lt) =
            let is : fact ≡ plain_fact = some_one (sym at ∙ (ap (λ (fs : List TypeFact). slice_get fs ty) types ∙ plain_at 8 ty (map (tag_fact p.types) (range_with_len 0 p.types.tags)) lt)) in
            absurd (none_some (sym (ap (λ (a : TypeFact). slice_get a.members k) is) ∙ has))
        by fact at has (of_tag tag place lt) =
            let is : fact ≡ tag_fact p.types tag = some_one (sym at ∙ (ap (slice_get S.types) place ∙ fact_of tag lt)) in
            let (e, there) = members_there tag k d lt (sym (ap (λ (a : TypeFact). slice_get a.members k) is) ∙ has) in
            (e, ap (λ (n : ℕ). member_position T n k) (ap m_ty place ∙ sym (tag_moved to.tag tag)) ∙ (ap (option_and_then (λ (a : TypeFact). slice_get a.members k)) (fact_over tag lt) ∙ there))

    -- of the type of a location that isn't collapsed
    position_same : (l : ℕ) (a : LocationFact) → slice_get S.locations l ≡ Some a → a.collapsed ≡ false → (k d : ℕ) → member_position S a.ty k ≡ Some d → member_position T (m_ty a.ty) k ≡ Some d
    position_same l a l_at apart k d f =
        let (fact, at, has) = and_then_some (λ (b : TypeFact). slice_get b.members k) (slice_get S.types a.ty) d f in
        by fact at has (type_at p.types a.ty fact (sym (ap (λ (fs : List TypeFact). slice_get fs a.ty) types) ∙ at))
      where
        by : (fact : TypeFact) → slice_get S.types a.ty ≡ Some fact → slice_get fact.members k ≡ Some d → IsTypeAt p.types a.ty → member_position T (m_ty a.ty) k ≡ Some d
        by fact at has (plain lt) =
            let is : fact ≡ plain_fact = some_one (sym at ∙ (ap (λ (fs : List TypeFact). slice_get fs a.ty) types ∙ plain_at 8 a.ty (map (tag_fact p.types) (range_with_len 0 p.types.tags)) lt)) in
            absurd (none_some (sym (ap (λ (b : TypeFact). slice_get b.members k) is) ∙ has))
        by fact at has (of_tag tag place lt) =
            let is : fact ≡ tag_fact p.types tag = some_one (sym at ∙ (ap (slice_get S.types) place ∙ fact_of tag lt)) in
            ap (λ (n : ℕ). member_position T n k) (ap m_ty place ∙ sym (tag_moved to.tag tag))
            ∙ (ap (option_and_then (λ (b : TypeFact). slice_get b.members k)) (fact_over tag lt)
            ∙ (ap (λ (b : TypeFact). slice_get b.members k) (fact_same l a l_at apart tag place lt ∙ sym is) ∙ has))

    -- a location leads to a member: it is collapsed, or of that very type
    field_there_by : (l ty k d n : ℕ) (a : LocationFact) → slice_get S.locations l ≡ Some a → member_position S ty k ≡ Some d → (c t : Bool) → a.collapsed ≡ c → eqb a.ty ty ≡ t → cond c (Some l) (cond t (Some (l + d)) None) ≡ Some n
        → field_of T l (m_ty ty) k ≡ Some n
    field_there_by l ty k d n a at position true t c_is t_is f =
        let o = location_there l a at in
        let (e, there) = position_there ty k d position in
        ap (option_and_then (λ distance. node_from (slice_get T.locations l) l (m_ty ty) distance)) there
        ∙ (ap (λ (x : Option LocationFact). node_from x l (m_ty ty) e) o.there
        ∙ (ap (λ (b : Bool). cond b (Some l) (cond (eqb o.other.ty (m_ty ty)) (Some (l + e)) None)) (o.collapsed ∙ c_is) ∙ f))
    field_there_by l ty k d n a at position false true c_is t_is f =
        let o = location_there l a at in
        let same : a.ty ≡ ty = eqb-true a.ty ty t_is in
        let there : member_position T (m_ty ty) k ≡ Some d =
        sym (ap (λ (x : ℕ). member_position T (m_ty x) k) same) ∙ position_same l a at c_is k d (ap (λ (x : ℕ). member_position S x k) same ∙ position) in
        ap (option_and_then (λ distance. node_from (slice_get T.locations l) l (m_ty ty) distance)) there
        ∙ (ap (λ (x : Option LocationFact). node_from x l (m_ty ty) d) o.there
        ∙ (ap (λ (b : Bool). cond b (Some l) (cond (eqb o.other.ty (m_ty ty)) (Some (l + d)) None)) (o.collapsed ∙ c_is)
        ∙ (ap (λ (b : Bool). cond b (Some (l + d)) None) (eq-eqb o.other.ty (m_ty ty) (o.ty ∙ ap m_ty same)) ∙ f)))
    field_there_by l ty k d n a at position false false c_is t_is f = absurd (none_some f)

    field_of_location : (l ty k d n : ℕ) (o : Option LocationFact) → slice_get S.locations l ≡ o → member_position S ty k ≡ Some d → node_from o l ty d ≡ Some n → field_of T l (m_ty ty) k ≡ Some n
    field_of_location l ty k d n None e position f = absurd (none_some f)
    field_of_location l ty k d n (Some a) e position f = field_there_by l ty k d n a e position a.collapsed (eqb a.ty ty) refl refl f

    pub fields_there : ((l ty k n : ℕ) → field_of S l ty k ≡ Some n → IsLocation S n) → (l ty k n : ℕ) → field_of S l ty k ≡ Some n → field_of T (row_moved p q to back h l) (m_ty ty) k ≡ Some (row_moved p q to back h n)
    fields_there ranges l ty k n f =
        let (d, position, leads) = and_then_some (λ distance. node_from (slice_get S.locations l) l ty distance) (member_position S ty k) n f in
        let (over, within) = node_there (slice_get S.locations l) l ty d n refl leads in
        ap (λ (x : ℕ). field_of T x (m_ty ty) k) (row_location p q to back h l within)
        ∙ (field_of_location l ty k d n (slice_get S.locations l) refl position leads ∙ ap (λ (x : ℕ). Some x) (sym (stays n (ranges l ty k n f))))

    -- ---- copies of whole objects
    pairs_there : (c k t u : Bool) (d s a b m n : ℕ) (pair : ℕ × ℕ) → (t ≡ true → u ≡ true) → (c ≡ false → m ≡ a) → (k ≡ false → n ≡ b) → Contains (pairs_of c k t d s a b) pair → Contains (pairs_of c k u d s m n) pair
    pairs_there true true t u d s a b m n pair same to_is from_is f = f
    pairs_there true false t u d s a b m n pair same to_is from_is f = subst (λ (x : ℕ). Contains (pairs_of true false u d s m x) pair) (sym (from_is refl)) f
    pairs_there false true t u d s a b m n pair same to_is from_is f = subst (λ (x : ℕ). Contains (pairs_of false true u d s x n) pair) (sym (to_is refl)) f
    pairs_there false false true u d s a b m n pair same to_is from_is f =
        subst (λ (x : Bool). Contains (pairs_of false false x d s m n) pair) (sym (same refl)) (subst (λ (x : ℕ). Contains (pairs_of false false true d s x n) pair) (sym (to_is refl)) f)
    pairs_there false false false u d s a b m n pair same to_is from_is f = absurd (omega (arith, f.1))

    between_there : (o r : Option LocationFact) (d s : ℕ) (pair : ℕ × ℕ) → slice_get S.locations d ≡ o → slice_get S.locations s ≡ r → Contains (pairs_between S o r d s) pair → Contains (deep T d s) pair × (d < length (locations_in p)) × (s < length (locations_in p))
    between_there None r d s pair e f has = absurd (omega (arith, has.1))
    between_there (Some a) None d s pair e f has = absurd (omega (arith, has.1))
    between_there (Some a) (Some b) d s pair e f has =
        let x = location_there d a e in
        let y = location_there s b f in
        let more : Contains (pairs_of a.collapsed b.collapsed (eqb x.other.ty y.other.ty) d s (nodes_of T x.other.ty) (nodes_of T y.other.ty)) pair =
        pairs_there a.collapsed b.collapsed (eqb a.ty b.ty) (eqb x.other.ty y.other.ty) d s (nodes_of S a.ty) (nodes_of S b.ty) (nodes_of T x.other.ty) (nodes_of T y.other.ty) pair
        (λ t. eq-eqb x.other.ty y.other.ty (x.ty ∙ (ap m_ty (eqb-true a.ty b.ty t) ∙ sym y.ty)))
        (λ apart. ap (λ (n : ℕ). nodes_of T n) x.ty ∙ counts_same d a e apart) (λ apart. ap (λ (n : ℕ). nodes_of T n) y.ty ∙ counts_same s b f apart) has in
        let is : pairs_of x.other.collapsed y.other.collapsed (eqb x.other.ty y.other.ty) d s (nodes_of T x.other.ty) (nodes_of T y.other.ty) ≡ pairs_of a.collapsed b.collapsed (eqb x.other.ty y.other.ty) d s (nodes_of T x.other.ty) (nodes_of T y.other.ty) =
        ap (λ (c : Bool). pairs_of c y.other.collapsed (eqb x.other.ty y.other.ty) d s (nodes_of T x.other.ty) (nodes_of T y.other.ty)) x.collapsed
        ∙ ap (λ (c : Bool). pairs_of a.collapsed c (eqb x.other.ty y.other.ty) d s (nodes_of T x.other.ty) (nodes_of T y.other.ty)) y.collapsed in (
          subst (λ (o : Option LocationFact). Contains (pairs_between T o (slice_get T.locations s) d s) pair) (sym x.there)
              (subst (λ (o : Option LocationFact). Contains (pairs_between T (Some x.other) o d s) pair) (sym y.there) (subst (λ (pairs : List (ℕ × ℕ)). Contains pairs pair) (sym is) more)),
          x.within,
          y.within,
        )

    pub pairs_kept : (d s a b : ℕ) → Contains (deep S d s) (a, b) → Contains (deep T (row_moved p q to back h d) (row_moved p q to back h s)) (row_moved p q to back h a, row_moved p q to back h b)
    pairs_kept d s a b has =
        let places = deep_locations S valid d s a b has in
        let (there, d_in, s_in) = between_there (slice_get S.locations d) (slice_get S.locations s) d s (a, b) refl refl has in
        subst (λ (k : ℕ). Contains (deep T k (row_moved p q to back h s)) (row_moved p q to back h a, row_moved p q to back h b)) (sym (row_location p q to back h d d_in))
        (subst (λ (k : ℕ). Contains (deep T d k) (row_moved p q to back h a, row_moved p q to back h b)) (sym (row_location p q to back h s s_in))
        (subst (λ (k : ℕ). Contains (deep T d s) (k, row_moved p q to back h b)) (sym (stays a places.0)) (subst (λ (k : ℕ). Contains (deep T d s) (a, k)) (sym (stays b places.1)) there)))
