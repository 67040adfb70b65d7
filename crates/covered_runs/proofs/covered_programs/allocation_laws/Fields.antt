-- No member of an object is a function's location.
use Rattle.std.proofs.Common.{arith, ◌≡◌, ◌∙◌, inl, inr, ℕ, zero, suc, ◌+◌, ◌^◌, ◌<◌, ◌==◌, Bool, true, false, cond, List, [], ◌∷◌, ◌++◌, map, length, Option, Some, None, slice_get, refl, sym, ap}
use Rattle.std.specs.Prelude.{nat_lt, replicate, option_and_then}
use Rattle.std.specs.List.{range_with_len, list_any}
use Rattle.std.proofs.lemmas.Bool.{false≢true}
use Rattle.std.proofs.lemmas.Bool.Decides.{eqb_tells}
use Rattle.c_types.specs.declared.key.ObjectKey.TheVariants.{Function as FunctionKey}
use Rattle.c_types.specs.declared.term.MemberTerm.{MemberTerm}
use Rattle.c_types.specs.declared.term.Term.TheVariants.{Union}
use Rattle.c_types.specs.Trees.{Ctype, StructureOf, UnionOf}
use Rattle.c_types.specs.Layout.{Extent}
use Rattle.c_types.specs.Table.{Table, extent_in, members_in}
use Rattle.c_types.specs.Made.{IsMade}
use Rattle.core_tree.specs.declared.node.Program.{Program}
use Rattle.core_tree.specs.Typed.{trees_in}
use Rattle.sol_model.specs.declared.system.System.{System}
use Rattle.sol_model.specs.declared.system.LocationFact.{LocationFact}
use Rattle.sol_model.specs.declared.system.TypeFact.{TypeFact}
use Rattle.sol_model.specs.Places.{node_from, field_of}
use Rattle.obj_space.specs.declared.location.Location.{Location}
use Rattle.obj_space.specs.Parts.{nodes_of as tree_nodes}
use Rattle.obj_space.specs.View.{view_of, collapsed_of, type_of_node}
use Rattle.row_numbers.specs.Kept.{nodes_in, nodes_of, member_node}
use Rattle.normal_form.specs.Facts.{location_fact, plain_fact, is_union, tagged, tag_fact_by, tag_fact, type_facts}
use Rattle.normal_form.specs.SystemOf.{SystemOf}
use Rattle.linked_laws.specs.merged_laws.Merged.{TagsFit}
use Rattle.linked_laws.proofs.system_laws.fact_laws.Nodes.{union_nodes_is, union_member, structure_member}
use Rattle.covered_runs.specs.covered_programs.allocation_laws.Spread.{AreSpaced}
use Rattle.covered_runs.proofs.covered_programs.allocation_laws.Marks.{none_some, some_one, any_from}
use Rattle.covered_runs.proofs.covered_programs.allocation_laws.Ranges.{range_item, mapped_from}

-- a fact with a member is a tag's
record IsTagFact (table : Table) (ty : ℕ) (fact : TypeFact) : Type 0 where
  tag : ℕ
  number : ty ≡ 8 + tag
  is : tag_fact table tag ≡ fact

behind_plain : (n : ℕ) (xs : List TypeFact) (ty member d : ℕ) (fact : TypeFact) → slice_get (replicate n plain_fact ++ xs) ty ≡ Some fact → slice_get fact.members member ≡ Some d → (k : ℕ) × (ty ≡ n + k) × (slice_get xs k ≡ Some fact)
behind_plain zero xs ty member d fact h some = (ty, omega arith, h)
behind_plain (suc n) xs zero member d fact h some = absurd (none_some (ap (λ (f : TypeFact). slice_get f.members member) (some_one h) ∙ some))
behind_plain (suc n) xs (suc ty) member d fact h some = let r = behind_plain n xs ty member d fact h some in let e = r.1 in (r.0, omega arith, r.2)

tag_is : (table : Table) (ty member d : ℕ) (fact : TypeFact) → slice_get (type_facts table) ty ≡ Some fact → slice_get fact.members member ≡ Some d → IsTagFact table ty fact
tag_is table ty member d fact h some =
    let r = behind_plain 8 (map (tag_fact table) (range_with_len 0 table.tags)) ty member d fact h some in
    let m = mapped_from (tag_fact table) (range_with_len 0 table.tags) r.0 fact r.2 in
    let at = range_item 0 table.tags r.0 m.0 m.1 in
    let one = r.1 in
    let two = at.0 in
    record { tag = m.0; number = omega arith; is = m.2 }

-- the position of a member of a tag, with the members that the tag has
record IsMemberPlace (table : Table) (tag member d : ℕ) : Type 0 where
  members : List MemberTerm
  listed : members_in table tag ≡ Some members
  place : d ≡ member_node table (tagged table tag) member

place_is : (table : Table) (tag member d : ℕ) (o : Option (List MemberTerm)) → members_in table tag ≡ o → slice_get (tag_fact_by table (tagged table tag) o).members member ≡ Some d → IsMemberPlace table tag member d
place_is table tag member d None is h = absurd (none_some h)
place_is table tag member d (Some ms) is h =
    let m = mapped_from (member_node table (tagged table tag)) (range_with_len 0 (length ms)) member d h in
    let at = range_item 0 (length ms) member m.0 m.1 in
    let one = at.0 in
    let same : m.0 ≡ member = omega arith in
    record { members = ms; listed = is; place = sym m.2 ∙ ap (member_node table (tagged table tag)) same }

-- a structure's own node is the first of its nodes, and each of its nodes is one of its tree
kept_node : (o : Option Extent) (i : ℕ) → i < length (nodes_in o) → (t : Ctype) × (slice_get (tree_nodes o) i ≡ Some t)
kept_node None i lt = absurd (omega arith)
kept_node (Some e) i lt = by (nat_lt (length e.nodes) (2 ^ 24 + 1)) lt
  where
    get : (xs : List Ctype) (j : ℕ) → j < length xs → (t : Ctype) × (slice_get xs j ≡ Some t)
    get [] j less = absurd (omega arith)
    get (x ∷ xs) zero less = (x, refl)
    get (x ∷ xs) (suc j) less = get xs j (omega arith)

    by : (b : Bool) → i < length (let ns : List Ctype = cond b e.nodes [] in ns) → (t : Ctype) × (slice_get e.nodes i ≡ Some t)
    by true less = get e.nodes i less
    by false less = absurd (omega arith)

module _ (p : Program) (space : List Location) (system : System) (is : SystemOf p (view_of space) system) (made : IsMade p.types) (fit : TagsFit p.types) (spaced : AreSpaced p space) where
  -- a location of the system, with what it says
  pub record IsLocated (l : ℕ) (fact : LocationFact) : Type 0 where
    pub x : Location
    pub at : slice_get space l ≡ Some x
    pub collapsed : fact.collapsed ≡ x.collapsed
    pub ty : fact.ty ≡ x.ty

  located : (l : ℕ) (fact : LocationFact) → slice_get system.locations l ≡ Some fact → IsLocated l fact
  located l fact h =
      let m = mapped_from (location_fact (trees_in p) (view_of space)) (range_with_len 0 (length space)) l fact (ap (λ (fs : List LocationFact). slice_get fs l) (sym is.locations) ∙ h) in
      let at = range_item 0 (length space) l m.0 m.1 in
      let one = at.0 in
      let same : m.0 ≡ l = omega arith in
      let here : location_fact (trees_in p) (view_of space) l ≡ fact = ap (location_fact (trees_in p) (view_of space)) (sym same) ∙ m.2 in
      by (slice_get space l) refl here (let lt = at.1 in omega arith)
    where
      missing : (xs : List Location) (k : ℕ) → k < length xs → slice_get xs k ≡ None → ⊥
      missing [] k lt e = omega arith
      missing (y ∷ xs) zero lt e = none_some (sym e)
      missing (y ∷ xs) (suc k) lt e = missing xs k (omega arith) e

      by : (o : Option Location) → slice_get space l ≡ o → location_fact (trees_in p) (view_of space) l ≡ fact → l < length space → IsLocated l fact
      by None at same lt = absurd (missing space l lt at)
      by (Some x) at same lt = record {
        x = x;
        at = at;
        collapsed = ap (λ (f : LocationFact). f.collapsed) (sym same) ∙ ap collapsed_of at;
        ty = ap (λ (f : LocationFact). f.ty) (sym same) ∙ ap type_of_node at;
      }

  module _ (k l : ℕ) (own : Location) (own_at : slice_get space l ≡ Some own) (own_key : own.key ≡ FunctionKey k) where
    -- the whole of which that location would be a member
    module _ (whole member d : ℕ) (fact : LocationFact) (fact_at : slice_get system.locations whole ≡ Some fact) (apart : fact.collapsed ≡ false) (tag : ℕ) (number : fact.ty ≡ 8 + tag) (there : l ≡ whole + d) where
      w : IsLocated whole fact
      w = located whole fact fact_at

      not_own : d ≡ 0 → ⊥
      not_own first =
          let same : whole ≡ l = omega arith in
          let it : w.x ≡ own = some_one (sym w.at ∙ (ap (slice_get space) same ∙ own_at)) in
          let five : own.ty ≡ 5 = (spaced.functions l k own own_at own_key).0 in
          let eight : own.ty ≡ 8 + tag = ap (λ (y : Location). y.ty) (sym it) ∙ (sym w.ty ∙ number) in
          omega arith

      not_part : d < length (nodes_of p.types (StructureOf tag)) → ⊥
      not_part lt =
          let t = kept_node (extent_in p.types (StructureOf tag)) d lt in
          let y = spaced.trees whole tag d w.x t.0 w.at (sym w.collapsed ∙ apart) (sym w.ty ∙ number) t.1 in
          let it : y.0 ≡ own = some_one (sym y.1 ∙ (ap (slice_get space) (sym there) ∙ own_at)) in
          let key : w.x.key ≡ FunctionKey k = sym y.2.0 ∙ (ap (λ (z : Location). z.key) it ∙ own_key) in
          let five : w.x.ty ≡ 5 = (spaced.functions whole k w.x w.at key).0 in
          let eight : w.x.ty ≡ 8 + tag = sym w.ty ∙ number in
          omega arith

      no_union : list_any (is_union tag) p.types.terms ≡ false → (i : ℕ) → slice_get p.types.terms i ≡ Some (Union tag) → ⊥
      no_union none i at = false≢true (sym none ∙ any_from (is_union tag) p.types.terms i (Union tag) at (same tag))
        where
          same : (n : ℕ) → (n == n) ≡ true
          same n = elim (eqb_tells n n) [ inl equal ↦ equal.0 | inr other ↦ absurd (other.1 refl) ]

      by_tagged : (ms : List MemberTerm) → members_in p.types tag ≡ Some ms → (b : Bool) → list_any (is_union tag) p.types.terms ≡ b → d ≡ member_node p.types (cond b (UnionOf tag) (StructureOf tag)) member → ⊥
      by_tagged ms listed true union place =
          let less = union_member p.types made tag ms listed member in
          let one : length (nodes_of p.types (UnionOf tag)) ≡ 1 = ap (λ (ns : List Ctype). length ns) (union_nodes_is p.types made tag ms listed) in
          not_own (omega arith)
      by_tagged ms listed false union place =
          let few = fit.each tag ms listed (no_union union) in
          let less = structure_member p.types made tag ms listed few member in
          not_part (omega arith)

    by_fact : (whole ty member d : ℕ) (type : TypeFact) → slice_get (type_facts p.types) ty ≡ Some type → slice_get type.members member ≡ Some d → (o : Option LocationFact) → slice_get system.locations whole ≡ o
        → node_from o whole ty d ≡ Some l → ⊥
    by_fact whole ty member d type known some None at h = none_some h
    by_fact whole ty member d type known some (Some fact) at h = by fact.collapsed refl h
      where
        tag : IsTagFact p.types ty type
        tag = tag_is p.types ty member d type known some

        place : IsMemberPlace p.types tag.tag member d
        place = place_is p.types tag.tag member d (members_in p.types tag.tag) refl (ap (λ (f : TypeFact). slice_get f.members member) tag.is ∙ some)

        by_type : fact.collapsed ≡ false → (b : Bool) → (fact.ty == ty) ≡ b → (let m : Option ℕ = cond b (Some (whole + d)) None in m) ≡ Some l → ⊥
        by_type apart true same g =
            let number : fact.ty ≡ ty = elim (eqb_tells fact.ty ty) [ inl equal ↦ equal.1 | inr other ↦ absurd (false≢true (sym other.0 ∙ same)) ] in
            by_tagged whole member d fact at apart tag.tag (number ∙ tag.number) (sym (some_one g)) place.members place.listed (list_any (is_union tag.tag) p.types.terms) refl place.place
        by_type apart false same g = none_some g

        by : (c : Bool) → fact.collapsed ≡ c → (let m : Option ℕ = cond c (Some whole) (cond (fact.ty == ty) (Some (whole + d)) None) in m) ≡ Some l → ⊥
        by true collapsed g =
            let w = located whole fact at in
            let it : w.x ≡ own = some_one (sym w.at ∙ (ap (slice_get space) (some_one g) ∙ own_at)) in
            false≢true (sym (spaced.functions l k own own_at own_key).1 ∙ (ap (λ (y : Location). y.collapsed) (sym it) ∙ (sym w.collapsed ∙ collapsed)))
        by false apart g = by_type apart (fact.ty == ty) refl g

    -- no member is the function's location
    pub no_field : (whole ty member : ℕ) → field_of system whole ty member ≡ Some l → ⊥
    no_field whole ty member h = by_types (slice_get system.types ty) refl h
      where
        by_place : (type : TypeFact) → slice_get system.types ty ≡ Some type → (o : Option ℕ) → slice_get type.members member ≡ o → option_and_then (λ distance. node_from (slice_get system.locations whole) whole ty distance) o ≡ Some l → ⊥
        by_place type known None is g = none_some g
        by_place type known (Some d) found g = by_fact whole ty member d type (ap (λ (ts : List TypeFact). slice_get ts ty) (sym is_types) ∙ known) found (slice_get system.locations whole) refl g
          where
            is_types : system.types ≡ type_facts p.types
            is_types = is.types

        by_types : (o : Option TypeFact) → slice_get system.types ty ≡ o
            → option_and_then (λ distance. node_from (slice_get system.locations whole) whole ty distance) (option_and_then (λ (f : TypeFact). slice_get f.members member) o) ≡ Some l → ⊥
        by_types None known g = none_some g
        by_types (Some type) known g = by_place type known (slice_get type.members member) refl g
