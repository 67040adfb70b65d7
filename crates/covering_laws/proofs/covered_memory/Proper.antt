-- The facts that a system has of structures and unions: where each member's node stands.
use Rattle.std.proofs.Common.{arith, ◌≡◌, ◌∙◌, inl, inr, ℕ, zero, suc, ◌+◌, ◌<◌, ◌||◌, ◌==◌, Bool, true, false, cond, List, [], ◌∷◌, ◌++◌, length, map, replicate, Option, Some, None, slice_get, refl, sym, ap, subst}
use Rattle.std.specs.Prelude.{⊤, option_and_then}
use Rattle.std.specs.List.{list_any, range_with_len}
use Rattle.std.specs.Option.{option_map}
use Rattle.std.proofs.lemmas.Bool.{false≢true}
use Rattle.std.proofs.lemmas.Bool.Decides.{eqb_tells}
use Rattle.std.proofs.lemmas.List.{get_or_past}
use Rattle.std.proofs.lemmas.Option.{slice_get-map, slice_get_within, slice_get_cases}
use Rattle.c_types.specs.declared.term.Term.{Term}
use Rattle.c_types.specs.declared.term.Term.TheVariants.{Array, Structure, Union}
use Rattle.c_types.specs.declared.term.MemberTerm.{MemberTerm}
use Rattle.c_types.specs.Trees.{Ctype, VoidType, ArrayOf, StructureOf, UnionOf, grow}
use Rattle.c_types.specs.Table.{Table, types_of, type_of, members_in}
use Rattle.c_types.specs.Made.{IsMade, AreNamed}
use Rattle.c_types.proofs.Grow.{grown_length}
use Rattle.type_rules.proofs.term_types.Grown.{types_grown}
use Rattle.sol_model.specs.declared.system.System.{System}
use Rattle.sol_model.specs.declared.system.TypeFact.{TypeFact}
use Rattle.sol_model.specs.Places.{member_position}
use Rattle.row_numbers.specs.Kept.{member_node}
use Rattle.normal_form.specs.Facts.{plain_fact, is_union, tagged, positions_by, tag_fact_by, tag_fact, type_facts}

some_one : {X : Type 0} → {x y : X} → ◌≡◌ {A = Option X} (Some x) (Some y) → x ≡ y
some_one h = cc

none_some : {X : Type 0} → {x : X} → ◌≡◌ {A = Option X} None (Some x) → ⊥
none_some h = cc

behind_plain : (n : ℕ) (xs : List TypeFact) (k : ℕ) → slice_get (replicate n plain_fact ++ xs) (n + k) ≡ slice_get xs k
behind_plain zero xs k = ap (slice_get xs) (let e : 0 + k ≡ k = omega arith in e)
behind_plain (suc n) xs k = ap (slice_get (replicate (suc n) plain_fact ++ xs)) (let e : suc n + k ≡ suc (n + k) = omega arith in e) ∙ behind_plain n xs k

range_there : (a n k : ℕ) → k < n → slice_get (range_with_len a n) k ≡ Some (a + k)
range_there a zero k lt = absurd (omega arith)
range_there a (suc n) zero lt = ap (λ (m : ℕ). Some m) (let e : a ≡ a + 0 = omega arith in e)
range_there a (suc n) (suc k) lt = range_there (a + 1) n k (omega arith) ∙ ap (λ (m : ℕ). Some m) (let e : (a + 1) + k ≡ a + suc k = omega arith in e)

tag_there : (table : Table) (tag : ℕ) → tag < table.tags → slice_get (type_facts table) (8 + tag) ≡ Some (tag_fact table tag)
tag_there table tag lt =
    behind_plain 8 (map (tag_fact table) (range_with_len 0 table.tags)) tag
    ∙ (slice_get-map (tag_fact table) (range_with_len 0 table.tags) tag
    ∙ ap (option_map (tag_fact table)) (range_there 0 table.tags tag lt ∙ ap (λ (m : ℕ). Some m) (let e : 0 + tag ≡ tag = omega arith in e)))

or_right : (a b : Bool) → b ≡ true → (a || b) ≡ true
or_right true b h = refl
or_right false b h = h

or_left : (a b : Bool) → a ≡ true → (a || b) ≡ true
or_left true b h = refl
or_left false b h = absurd (false≢true h)

same_number : (k : ℕ) → (k == k) ≡ true
same_number k = elim (eqb_tells k k) [ inl same ↦ same.0 | inr other ↦ absurd (other.1 refl) ]

any_union : (tag : ℕ) (terms : List Term) (i : ℕ) → slice_get terms i ≡ Some (Union tag) → list_any (is_union tag) terms ≡ true
any_union tag [] i at = absurd (none_some at)
any_union tag (t ∷ rest) zero at = or_left (is_union tag t) (list_any (is_union tag) rest) (ap (is_union tag) (some_one at) ∙ same_number tag)
any_union tag (t ∷ rest) (suc i) at = or_right (is_union tag t) (list_any (is_union tag) rest) (any_union tag rest i at)

union_is : (tag : ℕ) (t : Term) → is_union tag t ≡ true → t ≡ Union tag
union_is tag (Union other) h = elim (eqb_tells other tag) [ inl same ↦ ap (λ k. Union k) same.1 | inr other_one ↦ absurd (false≢true (sym other_one.0 ∙ h)) ]
union_is tag t h = absurd (false≢true h)

union_at : (tag : ℕ) (terms : List Term) → list_any (is_union tag) terms ≡ true → (i : ℕ) × (slice_get terms i ≡ Some (Union tag))
union_at tag [] h = absurd (false≢true h)
union_at tag (t ∷ rest) h = by (union_at tag rest) (is_union tag t) refl h
  where
    by : (list_any (is_union tag) rest ≡ true → (i : ℕ) × (slice_get rest i ≡ Some (Union tag))) → (b : Bool) → is_union tag t ≡ b → (b || list_any (is_union tag) rest) ≡ true
        → (i : ℕ) × (slice_get (t ∷ rest) i ≡ Some (Union tag))
    by later true is e = (0, ap (λ (s : Term). Some s) (union_is tag t is))
    by later false is e = let r = later e in (suc r.0, r.1)

tagged_union : (table : Table) (tag i : ℕ) → slice_get table.terms i ≡ Some (Union tag) → tagged table tag ≡ UnionOf tag
tagged_union table tag i at = ap (λ (b : Bool). cond b (UnionOf tag) (StructureOf tag)) (any_union tag table.terms i at)

tagged_structure : (table : Table) (tag : ℕ) → ((i : ℕ) → slice_get table.terms i ≡ Some (Union tag) → ⊥) → tagged table tag ≡ StructureOf tag
tagged_structure table tag none = by (list_any (is_union tag) table.terms) refl
  where
    by : (b : Bool) → list_any (is_union tag) table.terms ≡ b → tagged table tag ≡ StructureOf tag
    by true is = absurd (let r = union_at tag table.terms is in none r.0 r.1)
    by false is = ap (λ (b : Bool). cond b (UnionOf tag) (StructureOf tag)) is

pub position_there : {X : Type 0} (f : ℕ → X) (n k : ℕ) → k < n → slice_get (map f (range_with_len 0 n)) k ≡ Some (f k)
position_there f n k lt = slice_get-map f (range_with_len 0 n) k ∙ ap (option_map f) (range_there 0 n k lt ∙ ap (λ (m : ℕ). Some m) (let e : 0 + k ≡ k = omega arith in e))

module _ (table : Table) (made : IsMade table) (named : AreNamed table) where
  -- a type whose tag stands in the table with its keyword
  abbrev pub IsProper : Ctype → Type 0
  IsProper (StructureOf tag) = (tag < table.tags) × ((i : ℕ) → slice_get table.terms i ≡ Some (Union tag) → ⊥)
  IsProper (UnionOf tag) = (tag < table.tags) × ((i : ℕ) × (slice_get table.terms i ≡ Some (Union tag)))
  IsProper (ArrayOf of n) = IsProper of
  IsProper t = ⊤

  by_term : (id : ℕ) (t : Term) → slice_get table.terms id ≡ Some t → ((of : ℕ) → of < id → IsProper (type_of table of)) → IsProper (grow (types_of table) t)
  by_term id (Array of n) at f = f of.0 (named id (Array of n) at).0
  by_term id (Structure tag) at f = ((named id (Structure tag) at).1, λ j there. made.apart.each id j tag at there)
  by_term id (Union tag) at f = ((named id (Union tag) at).1, (id, at))
  by_term id t at f = tt

  proper_below : (bound id : ℕ) → id < bound → IsProper (type_of table id)
  proper_below zero id lt = absurd (omega arith)
  proper_below (suc bound) id lt = elim (slice_get_cases table.terms id).1 [
    | inl p ↦ subst IsProper (sym (types_grown table id p.0 named p.2)) (by_term id p.0 p.2 (λ of less. proper_below bound of (omega arith)))
    | inr past ↦
        let long = grown_length [] table.terms in
        let far = past.0 in
        let void : type_of table id ≡ VoidType = get_or_past (types_of table) id VoidType (omega arith) in
        subst IsProper (sym void) tt
  ]

  -- each type of a table is one
  pub proper : (id : ℕ) → IsProper (type_of table id)
  proper id = proper_below (suc id) id (omega arith)

module _ (table : Table) (made : IsMade table) (named : AreNamed table) (system : System) (types : system.types ≡ type_facts table) where
  -- the position of a member that a tag has
  position_at : (t : Ctype) (tag k : ℕ) (ms : List MemberTerm) (m : MemberTerm) → tagged table tag ≡ t → tag < table.tags → members_in table tag ≡ Some ms → slice_get ms k ≡ Some m
      → member_position system (8 + tag) k ≡ Some (member_node table t k)
  position_at t tag k ms m kind lt is at =
      ap (λ (fs : List TypeFact). option_and_then (λ (fact : TypeFact). slice_get fact.members k) (slice_get fs (8 + tag))) types
      ∙ (ap (option_and_then (λ (fact : TypeFact). slice_get fact.members k)) (tag_there table tag lt)
      ∙ (ap (λ (o : Option (List MemberTerm)). slice_get (tag_fact_by table (tagged table tag) o).members k) is
      ∙ (ap (λ (s : Ctype). slice_get (positions_by table s (length ms)) k) kind ∙ position_there (member_node table t) (length ms) k (slice_get_within ms k m at))))

  -- what a system knows of a member of a structure of the table
  pub structure_position : (id tag k : ℕ) (ms : List MemberTerm) (m : MemberTerm) → type_of table id ≡ StructureOf tag → members_in table tag ≡ Some ms → slice_get ms k ≡ Some m
      → member_position system (8 + tag) k ≡ Some (member_node table (StructureOf tag) k)
  structure_position id tag k ms m t is at =
      let p = subst (IsProper table made named) t (proper table made named id) in
      position_at (StructureOf tag) tag k ms m (tagged_structure table tag p.1) p.0 is at

  pub union_position : (id tag k : ℕ) (ms : List MemberTerm) (m : MemberTerm) → type_of table id ≡ UnionOf tag → members_in table tag ≡ Some ms → slice_get ms k ≡ Some m
      → member_position system (8 + tag) k ≡ Some (member_node table (UnionOf tag) k)
  union_position id tag k ms m t is at =
      let p = subst (IsProper table made named) t (proper table made named id) in
      position_at (UnionOf tag) tag k ms m (tagged_union table tag p.1.0 p.1.1) p.0 is at
