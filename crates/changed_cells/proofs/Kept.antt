-- Memories in which each instance stays in its place, but for the cells that are written.
use Rattle.std.proofs.Common.{arith, ◌≡◌, ◌∙◌, ◌⊎◌, inl, inr, ℕ, zero, suc, ◌<◌, Bool, false, List, [], ◌∷◌, ◌++◌, length, set, Option, Some, None, Result, Ok, Err, slice_get, refl, sym, ap, subst}
use Rattle.std.specs.Option.{option_map}
use Rattle.std.proofs.lemmas.Bool.{cases_eq}
use Rattle.std.proofs.lemmas.Option.{slice_get_within}
use Rattle.c_types.specs.declared.term.PathStep.{PathStep}
use Rattle.c_types.specs.declared.term.PathStep.TheVariants.{Index}
use Rattle.c_types.specs.declared.term.TypeId.{TypeId}
use Rattle.c_types.specs.Trees.{Ctype}
use Rattle.c_types.specs.Table.{Table}
use Rattle.obj_space.specs.Spots.{Reached, reached, part_at}
use Rattle.ref_cells.specs.declared.cells.Reason.{Reason}
use Rattle.ref_cells.specs.declared.cells.Cell.{Cell}
use Rattle.ref_cells.specs.declared.cells.Value.{Value}
use Rattle.ref_cells.specs.declared.instance.Instance.{Instance}
use Rattle.ref_cells.specs.Places.{reach}
use Rattle.ref_cells.specs.Values.{cell_in}
use Rattle.ref_cells.specs.Wholes.{typed_whole, whole_of}
use Rattle.ref_mem.specs.Reads.{opened}
use Rattle.ref_mem.specs.Writes.{width_along, kept, with_value, written_in, write_found, write, changed, put_all, with_parts, type_or, typed_as}
use Rattle.ref_elements.specs.Parts.{Parts, with_all}
use Rattle.covering_laws.specs.covered_memory.Spots.{whole_part, part_in}
use Rattle.covering_laws.proofs.covered_memory.Filled.{nowhere}
use Rattle.covering_laws.proofs.covered_memory.Walks.{Reaches, reach_inv}
use Rattle.covered_runs.specs.touched_runs.Accesses.{IsOfPlace}
use Rattle.changed_cells.specs.Cells.{IsPlain, held}
use Rattle.changed_cells.proofs.Puts.{AreWritten, IsNearWritten, parts_keep}

some_one : {X : Type 0} → {x y : X} → ◌≡◌ {A = Option X} (Some x) (Some y) → x ≡ y
some_one h = cc

none_some : {X : Type 0} → {x : X} → ◌≡◌ {A = Option X} None (Some x) → ⊥
none_some h = cc

ok_one : {X : Type 0} → {x y : X} → ◌≡◌ {A = Result X Reason} (Ok x) (Ok y) → x ≡ y
ok_one h = cc

err_ok : {X : Type 0} → {r : Reason} → {x : X} → ◌≡◌ {A = Result X Reason} (Err r) (Ok x) → ⊥
err_ok h = cc

-- ---- lists
set_same : {X : Type 0} (xs : List X) (i : ℕ) (v : X) → i < length xs → slice_get (set xs i v) i ≡ Some v
set_same [] i v h = absurd (omega arith)
set_same (x ∷ xs) zero v h = refl
set_same (x ∷ xs) (suc i) v h = set_same xs i v (omega arith)

set_other : {X : Type 0} (xs : List X) (i j : ℕ) (v : X) → (i ≡ j → ⊥) → slice_get (set xs i v) j ≡ slice_get xs j
set_other [] i j v h = refl
set_other (x ∷ xs) zero zero v h = absurd (h refl)
set_other (x ∷ xs) zero (suc j) v h = refl
set_other (x ∷ xs) (suc i) zero v h = refl
set_other (x ∷ xs) (suc i) (suc j) v h = set_other xs i j v (λ q. h (ap (λ (n : ℕ). suc n) q))

get_front : {X : Type 0} (xs ys : List X) (i : ℕ) (a : X) → slice_get xs i ≡ Some a → slice_get (xs ++ ys) i ≡ Some a
get_front [] ys i a e = absurd (none_some e)
get_front (x ∷ xs) ys zero a e = e
get_front (x ∷ xs) ys (suc i) a e = get_front xs ys i a e

-- ---- instances that are the same but for whether they live
abbrev pub Same : List Instance → List Instance → Type 0
Same old new = (i : ℕ) (a : Instance) → slice_get old i ≡ Some a → (l : Bool) × (slice_get new i ≡ Some (record a { live = l }))

pub same_memory : (memory : List Instance) → Same memory memory
same_memory memory i a e = (a.live, e)

pub then_same : (a b c : List Instance) → Same a b → Same b c → Same a c
then_same a b c f g i x e = (let y = f i x e in g i (record x { live = y.0 }) y.1)

pub more_same : (memory fresh : List Instance) → Same memory (memory ++ fresh)
more_same memory fresh i a e = (a.live, get_front memory fresh i a e)

pub ended_same : (memory : List Instance) (i : ℕ) → Same memory (changed memory i (slice_get memory i) (λ inst. record inst { live = false }))
ended_same memory i = by (slice_get memory i) refl
  where
    by : (o : Option Instance) → slice_get memory i ≡ o → Same memory (changed memory i o (λ inst. record inst { live = false }))
    by None is j x e = (x.live, e)
    by (Some a) is j x e = at (cases_eq i j)
      where
        at : (i ≡ j) ⊎ (i ≡ j → ⊥) → (l : Bool) × (slice_get (set memory i (record a { live = false })) j ≡ Some (record x { live = l }))
        at (inl same) =
            let one : a ≡ x = some_one (sym is ∙ (ap (slice_get memory) same ∙ e)) in (
              false,
              ap (slice_get (set memory i (record a { live = false }))) (sym same)
                  ∙ (set_same memory i (record a { live = false }) (slice_get_within memory i a is) ∙ ap (λ (y : Instance). let r : Instance = record y { live = false } in Some r) one),
            )
        at (inr other) = (x.live, set_other memory i j (record a { live = false }) other ∙ e)

module _ (table : Table) where
  -- ---- instances but for the cells at these paths
  -- all that elements may hold is written
  abbrev pub AreAllWritten : (List PathStep → Type 0) → Type 0
  AreAllWritten W = (k : ℕ) (below : List PathStep) → W (Index k ∷ below)

  pub record Stays (W : List PathStep → Type 0) (a b : Instance) : Type 0 where
    pub key : b.key ≡ a.key
    pub bytes : b.bytes ≡ a.bytes
    pub ty : (id : TypeId) → a.ty ≡ Some id → b.ty ≡ Some id
    pub cells : (q : List PathStep) (part : Reached) → part_in table a q ≡ Some part → IsPlain part.ty → (held table b q part.ty ≡ held table a q part.ty) ⊎ IsNearWritten table W (whole_part (whole_of table a)) q
    pub bare : a.ty ≡ None → ((b.cells ≡ a.cells) × (b.zero ≡ a.zero)) ⊎ AreAllWritten W

  abbrev pub Keeps : (ℕ → List PathStep → Type 0) → List Instance → List Instance → Type 0
  Keeps W old new = (i : ℕ) (a : Instance) → slice_get old i ≡ Some a → (b : Instance) × (slice_get new i ≡ Some b) × Stays (W i) a b

  stays_so : (W : List PathStep → Type 0) (a : Instance) (l : Bool) → Stays W a (record a { live = l })
  stays_so W a l = record { key = refl; bytes = refl; ty = λ id h. h; cells = λ q part is plain. inl refl; bare = λ none. inl (refl, refl) }

  pub same_keeps : (W : ℕ → List PathStep → Type 0) (old new : List Instance) → Same old new → Keeps W old new
  same_keeps W old new h i a e = (let b = h i a e in (record a { live = b.0 }, b.1, stays_so (W i) a b.0))

  pub keeps_all : (W : ℕ → List PathStep → Type 0) (memory : List Instance) → Keeps W memory memory
  keeps_all W memory = same_keeps W memory memory (same_memory memory)

  pub keeps_then_same : (W : ℕ → List PathStep → Type 0) (old mid new : List Instance) → Keeps W old mid → Same mid new → Keeps W old new
  keeps_then_same W old mid new f g i a e =
      let b = f i a e in
      let c = g i b.0 b.1 in
      (record b.0 { live = c.0 }, c.1, record { key = b.2.key; bytes = b.2.bytes; ty = b.2.ty; cells = b.2.cells; bare = b.2.bare })

  -- one instance in place of another one
  pub set_keeps : (W : ℕ → List PathStep → Type 0) (memory : List Instance) (i : ℕ) (a b : Instance) → slice_get memory i ≡ Some a → Stays (W i) a b → Keeps W memory (set memory i b)
  set_keeps W memory i a b is stays j x e = at (cases_eq i j)
    where
      at : (i ≡ j) ⊎ (i ≡ j → ⊥) → (y : Instance) × (slice_get (set memory i b) j ≡ Some y) × Stays (W j) x y
      at (inl same) =
          let one : a ≡ x = some_one (sym is ∙ (ap (slice_get memory) same ∙ e)) in (
            b,
            ap (slice_get (set memory i b)) (sym same) ∙ set_same memory i b (slice_get_within memory i a is),
            subst (λ (k : ℕ). Stays (W k) x b) same (subst (λ (y : Instance). Stays (W i) y b) one stays),
          )
      at (inr other) = (x, set_other memory i j b other ∙ e, stays_so (W j) x x.live)

  pub changed_keeps : (W : ℕ → List PathStep → Type 0) (memory : List Instance) (i : ℕ) (change : Instance → Instance) → ((a : Instance) → slice_get memory i ≡ Some a → Stays (W i) a (change a))
      → Keeps W memory (changed memory i (slice_get memory i) change)
  changed_keeps W memory i change each = by (slice_get memory i) refl
    where
      by : (o : Option Instance) → slice_get memory i ≡ o → Keeps W memory (changed memory i o change)
      by None is = keeps_all W memory
      by (Some a) is = set_keeps W memory i a (change a) is (each a is)

  -- ---- changes of one instance
  untyped_whole : (a : Instance) → a.ty ≡ None → (t : Ctype) → whole_of table a ≡ Some t → ⊥
  untyped_whole a none t is = none_some (sym (ap (typed_whole table a) none) ∙ is)

  untyped_part : (a : Instance) → a.ty ≡ None → (q : List PathStep) (part : Reached) → part_in table a q ≡ Some part → ⊥
  untyped_part a none q part is = none_some (sym (ap (λ (o : Option TypeId). part_at table (whole_part (typed_whole table a o)) q) none ∙ nowhere table q) ∙ is)

  -- one without a type gets one
  pub typed_stays : (W : List PathStep → Type 0) (a : Instance) (id : TypeId) → a.ty ≡ None → Stays W a (record a { ty = Some id })
  typed_stays W a id none = record {
    key = refl;
    bytes = refl;
    ty = λ own is. absurd (none_some (sym none ∙ is));
    cells = λ q part is plain. absurd (untyped_part a none q part is);
    bare = λ own. inl (refl, refl);
  }

  -- all of it is written
  pub all_stays : (W : List PathStep → Type 0) (a b : Instance) → ((p : List PathStep) → W p) → b.key ≡ a.key → b.bytes ≡ a.bytes → b.ty ≡ a.ty → Stays W a b
  all_stays W a b writes key bytes ty = record {
    key = key;
    bytes = bytes;
    ty = λ id is. ty ∙ is;
    cells = λ q part is plain. inr (inl (writes q));
    bare = λ none. inr (λ k below. writes (Index k ∷ below));
  }

  -- parts are put into it
  pub parts_stay : (W : List PathStep → Type 0) (a : Instance) (parts : Parts) → ((whole : Ctype) → whole_of table a ≡ Some whole → AreWritten table W (Some (reached whole 0 false)) parts) → (a.ty ≡ None → AreAllWritten W)
      → Stays W a (with_parts table parts a)
  parts_stay W a parts written bare = record {
    key = refl;
    bytes = refl;
    ty = λ id h. h;
    cells = λ q part is plain. by q part plain (whole_of table a) refl is;
    bare = λ none. inr (bare none);
  }
    where
      by : (q : List PathStep) (part : Reached) → IsPlain part.ty → (o : Option Ctype) → whole_of table a ≡ o → part_at table (whole_part o) q ≡ Some part
          → (option_map (cell_in a.zero part.ty) (opened table o q (put_all table a.zero o parts a.cells)) ≡ option_map (cell_in a.zero part.ty) (opened table o q a.cells)) ⊎ IsNearWritten table W (whole_part o) q
      by q part plain None o_is is = absurd (none_some (sym (nowhere table q) ∙ is))
      by q part plain (Some whole) o_is is =
          elim (parts_keep table W a.zero (Some whole) (reached whole 0 false) parts q a.cells part (λ s e. sym (some_one e)) (written whole o_is) is plain) [
            | inl same ↦ inl (ap (option_map (cell_in a.zero part.ty)) same)
            | inr near ↦ inr near
          ]

  -- the same of one that gets a type where it has none
  pub typed_parts_stay : (W : List PathStep → Type 0) (a : Instance) (id : TypeId) (parts : Parts) → ((whole : Ctype) → whole_of table a ≡ Some whole → AreWritten table W (Some (reached whole 0 false)) parts)
      → (a.ty ≡ None → AreAllWritten W) → Stays W a (with_parts table parts (typed_as id a))
  typed_parts_stay W a id parts written bare = by a.ty refl
    where
      by : (o : Option TypeId) → a.ty ≡ o → Stays W a (with_parts table parts (typed_as id a))
      by None is = record {
        key = refl;
        bytes = refl;
        ty = λ own h. absurd (none_some (sym is ∙ h));
        cells = λ q part at plain. absurd (untyped_part a is q part at);
        bare = λ none. inr (bare none);
      }
      by (Some own) is =
          let same : a ≡ typed_as id a = ap (λ (t : Option TypeId). let r : Instance = record a { ty = t } in r) is ∙ sym (ap (λ (t : Option TypeId). let r : Instance = record a { ty = type_or id t } in r) is) in
          subst (λ (x : Instance). Stays W a (with_parts table parts x)) same (parts_stay W a parts written bare)

  pub with_all_keeps : (W : ℕ → List PathStep → Type 0) (memory : List Instance) (i : ℕ) (id : TypeId) (parts : Parts)
      → ((a : Instance) → slice_get memory i ≡ Some a → ((whole : Ctype) → whole_of table a ≡ Some whole → AreWritten table (W i) (Some (reached whole 0 false)) parts) × (a.ty ≡ None → AreAllWritten (W i)))
      → Keeps W memory (with_all table memory i id parts)
  with_all_keeps W memory i id parts each =
      changed_keeps W memory i (λ inst. with_parts table parts (typed_as id inst)) (λ a is. (let h = each a is in typed_parts_stay (W i) a id parts h.0 h.1))

  -- ---- a write
  pub write_keeps : (W : ℕ → List PathStep → Type 0) (memory : List Instance) (place : Cell) (t : Ctype) (v : Value) (after : List Instance) → ((i : ℕ) (p : List PathStep) → IsOfPlace table memory place t i p → W i p)
      → write table memory place t v ≡ Ok after → Keeps W memory after
  unfolding write
  write_keeps W memory place t v after writes h = by (reach table memory place t) refl h
    where
      by : (r : Result Ctype Reason) → reach table memory place t ≡ r → write_found table memory place v.cells r ≡ Ok after → Keeps W memory after
      by (Err reason) is e = absurd (err_ok e)
      by (Ok found) is e =
          let r : Reaches table memory place t found = reach_inv table memory place t found is in
          let parts : Parts = (r.path, kept found (width_along table (whole_of table r.inst) r.path) v.cells) ∷ [] in
          let one : ◌≡◌ {A = Result (List Instance) Reason} (Ok (set memory r.i (with_value table r.inst r.path found v.cells))) (Ok after) =
          sym (ap (λ (c : Cell). write_found table memory c v.cells (Ok found)) r.place_is ∙ ap (λ (o : Option Instance). written_in table memory r.i o r.path found v.cells) r.inst_is) ∙ e in
          let here : (below : List PathStep) → W r.i (r.path ++ below) =
          λ below. writes r.i (r.path ++ below) (record { found = found; reached = is; front = r.path; past = r.past; place_is = r.place_is; below = below; path_is = refl }) in
          let written : (whole : Ctype) → whole_of table r.inst ≡ Some whole → AreWritten table (W r.i) (Some (reached whole 0 false)) parts =
          λ whole whole_is. ((here, (r.part, ap (λ (w : Ctype). part_at table (Some (reached w 0 false)) r.path) (some_one (sym whole_is ∙ r.whole_is)) ∙ r.part_is)), tt) in
          subst (Keeps W memory) (ok_one one)
          (set_keeps W memory r.i r.inst (with_value table r.inst r.path found v.cells) r.inst_is (parts_stay (W r.i) r.inst parts written (λ none. absurd (untyped_whole r.inst none r.whole r.whole_is))))
