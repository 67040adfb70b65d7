-- What the library's functions over whole elements leave of memory.
use Rattle.std.proofs.Common.{◌≡◌, ◌∙◌, inl, inr, ℕ, zero, suc, ◌+◌, ◌==◌, ◌||◌, ◌%◌, min, max, pos, Bool, true, false, cond, List, [], ◌∷◌, ◌++◌, Option, Some, None, Result, Ok, Err, IfOk, IsSome, slice_get, if◌then◌else◌, refl, sym, ap, subst}
use Rattle.std.proofs.lemmas.Bool.{false≢true}
use Rattle.c_types.specs.declared.term.PathStep.{PathStep}
use Rattle.c_types.specs.declared.term.PathStep.TheVariants.{Index}
use Rattle.c_types.specs.declared.term.TypeId.{TypeId}
use Rattle.c_types.specs.Trees.{Ctype, VoidType, PointerTo}
use Rattle.c_types.specs.Table.{Table, type_of}
use Rattle.obj_space.specs.Spots.{Reached, reached, part_at}
use Rattle.ref_cells.specs.declared.cells.Reason.{Reason}
use Rattle.ref_cells.specs.declared.cells.Reason.TheVariants.{DeadUse, Mismatch}
use Rattle.ref_cells.specs.declared.cells.Cell.{Cell}
use Rattle.ref_cells.specs.declared.cells.Cell.TheVariants.{Unset, Number, Null, Pointer, Function}
use Rattle.ref_cells.specs.declared.instance.Instance.{Instance}
use Rattle.ref_cells.specs.Cells.{CellList}
use Rattle.ref_cells.specs.Wholes.{typed_whole, whole_of}
use Rattle.ref_mem.specs.Reads.{one_cell}
use Rattle.ref_mem.specs.Writes.{write, changed, with_parts, typed_as}
use Rattle.ref_elements.specs.declared.runs.Run.{Run}
use Rattle.ref_elements.specs.declared.runs.Found.{Found}
use Rattle.ref_elements.specs.Arguments.{count_of}
use Rattle.ref_elements.specs.Objects.{is_odd}
use Rattle.ref_elements.specs.Types.{same_type}
use Rattle.ref_elements.specs.Outcomes.{Effect, gives, no_value, null_value, number_value}
use Rattle.ref_elements.specs.Parts.{Parts, with_all, puts}
use Rattle.ref_elements.specs.Runs.{◌>>=◌, whole_id, found_at, live_at, size_in, parts_of, within, element_path, element_at, content_at}
use Rattle.ref_copies.specs.Copies.{push_part, copied, target_run, target_for, alike, copy_to, copy_from, copy_row, is_all_bytes, set_cells, set_parts, set_run, aimed_as, set_target, zeroed, set_there, set_at, set_row}
use Rattle.ref_copies.specs.Turns.{moved, search_row, store_end, is_null, strtol_row, checked_array, array_at, compares, first_of, second_of, taken, swapped, swaps, sort_turn, sort_row, find_turn, find_row}
use Rattle.ref_lib.proofs.memory_laws.Steps.{after_any, either}
use Rattle.covering_laws.specs.covered_memory.Spots.{whole_part, room, IsInTree}
use Rattle.covering_laws.proofs.covered_memory.Filled.{nowhere}
use Rattle.covering_laws.proofs.covered_library.Copies.{IsTarget, target_inv}
use Rattle.covering_laws.proofs.covered_library.Copying.{went}
use Rattle.covering_laws.proofs.covered_library.Runs.{IsRun, found_inv}
use Rattle.covering_laws.proofs.covered_library.Setting.{aimed_inv}
use Rattle.covered_runs.specs.touched_runs.called_frames.Layers.{AreBeside}
use Rattle.covered_runs.proofs.touched_runs.called_frames.Backs.{run_beside}
use Rattle.covered_runs.proofs.touched_runs.Pointed.{beside_part}
use Rattle.changed_cells.proofs.Puts.{AreWritten}
use Rattle.changed_cells.proofs.Kept.{AreAllWritten, Stays, Keeps, keeps_all, changed_keeps, parts_stay, with_all_keeps, write_keeps}
use Rattle.changed_cells.proofs.Values.{with_it}

some_one : {X : Type 0} → {x y : X} → ◌≡◌ {A = Option X} (Some x) (Some y) → x ≡ y
some_one h = cc

some_none : {X : Type 0} → {x : X} → ◌≡◌ {A = Option X} (Some x) None → ⊥
some_none h = cc

ok_one : {X : Type 0} → {x y : X} → ◌≡◌ {A = Result X Reason} (Ok x) (Ok y) → x ≡ y
ok_one h = cc

err_ok : {X : Type 0} → {r : Reason} → {x : X} → ◌≡◌ {A = Result X Reason} (Err r) (Ok x) → ⊥
err_ok h = cc

there : {X : Type 0} (o : Option X) → IsSome o → (x : X) × (o ≡ Some x)
there None h = absurd (false≢true h)
there (Some x) h = (x, refl)

-- parts stand under paths beside that one
abbrev pub AreBesideAll : List PathStep → Parts → Type 0
AreBesideAll path [] = Unit {0}
AreBesideAll path (part ∷ rest) = AreBeside part.0 path × AreBesideAll path rest

module _ (table : Table) (memory : List Instance) (W : ℕ → List PathStep → Type 0) where
  abbrev pub Leaves : Effect → Type 0
  Leaves given = IfOk given (λ e. Keeps table W memory e.memory)

  -- What a function may do through an argument: it is in the tree of an object, and the array that it points into is
  -- written.
  pub record IsThrough (a : Cell) : Type 0 where
    pub tree : (i : ℕ) (path : List PathStep) (past : Bool) → a ≡ Pointer i path past → (inst : Instance) → slice_get memory i ≡ Some inst → IsInTree table (whole_of table inst) (room inst) path
    pub writes : (i : ℕ) (path : List PathStep) (past : Bool) → a ≡ Pointer i path past → (beside below : List PathStep) → AreBeside beside path → W i (beside ++ below)

  all : Keeps table W memory memory
  all = keeps_all table W memory

  -- ---- elements that are put
  module _ (a : Cell) (through : IsThrough a) (i : ℕ) (path : List PathStep) (past : Bool) (is : a ≡ Pointer i path past) where
    beside_written : (whole : Ctype) (r : Reached) → part_at table (Some (reached whole 0 false)) path ≡ Some r → (parts : Parts) → AreBesideAll path parts → AreWritten table (W i) (Some (reached whole 0 false)) parts
    beside_written whole r r_is [] h = tt
    beside_written whole r r_is (part ∷ rest) h =
        ((λ below. through.writes i path past is part.0 below h.0, (r, beside_part table (Some (reached whole 0 false)) part.0 path h.0 ∙ r_is)), beside_written whole r r_is rest h.1)

    parts_written : (inst : Instance) → slice_get memory i ≡ Some inst → (parts : Parts) → AreBesideAll path parts
        → ((whole : Ctype) → whole_of table inst ≡ Some whole → AreWritten table (W i) (Some (reached whole 0 false)) parts) × (inst.ty ≡ None → AreAllWritten table (W i))
    parts_written inst at parts beside = (typed, untyped)
      where
        tree : IsInTree table (whole_of table inst) (room inst) path
        tree = through.tree i path past is inst at

        typed : (whole : Ctype) → whole_of table inst ≡ Some whole → AreWritten table (W i) (Some (reached whole 0 false)) parts
        typed whole whole_is =
            let r = there (part_at table (Some (reached whole 0 false)) path) (subst (λ (w : Option Ctype). IsInTree table w (room inst) path) whole_is tree) in
            beside_written whole r.0 r.1 parts beside

        untyped : inst.ty ≡ None → AreAllWritten table (W i)
        untyped none k below =
            let own : IsInTree table None (room inst) path = subst (λ (w : Option Ctype). IsInTree table w (room inst) path) (ap (typed_whole table inst) none) tree in
            through.writes i path past is (Index k ∷ []) below (inr ([], k, own.0, refl, own.1))

    pub all_keep : (id : TypeId) (parts : Parts) → AreBesideAll path parts → Keeps table W memory (with_all table memory i id parts)
    all_keep id parts beside = with_all_keeps table W memory i id parts (λ inst at. parts_written inst at parts beside)

    pub put_keep : (parts : Parts) → AreBesideAll path parts → Keeps table W memory (changed memory i (slice_get memory i) (with_parts table parts))
    put_keep parts beside = changed_keeps table W memory i (with_parts table parts) (λ inst at. (let h = parts_written inst at parts beside in parts_stay table (W i) inst parts h.0 h.1))

  -- ---- memcpy, memmove
  copied_beside : (source : Found) (target : Run) (path : List PathStep) → ((k : ℕ) → AreBeside (element_path target k) path) → (k n : ℕ) (parts : Parts) → copied table memory source target k n ≡ Ok parts → AreBesideAll path parts
  copied_beside source target path beside k zero parts e = subst (AreBesideAll path) (ok_one e) tt
  copied_beside source target path beside k (suc n) parts e = by (content_at table memory source k) (copied table memory source target (k + 1) n) refl e (λ rest f. copied_beside source target path beside (k + 1) n rest f)
    where
      by : (o : Option CellList) (r : Result Parts Reason) → copied table memory source target (k + 1) n ≡ r → push_part (element_path target k) o r ≡ Ok parts
          → ((rest : Parts) → copied table memory source target (k + 1) n ≡ Ok rest → AreBesideAll path rest) → AreBesideAll path parts
      by None r is f next = absurd (err_ok f)
      by (Some cells) (Err reason) is f next = absurd (err_ok f)
      by (Some cells) (Ok rest) is f next = subst (AreBesideAll path) (ok_one f) (beside k, next rest is)

  alike_same : (id : TypeId) (found target : Found) → alike table id found ≡ Ok target → found ≡ target
  alike_same id found target e = by (same_type (type_of table found.run.of.0) (type_of table id.0)) e
    where
      by : (b : Bool) → cond b (Ok found) (Err Mismatch) ≡ Ok target → found ≡ target
      by true f = ok_one f
      by false f = absurd (err_ok f)

  copy_to_leaves : (a1 : Cell) (bytes : ℕ) (source target : Found) → IsThrough a1 → target_for table memory a1 source.run.of ≡ Ok target → Leaves (copy_to table memory a1 bytes source target)
  copy_to_leaves a1 bytes source target through is =
      let t : IsTarget table memory a1 source.run.of target = target_inv table memory a1 source.run.of target is in
      let beside : (k : ℕ) → AreBeside (element_path target.run k) t.path = λ k. run_beside table (Some (whole_id table (typed_as source.run.of t.inst) t.own)) t.path t.past target.run t.run_is k in
      after_any (parts_of bytes (size_in table source.run.of)) _ _
      (λ n. after_any (within n source.run.room) _ _
      (λ n. after_any (within n target.run.room) _ _
      (λ n. with_it (copied table memory source target.run 0 n) _ _
      (λ parts parts_are. subst (λ (j : ℕ). Keeps table W memory (with_all table memory j source.run.of parts)) (sym t.number_is)
      (all_keep a1 through t.i t.path t.past t.place_is source.run.of parts (copied_beside source target.run t.path beside 0 n parts parts_are))))))

  copy_from_leaves : (a1 : Cell) (bytes : ℕ) (source : Found) → IsThrough a1 → Leaves (copy_from table memory a1 bytes source)
  copy_from_leaves a1 bytes source through =
      with_it (target_for table memory a1 source.run.of >>= alike table source.run.of) (copy_to table memory a1 bytes source) _
      (λ target is. (let q = went (target_for table memory a1 source.run.of) (alike table source.run.of) target is in
      let same : q.0 ≡ target = alike_same source.run.of q.0 target q.2 in
      copy_to_leaves a1 bytes source target through (q.1 ∙ ap (λ (x : Found). let r : Result Found Reason = Ok x in r) same)))

  pub copy_leaves : (a1 a2 a3 : Cell) → IsThrough a1 → Leaves (copy_row table memory a1 a2 a3)
  copy_leaves a1 a2 a3 through =
      either (count_of a3 == 0) (gives memory (one_cell a1)) (found_at table memory a2 >>= copy_from table memory a1 (count_of a3)) _ all
      (after_any (found_at table memory a2) _ _ (λ source. copy_from_leaves a1 (count_of a3) source through))

  -- ---- memset
  set_beside : (run : Run) (cells : CellList) (path : List PathStep) → ((k : ℕ) → AreBeside (element_path run k) path) → (k n : ℕ) → AreBesideAll path (set_parts run cells k n)
  set_beside run cells path beside k zero = tt
  set_beside run cells path beside k (suc n) = (beside k, set_beside run cells path beside (k + 1) n)

  run_all : (a : Cell) (found : Found) (s : IsRun table memory a found) (k : ℕ) → AreBeside (element_path found.run k) s.path
  run_all a found s k = run_beside table (Some (whole_id table s.inst s.id)) s.path s.past found.run s.run_is k

  elements_keep : (a : Cell) (found : Found) (s : IsRun table memory a found) (parts : Parts) → IsThrough a → AreBesideAll s.path parts → Keeps table W memory (with_all table memory found.number found.run.of parts)
  elements_keep a found s parts through beside =
      subst (λ (j : ℕ). Keeps table W memory (with_all table memory j found.run.of parts)) (sym s.number_is) (all_keep a through s.i s.path s.past s.place_is found.run.of parts beside)

  set_run_leaves : (a1 : Cell) (byte bytes : ℕ) (found : Found) → IsThrough a1 → found_at table memory a1 ≡ Ok found → Leaves (set_run table memory a1 byte bytes found)
  set_run_leaves a1 byte bytes found through is =
      let s : IsRun table memory a1 found = found_inv table memory a1 found is in
      either (byte == 0 || is_all_bytes table (type_of table found.run.of.0))
      (parts_of bytes (size_in table found.run.of) >>= λ n. within n found.run.room
      >>= λ n. puts table memory found.number found.run.of (set_parts found.run (set_cells table (type_of table found.run.of.0) byte) 0 n) a1)
      (Err Mismatch) _
      (after_any (parts_of bytes (size_in table found.run.of)) _ _
      (λ n. after_any (within n found.run.room) _ _
      (λ n. elements_keep a1 found s (set_parts found.run (set_cells table (type_of table found.run.of.0) byte) 0 n) through
      (set_beside found.run (set_cells table (type_of table found.run.of.0) byte) s.path (run_all a1 found s) 0 n))))
      tt

  -- a whole object that is set to zero has no type
  whole_untyped : (i : ℕ) (path : List PathStep) (past : Bool) (byte bytes : ℕ) → set_target table memory (Pointer i path past) byte bytes ≡ Ok None → (inst : Instance) → slice_get memory i ≡ Some inst → inst.ty ≡ None
  whole_untyped i path past byte bytes e inst at =
      let q = went (live_at (slice_get memory i)) (λ x. aimed_as table (Pointer i path past) byte bytes x x.ty) None e in
      ap (λ (x : Instance). x.ty) (sym (same (ap live_at (sym at) ∙ q.1))) ∙ none q.0 q.0.ty refl q.2
    where
      same : {x : Instance} → live_at (Some inst) ≡ Ok x → x ≡ inst
      same {x} f = by inst.live f
        where
          by : (b : Bool) → cond b (Ok inst) (Err DeadUse) ≡ Ok x → x ≡ inst
          by true g = sym (ok_one g)
          by false g = absurd (err_ok g)

      none : (x : Instance) (o : Option TypeId) → x.ty ≡ o → aimed_as table (Pointer i path past) byte bytes x o ≡ Ok None → x.ty ≡ None
      none x None is f = is
      none x (Some id) is f =
          let p = went (target_run table (Pointer i path past) x) (λ found. let r : Result (Option Found) Reason = Ok (Some found) in r) None f in
          absurd (some_none (ok_one p.2))

  set_there_leaves : (a1 : Cell) (byte bytes : ℕ) (o : Option Found) → IsThrough a1 → set_target table memory a1 byte bytes ≡ Ok o → Leaves (set_there table memory a1 byte bytes o)
  set_there_leaves a1 byte bytes (Some found) through is = set_run_leaves a1 byte bytes found through (aimed_inv table memory a1 byte bytes found is)
  set_there_leaves Null byte bytes None through is = tt
  set_there_leaves Unset byte bytes None through is = tt
  set_there_leaves (Number k) byte bytes None through is = tt
  set_there_leaves (Function key) byte bytes None through is = tt
  set_there_leaves (Pointer i path past) byte bytes None through is = by (slice_get memory i) refl
    where
      zero_stays : (inst : Instance) → slice_get memory i ≡ Some inst → Stays table (W i) inst (record inst { zero = true })
      zero_stays inst at =
          let none : inst.ty ≡ None = whole_untyped i path past byte bytes is inst at in
          let whole_none : whole_of table inst ≡ None = ap (typed_whole table inst) none in
          let h = parts_written (Pointer i path past) through i path past refl inst at [] tt in
          record {
            key = refl;
            bytes = refl;
            ty = λ id is. absurd (some_none (sym is ∙ none));
            cells = λ q part part_is plain. absurd (some_none (sym part_is ∙ (ap (λ (o : Option Ctype). part_at table (whole_part o) q) whole_none ∙ nowhere table q)));
            bare = λ own. inr (h.1 own);
          }

      by : (o : Option Instance) → slice_get memory i ≡ o → Leaves (zeroed memory (Pointer i path past) i o)
      by None at = tt
      by (Some inst) at =
          subst (λ (o : Option Instance). Keeps table W memory (changed memory i o (λ old. record old { zero = true }))) at
          (changed_keeps table W memory i (λ old. record old { zero = true }) zero_stays)

  pub set_leaves : (a1 a2 a3 : Cell) → IsThrough a1 → Leaves (set_row table memory a1 a2 a3)
  set_leaves a1 a2 a3 through =
      either (count_of a3 == 0) (gives memory (one_cell a1)) (set_at table memory a1 (count_of a2 % 256) (count_of a3)) _ all
      (with_it (set_target table memory a1 (count_of a2 % 256) (count_of a3)) (set_there table memory a1 (count_of a2 % 256) (count_of a3)) _
      (λ o is. set_there_leaves a1 (count_of a2 % 256) (count_of a3) o through is))

  -- ---- strchr and the like, strtol
  pub search_leaves : (word : ℕ) (a1 : Cell) → Leaves (search_row table memory word a1)
  search_leaves word a1 =
      either (is_odd word) (gives memory null_value) (moved table memory word a1 >>= λ cell. gives memory (one_cell cell)) _ all (after_any (moved table memory word a1) _ _ (λ cell. all))

  end_leaves : (result : Ctype) (word : ℕ) (a2 cell : Cell) → IsThrough a2 → Leaves (store_end table memory result word a2 cell)
  end_leaves result word a2 cell through =
      with_it (write table memory a2 (PointerTo VoidType) (one_cell cell)) _ _
      (λ after is. write_keeps table W memory a2 (PointerTo VoidType) (one_cell cell) after
      (λ j p of. subst (W j) (sym of.path_is) (through.writes j of.front of.past of.place_is of.front of.below (inl refl))) is)

  pub strtol_leaves : (result : Ctype) (word : ℕ) (a1 a2 : Cell) → IsThrough a2 → Leaves (strtol_row table memory result word a1 a2)
  strtol_leaves result word a1 a2 through =
      either (is_null a2) (gives memory (number_value result (pos word))) (moved table memory word a1 >>= store_end table memory result word a2) _ all
      (after_any (moved table memory word a1) _ _ (λ cell. end_leaves result word a2 cell through))

  -- ---- qsort, bsearch
  compares_leaves : (compare a b : Cell) → Leaves (compares memory compare a b)
  compares_leaves (Function key) a b = all
  compares_leaves Null a b = tt
  compares_leaves Unset a b = tt
  compares_leaves (Number n) a b = tt
  compares_leaves (Pointer i path past) a b = tt

  array_found : (count size : ℕ) (x found : Found) → checked_array table count size x ≡ Ok found → x ≡ found
  array_found count size x found e = by (size_in table x.run.of) e
    where
      fits : (b : Bool) (n : ℕ) → cond b (within count x.run.room >>= (λ n. let r : Result Found Reason = Ok x in r)) (Err Mismatch) ≡ Ok found → x ≡ found
      fits true n f = (let q = went (within count x.run.room) (λ n. let r : Result Found Reason = Ok x in r) found f in ok_one q.2)
      fits false n f = absurd (err_ok f)

      by : (o : Option ℕ) → elim o as (λ _. Result Found Reason) [
        | None ↦ Err Mismatch
        | Some n ↦ if n == size then (within count x.run.room >>= λ n. Ok x) else Err Mismatch
      ] ≡ Ok found → x ≡ found
      by None f = absurd (err_ok f)
      by (Some n) f = fits (n == size) n f

  swap_beside : (found : Found) (path : List PathStep) (i j : ℕ) (parts : Parts) → ((k : ℕ) → AreBeside (element_path found.run k) path) → swapped table memory found i j ≡ Ok parts → AreBesideAll path parts
  swap_beside found path i j parts beside e = by (i == j) e
    where
      by : (b : Bool) → cond b (taken table memory found i >>= (λ a. let r : Result Parts Reason = Ok ((element_path found.run i, a) ∷ []) in r))
          (taken table memory found (min i j) >>= (λ a. taken table memory found (max i j) >>= (λ b. let r : Result Parts Reason = Ok ((element_path found.run (min i j), b) ∷ (element_path found.run (max i j), a) ∷ []) in r))) ≡ Ok parts
          → AreBesideAll path parts
      by true f =
          let q = went (taken table memory found i) _ parts f in
          subst (AreBesideAll path) (ok_one q.2) (beside i, tt)
      by false f =
          let q = went (taken table memory found (min i j)) _ parts f in
          let r = went (taken table memory found (max i j)) _ parts q.2 in
          subst (AreBesideAll path) (ok_one r.2) (beside (min i j), (beside (max i j), tt))

  turn_leaves : (count word : ℕ) (compare a1 : Cell) (found : Found) → IsThrough a1 → found_at table memory a1 ≡ Ok found → Leaves (sort_turn table memory count word compare found)
  turn_leaves count word compare a1 found through is =
      let s : IsRun table memory a1 found = found_inv table memory a1 found is in
      either (word == 0 || count == 0) (gives memory no_value)
      (if is_odd word
      then compares memory compare (element_at found (first_of count word)) (element_at found (second_of count word))
      else (swapped table memory found (first_of count word) (second_of count word) >>= swaps table memory found)) _ all
      (either (is_odd word) (compares memory compare (element_at found (first_of count word)) (element_at found (second_of count word)))
      (swapped table memory found (first_of count word) (second_of count word) >>= swaps table memory found) _
      (compares_leaves compare (element_at found (first_of count word)) (element_at found (second_of count word)))
      (with_it (swapped table memory found (first_of count word) (second_of count word)) (swaps table memory found) _
      (λ parts parts_are. elements_keep a1 found s parts through (swap_beside found s.path (first_of count word) (second_of count word) parts (run_all a1 found s) parts_are))))

  pub sort_leaves : (word : ℕ) (a1 a2 a3 a4 : Cell) → IsThrough a1 → Leaves (sort_row table memory word a1 a2 a3 a4)
  sort_leaves word a1 a2 a3 a4 through =
      with_it (array_at table memory a1 (count_of a2) (count_of a3)) (sort_turn table memory (count_of a2) word a4) _
      (λ found is. (let q = went (found_at table memory a1) (checked_array table (count_of a2) (count_of a3)) found is in
      turn_leaves (count_of a2) word a4 a1 found through
      (q.1 ∙ ap (λ (x : Found). let r : Result Found Reason = Ok x in r) (array_found (count_of a2) (count_of a3) q.0 found q.2))))

  find_turn_leaves : (count word : ℕ) (key compare : Cell) (found : Found) → Leaves (find_turn memory count word key compare found)
  find_turn_leaves count word key compare found =
      either (word == 0 || count == 0) (gives memory null_value)
      (if is_odd word then compares memory compare key (element_at found (first_of count word)) else gives memory (one_cell (element_at found (first_of count word)))) _ all
      (either (is_odd word) (compares memory compare key (element_at found (first_of count word))) (gives memory (one_cell (element_at found (first_of count word)))) _
      (compares_leaves compare key (element_at found (first_of count word))) all)

  pub find_leaves : (word : ℕ) (a1 a2 a3 a4 a5 : Cell) → Leaves (find_row table memory word a1 a2 a3 a4 a5)
  find_leaves word a1 a2 a3 a4 a5 = after_any (array_at table memory a2 (count_of a3) (count_of a4)) _ _ (λ found. find_turn_leaves (count_of a3) word a1 a5 found)
