-- An object gets its initialiser.
use Rattle.std.proofs.Common.{arith, ◌≡◌, ℕ, zero, suc, ◌+◌, ◌<◌, ◌≤◌, Bool, true, false, List, [], ◌∷◌, ◌++◌, Option, Some, None, Ok, All, length, drop, set, slice_get, refl, ap, sym, ◌∙◌, if◌then◌else◌}
use Rattle.std.proofs.lemmas.List.{append-nil, drop_all}
use Rattle.std.proofs.lemmas.List.Elements.{All-nil, All-cons, All-head, All-tail}
use Rattle.std.proofs.lemmas.Option.{slice_get_within}
use Rattle.c_types.specs.declared.key.ObjectKey.{ObjectKey}
use Rattle.c_types.specs.declared.term.PathStep.{PathStep}
use Rattle.core_tree.specs.declared.node.Node.{Node}
use Rattle.core_tree.specs.Typed.{CoreTrees}
use Rattle.core_tree.specs.Range.{InRange}
use Rattle.obj_space.specs.Found.{same_object}
use Rattle.ref_cells.specs.declared.cells.Cell.{Cell}
use Rattle.ref_cells.specs.declared.cells.Value.{Value}
use Rattle.ref_cells.specs.declared.instance.Instance.{Instance}
use Rattle.ref_mem.specs.declared.writes.Initial.{Initial}
use Rattle.ref_mem.specs.Writes.{changed, initialised}
use Rattle.ref_elements.specs.Outcomes.{pointers_in}
use Rattle.ref_state.specs.declared.frames.Frame.{Frame}
use Rattle.ref_state.specs.declared.items.Item.{Item}
use Rattle.ref_places.specs.Places.{has_key, own_instance, first_instance, either_instance, instance_of}
use Rattle.ref_statements.specs.Rows.{Row}
use Rattle.ref_statements.specs.Initialisers.{id_in, part_of, parts, clears, cells_in, initialised_at}

-- the instance of an object is one of the memory's

one_of_two : (i j n : ℕ) (rest : Option ℕ) (b : Bool) → j < n → (rest ≡ Some i → i < n) → (if b then Some j else rest) ≡ Some i → i < n
one_of_two i j n rest true less later e = let same : j ≡ i = cc in omega (arith, less, same)
one_of_two i j n rest false less later e = later e

own_next : (memory : List Instance) (key : ObjectKey) (j i : ℕ) (rest : Option ℕ) → (rest ≡ Some i → i < length memory) → (o : Option Instance) → slice_get memory j ≡ o
    → (if has_key o key then Some j else rest) ≡ Some i → i < length memory
own_next memory key j i rest later None e k = later k
own_next memory key j i rest later (Some x) e k = one_of_two i j (length memory) rest (same_object x.key key) (slice_get_within memory j x e) later k

own_within : (memory : List Instance) (key : ObjectKey) (own : List ℕ) (i : ℕ) → own_instance memory key own ≡ Some i → i < length memory
own_within memory key [] i h = cc
own_within memory key (j ∷ rest) i h =
    own_next memory key j i (own_instance memory key rest) (λ e. own_within memory key rest i e) (slice_get memory j) refl h

first_within : (key : ObjectKey) (n : ℕ) (memory : List Instance) (i : ℕ) → first_instance key n memory ≡ Some i → i < n + length memory
first_within key n [] i h = cc
first_within key n (x ∷ rest) i h =
    one_of_two i n (n + length (x ∷ rest)) (first_instance key (n + 1) rest) (same_object x.key key) (omega arith)
    (λ e. omega (arith, first_within key (n + 1) rest i e)) h

pub instance_within : (memory : List Instance) (own : List ℕ) (key : ObjectKey) (i : ℕ) → instance_of memory own key ≡ Some i → i < length memory
instance_within memory own key i h = at (own_instance memory key own) refl h
  where
    at : (o : Option ℕ) → own_instance memory key own ≡ o → either_instance o (first_instance key 0 memory) ≡ Some i → i < length memory
    at None e k = omega (arith, first_within key 0 memory i k)
    at (Some j) e k = own_within memory key own i (e ∙ k)

-- the parts are of types of the table

past : (nodes : List Node) (i : ℕ) → i < length nodes → slice_get nodes i ≡ None → ⊥
past [] i l q = omega arith
past (x ∷ nodes) zero l q = cc
past (x ∷ nodes) (suc i) l q = past nodes i (omega arith) q

part_known : (u : CoreTrees) → InRange u → (path : List PathStep) (v : ℕ) (values : List (ℕ × Value)) → v < length u.nodes → (part_of u path v values).ty.0 < length u.types.terms
part_known u range path v values less = at (slice_get u.nodes v) refl
  where
    at : (o : Option Node) → slice_get u.nodes v ≡ o → (id_in o).0 < length u.types.terms
    at None e = absurd (past u.nodes v less e)
    at (Some node) e = range.types v node e

pub parts_known : (u : CoreTrees) → InRange u → (paths : List (List PathStep)) (children : List ℕ) (values : List (ℕ × Value)) → All (λ c. c < length u.nodes) children
    → All (λ (part : Initial). part.ty.0 < length u.types.terms) (parts u paths children values)
parts_known u range [] children values h = All-nil (λ (part : Initial). part.ty.0 < length u.types.terms)
parts_known u range (path ∷ paths) [] values h = All-nil (λ (part : Initial). part.ty.0 < length u.types.terms)
parts_known u range (path ∷ paths) (v ∷ children) values h =
    All-cons (λ (part : Initial). part.ty.0 < length u.types.terms) (part_of u path v values) (parts u paths children values)
    (part_known u range path v values (All-head (λ c. c < length u.nodes) v children h))
    (parts_known u range paths children values (All-tail (λ c. c < length u.nodes) v children h))

no_values : (u : CoreTrees) (paths : List (List PathStep)) (values : List (ℕ × Value)) → parts u paths [] values ≡ []
no_values u [] values = refl
no_values u (path ∷ paths) values = refl

pub parts_past : (u : CoreTrees) (paths : List (List PathStep)) (children : List ℕ) (values : List (ℕ × Value)) (k : ℕ) (list all : List Initial) → length children ≤ k
    → list ++ parts u (drop k paths) (drop k children) values ≡ all → list ≡ all
parts_past u paths children values k list all past h =
    sym (append-nil list)
    ∙ (sym (ap (λ (cs : List ℕ). list ++ parts u (drop k paths) cs values) (drop_all k children past)
    ∙ ap (λ (xs : List Initial). list ++ xs) (no_values u (drop k paths) values)) ∙ h)

got_set : (memory : List Instance) (i : ℕ) (a : Instance) → i < length memory → slice_get (set memory i a) i ≡ Some a
got_set [] i a less = absurd (omega arith)
got_set (x ∷ memory) zero a less = refl
got_set (x ∷ memory) (suc i) a less = got_set memory i a (omega arith)

abbrev shown : Frame → List Instance → List Item → List (Cell × Cell) → Row
shown f m xs ps = Ok (record { memory = m; frame = record f { items = xs }; stores = ps })

abbrev row : Frame → ℕ → List Item → List Instance → Row
row f i xs m = shown f m xs (pointers_in i (cells_in (slice_get m i)))

pub initialised_row : (u : CoreTrees) (memory new : List Instance) (f : Frame) (o : Option ℕ) (i : ℕ) (inst after : Instance) (paths : List (List PathStep)) (list : List Initial)
    (items : List Item) (stores : List (Cell × Cell)) → o ≡ Some i → slice_get memory i ≡ Some inst → after ≡ initialised u.types (clears paths) list inst
    → new ≡ set memory i after → items ≡ drop 1 f.items → stores ≡ pointers_in i after.cells
    → initialised_at u memory f o paths list ≡ Ok (record { memory = new; frame = record f { items = items }; stores = stores })
initialised_row u memory new f o i inst after paths list items stores found at_i is whole rest pointers =
    let less : i < length memory = slice_get_within memory i inst at_i in
    let left : changed memory i (slice_get memory i) (initialised u.types (clears paths) list) ≡ set memory i after =
    ap (λ (x : Option Instance). changed memory i x (initialised u.types (clears paths) list)) at_i ∙ ap (set memory i) (sym is) in
    ap (λ (x : Option ℕ). initialised_at u memory f x paths list) found
    ∙ (ap (row f i (drop 1 f.items)) left
    ∙ (ap (λ (x : Option Instance). shown f (set memory i after) (drop 1 f.items) (pointers_in i (cells_in x))) (got_set memory i after less)
    ∙ (ap (λ (m : List Instance). shown f m (drop 1 f.items) (pointers_in i after.cells)) (sym whole)
    ∙ (ap (λ (xs : List Item). shown f new xs (pointers_in i after.cells)) (sym rest)
    ∙ ap (shown f new items) (sym pointers)))))
