-- Which call a node is, which function an object is, and that what is called is among the call's targets.
use Rattle.std.proofs.Common.{arith, ◌≡◌, ◌∙◌, inl, inr, ℕ, zero, suc, ◌+◌, ◌<◌, ◌≤◌, true, false, Bool, cond, List, [], ◌∷◌, length, map, take, Option, Some, None, slice_get, unwrap_or, find, filter_map, Contains, refl, sym, ap, subst, eqb, eq-eqb}
use Rattle.std.specs.List.{range_with_len, enumerate_from, cons_option, AllZip}
use Rattle.std.specs.Option.{option_map_or}
use Rattle.std.proofs.lemmas.Bool.{false≢true, cases_lt}
use Rattle.std.proofs.lemmas.Bool.Decides.{eqb_tells}
use Rattle.std.proofs.lemmas.List.Elements.{Contains-append_left}
use Rattle.std.proofs.lemmas.Option.{slice_get_within}
use Rattle.c_types.specs.declared.key.ObjectKey.{ObjectKey}
use Rattle.c_types.specs.declared.key.ObjectKey.TheVariants.{Entity as EntityKey, Function as FunctionKey}
use Rattle.c_types.specs.Trees.{Ctype, PointerTo, trees_at}
use Rattle.c_types.specs.Table.{Table, types_of, IsFirstOf}
use Rattle.core_tree.specs.declared.node.Entity.{Entity}
use Rattle.core_tree.specs.declared.node.Node.{Node}
use Rattle.core_tree.specs.declared.node.NodeKind.{NodeKind}
use Rattle.core_tree.specs.declared.node.NodeKind.TheVariants.{CallNode}
use Rattle.core_tree.specs.declared.node.Program.{Program}
use Rattle.core_tree.specs.declared.node.Storage.{Storage}
use Rattle.core_tree.specs.declared.node.Storage.TheVariants.{FunctionBody}
use Rattle.core_tree.specs.Typed.{CoreTrees, trees_in, type_at}
use Rattle.sol_model.specs.declared.system.System.{System}
use Rattle.sol_model.specs.declared.system.CallSite.{CallSite}
use Rattle.sol_model.specs.declared.system.Function.{Function}
use Rattle.sol_model.specs.Families.{Family, Has}
use Rattle.sol_model.specs.Rules.{IsTarget}
use Rattle.sol_model.specs.Solutions.{IsClosed}
use Rattle.obj_space.specs.declared.location.Location.{Location}
use Rattle.obj_space.specs.View.{SpaceView, first_from, view_of}
use Rattle.row_numbers.specs.declared.functions.Role.TheVariants.{Defined}
use Rattle.row_numbers.specs.Functions.{has_body, key_if, keys_in, begins_at, object_at, objects_at, function_keys, functions_below, functions_of, number_at, number_of, key_type}
use Rattle.row_numbers.specs.Setting.{Setting}
use Rattle.ref_cells.specs.declared.cells.Cell.TheVariants.{Function as FunctionCell}
use Rattle.ref_cells.specs.declared.instance.Instance.{Instance}
use Rattle.ref_mem.specs.Reads.{one_cell}
use Rattle.call_sites.specs.Signatures.{comparison, at_end, IsSignature, compares, ends, known, unknown, called_type, calling_type}
use Rattle.call_sites.specs.Calls.{is_call, call_if, calls_upto, head_of, rest_of, ids_of, IsCallSite, IsSiteAt, AreCalls}
use Rattle.normal_form.specs.Facts.{IsFunctionFact}
use Rattle.normal_form.specs.SystemOf.{SystemOf}
use Rattle.covering_laws.specs.covered_memory.Covered.{Sets}
use Rattle.covering_laws.specs.covered_memory.Demands.{Grounds}
use Rattle.covering_laws.proofs.covered_memory.Firsts.{is_first}
use Rattle.covering_laws.proofs.covered_memory.Proper.{position_there}
use Rattle.covering_laws.specs.covered_rows.Nodes.{HeldIn}
use Rattle.covering_laws.proofs.covered_rows.Places.{start_spot, held_cell}
use Rattle.covering_laws.proofs.covered_rows.Values.{sets, w'}

some_one : {X : Type 0} → {x y : X} → ◌≡◌ {A = Option X} (Some x) (Some y) → x ≡ y
some_one h = cc

none_some : {X : Type 0} → {x : X} → ◌≡◌ {A = Option X} None (Some x) → ⊥
none_some h = cc

-- where an item of a list stands among those that a test keeps
pub filtered_at : {X Y : Type 0} (h : X → Option Y) (xs : List X) (k : ℕ) (x : X) (y : Y) → slice_get xs k ≡ Some x → h x ≡ Some y → slice_get (filter_map h xs) (length (filter_map h (take k xs))) ≡ Some y
filtered_at h [] k x y e g = absurd (none_some e)
filtered_at h (z ∷ xs) zero x y e g = ap (λ (o : Option _). slice_get (cons_option o (filter_map h xs)) 0) (ap h (some_one e) ∙ g)
filtered_at h (z ∷ xs) (suc k) x y e g = by (h z) (filtered_at h xs k x y e g)
  where
    by : (o : Option _) → slice_get (filter_map h xs) (length (filter_map h (take k xs))) ≡ Some y → slice_get (cons_option o (filter_map h xs)) (length (cons_option o (filter_map h (take k xs)))) ≡ Some y
    by None i = i
    by (Some v) i = i

take_range : (a n k : ℕ) → k ≤ n → take k (range_with_len a n) ≡ range_with_len a k
take_range a n zero le = refl
take_range a zero (suc k) le = absurd (omega arith)
take_range a (suc n) (suc k) le = ap (λ (xs : List ℕ). a ∷ xs) (take_range (a + 1) n k (omega arith))

take_map : {X Y : Type 0} (f : X → Y) (xs : List X) (k : ℕ) → take k (map f xs) ≡ map f (take k xs)
take_map f xs zero = refl
take_map f [] (suc k) = refl
take_map f (x ∷ xs) (suc k) = ap (λ (ys : List _). f x ∷ ys) (take_map f xs k)

pub range_at : (a n k : ℕ) → k < n → slice_get (range_with_len a n) k ≡ Some (a + k)
range_at a zero k lt = absurd (omega arith)
range_at a (suc n) zero lt = ap (λ (m : ℕ). Some m) (let e : a ≡ a + 0 = omega arith in e)
range_at a (suc n) (suc k) lt = range_at (a + 1) n k (omega arith) ∙ ap (λ (m : ℕ). Some m) (let e : (a + 1) + k ≡ a + suc k = omega arith in e)

zip_left : {A B : Type 0} (R : A → B → Type 0) (xs : List A) (ys : List B) (i : ℕ) (x : A) → AllZip R xs ys → slice_get xs i ≡ Some x → (y : B) × (slice_get ys i ≡ Some y) × R x y
zip_left R [] ys i x h at = absurd (none_some at)
zip_left R (z ∷ xs) [] i x h at = absurd h
zip_left {B = B} R (z ∷ xs) (y ∷ ys) zero x h at = (y, refl, subst (λ (v : _). R v y) (some_one at) h.0)
zip_left R (z ∷ xs) (y ∷ ys) (suc i) x h at = zip_left R xs ys i x h.1 at

numbered : {A : Type 0} (n : ℕ) (xs : List A) (i : ℕ) (x : A) → slice_get xs i ≡ Some x → slice_get (enumerate_from n xs) i ≡ Some (n + i, x)
numbered n [] i x e = absurd (none_some e)
numbered {A = A} n (z ∷ xs) zero x e =
    ap (λ (v : A). let r : Option (ℕ × A) = Some (n, v) in r) (some_one e) ∙ ap (λ (m : ℕ). let r : Option (ℕ × A) = Some (m, x) in r) (let s : n ≡ n + 0 = omega arith in s)
numbered {A = A} n (z ∷ xs) (suc i) x e =
    numbered (n + 1) xs i x e ∙ ap (λ (m : ℕ). let r : Option (ℕ × A) = Some (m, x) in r) (let s : (n + 1) + i ≡ n + suc i = omega arith in s)

-- a test that passes at an element of a list finds one
found_one : {X : Type 0} (test : X → Bool) (xs : List X) (x : X) → Contains xs x → test x ≡ true → (y : X) × (find test xs ≡ Some y) × (test y ≡ true)
found_one test [] x c h = absurd (let lt = c.1 in omega arith)
found_one {X = X} test (z ∷ xs) x c h = by (test z) refl c (λ k. found_one test xs x k h)
  where
    by : (b : Bool) → test z ≡ b → Contains (z ∷ xs) x → (Contains xs x → (y : X) × (find test xs ≡ Some y) × (test y ≡ true)) → (y : X) × (cond b (Some z) (find test xs) ≡ Some y) × (test y ≡ true)
    by true is k next = (z, refl, is)
    by false is (zero, lt, same) next = absurd (false≢true (sym is ∙ (ap test same ∙ h)))
    by false is (suc k, lt, same) next = next (k, omega arith, same)

-- a type has one signature
numbers_apart : comparison ≡ at_end → ⊥
numbers_apart e = cc

first_one : (table : Table) (t : Ctype) (a b : ℕ) → IsFirstOf table t a → IsFirstOf table t b → a ≡ b
first_one table t a b x y = elim (cases_lt a b) [
  | inl less ↦ absurd (y.least a less x.same)
  | inr le ↦ elim (cases_lt b a) [ inl less ↦ absurd (x.least b less y.same) | inr ge ↦ omega arith ]
]

pub signature_one : (table : Table) (t : Ctype) (a b : ℕ) → IsSignature table t a → IsSignature table t b → a ≡ b
signature_one table t a b (compares x i) (compares y j) = i ∙ sym j
signature_one table t a b (compares x i) (ends y j) = absurd (numbers_apart (sym x ∙ y))
signature_one table t a b (compares x i) (known o f j) = absurd (o.no_comparison x)
signature_one table t a b (compares x i) (unknown o f j) = absurd (o.no_comparison x)
signature_one table t a b (ends x i) (compares y j) = absurd (numbers_apart (sym y ∙ x))
signature_one table t a b (ends x i) (ends y j) = i ∙ sym j
signature_one table t a b (ends x i) (known o f j) = absurd (o.not_at_end x)
signature_one table t a b (ends x i) (unknown o f j) = absurd (o.not_at_end x)
signature_one table t a b (known o f i) (compares y j) = absurd (o.no_comparison y)
signature_one table t a b (known o f i) (ends y j) = absurd (o.not_at_end y)
signature_one table t a b (known {id = m} o f i) (known {id = n} q h j) = i ∙ (ap (λ (k : ℕ). 2 + k) (first_one table t m n f h) ∙ sym j)
signature_one table t a b (known {id = m} o f i) (unknown q h j) = absurd (h.none m f.known f.same)
signature_one table t a b (unknown o f i) (compares y j) = absurd (o.no_comparison y)
signature_one table t a b (unknown o f i) (ends y j) = absurd (o.not_at_end y)
signature_one table t a b (unknown o f i) (known {id = n} q h j) = absurd (f.none n h.known h.same)
signature_one table t a b (unknown o f i) (unknown q h j) = i ∙ sym j

-- a function with a body is one of the program's functions
body_listed : (i e : ℕ) (xs : List Entity) (j : ℕ) (x : Entity) → slice_get xs j ≡ Some x → i + j ≡ e → x.storage ≡ FunctionBody → Contains (filter_map (λ entry. key_if Defined entry.0 entry.1) (enumerate_from i xs)) (EntityKey e)
body_listed i e [] j x at is storage = absurd (none_some at)
body_listed i e (y ∷ rest) zero x at is storage =
    let same : y.storage ≡ FunctionBody = ap (λ (z : Entity). z.storage) (some_one at) ∙ storage in
    let number : i ≡ e = omega arith in
    let kept : key_if Defined i y ≡ Some (EntityKey e) = ap (λ (s : Storage). cond (has_body s) (Some (EntityKey i)) None) same ∙ ap (λ (k : ℕ). let o : Option ObjectKey = Some (EntityKey k) in o) number in
    subst (λ (o : Option ObjectKey). Contains (cons_option o (filter_map (λ entry. key_if Defined entry.0 entry.1) (enumerate_from (i + 1) rest))) (EntityKey e)) (sym kept) (0, omega arith, refl)
body_listed i e (y ∷ rest) (suc j) x at is storage = by (key_if Defined i y) (body_listed (i + 1) e rest j x at (omega arith) storage)
  where
    by : (o : Option ObjectKey) → Contains (filter_map (λ entry. key_if Defined entry.0 entry.1) (enumerate_from (i + 1) rest)) (EntityKey e)
        → Contains (cons_option o (filter_map (λ entry. key_if Defined entry.0 entry.1) (enumerate_from (i + 1) rest))) (EntityKey e)
    by None h = h
    by (Some key) (m, lt, own) = (suc m, omega arith, own)

pub entity_listed : (u : CoreTrees) (e : ℕ) (x : Entity) → slice_get u.entities e ≡ Some x → x.storage ≡ FunctionBody → Contains (function_keys u) (EntityKey e)
entity_listed u e x at storage =
    Contains-append_left (keys_in Defined u.entities) (map (λ (j : ℕ). FunctionKey j) (range_with_len 0 55)) (EntityKey e) (body_listed 0 e u.entities e x at (omega arith) storage)

module _ (u : CoreTrees) (space : List Location) where
  abbrev s : SpaceView
  s = view_of space

  begins_so : (l : ℕ) (key : ObjectKey) (o : Option ℕ) → first_from 0 space key ≡ o → option_map_or (λ (first : ℕ). eqb first l) o false ≡ true → first_from 0 space key ≡ Some l
  begins_so l key None is e = absurd (false≢true e)
  begins_so l key (Some first) is e = is ∙ elim (eqb_tells first l) [ inl same ↦ ap (λ (k : ℕ). Some k) same.1 | inr other ↦ absurd (false≢true (sym other.0 ∙ e)) ]

  -- one object begins at a location
  one_key : (l : ℕ) (a b : ObjectKey) → first_from 0 space a ≡ Some l → first_from 0 space b ≡ Some l → a ≡ b
  one_key l a b x y =
      let p = (is_first space a l x).here in
      let q = (is_first space b l y).here in
      sym p.2 ∙ (ap (λ (z : Location). z.key) (some_one (sym p.1 ∙ q.1)) ∙ q.2)

  found_at : (keys : List ObjectKey) (l : ℕ) (key : ObjectKey) → Contains keys key → first_from 0 space key ≡ Some l → object_at s keys l ≡ Some key
  found_at keys l key c first =
      let f = found_one (begins_at s l) keys key c (ap (λ (o : Option ℕ). option_map_or (λ (k : ℕ). eqb k l) o false) first ∙ eq-eqb l l refl) in
      f.1 ∙ ap (λ (k : ObjectKey). Some k) (one_key l f.0 key (begins_so l f.0 (first_from 0 space f.0) refl f.2) first)

  -- a function's number is that of its location
  pub function_number : (l : ℕ) (key : ObjectKey) → Contains (function_keys u) key → first_from 0 space key ≡ Some l → slice_get (functions_of u s) (number_at u s l) ≡ Some key
  unfolding functions_below
  function_number l key c first =
      let here = (is_first space key l first).here in
      let lt = slice_get_within space l here.0 here.1 in
      let objects = objects_at s (function_keys u) (length space) in
      let at : slice_get objects l ≡ Some (Some key) = position_there (object_at s (function_keys u)) (length space) l lt ∙ ap (λ (o : Option ObjectKey). let r : Option (Option ObjectKey) = Some o in r) (found_at (function_keys u) l key c first) in
      let before : take l objects ≡ objects_at s (function_keys u) l =
      take_map (object_at s (function_keys u)) (range_with_len 0 (length space)) l ∙ ap (map (object_at s (function_keys u))) (take_range 0 (length space) l (omega arith)) in
      ap (λ (xs : List (Option ObjectKey)). slice_get (filter_map (λ (found : Option ObjectKey). found) objects) (length (filter_map (λ (found : Option ObjectKey). found) xs))) (sym before)
      ∙ filtered_at (λ (found : Option ObjectKey). found) objects l (Some key) key at refl

module _ (p : Program) (space : List Location) (system : System) (is : SystemOf p (view_of space) system) where
  abbrev u' : CoreTrees
  u' = trees_in p

  abbrev s' : SpaceView
  s' = view_of space

  -- what the system has of the function of a number
  pub function_there : (number : ℕ) (key : ObjectKey) → slice_get (functions_of u' s') number ≡ Some key → (function : Function) × (slice_get system.functions number ≡ Some function) × IsFunctionFact u' s' number key function
  function_there number key e =
      let z = zip_left (λ (entry : ℕ × ObjectKey) (function : Function). IsFunctionFact u' s' entry.0 entry.1 function) (enumerate_from 0 (functions_of u' s')) system.functions number (0 + number, key) is.functions
      (numbered 0 (functions_of u' s') number key e) in
      (z.0, z.1, subst (λ (k : ℕ). IsFunctionFact u' s' k key z.0) (let q : 0 + number ≡ number = omega arith in q) z.2)

  -- each call node has its call in the system
  pub call_there : (w : Setting) → AreCalls w system.calls → w.trees ≡ u' → (n : ℕ) (node : Node) → slice_get p.nodes.items n ≡ Some node → node.kind ≡ CallNode
      → (number : ℕ) × (site : CallSite) × (slice_get system.calls number ≡ Some site) × IsSiteAt w n site
  call_there w calls same n node at kind =
      let nodes = p.nodes.items in
      let list = calls_upto nodes (length nodes) in
      let lt = slice_get_within nodes n node at in
      let here : call_if n (slice_get nodes n) ≡ Some n = ap (call_if n) at ∙ ap (λ (k : NodeKind). cond (is_call k) (Some n) None) kind in
      let in_range : slice_get (range_with_len 0 (length nodes)) n ≡ Some n = range_at 0 (length nodes) n lt ∙ ap (λ (m : ℕ). Some m) (let z : 0 + n ≡ n = omega arith in z) in
      let number = length (filter_map (λ (k : ℕ). call_if k (slice_get nodes k)) (take n (range_with_len 0 (length nodes)))) in
      let listed : slice_get list number ≡ Some n = filtered_at (λ (k : ℕ). call_if k (slice_get nodes k)) (range_with_len 0 (length nodes)) n n n in_range here in
      let own : AllZip (IsSiteAt w) list system.calls = subst (λ (v : CoreTrees). AllZip (IsSiteAt w) (calls_upto v.nodes (length v.nodes)) system.calls) same calls in
      let z = zip_left (IsSiteAt w) list system.calls number n own listed in
      (number, z.0, z.1, z.2)

module _ (p : Program) (space : List Location) (system : System) (is : SystemOf p (view_of space) system) (F : Family) (closed : IsClosed system F) (grounds : Grounds p.types space system) where
  abbrev g : Sets
  g = sets p space system is F closed grounds

  abbrev w : Setting
  w = w' p space system is F closed grounds

  -- A function that a covered callee names, of the call's signature, is a target of the call.
  pub target_in : (n : ℕ) (node : Node) (site : CallSite) → IsCallSite w n node site → (to : Ctype) → type_at (trees_in p) (head_of node.children) ≡ PointerTo to
      → (key : ObjectKey) (l : ℕ) → Contains (function_keys (trees_in p)) key → first_from 0 space key ≡ Some l → (memory : List Instance) → HeldIn g w memory (head_of node.children) (one_cell (FunctionCell key))
      → called_type (key_type (trees_in p) key) ≡ calling_type (type_at (trees_in p) (head_of node.children)) (trees_at (types_of p.types) (ids_of p.nodes.items (rest_of node.children)))
      → (function : Function) × IsFunctionFact (trees_in p) (view_of space) (number_at (trees_in p) (view_of space) l) key function × IsTarget system F site (number_at (trees_in p) (view_of space) l) function
  target_in n node site call to ty key l listed first memory h same =
      let f = function_there p space system is (number_at (trees_in p) (view_of space) l) key (function_number (trees_in p) space l key listed first) in
      let lands = held_cell p space system is F closed grounds (head_of node.children) to memory (FunctionCell key) ty h in
      let at : lands.location ≡ l = some_one (sym lands.found_is ∙ start_spot p.types space key l first) in
      let location : f.0.location ≡ l = f.2.location ∙ ap (λ (o : Option ℕ). unwrap_or o 0) first in (
        f.0,
        f.2,
        record {
          known = f.1;
          reached = subst (λ (r : ℕ). Has F r f.0.location) (some_one (sym lands.row_is) ∙ sym call.callee) (subst (λ (k : ℕ). Has F lands.at k) (at ∙ sym location) lands.has);
          agrees = signature_one p.types (called_type (key_type (trees_in p) key)) f.0.signature site.signature f.2.signature (subst (λ (t : Ctype). IsSignature p.types t site.signature) (sym same) call.signature);
        },
      )

  -- the number of a function of the program is that of its location
  pub number_is : (f l : ℕ) → first_from 0 space (EntityKey f) ≡ Some l → number_of (trees_in p) (view_of space) f ≡ number_at (trees_in p) (view_of space) l
  number_is f l first = ap (λ (o : Option ℕ). option_map_or (number_at (trees_in p) (view_of space)) o 0) first
