-- Which functions and calls a program lists.
use Rattle.std.proofs.Common.{◌≡◌, ◌∙◌, ℕ, zero, suc, ◌+◌, ◌||◌, ◌==◌, Bool, true, false, cond, List, [], ◌∷◌, ◌++◌, map, find, Option, Some, None, slice_get, refl, sym, ap, subst, eq-eqb}
use Rattle.std.specs.Prelude.{⊤}
use Rattle.std.specs.List.{list_any, filter_map, cons_option, enumerate_from, range_with_len}
use Rattle.std.specs.Option.{option_map, option_map_or, option_and_then}
use Rattle.std.proofs.lemmas.Bool.{false≢true, eqb-true}
use Rattle.c_types.specs.declared.key.ObjectKey.{ObjectKey}
use Rattle.c_types.specs.declared.key.ObjectKey.TheVariants.{Entity as EntityKey, Function as FunctionKey}
use Rattle.core_tree.specs.declared.node.Node.{Node}
use Rattle.core_tree.specs.declared.node.NodeKind.{NodeKind}
use Rattle.core_tree.specs.declared.node.NodeKind.TheVariants.{CallNode}
use Rattle.core_tree.specs.declared.node.Entity.{Entity}
use Rattle.core_tree.specs.declared.node.Linkage.{Linkage}
use Rattle.core_tree.specs.declared.node.Linkage.TheVariants.{External, Internal, Local}
use Rattle.core_tree.specs.declared.node.Storage.{Storage}
use Rattle.core_tree.specs.declared.node.Storage.TheVariants.{Static, Automatic, FunctionBody, Parameter, Declared}
use Rattle.core_tree.specs.Typed.{CoreTrees}
use Rattle.lib_summaries.specs.Table.{summary_of}
use Rattle.obj_made.specs.Uses.{is_number, number_in, entity_number, library_number as number_of_entity, named_entity, named_number, is_named}
use Rattle.obj_space.specs.declared.location.Location.{Location}
use Rattle.obj_space.specs.Found.{same_object}
use Rattle.obj_space.specs.View.{SpaceView, first_from}
use Rattle.obj_space.proofs.Indexed.{same_is}
use Rattle.row_numbers.specs.declared.functions.Role.TheVariants.{Defined}
use Rattle.row_numbers.specs.Objects.{is_open, is_library}
use Rattle.row_numbers.specs.Functions.{plays, key_if, keys_in, begins_at, object_at, functions_below, functions_of, function_keys}
use Rattle.call_sites.specs.Calls.{is_call, call_if, calls_upto}

none_some : {X : Type 0} → {x : X} → ◌≡◌ {A = Option X} None (Some x) → ⊥
none_some h = cc

some_one : {X : Type 0} → {x y : X} → ◌≡◌ {A = Option X} (Some x) (Some y) → x ≡ y
some_one h = cc

-- what a list keeps of another one comes from an element of that one
pub kept_from : {X Y : Type 0} (h : X → Option Y) (xs : List X) (k : ℕ) (y : Y) → slice_get (filter_map h xs) k ≡ Some y → (x : X) × (j : ℕ) × (slice_get xs j ≡ Some x) × (h x ≡ Some y)
kept_from h [] k y e = absurd (none_some e)
kept_from {X = X} {Y = Y} h (z ∷ xs) k y e = by k (h z) refl e (λ j d. kept_from h xs j y d)
  where
    by : (k : ℕ) (o : Option Y) → h z ≡ o → slice_get (cons_option o (filter_map h xs)) k ≡ Some y
        → ((j : ℕ) → slice_get (filter_map h xs) j ≡ Some y → (x : X) × (i : ℕ) × (slice_get xs i ≡ Some x) × (h x ≡ Some y)) → (x : X) × (j : ℕ) × (slice_get (z ∷ xs) j ≡ Some x) × (h x ≡ Some y)
    by k None is e next = let r = next k e in (r.0, suc r.1, r.2, r.3)
    by zero (Some v) is e next = (z, 0, refl, is ∙ e)
    by (suc k) (Some v) is e next = let r = next k e in (r.0, suc r.1, r.2, r.3)

pub mapped_from : {X Y : Type 0} (f : X → Y) (xs : List X) (k : ℕ) (y : Y) → slice_get (map f xs) k ≡ Some y → (x : X) × (f x ≡ y)
mapped_from f [] k y e = absurd (none_some e)
mapped_from f (x ∷ xs) zero y e = (x, some_one e)
mapped_from f (x ∷ xs) (suc k) y e = mapped_from f xs k y e

-- functions with a body, and those of the library
abbrev pub IsFunctionKey : ObjectKey → Type 0
IsFunctionKey (EntityKey e) = ⊤
IsFunctionKey (FunctionKey k) = ⊤
IsFunctionKey key = ⊥

abbrev AllFunctions : List ObjectKey → Type 0
AllFunctions [] = ⊤
AllFunctions (key ∷ rest) = IsFunctionKey key × AllFunctions rest

functions_append : (xs ys : List ObjectKey) → AllFunctions xs → AllFunctions ys → AllFunctions (xs ++ ys)
functions_append [] ys h g = g
functions_append (x ∷ xs) ys h g = (h.0, functions_append xs ys h.1 g)

defined_functions : (entries : List (ℕ × Entity)) → AllFunctions (filter_map (λ entry. key_if Defined entry.0 entry.1) entries)
defined_functions [] = tt
defined_functions (entry ∷ rest) = by (plays Defined entry.1) (defined_functions rest)
  where
    by : (b : Bool) → AllFunctions (filter_map (λ entry. key_if Defined entry.0 entry.1) rest) → AllFunctions (cons_option (cond b (Some (EntityKey entry.0)) None) (filter_map (λ entry. key_if Defined entry.0 entry.1) rest))
    by true h = (tt, h)
    by false h = h

library_functions : (ks : List ℕ) → AllFunctions (map (λ k. FunctionKey k) ks)
library_functions [] = tt
library_functions (k ∷ ks) = (tt, library_functions ks)

found_function : (test : ObjectKey → Bool) (keys : List ObjectKey) → AllFunctions keys → (key : ObjectKey) → find test keys ≡ Some key → IsFunctionKey key × (test key ≡ true)
found_function test [] all key e = absurd (none_some e)
found_function test (x ∷ rest) all key e = by (test x) refl e (found_function test rest all.1 key)
  where
    by : (b : Bool) → test x ≡ b → cond b (Some x) (find test rest) ≡ Some key → (find test rest ≡ Some key → IsFunctionKey key × (test key ≡ true)) → IsFunctionKey key × (test key ≡ true)
    by true is h next = (subst IsFunctionKey (some_one h) all.0, ap test (sym (some_one h)) ∙ is)
    by false is h next = next h

begun : (o : Option ℕ) (location : ℕ) → option_map_or (λ (first : ℕ). first == location) o false ≡ true → (l : ℕ) × (o ≡ Some l)
begun None location h = absurd (false≢true h)
begun (Some l) location h = (l, refl)

-- a listed function has a first location
pub function_there : (u : CoreTrees) (s : SpaceView) (k : ℕ) (key : ObjectKey) → slice_get (functions_of u s) k ≡ Some key → IsFunctionKey key × ((l : ℕ) × (s.first key ≡ Some l))
unfolding functions_below
function_there u s k key at =
    let kept = kept_from (λ (found : Option ObjectKey). found) (map (object_at s (function_keys u)) (range_with_len 0 s.count)) k key at in
    let from = mapped_from (object_at s (function_keys u)) (range_with_len 0 s.count) kept.1 kept.0 kept.2 in
    at_location from.0 (from.1 ∙ kept.3)
  where
    all : AllFunctions (function_keys u)
    all = functions_append (keys_in Defined u.entities) (map (λ k. FunctionKey k) (range_with_len 0 55)) (defined_functions (enumerate_from 0 u.entities)) (library_functions (range_with_len 0 55))

    at_location : (l : ℕ) → object_at s (function_keys u) l ≡ Some key → IsFunctionKey key × ((l : ℕ) × (s.first key ≡ Some l))
    at_location l h = let f = found_function (begins_at s l) (function_keys u) all key h in (f.0, begun (s.first key) l f.1)

-- the first location of an object is one of its own
pub first_at : (n : ℕ) (space : List Location) (key : ObjectKey) (l : ℕ) → first_from n space key ≡ Some l → (k : ℕ) × (x : Location) × (slice_get space k ≡ Some x) × (x.key ≡ key)
first_at n [] key l h = absurd (none_some h)
first_at n (x ∷ rest) key l h = by (same_object x.key key) refl h (first_at (n + 1) rest key l)
  where
    by : (b : Bool) → same_object x.key key ≡ b → cond b (Some n) (first_from (n + 1) rest key) ≡ Some l → (first_from (n + 1) rest key ≡ Some l → (k : ℕ) × (y : Location) × (slice_get rest k ≡ Some y) × (y.key ≡ key)) → (k : ℕ) × (y : Location) × (slice_get (x ∷ rest) k ≡ Some y) × (y.key ≡ key)
    by true is e next = (0, x, refl, same_is x.key key is)
    by false is e next = let r = next e in (suc r.0, r.1, r.2, r.3)

-- a library function that the program names has an entity
found_some : {X : Type 0} (test : X → Bool) (xs : List X) (k : ℕ) (x : X) → slice_get xs k ≡ Some x → test x ≡ true → (y : X) × (find test xs ≡ Some y)
found_some test [] k x at h = absurd (none_some at)
found_some {X = X} test (z ∷ xs) k x at h = by (test z) refl k at (λ j e. found_some test xs j x e h)
  where
    by : (b : Bool) → test z ≡ b → (k : ℕ) → slice_get (z ∷ xs) k ≡ Some x → ((j : ℕ) → slice_get xs j ≡ Some x → (y : X) × (find test xs ≡ Some y)) → (y : X) × (cond b (Some z) (find test xs) ≡ Some y)
    by true is k e next = (z, refl)
    by false is zero e next = absurd (false≢true (sym is ∙ (ap test (some_one e) ∙ h)))
    by false is (suc k) e next = next k e

any_at : {X : Type 0} (test : X → Bool) (xs : List X) → list_any test xs ≡ true → (x : X) × (test x ≡ true)
any_at test [] h = absurd (false≢true h)
any_at {X = X} test (x ∷ xs) h = by (test x) refl h (any_at test xs)
  where
    by : (b : Bool) → test x ≡ b → (b || list_any test xs) ≡ true → (list_any test xs ≡ true → (y : X) × (test y ≡ true)) → (y : X) × (test y ≡ true)
    by true is e next = (x, is)
    by false is e next = next e

number_is : (k : ℕ) (o : Option ℕ) → is_number k o ≡ true → o ≡ Some k
number_is k None h = absurd (false≢true h)
number_is k (Some n) h = ap (λ (j : ℕ). Some j) (eqb-true n k h)

-- the two ways in which a library name is numbered are one
numbers_same : (linkage : Linkage) (storage : Storage) (name : List ℕ) → cond (is_open linkage storage) (option_map (λ found. found.number) (summary_of name)) None ≡ number_in linkage storage name
numbers_same External Static name = refl
numbers_same External Automatic name = refl
numbers_same External FunctionBody name = refl
numbers_same External Parameter name = refl
numbers_same External Declared name = refl
numbers_same Internal storage name = refl
numbers_same Local storage name = refl

library_is : (x : Entity) (k : ℕ) → entity_number x ≡ Some k → is_library k x ≡ true
library_is x k h = ap (λ (o : Option ℕ). option_map_or (λ (found : ℕ). found == k) o false) (numbers_same x.linkage x.storage x.name ∙ h) ∙ same k
  where
    same : (k : ℕ) → (k == k) ≡ true
    same k = eq-eqb k k refl

pub library_found : (entities : List Entity) (nodes : List Node) (k : ℕ) → is_named entities nodes k ≡ true → (x : Entity) × (find (is_library k) entities ≡ Some x)
library_found entities nodes k h =
    let node = any_at (λ (node : Node). is_number k (named_number entities node)) nodes h in
    named (named_entity node.0.kind) (number_is k (named_number entities node.0) node.1)
  where
    own : (e : ℕ) (o : Option Entity) → slice_get entities e ≡ o → option_and_then entity_number o ≡ Some k → (x : Entity) × (find (is_library k) entities ≡ Some x)
    own e None at is = absurd (none_some is)
    own e (Some x) at is = found_some (is_library k) entities e x at (library_is x k is)

    named : (o : Option ℕ) → option_and_then (number_of_entity entities) o ≡ Some k → (x : Entity) × (find (is_library k) entities ≡ Some x)
    named None is = absurd (none_some is)
    named (Some e) is = own e (slice_get entities e) refl is

-- a listed call is a call
pub call_there : (nodes : List Node) (count k n : ℕ) → slice_get (calls_upto nodes count) k ≡ Some n → (node : Node) → slice_get nodes n ≡ Some node → node.kind ≡ CallNode
call_there nodes count k n at node there =
    let kept = kept_from (λ (m : ℕ). call_if m (slice_get nodes m)) (range_with_len 0 count) k n at in
    by kept.0 (slice_get nodes kept.0) refl kept.3
  where
    is_kind : (kind : NodeKind) → is_call kind ≡ true → kind ≡ CallNode
    is_kind CallNode h = refl
    is_kind kind h = absurd (false≢true h)

    called : (m : ℕ) (x : Node) (b : Bool) → is_call x.kind ≡ b → slice_get nodes m ≡ Some x → cond b (Some m) None ≡ Some n → node.kind ≡ CallNode
    called m x true is here e =
        let same : x ≡ node = some_one (sym here ∙ (ap (slice_get nodes) (some_one e) ∙ there)) in
        ap (λ (y : Node). y.kind) (sym same) ∙ is_kind x.kind is
    called m x false is here e = absurd (none_some e)

    by : (m : ℕ) (o : Option Node) → slice_get nodes m ≡ o → call_if m o ≡ Some n → node.kind ≡ CallNode
    by m None here e = absurd (none_some e)
    by m (Some x) here e = called m x (is_call x.kind) refl here e
