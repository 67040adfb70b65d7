-- The names of a function of the library, and the values that decay from them.
use Rattle.std.proofs.Common.{arith, ◌≡◌, ◌∙◌, ◌||◌, inl, inr, ℕ, zero, suc, ◌+◌, Bool, true, false, List, [], ◌∷◌, Option, Some, None, slice_get, refl, sym, ap, subst}
use Rattle.std.specs.List.{list_any}
use Rattle.std.specs.Option.{option_map, option_and_then, option_map_or}
use Rattle.std.specs.Prelude.{nat_eq}
use Rattle.std.proofs.lemmas.Bool.{false≢true}
use Rattle.std.proofs.lemmas.Bool.Decides.{eqb_tells}
use Rattle.core_tree.specs.declared.node.Entity.{Entity}
use Rattle.core_tree.specs.declared.node.Node.{Node}
use Rattle.core_tree.specs.declared.node.NodeKind.{NodeKind}
use Rattle.core_tree.specs.declared.node.NodeKind.TheVariants.{FunctionName, Decay, CallNode}
use Rattle.core_tree.specs.Typed.{CoreTrees}
use Rattle.obj_made.specs.Uses.{is_number, library_number, function_entity, function_node, decayed_in, callee_at, callee_in, direct_callee, is_called, star_number, is_starred_from, is_starred}

pub some_one : {X : Type 0} → {x y : X} → ◌≡◌ {A = Option X} (Some x) (Some y) → x ≡ y
some_one h = cc

pub none_some : {X : Type 0} → {x : X} → ◌≡◌ {A = Option X} None (Some x) → ⊥
none_some h = cc

true_false : true ≡ false → ⊥
true_false h = false≢true (sym h)

-- an element that passes a test
pub record Passes {X : Type 0} (test : X → Bool) (xs : List X) : Type 0 where
  pub at : ℕ
  pub item : X
  pub there : slice_get xs at ≡ Some item
  pub passes : test item ≡ true

pub any_there : {X : Type 0} (test : X → Bool) (xs : List X) → list_any test xs ≡ true → Passes test xs
any_there test [] h = absurd (false≢true h)
any_there test (x ∷ xs) h = by (test x) refl h (any_there test xs)
  where
    by : (b : Bool) → test x ≡ b → (b || list_any test xs) ≡ true → (list_any test xs ≡ true → Passes test xs) → Passes test (x ∷ xs)
    by true is g next = record { at = 0; item = x; there = refl; passes = is }
    by false is g next = let r = next g in record { at = suc r.at; item = r.item; there = r.there; passes = r.passes }

or_right : (a b : Bool) → b ≡ true → (a || b) ≡ true
or_right true b h = refl
or_right false b h = h

pub any_from : {X : Type 0} (test : X → Bool) (xs : List X) (i : ℕ) (x : X) → slice_get xs i ≡ Some x → test x ≡ true → list_any test xs ≡ true
any_from test [] i x at is = absurd (none_some at)
any_from test (y ∷ ys) zero x at is = ap (λ (b : Bool). b || list_any test ys) (ap test (some_one at) ∙ is)
any_from test (y ∷ ys) (suc i) x at is = or_right (test y) (list_any test ys) (any_from test ys i x at is)

or_false : (a b : Bool) → (a || b) ≡ false → (a ≡ false) × (b ≡ false)
or_false true b h = absurd (true_false h)
or_false false b h = (refl, h)

pub number_is : (k : ℕ) (o : Option ℕ) → is_number k o ≡ true → o ≡ Some k
number_is k None h = absurd (false≢true h)
number_is k (Some n) h = elim (eqb_tells n k) [ inl same ↦ ap (λ (m : ℕ). Some m) same.1 | inr other ↦ absurd (false≢true (sym other.0 ∙ h)) ]

pub same_number : (k : ℕ) → nat_eq k k ≡ true
same_number k = elim (eqb_tells k k) [ inl same ↦ same.0 | inr other ↦ absurd (other.1 refl) ]

-- a function's name that a call calls directly: the call, its callee, and what that decays from
pub record IsCalled (nodes : List Node) (n : ℕ) : Type 0 where
  pub call : ℕ
  pub node : Node
  pub there : slice_get nodes call ≡ Some node
  pub kind : node.kind ≡ CallNode
  pub callee : ℕ
  pub first : slice_get node.children 0 ≡ Some callee
  pub decay : Node
  pub decay_there : slice_get nodes callee ≡ Some decay
  pub decay_kind : decay.kind ≡ Decay
  pub under : slice_get decay.children 0 ≡ Some n

name_kind : (f : ℕ) (kind : NodeKind) (n : ℕ) → option_map (λ (e : ℕ). f) (function_entity kind) ≡ Some n → f ≡ n
name_kind f (FunctionName e) n h = some_one h
name_kind f kind n h = absurd (none_some h)

name_node : (nodes : List Node) (f n : ℕ) → function_node nodes f ≡ Some n → f ≡ n
name_node nodes f n h = by (slice_get nodes f) h
  where
    by : (o : Option Node) → option_and_then (λ (x : Node). option_map (λ (e : ℕ). f) (function_entity x.kind)) o ≡ Some n → f ≡ n
    by None g = absurd (none_some g)
    by (Some x) g = name_kind f x.kind n g

decay_is : (nodes : List Node) (kind : NodeKind) (children : List ℕ) (n : ℕ) → decayed_in nodes kind children ≡ Some n → (kind ≡ Decay) × (slice_get children 0 ≡ Some n)
decay_is nodes Decay children n h = (refl, by (slice_get children 0) h)
  where
    by : (o : Option ℕ) → option_and_then (function_node nodes) o ≡ Some n → o ≡ Some n
    by None g = absurd (none_some g)
    by (Some f) g = ap (λ (m : ℕ). Some m) (name_node nodes f n g)
decay_is nodes kind children n h = absurd (none_some h)

pub callee_is : (nodes : List Node) (c n : ℕ) → callee_at nodes c ≡ Some n → (d : Node) × (slice_get nodes c ≡ Some d) × (d.kind ≡ Decay) × (slice_get d.children 0 ≡ Some n)
callee_is nodes c n h = by (slice_get nodes c) refl h
  where
    by : (o : Option Node) → slice_get nodes c ≡ o → option_and_then (λ (x : Node). decayed_in nodes x.kind x.children) o ≡ Some n → (d : Node) × (slice_get nodes c ≡ Some d) × (d.kind ≡ Decay) × (slice_get d.children 0 ≡ Some n)
    by None at g = absurd (none_some g)
    by (Some d) at g = let r = decay_is nodes d.kind d.children n g in (d, at, r.0, r.1)

call_is : (nodes : List Node) (kind : NodeKind) (children : List ℕ) (n : ℕ) → callee_in nodes kind children ≡ Some n → (kind ≡ CallNode) × (c : ℕ) × (slice_get children 0 ≡ Some c) × (callee_at nodes c ≡ Some n)
call_is nodes CallNode children n h = by (slice_get children 0) refl h
  where
    by : (o : Option ℕ) → slice_get children 0 ≡ o → option_and_then (callee_at nodes) o ≡ Some n → (CallNode ≡ CallNode) × (c : ℕ) × (slice_get children 0 ≡ Some c) × (callee_at nodes c ≡ Some n)
    by None at g = absurd (none_some g)
    by (Some c) at g = (refl, c, at, g)
call_is nodes kind children n h = absurd (none_some h)

pub called_by : (nodes : List Node) (n : ℕ) → is_called nodes n ≡ true → IsCalled nodes n
called_by nodes n h =
    let call = any_there (λ (x : Node). is_number n (direct_callee nodes x)) nodes h in
    let own = call_is nodes call.item.kind call.item.children n (number_is n (direct_callee nodes call.item) call.passes) in
    let d = callee_is nodes own.1 n own.3 in
    record { call = call.at; node = call.item; there = call.there; kind = own.0; callee = own.1; first = own.2; decay = d.0; decay_there = d.1; decay_kind = d.2; under = d.3 }

-- a node is the function's name
abbrev pub is_name : List Entity → ℕ → Node → Bool
is_name entities k node = is_number k (star_number entities false node.kind)

unstarred_from : (entities : List Entity) (nodes : List Node) (k i : ℕ) (rest : List Node) → is_starred_from entities nodes k i rest ≡ false → (j : ℕ) (node : Node) → slice_get rest j ≡ Some node → is_name entities k node ≡ true
    → is_called nodes (i + j) ≡ true
unstarred_from entities nodes k i [] h j node at own = absurd (none_some at)
unstarred_from entities nodes k i (x ∷ rest) h zero node at own =
    subst (λ (m : ℕ). is_called nodes m ≡ true) (let e : i ≡ i + 0 = omega arith in e) (by (is_called nodes i) refl (or_false _ _ h).0)
  where
    by : (b : Bool) → is_called nodes i ≡ b → is_number k (star_number entities b x.kind) ≡ false → is_called nodes i ≡ true
    by true is g = is
    by false is g = absurd (true_false (sym own ∙ (ap (is_name entities k) (sym (some_one at)) ∙ g)))
unstarred_from entities nodes k i (x ∷ rest) h (suc j) node at own =
    subst (λ (m : ℕ). is_called nodes m ≡ true) (let e : suc i + j ≡ i + suc j = omega arith in e) (unstarred_from entities nodes k (suc i) rest (or_false _ _ h).1 j node at own)

pub unstarred : (entities : List Entity) (nodes : List Node) (k : ℕ) → is_starred entities nodes k ≡ false → (n : ℕ) (node : Node) → slice_get nodes n ≡ Some node → is_name entities k node ≡ true → IsCalled nodes n
unstarred entities nodes k h n node at own =
    called_by nodes n (subst (λ (m : ℕ). is_called nodes m ≡ true) (let e : 0 + n ≡ n = omega arith in e) (unstarred_from entities nodes k 0 nodes h n node at own))

-- Nodes that have the function: its names, and what decays from one.

abbrev pub names_at : CoreTrees → ℕ → ℕ → Bool
names_at u k m = option_map_or (is_name u.entities k) (slice_get u.nodes m) false

abbrev pub decays_at : CoreTrees → ℕ → ℕ → Bool
decays_at u k m = option_map_or (names_at u k) (callee_at u.nodes m) false

abbrev pub is_marked : CoreTrees → ℕ → ℕ → Bool
is_marked u k m = names_at u k m || decays_at u k m

pub record IsName (u : CoreTrees) (k m : ℕ) : Type 0 where
  pub node : Node
  pub there : slice_get u.nodes m ≡ Some node
  pub name : is_name u.entities k node ≡ true

pub record IsDecay (u : CoreTrees) (k m : ℕ) : Type 0 where
  pub node : Node
  pub there : slice_get u.nodes m ≡ Some node
  pub kind : node.kind ≡ Decay
  pub under : ℕ
  pub child : slice_get node.children 0 ≡ Some under
  pub name : IsName u k under

pub data IsMarked (u : CoreTrees) (k m : ℕ) : Type 0 where
  as_name : IsName u k m → IsMarked u k m
  as_decay : IsDecay u k m → IsMarked u k m

name_is : (u : CoreTrees) (k m : ℕ) → names_at u k m ≡ true → IsName u k m
name_is u k m h = by (slice_get u.nodes m) refl h
  where
    by : (o : Option Node) → slice_get u.nodes m ≡ o → option_map_or (is_name u.entities k) o false ≡ true → IsName u k m
    by None at g = absurd (false≢true g)
    by (Some node) at g = record { node = node; there = at; name = g }

decays_is : (u : CoreTrees) (k m : ℕ) → decays_at u k m ≡ true → IsDecay u k m
decays_is u k m h = by (callee_at u.nodes m) refl h
  where
    by : (o : Option ℕ) → callee_at u.nodes m ≡ o → option_map_or (names_at u k) o false ≡ true → IsDecay u k m
    by None is g = absurd (false≢true g)
    by (Some f) is g = (let d = callee_is u.nodes m f is in record { node = d.0; there = d.1; kind = d.2; under = f; child = d.3; name = name_is u k f g })

pub marked_is : (u : CoreTrees) (k m : ℕ) → is_marked u k m ≡ true → IsMarked u k m
marked_is u k m h = by (names_at u k m) refl h
  where
    by : (b : Bool) → names_at u k m ≡ b → (b || decays_at u k m) ≡ true → IsMarked u k m
    by true is g = as_name (name_is u k m is)
    by false is g = as_decay (decays_is u k m g)

names_true : (u : CoreTrees) (k m : ℕ) → IsName u k m → names_at u k m ≡ true
names_true u k m own = ap (λ (o : Option Node). option_map_or (is_name u.entities k) o false) own.there ∙ own.name

pub name_marked : (u : CoreTrees) (k m : ℕ) → IsName u k m → is_marked u k m ≡ true
name_marked u k m h = ap (λ (b : Bool). b || decays_at u k m) (names_true u k m h)

-- the entity of a name
pub record IsNameOf (u : CoreTrees) (k : ℕ) (kind : NodeKind) : Type 0 where
  pub e : ℕ
  pub kind_is : kind ≡ FunctionName e
  pub number : library_number u.entities e ≡ Some k

pub name_of_kind : (u : CoreTrees) (k : ℕ) (kind : NodeKind) → is_number k (star_number u.entities false kind) ≡ true → IsNameOf u k kind
name_of_kind u k (FunctionName e) h = record { e = e; kind_is = refl; number = number_is k (library_number u.entities e) h }
name_of_kind u k kind h = absurd (false≢true h)

function_of : (nodes : List Node) (f : ℕ) (node : Node) (e : ℕ) → slice_get nodes f ≡ Some node → node.kind ≡ FunctionName e → function_node nodes f ≡ Some f
function_of nodes f node e at kind =
    ap (option_and_then (λ (x : Node). option_map (λ (i : ℕ). f) (function_entity x.kind))) at ∙ ap (λ (j : NodeKind). option_map (λ (i : ℕ). f) (function_entity j)) kind

pub decay_marked : (u : CoreTrees) (k m : ℕ) → IsDecay u k m → is_marked u k m ≡ true
decay_marked u k m h =
    let own = name_of_kind u k h.name.node.kind h.name.name in
    let callee : callee_at u.nodes m ≡ Some h.under =
    ap (option_and_then (λ (x : Node). decayed_in u.nodes x.kind x.children)) h.there
    ∙ (ap (λ (j : NodeKind). decayed_in u.nodes j h.node.children) h.kind
    ∙ (ap (option_and_then (function_node u.nodes)) h.child ∙ function_of u.nodes h.under h.name.node own.e h.name.there own.kind_is)) in
    or_right (names_at u k m) (decays_at u k m) (ap (λ (o : Option ℕ). option_map_or (names_at u k) o false) callee ∙ names_true u k h.under h.name)
