-- In the initialiser of a static object no local is named.
use Rattle.std.proofs.Common.{◌≡◌, Bool, true, false, ℕ, zero, suc, List, [], ◌∷◌, Option, Some, None, All, slice_get, refl, sym, ap, ◌∙◌, subst, ◌⊎◌, inl, inr}
use Rattle.std.proofs.lemmas.List.Elements.{All-head, All-tail}
use Rattle.c_types.specs.Trees.{Ctype}
use Rattle.c_types.specs.Table.{type_of}
use Rattle.core_tree.specs.declared.node.Node.{Node}
use Rattle.core_tree.specs.declared.node.Entity.{Entity}
use Rattle.core_tree.specs.declared.node.NodeKind.{NodeKind}
use Rattle.core_tree.specs.declared.node.NodeKind.TheVariants.{Named, Text, Literal, FunctionName, Deref, Member, Number, NullValue, AddressOf, Decay, PointerAdd, Convert, Upcast, Choose, Arith, Initialise, VarArgs, Block, For}
use Rattle.core_tree.specs.Typed.{CoreTrees}
use Rattle.core_tree.specs.Rows.{RowOf, Has, Initialises, InitialisesIn, InitialisesEntity}
use Rattle.core_tree.specs.Range.{EachNode, Under, here, below, IsChild, entity_at, listed_by}
use Rattle.core_tree.specs.Valid.{InRows, FixedStatics, HoldsFixed, IsLasting, IsStaticIn, IsStaticEntity, LivesForTheRun, IsLocal, IsFixed, IsNumber, MakesNumber, FixedNumber, plain, made, FixedPlace, text, function, object, literal, member, target, FixedPointer, null, address, decay, upcast, converted, moved}
use Rattle.core_tree.proofs.Climb.{child_has}

of_all : (P : ℕ → Type 0) (list : List ℕ) (k j : ℕ) → All P list → slice_get list k ≡ Some j → P j
of_all P [] k j all e = cc
of_all P (x ∷ list) zero j all e = subst P (let same : x ≡ j = cc in same) (All-head P x list all)
of_all P (x ∷ list) (suc k) j all e = of_all P list k j (All-tail P x list all) e

none_has : (list : List ℕ) (c : ℕ) → list ≡ [] → Has list c → ⊥
none_has list c e (k, h) = let f : slice_get [] k ≡ Some c = subst (λ (l : List ℕ). slice_get l k ≡ Some c) e h in cc

one_has : (list : List ℕ) (v c : ℕ) → list ≡ v ∷ [] → Has list c → v ≡ c
one_has list v c e (k, h) = by k (subst (λ (l : List ℕ). slice_get l k ≡ Some c) e h)
  where
    by : (k : ℕ) → slice_get (v ∷ []) k ≡ Some c → v ≡ c
    by zero f = cc
    by (suc k) f = absurd (none_has [] c refl (k, f))

two_has : (list : List ℕ) (v i c : ℕ) → list ≡ v ∷ i ∷ [] → Has list c → (v ≡ c) ⊎ (i ≡ c)
two_has list v i c e (k, h) = by k (subst (λ (l : List ℕ). slice_get l k ≡ Some c) e h)
  where
    by : (k : ℕ) → slice_get (v ∷ i ∷ []) k ≡ Some c → (v ≡ c) ⊎ (i ≡ c)
    by zero f = inl (let same : v ≡ c = cc in same)
    by (suc k) f = inr (one_has (i ∷ []) i c refl (k, f))

number_bare : (u : CoreTrees) (kind : NodeKind) (t : Ctype) (children : List ℕ) (c : ℕ) → IsNumber kind → RowOf u kind t children → Has children c → ⊥
number_bare u (Number n) t [] c is row has = none_has [] c refl has
number_bare u (Number n) t (x ∷ rest) c is row has = row
number_bare u kind t children c is row has = absurd is

literal_child : (u : CoreTrees) (t : Ctype) (e i : ℕ) → RowOf u (Literal e) t (i ∷ []) → Initialises u i e
literal_child u t e i row = row.1

module _ (u : CoreTrees) (rows : InRows u) (fixed : FixedStatics u) (lasting : EachNode u (λ n node. (e : ℕ) → node.kind ≡ Literal e → IsLasting (entity_at u e))) where
  abbrev pub Starts : ℕ → Type 0
  Starts n = (e : ℕ) × Initialises u n e × LivesForTheRun (entity_at u e)

  abbrev pub State : ℕ → Type 0
  State n = Starts n ⊎ (FixedNumber u n ⊎ (FixedPointer u n ⊎ FixedPlace u n))

  is_fixed : (n : ℕ) → IsFixed u n → State n
  is_fixed n (inl h) = inr (inl h)
  is_fixed n (inr h) = inr (inr (inl h))

  starts_down : (p c e : ℕ) → Initialises u p e → LivesForTheRun (entity_at u e) → IsChild u p c → State c
  starts_down p c e init lives child = by (slice_get u.nodes p) refl init
    where
      kinds : (node : Node) → slice_get u.nodes p ≡ Some node → (kind : NodeKind) → node.kind ≡ kind → InitialisesEntity kind e → State c
      kinds node at (Initialise o paths) is same =
          let all : HoldsFixed u (Initialise o paths) node.children = subst (λ (k : NodeKind). HoldsFixed u k node.children) is (fixed p node at) in
          let has = child_has u p c node at child in
          is_fixed c (of_all (λ (x : ℕ). IsFixed u x) node.children has.0 c (all (subst (λ (x : ℕ). LivesForTheRun (entity_at u x)) (sym same) lives)) has.1)
      kinds node at kind is same = absurd same

      by : (o : Option Node) → slice_get u.nodes p ≡ o → InitialisesIn o e → State c
      by None at h = absurd h
      by (Some node) at h = kinds node at node.kind refl h

  number_down : (p c : ℕ) → FixedNumber u p → IsChild u p c → State c
  number_down p c (plain {node = node} at is) child = absurd (number_bare u node.kind (type_of u.types node.ty.0) node.children c is (rows p node at) (child_has u p c node at child))
  number_down p c (made {node = node} at makes whole each) child = let has = child_has u p c node at child in inr (inl (each has.0 c has.1))

  pointer_down : (p c : ℕ) → FixedPointer u p → IsChild u p c → State c
  pointer_down p c (null (node, at, kind, children)) child = absurd (none_has node.children c children (child_has u p c node at child))
  pointer_down p c (address {p = v} (node, at, kind, children) h) child = inr (inr (inr (subst (λ (x : ℕ). FixedPlace u x) (one_has node.children v c children (child_has u p c node at child)) h)))
  pointer_down p c (decay {p = v} (node, at, kind, children) h) child = inr (inr (inr (subst (λ (x : ℕ). FixedPlace u x) (one_has node.children v c children (child_has u p c node at child)) h)))
  pointer_down p c (upcast {v = v} (node, at, kind, children) h) child = inr (inr (inl (subst (λ (x : ℕ). FixedPointer u x) (one_has node.children v c children (child_has u p c node at child)) h)))
  pointer_down p c (converted {v = v} (node, at, kind, children) is h) child = inr (inr (inl (subst (λ (x : ℕ). FixedPointer u x) (one_has node.children v c children (child_has u p c node at child)) h)))
  pointer_down p c (moved {v = v} {i = i} (node, at, kind, children) h k) child = by (two_has node.children v i c children (child_has u p c node at child))
    where
      by : (v ≡ c) ⊎ (i ≡ c) → State c
      by (inl same) = inr (inr (inl (subst (λ (x : ℕ). FixedPointer u x) same h)))
      by (inr same) = inr (inl (subst (λ (x : ℕ). FixedNumber u x) same k))

  lives_on : (o : Option Entity) → IsStaticIn o → IsLasting o → LivesForTheRun o
  lives_on None static last = absurd static
  lives_on (Some entity) static (inl is) = is
  lives_on (Some entity) static (inr is) = absurd (static (subst IsLocal (sym is) tt))

  place_down : (p c : ℕ) → FixedPlace u p → IsChild u p c → State c
  place_down p c (text (node, at, kind, children)) child = absurd (none_has node.children c children (child_has u p c node at child))
  place_down p c (function (node, at, kind, children)) child = absurd (none_has node.children c children (child_has u p c node at child))
  place_down p c (object (node, at, kind, children) static) child = absurd (none_has node.children c children (child_has u p c node at child))
  place_down p c (literal {e = e} {i = i} (node, at, kind, children) static) child =
      let row = subst (λ (l : List ℕ). RowOf u (Literal e) (type_of u.types node.ty.0) l) children (subst (λ (k : NodeKind). RowOf u k (type_of u.types node.ty.0) node.children) kind (rows p node at)) in
      let init = subst (λ (x : ℕ). Initialises u x e) (one_has node.children i c children (child_has u p c node at child)) (literal_child u (type_of u.types node.ty.0) e i row) in
      inl (e, init, lives_on (entity_at u e) static (lasting p node at e kind))
  place_down p c (member {p = v} (node, at, kind, children) h) child = inr (inr (inr (subst (λ (x : ℕ). FixedPlace u x) (one_has node.children v c children (child_has u p c node at child)) h)))
  place_down p c (target {v = v} (node, at, kind, children) h) child = inr (inr (inl (subst (λ (x : ℕ). FixedPointer u x) (one_has node.children v c children (child_has u p c node at child)) h)))

  down : (p c : ℕ) → State p → IsChild u p c → State c
  down p c (inl (e, init, lives)) child = starts_down p c e init lives child
  down p c (inr (inl h)) child = number_down p c h child
  down p c (inr (inr (inl h))) child = pointer_down p c h child
  down p c (inr (inr (inr h))) child = place_down p c h child

  pub all_down : (b n : ℕ) → Under u b n → State b → State n
  all_down b n here start = start
  all_down b n (below {parent = p} up child) start = down p n (all_down b p up start) child

  -- ---- what is named there is static

  kind_clash : (n : ℕ) (node other : Node) (a b : NodeKind) → slice_get u.nodes n ≡ Some node → slice_get u.nodes n ≡ Some other → node.kind ≡ a → other.kind ≡ b → a ≡ b
  kind_clash n node other a b at there is own =
      let one : ◌≡◌ {A = Option Node} (Some node) (Some other) = sym at ∙ there in
      let same : node ≡ other = cc in
      sym is ∙ (ap (λ (x : Node). x.kind) same ∙ own)

  named_static : (n : ℕ) (node : Node) (e : ℕ) → slice_get u.nodes n ≡ Some node → node.kind ≡ Named e → State n → IsStaticEntity u e
  named_static n node e at is (inl (o, init, lives)) = absurd (subst (λ (k : NodeKind). InitialisesEntity k o) is (subst (λ (x : Option Node). InitialisesIn x o) at init))
  named_static n node e at is (inr (inl (plain {node = other} there number))) = absurd (subst IsNumber (sym (kind_clash n node other (Named e) other.kind at there is refl)) number)
  named_static n node e at is (inr (inl (made {node = other} there makes whole each))) = absurd (subst MakesNumber (sym (kind_clash n node other (Named e) other.kind at there is refl)) makes)
  named_static n node e at is (inr (inr (inl h))) = by h
    where
      by : FixedPointer u n → IsStaticEntity u e
      by (null (x, there, kind, children)) = absurd (let f = kind_clash n node x (Named e) NullValue at there is kind in cc)
      by (address (x, there, kind, children) h) = absurd (let f = kind_clash n node x (Named e) AddressOf at there is kind in cc)
      by (decay (x, there, kind, children) h) = absurd (let f = kind_clash n node x (Named e) Decay at there is kind in cc)
      by (upcast (x, there, kind, children) h) = absurd (let f = kind_clash n node x (Named e) Upcast at there is kind in cc)
      by (converted (x, there, kind, children) p h) = absurd (let f = kind_clash n node x (Named e) Convert at there is kind in cc)
      by (moved {minus = minus} (x, there, kind, children) h k) = absurd (let f = kind_clash n node x (Named e) (PointerAdd minus) at there is kind in cc)
  named_static n node e at is (inr (inr (inr h))) = by h
    where
      by : FixedPlace u n → IsStaticEntity u e
      by (text {bytes = bytes} (x, there, kind, children)) = absurd (let f = kind_clash n node x (Named e) (Text bytes) at there is kind in cc)
      by (function {e = o} (x, there, kind, children)) = absurd (let f = kind_clash n node x (Named e) (FunctionName o) at there is kind in cc)
      by (object {e = o} (x, there, kind, children) static) = let f = kind_clash n node x (Named e) (Named o) at there is kind in let same : o ≡ e = cc in subst (λ (y : ℕ). IsStaticEntity u y) same static
      by (literal {e = o} (x, there, kind, children) static) = absurd (let f = kind_clash n node x (Named e) (Literal o) at there is kind in cc)
      by (member {k = k} (x, there, kind, children) h) = absurd (let f = kind_clash n node x (Named e) (Member k) at there is kind in cc)
      by (target (x, there, kind, children) h) = absurd (let f = kind_clash n node x (Named e) Deref at there is kind in cc)

  literal_static : (n : ℕ) (node : Node) (e : ℕ) → slice_get u.nodes n ≡ Some node → node.kind ≡ Literal e → State n → IsStaticEntity u e
  literal_static n node e at is (inl (o, init, lives)) = absurd (subst (λ (k : NodeKind). InitialisesEntity k o) is (subst (λ (x : Option Node). InitialisesIn x o) at init))
  literal_static n node e at is (inr (inl (plain {node = other} there number))) = absurd (subst IsNumber (sym (kind_clash n node other (Literal e) other.kind at there is refl)) number)
  literal_static n node e at is (inr (inl (made {node = other} there makes whole each))) = absurd (subst MakesNumber (sym (kind_clash n node other (Literal e) other.kind at there is refl)) makes)
  literal_static n node e at is (inr (inr (inl h))) = by h
    where
      by : FixedPointer u n → IsStaticEntity u e
      by (null (x, there, kind, children)) = absurd (let f = kind_clash n node x (Literal e) NullValue at there is kind in cc)
      by (address (x, there, kind, children) h) = absurd (let f = kind_clash n node x (Literal e) AddressOf at there is kind in cc)
      by (decay (x, there, kind, children) h) = absurd (let f = kind_clash n node x (Literal e) Decay at there is kind in cc)
      by (upcast (x, there, kind, children) h) = absurd (let f = kind_clash n node x (Literal e) Upcast at there is kind in cc)
      by (converted (x, there, kind, children) p h) = absurd (let f = kind_clash n node x (Literal e) Convert at there is kind in cc)
      by (moved {minus = minus} (x, there, kind, children) h k) = absurd (let f = kind_clash n node x (Literal e) (PointerAdd minus) at there is kind in cc)
  literal_static n node e at is (inr (inr (inr h))) = by h
    where
      by : FixedPlace u n → IsStaticEntity u e
      by (text {bytes = bytes} (x, there, kind, children)) = absurd (let f = kind_clash n node x (Literal e) (Text bytes) at there is kind in cc)
      by (function {e = o} (x, there, kind, children)) = absurd (let f = kind_clash n node x (Literal e) (FunctionName o) at there is kind in cc)
      by (object {e = o} (x, there, kind, children) static) = absurd (let f = kind_clash n node x (Literal e) (Named o) at there is kind in cc)
      by (literal {e = o} (x, there, kind, children) static) = let f = kind_clash n node x (Literal e) (Literal o) at there is kind in let same : o ≡ e = cc in subst (λ (y : ℕ). IsStaticEntity u y) same static
      by (member {k = k} (x, there, kind, children) h) = absurd (let f = kind_clash n node x (Literal e) (Member k) at there is kind in cc)
      by (target (x, there, kind, children) h) = absurd (let f = kind_clash n node x (Literal e) Deref at there is kind in cc)

  none_local : (o : Option Entity) → IsStaticIn o → (entity : Entity) → o ≡ Some entity → IsLocal entity.storage → ⊥
  none_local None static entity e local = static
  none_local (Some x) static entity e local = let same : x ≡ entity = cc in static (subst (λ (y : Entity). IsLocal y.storage) (sym same) local)

  pub named_global : (b n : ℕ) (node : Node) (e : ℕ) (entity : Entity) → Under u b n → Starts b → slice_get u.nodes n ≡ Some node → node.kind ≡ Named e → entity_at u e ≡ Some entity → IsLocal entity.storage → ⊥
  named_global b n node e entity under start at is there local = none_local (entity_at u e) (named_static n node e at is (all_down b n under (inl start))) entity there local

  pub literal_global : (b n : ℕ) (node : Node) (e : ℕ) (entity : Entity) → Under u b n → Starts b → slice_get u.nodes n ≡ Some node → node.kind ≡ Literal e → entity_at u e ≡ Some entity → IsLocal entity.storage → ⊥
  literal_global b n node e entity under start at is there local = none_local (entity_at u e) (literal_static n node e at is (all_down b n under (inl start))) entity there local

  -- the kinds of nodes that stand there

  fixed_kind : NodeKind → Bool
  fixed_kind (VarArgs o) = false
  fixed_kind (Block es) = false
  fixed_kind (For es c a) = false
  fixed_kind kind = true

  of_kind : (a b : NodeKind) → a ≡ b → fixed_kind b ≡ true → fixed_kind a ≡ true
  of_kind a b e h = ap fixed_kind e ∙ h

  number_kind : (kind : NodeKind) → IsNumber kind → fixed_kind kind ≡ true
  unfolding fixed_kind
  number_kind (Number n) h = refl
  number_kind kind h = absurd h

  makes_kind : (kind : NodeKind) → MakesNumber kind → fixed_kind kind ≡ true
  unfolding fixed_kind
  makes_kind (Arith op) h = refl
  makes_kind Choose h = refl
  makes_kind Convert h = refl
  makes_kind kind h = absurd h

  initial_kind : (kind : NodeKind) (e : ℕ) → InitialisesEntity kind e → fixed_kind kind ≡ true
  unfolding fixed_kind
  initial_kind (Initialise o paths) e h = refl
  initial_kind kind e h = absurd h

  state_kind : (n : ℕ) (node : Node) → slice_get u.nodes n ≡ Some node → State n → fixed_kind node.kind ≡ true
  unfolding fixed_kind
  state_kind n node at (inl (o, init, lives)) = initial_kind node.kind o (subst (λ (x : Option Node). InitialisesIn x o) at init)
  state_kind n node at (inr (inl (plain {node = other} there number))) = of_kind node.kind other.kind (kind_clash n node other node.kind other.kind at there refl refl) (number_kind other.kind number)
  state_kind n node at (inr (inl (made {node = other} there makes whole each))) = of_kind node.kind other.kind (kind_clash n node other node.kind other.kind at there refl refl) (makes_kind other.kind makes)
  state_kind n node at (inr (inr (inl h))) = by h
    where
      by : FixedPointer u n → fixed_kind node.kind ≡ true
      by (null (x, there, kind, children)) = of_kind node.kind NullValue (kind_clash n node x node.kind NullValue at there refl kind) refl
      by (address (x, there, kind, children) h) = of_kind node.kind AddressOf (kind_clash n node x node.kind AddressOf at there refl kind) refl
      by (decay (x, there, kind, children) h) = of_kind node.kind Decay (kind_clash n node x node.kind Decay at there refl kind) refl
      by (upcast (x, there, kind, children) h) = of_kind node.kind Upcast (kind_clash n node x node.kind Upcast at there refl kind) refl
      by (converted (x, there, kind, children) p h) = of_kind node.kind Convert (kind_clash n node x node.kind Convert at there refl kind) refl
      by (moved {minus = minus} (x, there, kind, children) h k) = of_kind node.kind (PointerAdd minus) (kind_clash n node x node.kind (PointerAdd minus) at there refl kind) refl
  state_kind n node at (inr (inr (inr h))) = by h
    where
      by : FixedPlace u n → fixed_kind node.kind ≡ true
      by (text {bytes = bytes} (x, there, kind, children)) = of_kind node.kind (Text bytes) (kind_clash n node x node.kind (Text bytes) at there refl kind) refl
      by (function {e = o} (x, there, kind, children)) = of_kind node.kind (FunctionName o) (kind_clash n node x node.kind (FunctionName o) at there refl kind) refl
      by (object {e = o} (x, there, kind, children) static) = of_kind node.kind (Named o) (kind_clash n node x node.kind (Named o) at there refl kind) refl
      by (literal {e = o} (x, there, kind, children) static) = of_kind node.kind (Literal o) (kind_clash n node x node.kind (Literal o) at there refl kind) refl
      by (member {k = k} (x, there, kind, children) h) = of_kind node.kind (Member k) (kind_clash n node x node.kind (Member k) at there refl kind) refl
      by (target (x, there, kind, children) h) = of_kind node.kind Deref (kind_clash n node x node.kind Deref at there refl kind) refl

  -- so no list of objects, and no list of a function's further arguments

  listless : (kind : NodeKind) → fixed_kind kind ≡ true → listed_by kind ≡ []
  unfolding fixed_kind
  listless (Block es) h = cc
  listless (For es c a) h = cc
  listless kind h = refl

  pub no_list : (b n : ℕ) (node : Node) → Under u b n → Starts b → slice_get u.nodes n ≡ Some node → listed_by node.kind ≡ []
  no_list b n node under start at = listless node.kind (state_kind n node at (all_down b n under (inl start)))

  pub list_global : (b n : ℕ) (node : Node) (e : ℕ) → Under u b n → Starts b → slice_get u.nodes n ≡ Some node → node.kind ≡ VarArgs e → ⊥
  unfolding fixed_kind
  list_global b n node e under start at is = let never : false ≡ true = sym (ap fixed_kind is) ∙ state_kind n node at (all_down b n under (inl start)) in cc
