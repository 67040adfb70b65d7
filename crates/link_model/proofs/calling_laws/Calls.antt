-- From a call up to the body of a function.
use Rattle.std.proofs.Common.{arith, ◌≡◌, ◌<◌, ◌≤◌, ◌+◌, ℕ, zero, suc, nat_eq, Bool, true, false, List, [], ◌∷◌, Option, Some, None, All, length, slice_get, refl, sym, ap, ◌∙◌, subst, ◌⊎◌, inl, inr}
use Rattle.std.specs.Prelude.{IfSome}
use Rattle.std.proofs.lemmas.Bool.{eqb-true, eqb-false}
use Rattle.std.proofs.lemmas.Option.{slice_get_within}
use Rattle.std.proofs.lemmas.List.Elements.{All-head, All-tail}
use Rattle.c_types.specs.Table.{type_of}
use Rattle.core_tree.specs.declared.node.Node.{Node}
use Rattle.core_tree.specs.declared.node.Entity.{Entity}
use Rattle.core_tree.specs.declared.node.Storage.{Storage}
use Rattle.core_tree.specs.declared.node.Storage.TheVariants.{Static, Automatic, FunctionBody, Parameter, Declared}
use Rattle.core_tree.specs.declared.node.NodeKind.{NodeKind}
use Rattle.core_tree.specs.declared.node.NodeKind.TheVariants.{Named, Text, Literal, FunctionName, Deref, Member, Number, NullValue, AddressOf, Decay, PointerAdd, Convert, Upcast, Choose, CallNode, Arith, Initialise}
use Rattle.core_tree.specs.Typed.{CoreTrees}
use Rattle.core_tree.specs.Rows.{Initialises, InitialisesIn, InitialisesEntity, RowOf, Has}
use Rattle.core_tree.specs.Range.{Under, here, below, IsChild, entity_at}
use Rattle.core_tree.specs.Valid.{IsLocal, IsOwned, HasBody, IsFunctionBody, IsObjectBody, UnderBody, InBodyOf, InBody, InSomeBody, InOwnersBody, InOwnerIn, IsInOwner, IsLiteralOf, IsLasting, IsLiteral, NoLiteral, IsNamedOrMade, NamesUnder, IsLister, Listed, IsListed, KindIs, IsStaticEntity, IsStaticIn, IsNumber, MakesNumber, FixedNumber, plain, made, FixedPlace, text, function, object, literal, member, target, FixedPointer, null, address, decay, upcast, converted, moved, IsFixed, LivesForTheRun, HoldsFixed}
use Rattle.core_tree.proofs.Climb.{child_has, has_child, parent_within, child_before}
use Rattle.link_model.specs.calling_laws.Calling.{AreOwned, CallsStand}

abbrev is_call : NodeKind → Bool
is_call CallNode = true
is_call kind = false

abbrev call_in : Option Node → Bool
call_in None = false
call_in (Some n) = is_call n.kind

some_same : {A : Type 0} → {x y : A} → ◌≡◌ {A = Option A} (Some x) (Some y) → x ≡ y
some_same e = cc

of_all : (P : ℕ → Type 0) (list : List ℕ) (k j : ℕ) → All P list → slice_get list k ≡ Some j → P j
of_all P [] k j all e = cc
of_all P (x ∷ list) zero j all e = subst P (let same : x ≡ j = cc in same) (All-head P x list all)
of_all P (x ∷ list) (suc k) j all e = of_all P list k j (All-tail P x list all) e

no_part : (c : ℕ) → Has [] c → ⊥
no_part c h = cc

one_part : (p c : ℕ) → Has (p ∷ []) c → p ≡ c
one_part p c (zero, e) = cc
one_part p c (suc k, e) = cc

module _ (u : CoreTrees) where
  abbrev IsCall : ℕ → Type 0
  IsCall n = call_in (slice_get u.nodes n) ≡ true

  -- from a node down: there, or by one of its parts
  down : (b n : ℕ) → Under u b n → (b ≡ n) ⊎ ((c : ℕ) × IsChild u b c × Under u c n)
  down b n here = inl refl
  down b n (below {parent = p} up child) = by (down b p up)
    where
      by : (b ≡ p) ⊎ ((c : ℕ) × IsChild u b c × Under u c p) → (b ≡ n) ⊎ ((c : ℕ) × IsChild u b c × Under u c n)
      by (inl e) = inr (n, subst (λ (x : ℕ). IsChild u x n) (sym e) child, here)
      by (inr (c, first, rest)) = inr (c, first, below rest child)

  through : (a b n : ℕ) → Under u a b → Under u b n → Under u a n
  through a b n up here = up
  through a b n up (below {parent = p} more child) = below (through a b p up more) child

  -- no call is at a node of another kind
  other_kind : (n : ℕ) (node : Node) (kind : NodeKind) → slice_get u.nodes n ≡ Some node → node.kind ≡ kind → is_call kind ≡ false → IsCall n → ⊥
  other_kind n node kind at e no_call call = let none : true ≡ false = sym call ∙ (ap call_in at ∙ (ap is_call e ∙ no_call)) in cc

  parts : (n c : ℕ) (node : Node) (list : List ℕ) → slice_get u.nodes n ≡ Some node → node.children ≡ list → IsChild u n c → Has list c
  parts n c node list at e child = subst (λ (l : List ℕ). Has l c) e (child_has u n c node at child)

  module _ (own : AreOwned u) where
    lower : (n c : ℕ) → IsChild u n c → c < n
    lower n c child = child_before u own.in_range n c child

    number_call : (kind : NodeKind) → IsNumber kind → is_call kind ≡ false
    number_call (Number n) h = refl
    number_call kind h = absurd h

    making_call : (kind : NodeKind) → MakesNumber kind → is_call kind ≡ false
    making_call (Arith op) h = refl
    making_call Choose h = refl
    making_call Convert h = refl
    making_call kind h = absurd h

    number_bare : (kind : NodeKind) (children : List ℕ) (c : ℕ) (node : Node) → IsNumber kind → RowOf u kind (type_of u.types node.ty.0) children → Has children c → ⊥
    number_bare (Number n) [] c node h row has = no_part c has
    number_bare (Number n) (d ∷ rest) c node h row has = absurd row
    number_bare kind children c node h row has = absurd h

    -- what is fixed has no call in it
    number_free : (c n : ℕ) → FixedNumber u c → Under u c n → IsCall n → ⊥
    number_free c n (plain {node = node} at h) under call = by (down c n under)
      where
        by : (c ≡ n) ⊎ ((d : ℕ) × IsChild u c d × Under u d n) → ⊥
        by (inl e) = other_kind c node node.kind at refl (number_call node.kind h) (subst IsCall (sym e) call)
        by (inr (d, child, rest)) = number_bare node.kind node.children d node h (own.rows c node at) (child_has u c d node at child)
    number_free c n (made {node = node} at h integer each) under call = by (down c n under) (λ k d e rest. number_free d n (each k d e) rest call)
      where
        by : (c ≡ n) ⊎ ((d : ℕ) × IsChild u c d × Under u d n) → ((k d : ℕ) → slice_get node.children k ≡ Some d → Under u d n → ⊥) → ⊥
        by (inl e) later = other_kind c node node.kind at refl (making_call node.kind h) (subst IsCall (sym e) call)
        by (inr (d, child, rest)) later = let has = child_has u c d node at child in later has.0 d has.1 rest

    -- nothing of an object that lives for the whole run has a call in it, below some node
    abbrev Free : ℕ → Type 0
    Free bound = (b e : ℕ) (entity : Entity) → b < bound → entity_at u e ≡ Some entity → entity.storage ≡ Static → Initialises u b e → (n : ℕ) → Under u b n → IsCall n → ⊥

    -- a node over one part, and one over none
    over_one : (c n p : ℕ) (kind : NodeKind) → KindIs u c kind (p ∷ []) → is_call kind ≡ false → (IsChild u c p → Under u p n → ⊥) → Under u c n → IsCall n → ⊥
    over_one c n p kind (node, at, e, children) no_call later under call = by (down c n under)
      where
        by : (c ≡ n) ⊎ ((d : ℕ) × IsChild u c d × Under u d n) → ⊥
        by (inl same) = other_kind c node kind at e no_call (subst IsCall (sym same) call)
        by (inr (d, child, rest)) =
            let only = one_part p d (parts c d node (p ∷ []) at children child) in
            later (subst (λ (x : ℕ). IsChild u c x) (sym only) child) (subst (λ (x : ℕ). Under u x n) (sym only) rest)

    two_parts : (p q c : ℕ) → Has (p ∷ q ∷ []) c → (p ≡ c) ⊎ (q ≡ c)
    two_parts p q c (zero, e) = inl cc
    two_parts p q c (suc zero, e) = inr cc
    two_parts p q c (suc (suc k), e) = cc

    over_two : (c n p q : ℕ) (kind : NodeKind) → KindIs u c kind (p ∷ q ∷ []) → is_call kind ≡ false → (IsChild u c p → Under u p n → ⊥) → (Under u q n → ⊥) → Under u c n → IsCall n → ⊥
    over_two c n p q kind (node, at, e, children) no_call first second under call = by (down c n under)
      where
        among : (d : ℕ) → IsChild u c d → Under u d n → (p ≡ d) ⊎ (q ≡ d) → ⊥
        among d child rest (inl same) = first (subst (λ (x : ℕ). IsChild u c x) (sym same) child) (subst (λ (x : ℕ). Under u x n) (sym same) rest)
        among d child rest (inr same) = second (subst (λ (x : ℕ). Under u x n) (sym same) rest)

        by : (c ≡ n) ⊎ ((d : ℕ) × IsChild u c d × Under u d n) → ⊥
        by (inl same) = other_kind c node kind at e no_call (subst IsCall (sym same) call)
        by (inr (d, child, rest)) = among d child rest (two_parts p q d (parts c d node (p ∷ q ∷ []) at children child))

    over_none : (c n : ℕ) (kind : NodeKind) → KindIs u c kind [] → is_call kind ≡ false → Under u c n → IsCall n → ⊥
    over_none c n kind (node, at, e, children) no_call under call = by (down c n under)
      where
        by : (c ≡ n) ⊎ ((d : ℕ) × IsChild u c d × Under u d n) → ⊥
        by (inl same) = other_kind c node kind at e no_call (subst IsCall (sym same) call)
        by (inr (d, child, rest)) = no_part d (parts c d node [] at children child)

    static_is : (o : Option Entity) (entity : Entity) → o ≡ Some entity → IsStaticIn o → IsLasting o → entity.storage ≡ Static
    static_is None entity e h last = cc
    static_is (Some x) entity e h last = by last
      where
        same : x ≡ entity
        same = some_same e

        by : (x.storage ≡ Static) ⊎ (x.storage ≡ Automatic) → entity.storage ≡ Static
        by (inl s) = sym (ap (λ (y : Entity). y.storage) same) ∙ s
        by (inr a) = absurd (h (subst IsLocal (sym a) tt))

    literal_free : (bound c n e i : ℕ) → Free bound → c < bound → KindIs u c (Literal e) (i ∷ []) → IsStaticEntity u e → Under u c n → IsCall n → ⊥
    literal_free bound c n e i free lt is static under call =
        over_one c n i (Literal e) is refl
        (λ child rest.
        let (node, at, kind, children) = is in
        let row : RowOf u (Literal e) (type_of u.types node.ty.0) (i ∷ []) = subst (λ (l : List ℕ). RowOf u (Literal e) (type_of u.types node.ty.0) l) children (subst (λ (k : NodeKind). RowOf u k (type_of u.types node.ty.0) node.children) kind (own.rows c node at)) in
        let (entity, stands, body, no_function, no_declaration) = own.initialised i e row.1 in
        let last : IsLasting (entity_at u e) = (subst (λ (k : NodeKind). IsLiteral u c k) kind (own.literals c node at)).0 in
        let less = lower c i child in
        free i e entity (omega (arith, less, lt)) stands (static_is (entity_at u e) entity stands static last) row.1 n rest call) under call

    mutual
      place_free : (bound c n : ℕ) → Free bound → c < bound → FixedPlace u c → Under u c n → IsCall n → ⊥
      place_free bound c n free lt (text {bytes = bytes} is) under call = over_none c n (Text bytes) is refl under call
      place_free bound c n free lt (function {e = e} is) under call = over_none c n (FunctionName e) is refl under call
      place_free bound c n free lt (object {e = e} is static) under call = over_none c n (Named e) is refl under call
      place_free bound c n free lt (literal {e = e} {i = i} is static) under call = literal_free bound c n e i free lt is static under call
      place_free bound c n free lt (member {k = k} {p = p} is within) under call =
          over_one c n p (Member k) is refl (λ child rest. place_free bound p n free (let less = lower c p child in omega (arith, less, lt)) within rest call) under call
      place_free bound c n free lt (target {v = v} is within) under call =
          over_one c n v Deref is refl (λ child rest. pointer_free bound v n free (let less = lower c v child in omega (arith, less, lt)) within rest call) under call

      pointer_free : (bound c n : ℕ) → Free bound → c < bound → FixedPointer u c → Under u c n → IsCall n → ⊥
      pointer_free bound c n free lt (null is) under call = over_none c n NullValue is refl under call
      pointer_free bound c n free lt (address {p = p} is within) under call =
          over_one c n p AddressOf is refl (λ child rest. place_free bound p n free (let less = lower c p child in omega (arith, less, lt)) within rest call) under call
      pointer_free bound c n free lt (decay {p = p} is within) under call =
          over_one c n p Decay is refl (λ child rest. place_free bound p n free (let less = lower c p child in omega (arith, less, lt)) within rest call) under call
      pointer_free bound c n free lt (upcast {v = v} is within) under call =
          over_one c n v Upcast is refl (λ child rest. pointer_free bound v n free (let less = lower c v child in omega (arith, less, lt)) within rest call) under call
      pointer_free bound c n free lt (converted {v = v} is type within) under call =
          over_one c n v Convert is refl (λ child rest. pointer_free bound v n free (let less = lower c v child in omega (arith, less, lt)) within rest call) under call
      pointer_free bound c n free lt (moved {v = v} {i = i} {minus = minus} is within index) under call =
          over_two c n v i (PointerAdd minus) is refl (λ child rest. pointer_free bound v n free (let less = lower c v child in omega (arith, less, lt)) within rest call) (λ rest. number_free i n index rest call) under call

    -- the kind of an initialiser's node
    initial_node : (b e : ℕ) (node : Node) → slice_get u.nodes b ≡ Some node → Initialises u b e → InitialisesEntity node.kind e
    initial_node b e node at init = subst (λ (o : Option Node). InitialisesIn o e) at init

    initial_call : (kind : NodeKind) (e : ℕ) → InitialisesEntity kind e → is_call kind ≡ false
    initial_call (Initialise o paths) e h = refl
    initial_call kind e h = absurd h

    holds_fixed : (kind : NodeKind) (e : ℕ) (children : List ℕ) → InitialisesEntity kind e → HoldsFixed u kind children → LivesForTheRun (entity_at u e) → All (λ c. IsFixed u c) children
    holds_fixed (Initialise o paths) e children h holds lives = holds (subst (λ (x : ℕ). LivesForTheRun (entity_at u x)) (sym h) lives)
    holds_fixed kind e children h holds lives = absurd h

    static_free_at : (b e : ℕ) (entity : Entity) → Free b → entity_at u e ≡ Some entity → entity.storage ≡ Static → Initialises u b e → (n : ℕ) → Under u b n → IsCall n → ⊥
    static_free_at b e entity free stands storage init n under call = by (slice_get u.nodes b) refl init
      where
        by : (o : Option Node) → slice_get u.nodes b ≡ o → InitialisesIn o e → ⊥
        by None at h = absurd h
        by (Some node) at h = split (down b n under)
          where
            fixed : (c : ℕ) → IsFixed u c → c < b → Under u c n → ⊥
            fixed c (inl number) lt rest = number_free c n number rest call
            fixed c (inr pointer) lt rest = pointer_free b c n free lt pointer rest call

            lives : LivesForTheRun (entity_at u e)
            lives = subst LivesForTheRun (sym stands) storage

            split : (b ≡ n) ⊎ ((c : ℕ) × IsChild u b c × Under u c n) → ⊥
            split (inl e2) = other_kind b node node.kind at refl (initial_call node.kind e h) (subst IsCall (sym e2) call)
            split (inr (c, child, rest)) =
                let has = child_has u b c node at child in
                fixed c (of_all (λ (x : ℕ). IsFixed u x) node.children has.0 c (holds_fixed node.kind e node.children h (own.fixed b node at) lives) has.1) (lower b c child) rest

    free_below : (k : ℕ) → Free k
    free_below zero b e entity lt stands storage init n under call = absurd (omega (arith, lt))
    free_below (suc k) b e entity lt stands storage init n under call =
        static_free_at b e entity (λ c d other less. free_below k c d other (omega (arith, less, lt))) stands storage init n under call

    -- a body that a node stands under
    record Above (n : ℕ) : Type 0 where
      number : ℕ
      entity : Entity
      stands : entity_at u number ≡ Some entity
      top : ℕ
      body : entity.body ≡ Some top
      under : Under u top n

    above_by : (k n : ℕ) → length u.nodes ≤ n + k → n < length u.nodes → Above n
    above_by zero n long lt = absurd (omega (arith, long, lt))
    above_by (suc k) n long lt = by (own.no_other_node n lt) (λ p less in_range. above_by k p (omega (arith, long, less)) in_range)
      where
        by : ((e : ℕ) × (entity : Entity) × (entity_at u e ≡ Some entity) × (entity.body ≡ Some n)) ⊎ ((p : ℕ) × IsChild u p n) → ((p : ℕ) → n < p → p < length u.nodes → Above p) → Above n
        by (inl (e, entity, at, body)) later = record { number = e; entity = entity; stands = at; top = n; body = body; under = here }
        by (inr (p, child)) later =
            let up = later p (lower p n child) (parent_within u p n child) in
            record { number = up.number; entity = up.entity; stands = up.stands; top = up.top; body = up.body; under = below up.under child }

    -- a node under one that stands in the body of a function
    in_function : (f x n : ℕ) → InBody u f x → Under u x n → InSomeBody u n
    in_function f x n h under = by (entity_at u f) refl h
      where
        by : (o : Option Entity) → entity_at u f ≡ o → InBodyOf u o x → InSomeBody u n
        by None at h = absurd h
        by (Some entity) at (is_function, body) = with_body entity.body refl body (own.bodied f entity at)
          where
            function_storage : (b : ℕ) → IsFunctionBody u entity b ⊎ IsObjectBody u f entity b → entity.storage ≡ FunctionBody
            function_storage b (inl h) = h.storage
            function_storage b (inr h) = absurd (h.object is_function)

            with_body : (body : Option ℕ) → entity.body ≡ body → UnderBody u body x → HasBody u f entity entity.body → InSomeBody u n
            with_body None e h has = absurd h
            with_body (Some b) e h has =
                let told = subst (λ (o : Option ℕ). HasBody u f entity o) e has in
                record { some = (f, entity, at, (function_storage b told.0, subst (λ (o : Option ℕ). UnderBody u o n) (sym e) (through b x n h under))) }

    -- some literal makes the entity, or none does
    abbrev SomeLiteral : ℕ → Type 0
    SomeLiteral e = (l : ℕ) × (node : Node) × (slice_get u.nodes l ≡ Some node) × IsLiteralOf node.kind e

    abbrev NoneBelow : ℕ → ℕ → Type 0
    NoneBelow e k = (l : ℕ) (node : Node) → l < k → slice_get u.nodes l ≡ Some node → IsLiteralOf node.kind e → ⊥

    literal_kind : (kind : NodeKind) (e : ℕ) → IsLiteralOf kind e ⊎ (IsLiteralOf kind e → ⊥)
    literal_kind (Literal o) e = by (nat_eq o e) refl
      where
        by : (b : Bool) → nat_eq o e ≡ b → (o ≡ e) ⊎ (o ≡ e → ⊥)
        by true h = inl (eqb-true o e h)
        by false h = inr (eqb-false o e h)
    literal_kind kind e = inr (λ h. absurd h)

    find_literal : (e k : ℕ) → SomeLiteral e ⊎ NoneBelow e k
    find_literal e zero = inr (λ l node lt. absurd (omega (arith, lt)))
    find_literal e (suc k) = by (find_literal e k) (slice_get u.nodes k) refl
      where
        last : (node : Node) → slice_get u.nodes k ≡ Some node → NoneBelow e k → IsLiteralOf node.kind e ⊎ (IsLiteralOf node.kind e → ⊥) → SomeLiteral e ⊎ NoneBelow e (suc k)
        last node at none (inl h) = inl (k, node, at, h)
        last node at none (inr no_literal) = inr (λ l other lt stood is. each l other lt stood is (nat_eq l k) refl)
          where
            each : (l : ℕ) (other : Node) → l < suc k → slice_get u.nodes l ≡ Some other → IsLiteralOf other.kind e → (b : Bool) → nat_eq l k ≡ b → ⊥
            each l other lt stood is true h =
                let same = eqb-true l k h in
                let one : other ≡ node = some_same (sym stood ∙ (ap (λ (x : ℕ). slice_get u.nodes x) same ∙ at)) in
                no_literal (subst (λ (x : Node). IsLiteralOf x.kind e) one is)
            each l other lt stood is false h = none l other (let apart = eqb-false l k h in omega (arith, lt, apart)) stood is

        by : SomeLiteral e ⊎ NoneBelow e k → (o : Option Node) → slice_get u.nodes k ≡ o → SomeLiteral e ⊎ NoneBelow e (suc k)
        by (inl found) o at = inl found
        by (inr none) (Some node) at = last node at none (literal_kind node.kind e)
        by (inr none) None at = inr (λ l other lt stood is. each l other lt stood is (nat_eq l k) refl)
          where
            each : (l : ℕ) (other : Node) → l < suc k → slice_get u.nodes l ≡ Some other → IsLiteralOf other.kind e → (b : Bool) → nat_eq l k ≡ b → ⊥
            each l other lt stood is true h = let no_node : None ≡ Some other = sym at ∙ (ap (λ (x : ℕ). slice_get u.nodes x) (sym (eqb-true l k h)) ∙ stood) in cc
            each l other lt stood is false h = none l other (let apart = eqb-false l k h in omega (arith, lt, apart)) stood is

    named_initial : (kind : NodeKind) (e : ℕ) → InitialisesEntity kind e → IsNamedOrMade kind e
    named_initial (Initialise o paths) e h = h
    named_initial kind e h = absurd h

    -- the initialiser of an automatic object stands in the body of a function
    module _ (n b e : ℕ) (entity : Entity) (stands : entity_at u e ≡ Some entity) (body : entity.body ≡ Some b) (init : Initialises u b e) (storage : entity.storage ≡ Automatic) (under : Under u b n) where
      by_list : (f : ℕ) → Listed u e f → InSomeBody u n
      unfolding IsLister
      by_list f h =
          let (at, node, stood, lists) = h.lister.some in
          by (slice_get u.nodes b) refl init at lists.1 lists.2
        where
          by : (o : Option Node) → slice_get u.nodes b ≡ o → InitialisesIn o e → (at : ℕ) → InBody u f at → NamesUnder u e at → InSomeBody u n
          by None stood h at in_body names = absurd h
          by (Some node) stood h at in_body names = in_function f at n in_body (through at b n (names.each b node stood (named_initial node.kind e h)) under)

      owned_literal : (l : ℕ) (node : Node) → slice_get u.nodes l ≡ Some node → IsLiteralOf node.kind e → (f : ℕ) → entity.owner ≡ Some f → InSomeBody u n
      owned_literal l node at is f owner = by node.kind is (own.rows l node at) (own.in_owner l node at) refl
        where
          child_is : (i : ℕ) → Initialises u i e → i ≡ b
          child_is i h =
              let (other, there, has_body, no_function, no_declaration) = own.initialised i e h in
              let same : other ≡ entity = some_same (sym there ∙ stands) in
              some_same (sym has_body ∙ (ap (λ (x : Entity). x.body) same ∙ body))

          one : (o : ℕ) (children : List ℕ) → o ≡ e → node.children ≡ children → RowOf u (Literal o) (type_of u.types node.ty.0) children → IsChild u l b
          one o [] same e2 row = absurd row
          one o (i ∷ []) same e2 row =
              let child = child_is i (subst (λ (x : ℕ). Initialises u i x) same row.1) in
              has_child u l b node at (0, ap (λ (list : List ℕ). slice_get list 0) e2 ∙ ap Some child)
          one o (i ∷ j ∷ rest) same e2 row = absurd row

          by : (kind : NodeKind) → IsLiteralOf kind e → RowOf u kind (type_of u.types node.ty.0) node.children → IsInOwner u l kind → node.kind ≡ node.kind → InSomeBody u n
          by (Literal o) same row in_owner again =
              let rule : InOwnerIn u (Some entity) l = subst (λ (x : Option Entity). InOwnerIn u x l) (ap (λ (x : ℕ). entity_at u x) same ∙ stands) in_owner in
              let owners : InOwnersBody u entity.owner l = rule (subst IsLocal (sym storage) tt) in
              let in_body : InBody u f l = subst (λ (x : Option ℕ). InOwnersBody u x l) owner owners in
              in_function f l n in_body (through l b n (below here (one o node.children same refl row)) under)
          by kind h row in_owner again = absurd h

      automatic : InSomeBody u n
      automatic = with_owner entity.owner refl (own.owned e entity stands) (own.listed e entity stands)
        where
          with_owner : (o : Option ℕ) → entity.owner ≡ o → IsOwned u entity.storage o → IsListed u e entity → InSomeBody u n
          with_owner None owner owned listed = absurd (owned (subst IsLocal (sym storage) tt))
          with_owner (Some f) owner owned listed = found (find_literal e (length u.nodes))
            where
              found : SomeLiteral e ⊎ NoneBelow e (length u.nodes) → InSomeBody u n
              found (inl (l, node, at, is)) = owned_literal l node at is f owner
              found (inr none) =
                  let no_literal : NoLiteral u e = record { each = λ l node at. none l node (slice_get_within u.nodes l node at) at } in
                  by_list f (subst (λ (x : Option ℕ). IfSome x (λ f. Listed u e f)) owner (listed storage no_literal))

    call_stands : (n : ℕ) → n < length u.nodes → IsCall n → InSomeBody u n
    call_stands n lt call = by_body (above_by (length u.nodes) n (omega arith) lt)
      where
        object_body : (up : Above n) → Initialises u up.top up.number → (storage : Storage) → up.entity.storage ≡ storage → InSomeBody u n
        object_body up init Static s = absurd (free_below (suc up.top) up.top up.number up.entity (omega arith) up.stands s init n up.under call)
        object_body up init Automatic s = automatic n up.top up.number up.entity up.stands up.body init s up.under
        object_body up init FunctionBody s =
            let (other, there, has_body, not_function, not_declared) = own.initialised up.top up.number init in
            absurd (not_function (ap (λ (x : Entity). x.storage) (let same : other ≡ up.entity = some_same (sym there ∙ up.stands) in same) ∙ s))
        object_body up init Declared s =
            let (other, there, has_body, not_function, not_declared) = own.initialised up.top up.number init in
            absurd (not_declared (ap (λ (x : Entity). x.storage) (let same : other ≡ up.entity = some_same (sym there ∙ up.stands) in same) ∙ s))
        object_body up init Parameter s = let none : None ≡ Some up.top = sym (own.parameters up.number up.entity up.stands s) ∙ up.body in cc

        by : (up : Above n) → IsFunctionBody u up.entity up.top ⊎ IsObjectBody u up.number up.entity up.top → InSomeBody u n
        by up (inl h) = record { some = (up.number, up.entity, up.stands, (h.storage, subst (λ (o : Option ℕ). UnderBody u o n) (sym up.body) up.under)) }
        by up (inr h) = object_body up h.initialises up.entity.storage refl

        by_body : Above n → InSomeBody u n
        by_body up = by up (subst (λ (o : Option ℕ). HasBody u up.number up.entity o) up.body (own.bodied up.number up.entity up.stands)).0

pub calls_stand : CallsStand
calls_stand u own n node at call = call_stands u own n (slice_get_within u.nodes n node at) (ap call_in at ∙ ap is_call call)
