-- What a use of a name names: an entity without linkage is the one that the use is paired with.
use Rattle.std.proofs.Common.{◌≡◌, ◌==◌, ◌&&◌, nat_eq, ℕ, zero, suc, Bool, true, false, cond, not, List, [], ◌∷◌, ◌++◌, Option, Some, None, slice_get, refl, sym, ap, ◌∙◌, subst}
use Rattle.std.specs.Prelude.{⊤, filter, is_some, if◌then◌else◌}
use Rattle.std.proofs.lemmas.Bool.{eqb-true, eqb-false}
use Rattle.c_types.specs.Trees.{Ctype}
use Rattle.c_scope.specs.declared.kinds.Declared.{Declared}
use Rattle.c_scope.specs.Known.{those_at, is_at}
use Rattle.c_senses.specs.Names.{has_linkage, all_linked, with_outer, linked_along, linked_before, made_before, entry_of, ordinary_at, scopes_at, typing_declarations}
use Rattle.c_senses.specs.Tree.{Source}
use Rattle.c_senses.specs.Sense.{Sense}
use Rattle.c_senses.specs.Entities.{keep, first_of, last_of, types_of, all_together, own_type, type_behind, is_open, has_earlier_length, named_by, entity_of, is_linked, is_internal, is_internal_of, internal_among, initialiser_for}
use Rattle.declaration_laws.specs.definition_laws.scope_laws.Scoped.{DeclaredOnce}

pub clash : {X : Type 0} → (b : Bool) → b ≡ true → b ≡ false → X
clash true e f = cc
clash false e f = cc

abbrev pub In : List Declared → Declared → Type 0
In ds d = (k : ℕ) × (slice_get ds k ≡ Some d)

left_true : (a b : Bool) → (a && b) ≡ true → a ≡ true
left_true true b e = refl
left_true false b e = cc

right_true : (a b : Bool) → (a && b) ≡ true → b ≡ true
right_true true b e = e
right_true false b e = cc

pub entry_in : (ds : List Declared) (leaf : ℕ) (d : Declared) → entry_of ds leaf ≡ Some d → In ds d × (d.node ≡ leaf)
entry_in [] leaf d e = cc
entry_in (x ∷ xs) leaf d e = by (x.node == leaf) refl e (λ f. entry_in xs leaf d f)
  where
    by : (b : Bool) → nat_eq x.node leaf ≡ b → cond b (Some x) (entry_of xs leaf) ≡ Some d → (entry_of xs leaf ≡ Some d → In xs d × (d.node ≡ leaf)) → In (x ∷ xs) d × (d.node ≡ leaf)
    by true is e later = let same : x ≡ d = cc in ((0, ap (λ (y : Declared). Some y) same), subst (λ (y : Declared). y.node ≡ leaf) same (eqb-true x.node leaf is))
    by false is e later = let h = later e in ((suc h.0.0, h.0.1), h.1)

-- a declaration of a list is found at its leaf
entry_found : (ds : List Declared) (d : Declared) → In ds d → (y : Declared) × (entry_of ds d.node ≡ Some y)
entry_found [] d (k, e) = cc
entry_found (x ∷ xs) d (k, e) = by (x.node == d.node) refl k e (λ j f. entry_found xs d (j, f))
  where
    same_no : nat_eq x.node d.node ≡ false → x ≡ d → ⊥
    same_no off same = eqb-false x.node d.node off (ap (λ (y : Declared). y.node) same)

    by : (b : Bool) → nat_eq x.node d.node ≡ b → (k : ℕ) → slice_get (x ∷ xs) k ≡ Some d → ((j : ℕ) → slice_get xs j ≡ Some d → (y : Declared) × (entry_of xs d.node ≡ Some y)) → (y : Declared) × (cond b (Some x) (entry_of xs d.node) ≡ Some y)
    by true is k e later = (x, refl)
    by false is zero e later = absurd (same_no is (let same : x ≡ d = cc in same))
    by false is (suc k) e later = later k e

-- ---- declarations with linkage

abbrev AllLinked : List Declared → List Declared → Type 0
AllLinked all [] = ⊤
AllLinked all (d ∷ rest) = (In all d × (has_linkage d ≡ true)) × AllLinked all rest

AllIn : List Declared → List Declared → Type 0
AllIn all [] = ⊤
AllIn all (d ∷ rest) = In all d × AllIn all rest

in_later : (x : Declared) (all ds : List Declared) → AllIn all ds → AllIn (x ∷ all) ds
unfolding AllIn
in_later x all [] h = tt
in_later x all (d ∷ ds) h = ((suc h.0.0, h.0.1), in_later x all ds h.1)

all_in : (ds : List Declared) → AllIn ds ds
unfolding AllIn
all_in [] = tt
all_in (d ∷ ds) = ((0, refl), in_later d ds ds (all_in ds))

made_in : (leaf : ℕ) (all ds : List Declared) → AllIn all ds → AllIn all (made_before leaf ds)
unfolding AllIn
made_in leaf all [] h = tt
made_in leaf all (d ∷ ds) h = by (d.node == leaf) (made_in leaf all ds h.1)
  where
    by : (b : Bool) → AllIn all (made_before leaf ds) → AllIn all (if b then [] else d ∷ made_before leaf ds)
    by true more = tt
    by false more = (h.0, more)

those_in : (test : Declared → Bool) (all ds : List Declared) → AllIn all ds → AllIn all (filter test ds)
unfolding AllIn
those_in test all [] h = tt
those_in test all (d ∷ ds) h = by (test d) (those_in test all ds h.1)
  where
    by : (b : Bool) → AllIn all (filter test ds) → AllIn all (cond b (d ∷ filter test ds) (filter test ds))
    by true more = (h.0, more)
    by false more = more

linked_all : (all ds : List Declared) → AllIn all ds → all_linked ds ≡ true → AllLinked all ds
unfolding AllIn
linked_all all [] h e = tt
linked_all all (d ∷ ds) h e = ((h.0, left_true (has_linkage d) (all_linked ds) e), linked_all all ds h.1 (right_true (has_linkage d) (all_linked ds) e))

linked_both : (all a b : List Declared) → AllLinked all a → AllLinked all b → AllLinked all (a ++ b)
linked_both all [] b h k = k
linked_both all (d ∷ a) b h k = (h.0, linked_both all a b h.1 k)

outer_linked : (all here outer : List Declared) → AllIn all here → AllLinked all outer → AllLinked all (with_outer here outer)
outer_linked all here outer h k = by (all_linked here) refl
  where
    by : (b : Bool) → all_linked here ≡ b → AllLinked all (if b then outer ++ here else [])
    by true e = linked_both all outer here k (linked_all all here h e)
    by false e = tt

along_linked : (scopes : List ℕ) (symbol : ℕ) (all ds : List Declared) → AllIn all ds → AllLinked all (linked_along scopes symbol ds)
along_linked [] symbol all ds h = tt
along_linked (scope ∷ scopes) symbol all ds h = outer_linked all (those_at scope symbol ds) (linked_along scopes symbol ds) (those_in (is_at scope symbol) all ds h) (along_linked scopes symbol all ds h)

before_linked : (s : Source) (o : Option Declared) → AllLinked s.declared.ordinary (linked_before s o)
before_linked s None = tt
before_linked s (Some d) = along_linked (scopes_at s d.node) d.symbol s.declared.ordinary (made_before d.node s.declared.ordinary) (made_in d.node s.declared.ordinary s.declared.ordinary (all_in s.declared.ordinary))

module _ (s : Source) (sense : ℕ → Sense) (once : DeclaredOnce s) where
  -- what is declared with linkage is linked
  linked_node : (d : Declared) → In s.declared.ordinary d → has_linkage d ≡ true → is_linked s sense d.node ≡ true
  linked_node d has linked = by (entry_found s.declared.ordinary d has)
    where
      by : (y : Declared) × (entry_of s.declared.ordinary d.node ≡ Some y) → is_linked s sense d.node ≡ true
      by (y, e) =
          let own = entry_in s.declared.ordinary d.node y e in
          let place = once.names has.0 own.0.0 d y has.1 own.0.1 (sym own.1) in
          let one : ◌≡◌ {A = Option Declared} (Some d) (Some y) = sym has.1 ∙ (ap (λ (k : ℕ). slice_get s.declared.ordinary k) place ∙ own.0.1) in
          let same : d ≡ y = cc in
          ap (λ (o : Option Declared). elim o as (λ _. Bool) [ None ↦ false | Some z ↦ has_linkage z ]) e ∙ subst (λ (z : Declared). has_linkage z ≡ true) same linked

  last_linked : (leaf : ℕ) (ds : List Declared) → AllLinked s.declared.ordinary ds → is_linked s sense leaf ≡ true → is_linked s sense (last_of s sense leaf ds) ≡ true
  last_linked leaf [] h linked = linked
  last_linked leaf (d ∷ ds) h linked = last_linked d.node ds h.1 (linked_node d h.0.0 h.0.1)

  -- an internal name is linked, whichever of its declarations it is known by
  kept_first : (test : Declared → Bool) (ds : List Declared) (y : Declared) (rest : List Declared) → keep s sense test ds ≡ y ∷ rest → test y ≡ true
  kept_first test [] y rest e = cc
  kept_first test (d ∷ ds) y rest e = by (test d) refl e (λ f. kept_first test ds y rest f)
    where
      by : (b : Bool) → test d ≡ b → (if b then d ∷ keep s sense test ds else keep s sense test ds) ≡ y ∷ rest → (keep s sense test ds ≡ y ∷ rest → test y ≡ true) → test y ≡ true
      by true is e later = let same : d ≡ y = cc in subst (λ (z : Declared). test z ≡ true) same is
      by false is e later = later e

  among_first : (o : Option Declared) (y : Declared) (rest : List Declared) → internal_among s sense s.declared.ordinary o ≡ y ∷ rest → is_linked s sense y.node ≡ true
  among_first None y rest e = cc
  among_first (Some d) y rest e =
      let passes = kept_first (is_internal_of s sense d.symbol) s.declared.ordinary y rest e in
      left_true (is_linked s sense y.node) _ (right_true (y.symbol == d.symbol) (is_internal s sense y.node) passes)

  first_linked : (x : ℕ) (list : List Declared) → internal_among s sense s.declared.ordinary (ordinary_at s x) ≡ list → is_internal s sense x ≡ true → is_linked s sense (first_of s sense x list) ≡ true
  first_linked x [] e internal = left_true (is_linked s sense x) _ internal
  first_linked x (y ∷ rest) e internal = among_first (ordinary_at s x) y rest e

  entity_unlinked : (x : ℕ) → is_linked s sense (entity_of s sense x) ≡ false → entity_of s sense x ≡ x
  entity_unlinked x off = by (is_internal s sense x) refl off
    where
      by : (b : Bool) → is_internal s sense x ≡ b → is_linked s sense (if b then first_of s sense x (internal_among s sense s.declared.ordinary (ordinary_at s x)) else x) ≡ false
          → (if b then first_of s sense x (internal_among s sense s.declared.ordinary (ordinary_at s x)) else x) ≡ x
      by true e off = clash _ (first_linked x (internal_among s sense s.declared.ordinary (ordinary_at s x)) refl e) off
      by false e off = refl

  -- a name without linkage has no earlier declaration
  types_one : (o : Option Ctype) → is_open s sense o ≡ true → is_open s sense (all_together None (elim o as (λ _. List Ctype) [ None ↦ [] | Some t ↦ t ∷ [] ])) ≡ true
  types_one None e = cc
  types_one (Some t) e = e

  no_earlier : (leaf : ℕ) (d : Declared) → ordinary_at s leaf ≡ Some d → has_linkage d ≡ false → has_earlier_length s sense leaf ≡ false
  no_earlier leaf d e off = by (is_some (initialiser_for s sense leaf)) (is_open s sense (own_type s sense leaf)) refl
    where
      node_is : d.node ≡ leaf
      node_is = (entry_in s.declared.ordinary leaf d e).1

      typing : typing_declarations s (ordinary_at s leaf) ≡ d ∷ []
      typing = ap (typing_declarations s) e ∙ pick (has_linkage d) off
        where
          pick : (b : Bool) → b ≡ false → (if b then linked_before s (Some d) ++ d ∷ [] else d ∷ []) ≡ d ∷ []
          pick true f = cc
          pick false f = refl

      behind : is_open s sense (own_type s sense leaf) ≡ true → is_open s sense (type_behind s sense leaf) ≡ true
      behind opened =
          let own : is_open s sense (own_type s sense d.node) ≡ true = subst (λ (k : ℕ). is_open s sense (own_type s sense k) ≡ true) (sym node_is) opened in
          ap (λ (ds : List Declared). is_open s sense (all_together None (types_of s sense ds))) typing ∙ types_one (own_type s sense d.node) own

      by : (a b : Bool) → is_open s sense (own_type s sense leaf) ≡ b → (a && (b && not (is_open s sense (type_behind s sense leaf)))) ≡ false
      by false b f = refl
      by true false f = refl
      by true true f = ap not (behind f)

  earlier_no : (leaf : ℕ) (b : Bool) → has_earlier_length s sense leaf ≡ b → b ≡ false → named_by s sense leaf ≡ leaf
  earlier_no leaf b e off = ap (λ (x : Bool). if x then last_of s sense leaf (linked_before s (ordinary_at s leaf)) else leaf) (e ∙ off)

  -- where the entity has no linkage
  pub own_leaf : (leaf : ℕ) → is_linked s sense (entity_of s sense (named_by s sense leaf)) ≡ false → (entity_of s sense (named_by s sense leaf) ≡ leaf) × (is_linked s sense leaf ≡ false)
  own_leaf leaf off =
      let same : entity_of s sense (named_by s sense leaf) ≡ named_by s sense leaf = entity_unlinked (named_by s sense leaf) off in
      let named : is_linked s sense (named_by s sense leaf) ≡ false = subst (λ (x : ℕ). is_linked s sense x ≡ false) same off in
      by (ordinary_at s leaf) refl same named
    where
      none_before : ordinary_at s leaf ≡ None → (b : Bool) → (if b then last_of s sense leaf (linked_before s (ordinary_at s leaf)) else leaf) ≡ leaf
      none_before e true = ap (λ (o : Option Declared). last_of s sense leaf (linked_before s o)) e
      none_before e false = refl

      linked_by : (b : Bool) → is_linked s sense leaf ≡ true → is_linked s sense (if b then last_of s sense leaf (linked_before s (ordinary_at s leaf)) else leaf) ≡ true
      linked_by true linked = last_linked leaf (linked_before s (ordinary_at s leaf)) (before_linked s (ordinary_at s leaf)) linked
      linked_by false linked = linked

      linkage : (d : Declared) → ordinary_at s leaf ≡ Some d → is_linked s sense leaf ≡ has_linkage d
      linkage d e = ap (λ (o : Option Declared). elim o as (λ _. Bool) [ None ↦ false | Some z ↦ has_linkage z ]) e

      by : (o : Option Declared) → ordinary_at s leaf ≡ o → entity_of s sense (named_by s sense leaf) ≡ named_by s sense leaf → is_linked s sense (named_by s sense leaf) ≡ false
          → (entity_of s sense (named_by s sense leaf) ≡ leaf) × (is_linked s sense leaf ≡ false)
      by None e same named = (same ∙ none_before e (has_earlier_length s sense leaf), ap (λ (o : Option Declared). elim o as (λ _. Bool) [ None ↦ false | Some z ↦ has_linkage z ]) e)
      by (Some d) e same named = pick (has_linkage d) refl
        where
          pick : (b : Bool) → has_linkage d ≡ b → (entity_of s sense (named_by s sense leaf) ≡ leaf) × (is_linked s sense leaf ≡ false)
          pick false off = (same ∙ earlier_no leaf (has_earlier_length s sense leaf) refl (no_earlier leaf d e off), linkage d e ∙ off)
          pick true on = clash _ (linked_by (has_earlier_length s sense leaf) (linkage d e ∙ on)) named
