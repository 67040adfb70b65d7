-- The parameters of each function, one after another.
use Rattle.std.proofs.Common.{arith, ◌≡◌, ◌≢◌, ℕ, zero, suc, ◌<◌, ◌≤◌, ◌==◌, ◌⊎◌, inl, inr, List, [], ◌∷◌, ◌++◌, length, Option, Some, None, Bool, true, false, cond, eqb, filter, map, slice_get, slice_set, refl, ap, sym, subst, ◌∙◌}
use Rattle.std.proofs.lemmas.Option.{slice_get_within}
use Rattle.row_numbers.proofs.SliceLemmas.{get_set_same, get_set_other}
use Rattle.std.proofs.lemmas.Bool.Decides.{eqb_tells}
use Rattle.std.proofs.lemmas.List.{map-append, append-nil}
use Rattle.std.proofs.lemmas.List.Elements.{filter-append}
use Rattle.c_types.specs.declared.key.ObjectKey.{ObjectKey}
use Rattle.c_types.specs.declared.key.ObjectKey.TheVariants.{Entity as EntityKey}
use Rattle.core_tree.specs.declared.node.Entity.{Entity}
use Rattle.core_tree.specs.Typed.{CoreTrees}
use Rattle.row_numbers.specs.Functions.{is_owned_by, entity_in}
use Rattle.ref_frames.specs.Running.{entity_of, owner_in}
use Rattle.ref_frames.specs.Made.{ArePutIn, entity_at}

owned_none : (f : ℕ) (o : Option Entity) → owner_in o ≡ None → is_owned_by f o ≡ false
owned_none f None h = refl
owned_none f (Some entity) h = ap (λ (g : Option ℕ). is_owned_by f (Some (record entity { owner = g }))) h

owned_some : (f g : ℕ) (o : Option Entity) → owner_in o ≡ Some g → is_owned_by f o ≡ (g == f)
owned_some f g None h = cc
owned_some f g (Some entity) h = ap (λ (x : Option ℕ). is_owned_by f (Some (record entity { owner = x }))) h

not_same : (g f : ℕ) → g ≢ f → ((eqb g f ≡ true) × (g ≡ f)) ⊎ ((eqb g f ≡ false) × (g ≢ f)) → (g == f) ≡ false
not_same g f other (inl p) = absurd (other p.1)
not_same g f other (inr p) = p.0

some_is : {A : Type 0} (x y : A) → ◌≡◌ {A = Option A} (Some x) (Some y) → x ≡ y
some_is x y e = cc

last_no : {X : Type 0} (p : X → Bool) (xs : List X) (x : X) → p x ≡ false → filter p (xs ++ x ∷ []) ≡ filter p xs
last_no p xs x h = filter-append p xs (x ∷ []) ∙ (ap (λ (b : Bool). filter p xs ++ cond b (x ∷ []) []) h ∙ append-nil (filter p xs))

last_yes : {X : Type 0} (p : X → Bool) (xs : List X) (x : X) → p x ≡ true → filter p (xs ++ x ∷ []) ≡ filter p xs ++ x ∷ []
last_yes p xs x h = filter-append p xs (x ∷ []) ∙ ap (λ (b : Bool). filter p xs ++ cond b (x ∷ []) []) h

-- a key that no function owns
pub put_none : (entities : List Entity) (keys : List ObjectKey) (key : ObjectKey) (lists : List (List ℕ))
    → owner_in (entity_at entities (entity_of key)) ≡ None
    → ArePutIn entities keys lists → ArePutIn entities (keys ++ key ∷ []) lists
put_none entities keys key lists none put f list at =
    put f list at
    ∙ sym (last_no (λ (k : ObjectKey). is_owned_by f (entity_at entities (entity_of k))) keys key (owned_none f (entity_at entities (entity_of key)) none))

-- a key whose owner has no list
pub put_past : (entities : List Entity) (keys : List ObjectKey) (key : ObjectKey) (lists : List (List ℕ)) (g : ℕ)
    → owner_in (entity_at entities (entity_of key)) ≡ Some g → length lists ≤ g
    → ArePutIn entities keys lists → ArePutIn entities (keys ++ key ∷ []) lists
put_past entities keys key lists g owner past put f list at =
    let within : f < length lists = slice_get_within lists f list at in
    let other : g ≢ f = λ (e : g ≡ f). omega (arith, e, within, past) in
    put f list at
    ∙ sym (last_no (λ (k : ObjectKey). is_owned_by f (entity_at entities (entity_of k))) keys key
    (owned_some f g (entity_at entities (entity_of key)) owner ∙ not_same g f other (eqb_tells g f)))

-- a key that goes to its owner's list
pub put_one : (entities : List Entity) (keys : List ObjectKey) (e : ℕ) (lists : List (List ℕ)) (g : ℕ) (old : List ℕ)
    → owner_in (slice_get entities e) ≡ Some g → slice_get lists g ≡ Some old
    → ArePutIn entities keys lists → ArePutIn entities (keys ++ EntityKey e ∷ []) (slice_set lists g (old ++ e ∷ []))
put_one entities keys e lists g old owner there put f list at = go (eqb_tells g f)
  where
    go : ((eqb g f ≡ true) × (g ≡ f)) ⊎ ((eqb g f ≡ false) × (g ≢ f))
        → map EntityKey list ≡ filter (λ (k : ObjectKey). is_owned_by f (entity_at entities (entity_of k))) (keys ++ EntityKey e ∷ [])
    go (inl p) =
        let found : slice_get (slice_set lists g (old ++ e ∷ [])) f ≡ Some (old ++ e ∷ []) =
        subst (λ (n : ℕ). slice_get (slice_set lists g (old ++ e ∷ [])) n ≡ Some (old ++ e ∷ [])) p.1
        (get_set_same lists g (old ++ e ∷ []) (slice_get_within lists g old there)) in
        let same : list ≡ old ++ e ∷ [] = some_is list (old ++ e ∷ []) (sym at ∙ found) in
        let there_f : slice_get lists f ≡ Some old = subst (λ (n : ℕ). slice_get lists n ≡ Some old) p.1 there in
        ap (map EntityKey) same
        ∙ (map-append EntityKey old (e ∷ [])
        ∙ (ap (λ (ks : List ObjectKey). ks ++ EntityKey e ∷ []) (put f old there_f)
        ∙ sym (last_yes (λ (k : ObjectKey). is_owned_by f (entity_at entities (entity_of k))) keys (EntityKey e)
        (owned_some f g (slice_get entities e) owner ∙ p.0))))
    go (inr p) =
        let there_f : slice_get lists f ≡ Some list = sym (get_set_other lists g f (old ++ e ∷ []) p.1) ∙ at in
        put f list there_f
        ∙ sym (last_no (λ (k : ObjectKey). is_owned_by f (entity_at entities (entity_of k))) keys (EntityKey e)
        (owned_some f g (slice_get entities e) owner ∙ p.0))

-- no list has a key where there is none
empty_at : (xs : List ℕ) (f : ℕ) (list : List ℕ) → slice_get (map {B = List ℕ} (λ k. []) xs) f ≡ Some list → list ≡ []
empty_at [] f list h = cc
empty_at (x ∷ xs) zero list h = cc
empty_at (x ∷ xs) (suc f) list h = empty_at xs f list h

pub put_first : (entities : List Entity) (xs : List ℕ) → ArePutIn entities [] (map {B = List ℕ} (λ k. []) xs)
put_first entities xs f list at = ap (map EntityKey) (empty_at xs f list at)

-- a key that is an entity
pub is_entity : (key : ObjectKey) (e : ℕ) → Some e ≡ entity_of key → key ≡ EntityKey e
is_entity (EntityKey x) e h = cc
is_entity key e h = cc

entity_same : (u : CoreTrees) (key : ObjectKey) → entity_at u.entities (entity_of key) ≡ entity_in u key
entity_same u (EntityKey e) = refl
entity_same u key = refl

-- the keys that a function owns, by their entities
pub owned_same : (u : CoreTrees) (f : ℕ) (keys : List ObjectKey)
    → filter (λ key. is_owned_by f (entity_at u.entities (entity_of key))) keys ≡ filter (λ key. is_owned_by f (entity_in u key)) keys
owned_same u f [] = refl
owned_same u f (key ∷ keys) =
    ap (λ (o : Option Entity). cond (is_owned_by f o) (key ∷ filter (λ k. is_owned_by f (entity_at u.entities (entity_of k))) keys) (filter (λ k. is_owned_by f (entity_at u.entities (entity_of k))) keys)) (entity_same u key)
    ∙ ap (λ (rest : List ObjectKey). cond (is_owned_by f (entity_in u key)) (key ∷ rest) rest) (owned_same u f keys)
