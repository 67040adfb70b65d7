-- What a built unit declares within functions has no linkage.
use Rattle.std.proofs.Common.{◌≡◌, ◌<◌, ℕ, ◌||◌, ◌&&◌, nat_eq, Bool, true, false, List, [], ◌∷◌, Option, Some, None, length, slice_get, refl, sym, ap, ◌∙◌, subst, inl, inr}
use Rattle.std.specs.Prelude.{⊤, is_none, option_map, if◌then◌else◌}
use Rattle.std.proofs.lemmas.Option.{slice_get_within}
use Rattle.c_types.specs.Trees.{Ctype}
use Rattle.c_grammar.specs.Words.{word_extern, word_static}
use Rattle.core_tree.specs.declared.node.Unit.{Unit}
use Rattle.core_tree.specs.declared.node.Entity.{Entity}
use Rattle.core_tree.specs.declared.node.Linkage.{Linkage}
use Rattle.core_tree.specs.declared.node.Linkage.TheVariants.{External, Internal, Local}
use Rattle.core_tree.specs.declared.node.Storage.{Storage}
use Rattle.core_tree.specs.declared.node.Storage.TheVariants.{Static, Automatic, FunctionBody, Parameter, Declared}
use Rattle.core_tree.specs.Linkages.{IsUnlinked}
use Rattle.c_scope.specs.declared.kinds.Declared.{Declared as Declaration}
use Rattle.c_senses.specs.Tree.{Source}
use Rattle.c_senses.specs.Names.{source_of, numbered, ordinary_at}
use Rattle.c_senses.specs.Sense.{Sense, sense_in}
use Rattle.c_senses.specs.Entities.{keep, first_of, internal_among, is_internal_of, is_internal, is_linked, declares_function, is_defined, is_parameter, is_at_file, has_storage, initialiser_for, storage_of, linkage_of}
use Rattle.c_senses.specs.Right.{IsEntityOf, Declared as Declares, of_internal, is_definition_at, is_tentative, representative, storage_at, declared_as, declares_entity, entity_type, IsDeclaredAt}
use Rattle.core_node_laws.specs.built_unit_laws.built_units.Built.{IsBuilt}
use Rattle.declaration_laws.specs.definition_laws.linkage_laws.Linked.{StandsLinked, EntitiesUnlinked}
use Rattle.declaration_laws.proofs.definition_laws.linkage_laws.Linked.{stands_linked}
use Rattle.declaration_laws.proofs.definition_laws.linkage_laws.Reading.{tree_is}

some_same : {A : Type 0} → {x y : A} → ◌≡◌ {A = Option A} (Some x) (Some y) → x ≡ y
some_same e = cc

left : (a b : Bool) → (a && b) ≡ true → a ≡ true
left true b e = refl
left false b e = cc

right : (a b : Bool) → (a && b) ≡ true → b ≡ true
right true b e = e
right false b e = cc

-- what lives in a function
abbrev pub lives : Storage → Bool
lives Automatic = true
lives Parameter = true
lives storage = false

unlinked : (storage : Storage) (linkage : Linkage) → (lives storage ≡ true → linkage ≡ Local) → IsUnlinked storage linkage
unlinked Automatic linkage h = h refl
unlinked Parameter linkage h = h refl
unlinked Static linkage h = tt
unlinked FunctionBody linkage h = tt
unlinked Declared linkage h = tt

module _ (s : Source) (senses : List Sense) (each : (leaf : ℕ) → is_linked s (sense_in senses) leaf ≡ true → StandsLinked s (sense_in senses) leaf) where
  abbrev sense : ℕ → Sense
  sense i = sense_in senses i

  -- a name with linkage lives for the whole run
  linked_stays : (leaf : ℕ) → is_linked s sense leaf ≡ true → lives (storage_of s sense leaf) ≡ false
  linked_stays leaf h =
      let stands = each leaf h in
      by (is_parameter s sense leaf) (declares_function s sense leaf) (is_defined s sense leaf) (has_storage s sense word_extern leaf) (is_none (initialiser_for s sense leaf)) (is_at_file s sense leaf) (has_storage s sense word_static leaf) stands.parameter stands.declared
    where
      by : (p f d x n a t : Bool) → p ≡ false → (f || (a || x)) ≡ true
          → lives (if p then Parameter else if f then (if d then FunctionBody else Declared) else if x && n then Declared else if a || (t || x) then Static else Automatic) ≡ false
      by true f d x n a t e h = cc
      by false true true x n a t e h = refl
      by false true false x n a t e h = refl
      by false false d true true a t e h = refl
      by false false d true false true t e h = refl
      by false false d true false false true e h = refl
      by false false d true false false false e h = refl
      by false false d false n true t e h = refl
      by false false d false n false t e h = cc

  kept_is : (test : Declaration → Bool) (P : ℕ → Type 0) (leaf : ℕ) (ds : List Declaration) → ((d : Declaration) → test d ≡ true → P d.node) → P leaf → P (first_of s sense leaf (keep s sense test ds))
  kept_is test P leaf [] h own = own
  kept_is test P leaf (d ∷ ds) h own = by (test d) refl (kept_is test P leaf ds h own)
    where
      by : (b : Bool) → test d ≡ b → P (first_of s sense leaf (keep s sense test ds)) → P (first_of s sense leaf (if b then d ∷ keep s sense test ds else keep s sense test ds))
      by true e later = h d e
      by false e later = later

  -- all of a list are so
  abbrev AllAre : (ℕ → Type 0) → List Declaration → Type 0
  AllAre P [] = ⊤
  AllAre P (d ∷ ds) = P d.node × AllAre P ds

  keep_all : (test : Declaration → Bool) (P : ℕ → Type 0) (ds : List Declaration) → AllAre P ds → AllAre P (keep s sense test ds)
  keep_all test P [] h = tt
  keep_all test P (d ∷ ds) h = by (test d) (keep_all test P ds h.1)
    where
      by : (b : Bool) → AllAre P (keep s sense test ds) → AllAre P (if b then d ∷ keep s sense test ds else keep s sense test ds)
      by true later = (h.0, later)
      by false later = later

  keep_passes : (test : Declaration → Bool) (P : ℕ → Type 0) (ds : List Declaration) → ((d : Declaration) → test d ≡ true → P d.node) → AllAre P (keep s sense test ds)
  keep_passes test P [] h = tt
  keep_passes test P (d ∷ ds) h = by (test d) refl (keep_passes test P ds h)
    where
      by : (b : Bool) → test d ≡ b → AllAre P (keep s sense test ds) → AllAre P (if b then d ∷ keep s sense test ds else keep s sense test ds)
      by true e later = (h d e, later)
      by false e later = later

  first_all : (P : ℕ → Type 0) (leaf : ℕ) (ds : List Declaration) → AllAre P ds → P leaf → P (first_of s sense leaf ds)
  first_all P leaf [] h own = own
  first_all P leaf (d ∷ ds) h own = h.0

  abbrev pub IsInternal : ℕ → Type 0
  IsInternal leaf = is_internal s sense leaf ≡ true

  pub all_internal : (leaf : ℕ) → AllAre IsInternal (of_internal s senses leaf)
  all_internal leaf = by (ordinary_at s leaf)
    where
      by : (o : Option Declaration) → AllAre IsInternal (internal_among s sense s.declared.ordinary o)
      by None = tt
      by (Some d) = keep_passes (is_internal_of s sense d.symbol) IsInternal s.declared.ordinary (λ x h. right (nat_eq x.symbol d.symbol) (is_internal s sense x.node) h)

  internal_is : (leaf : ℕ) → linkage_of s sense leaf ≡ Internal → IsInternal leaf
  internal_is leaf e = by (is_internal s sense leaf) (is_linked s sense leaf) e
    where
      by : (a b : Bool) → (if a then Internal else (if b then External else Local)) ≡ Internal → a ≡ true
      by true b e = refl
      by false true e = cc
      by false false e = cc

  external_is : (leaf : ℕ) → linkage_of s sense leaf ≡ External → is_linked s sense leaf ≡ true
  external_is leaf e = by (is_internal s sense leaf) (is_linked s sense leaf) e
    where
      by : (a b : Bool) → (if a then Internal else (if b then External else Local)) ≡ External → b ≡ true
      by true b e = cc
      by false true e = refl
      by false false e = cc

  -- the declaration that stands for an internal name is internal
  pub stands_for : (leaf : ℕ) → linkage_of s sense leaf ≡ Internal → IsInternal (representative s senses leaf)
  stands_for leaf e = by (linkage_of s sense leaf) e
    where
      ds : List Declaration
      ds = of_internal s senses leaf

      by : (l : Linkage) → l ≡ Internal → IsInternal (elim l as (λ _. ℕ) [ Internal ↦ first_of s sense (first_of s sense leaf (keep s sense (is_tentative s senses) (of_internal s senses leaf))) (keep s sense (is_definition_at s senses) (of_internal s senses leaf)) | _ ↦ leaf ])
      by Internal e2 =
          first_all IsInternal (first_of s sense leaf (keep s sense (is_tentative s senses) (of_internal s senses leaf))) (keep s sense (is_definition_at s senses) (of_internal s senses leaf))
          (keep_all (is_definition_at s senses) IsInternal (of_internal s senses leaf) (all_internal leaf))
          (first_all IsInternal leaf (keep s sense (is_tentative s senses) (of_internal s senses leaf)) (keep_all (is_tentative s senses) IsInternal (of_internal s senses leaf) (all_internal leaf)) (internal_is leaf e))
      by External e2 = absurd (let never : External ≡ Internal = e2 in cc)
      by Local e2 = absurd (let never : Local ≡ Internal = e2 in cc)

  internal_linked : (leaf : ℕ) → IsInternal leaf → is_linked s sense leaf ≡ true
  internal_linked leaf h = left (is_linked s sense leaf) _ h

  kept_storage : (x : Storage) (function : Bool) → lives x ≡ false → lives (elim x as (λ _. Storage) [ Declared ↦ if function then Declared else Static | other ↦ other ]) ≡ false
  kept_storage Declared true h = refl
  kept_storage Declared false h = refl
  kept_storage Static function h = refl
  kept_storage FunctionBody function h = refl
  kept_storage Automatic function h = h
  kept_storage Parameter function h = h

  -- what lives in a function has no linkage
  pub local : (leaf : ℕ) → lives (storage_at s senses leaf) ≡ true → linkage_of s sense leaf ≡ Local
  local leaf h = by (linkage_of s sense leaf) refl h
    where
      clash : (b : Bool) → b ≡ true → b ≡ false → ⊥
      clash b e f = let both : true ≡ false = sym e ∙ f in cc

      by : (l : Linkage) → linkage_of s sense leaf ≡ l
          → lives (elim l as (λ _. Storage) [ Internal ↦ (elim (storage_of s sense (representative s senses leaf)) as (λ _. Storage) [ Declared ↦ if declares_function s sense leaf then Declared else Static | other ↦ other ]) | _ ↦ storage_of s sense leaf ]) ≡ true
          → l ≡ Local
      by Local e h = refl
      by External e h = absurd (clash (lives (storage_of s sense leaf)) h (linked_stays leaf (external_is leaf e)))
      by Internal e h =
          absurd (clash _ h (kept_storage (storage_of s sense (representative s senses leaf)) (declares_function s sense leaf) (linked_stays (representative s senses leaf) (internal_linked (representative s senses leaf) (stands_for leaf e)))))

  -- so it is for what is declared
  pub declared_local : (d : ℕ) (what : Declares) → IsDeclaredAt s senses d what → lives what.storage ≡ true → what.linkage ≡ Local
  declared_local d what (inr (c, literal, is)) h = ap (λ (x : Declares). x.linkage) is
  declared_local d what (inl is) h = by (declares_entity s senses d) (entity_type s senses d) is
    where
      by : (x : Bool) (t : Option Ctype) → (if x then option_map (declared_as s senses d) t else None) ≡ Some what → what.linkage ≡ Local
      by false t is = cc
      by true None is = cc
      by true (Some t) is =
          let same : declared_as s senses d t ≡ what = some_same is in
          sym (ap (λ (x : Declares). x.linkage) same) ∙ local d (ap (λ (x : Declares). lives x.storage) same ∙ h)

-- the entity of a unit, and what it is of
pub record Made (s : Source) (name : List ℕ) (u : Unit) (b : IsBuilt s name u) (e : ℕ) (entity : Entity) : Type 0 where
  pub leaf : ℕ
  pub what : Declares
  pub declared : IsDeclaredAt s b.senses leaf what
  pub number : b.numbering leaf ≡ Some e
  pub is : IsEntityOf b.numbering u s.unit what entity

pub made : (s : Source) (name : List ℕ) (u : Unit) (b : IsBuilt s name u) (e : ℕ) (entity : Entity) → slice_get u.entities.items e ≡ Some entity → Made s name u b e entity
made s name u b e entity at =
    let lt : e < length u.entities.items = slice_get_within u.entities.items e entity at in
    let (d, what, declared, number) = b.no_other_entity e lt in
    let (e2, x2, number2, at2, is) = b.each_declared d what declared in
    let same_number : e2 ≡ e = some_same (sym number2 ∙ number) in
    let same : x2 ≡ entity = some_same (sym at2 ∙ (ap (λ (k : ℕ). slice_get u.entities.items k) same_number ∙ at)) in
    record { leaf = d; what = what; declared = declared; number = number; is = subst (λ (x : Entity). IsEntityOf b.numbering u s.unit what x) same is }

pub entities_unlinked : EntitiesUnlinked
entities_unlinked tokens unit tree tag_number name u cut is b e entity at =
    let s = numbered tag_number (source_of tokens tree) in
    let m = made s name u b e entity at in
    let each = λ (leaf : ℕ). stands_linked s (tree_is tokens unit tree is tag_number) b.senses b.are_senses b.whole leaf in
    unlinked entity.storage entity.linkage (λ h. m.is.linkage ∙ declared_local s b.senses each m.leaf m.what m.declared (ap lives (sym m.is.storage) ∙ h))
