-- Which names are internal is known before a declarator as it is at the end.
use Rattle.std.proofs.Common.{arith, ◌≡◌, ◌<◌, ℕ, ◌==◌, ◌&&◌, ◌||◌, nat_eq, Bool, true, false, cond, List, [], ◌∷◌, ◌++◌, Option, Some, None, take, eq-eqb, refl, sym, ap, ◌∙◌, subst, ◌⊎◌, inl, inr}
use Rattle.std.specs.Prelude.{⊤, option_and_then, if◌then◌else◌, filter}
use Rattle.std.specs.List.{find}
use Rattle.std.proofs.lemmas.List.{get_or-take}
use Rattle.std.proofs.lemmas.Bool.{eqb-true}
use Rattle.c_grammar.specs.Terminals.{contains}
use Rattle.c_grammar.specs.Words.{word_extern, word_static}
use Rattle.c_scope.specs.declared.kinds.Declared.{Declared}
use Rattle.c_scope.specs.Known.{is_at, those_at}
use Rattle.c_senses.specs.Tree.{Source}
use Rattle.c_senses.specs.Names.{ordinary_at, has_linkage, all_linked, linked_along, linked_before, made_before}
use Rattle.c_senses.specs.Declarators.{outermost_of, specs_of}
use Rattle.c_senses.specs.Entities.{is_linked, is_at_file, has_storage, declares_function, specified, specified_of, is_without_storage, takes_over, is_static_at_file, is_internal, some_such}
use Rattle.c_senses.specs.Sense.{Sense, Nothing, IsSpecified, Specified, sense_in}
use Rattle.declaration_laws.proofs.definition_laws.linkage_laws.Origins.{HasOrigin}
use Rattle.declaration_laws.proofs.definition_laws.linkage_laws.Seen.{nodes}
use Rattle.declaration_laws.proofs.declared_type_laws.owner_laws.internal_laws.Sorted.{BeforeAll}

-- ---- lists of declarations

abbrev pub Has : ℕ → List Declared → Type 0
Has leaf [] = ⊥
Has leaf (d ∷ ds) = (d.node ≡ leaf) ⊎ Has leaf ds

module _ (s : Source) (at : ℕ) (senses : List Sense)
    (settles : (y : Declared) (h : HasOrigin s.text s.tokens (nodes s) y) → has_linkage y ≡ true → (c : ℕ) → option_and_then (specs_of s) (outermost_of s y.node) ≡ Some c → c < h.node) where
  abbrev pub Before : List Declared → Type 0
  Before ds = BeforeAll s.text s.tokens (nodes s) at ds

  abbrev f : ℕ → Sense
  f i = sense_in senses i

  abbrev g : ℕ → Sense
  g = sense_in (take at senses)

  -- the specifiers of a name stand before
  abbrev pub Settled : ℕ → Type 0
  Settled leaf = (c : ℕ) → option_and_then (specs_of s) (outermost_of s leaf) ≡ Some c → c < at

  abbrev pub AllSettled : List Declared → Type 0
  AllSettled [] = ⊤
  AllSettled (d ∷ ds) = Settled d.node × AllSettled ds

  specified_same : (leaf : ℕ) → Settled leaf → specified_of s f leaf ≡ specified_of s g leaf
  specified_same leaf h = by (option_and_then (specs_of s) (outermost_of s leaf)) h
    where
      by : (o : Option ℕ) → ((c : ℕ) → o ≡ Some c → c < at) → specified s f o ≡ specified s g o
      by None k = refl
      by (Some c) k = ap (λ (x : Sense). elim x as (λ _. Option Specified) [ IsSpecified y ↦ Some y | _ ↦ None ]) (sym (get_or-take at senses c Nothing (k c refl)))

  storage_same : (word leaf : ℕ) → Settled leaf → has_storage s f word leaf ≡ has_storage s g word leaf
  storage_same word leaf h = ap (λ (o : Option Specified). elim o as (λ _. Bool) [ None ↦ false | Some x ↦ contains x.storage word ]) (specified_same leaf h)

  bare_same : (leaf : ℕ) → Settled leaf → is_without_storage s f leaf ≡ is_without_storage s g leaf
  bare_same leaf h = ap (λ (o : Option Specified). elim o as (λ _. Bool) [ None ↦ true | Some x ↦ elim x.storage as (λ _. Bool) [ [] ↦ true | word ∷ rest ↦ false ] ]) (specified_same leaf h)

  static_same : (leaf : ℕ) → Settled leaf → is_static_at_file s f leaf ≡ is_static_at_file s g leaf
  static_same leaf h = ap (λ (b : Bool). is_at_file s f leaf && b) (storage_same word_static leaf h)

  takes_same : (leaf : ℕ) → Settled leaf → takes_over s f leaf ≡ takes_over s g leaf
  takes_same leaf h = ap (λ (b : Bool). b || (declares_function s f leaf && is_without_storage s f leaf)) (storage_same word_extern leaf h) ∙ ap (λ (b : Bool). has_storage s g word_extern leaf || (declares_function s f leaf && b)) (bare_same leaf h)

  such_same : (ds : List Declared) → AllSettled ds → some_such s f (λ d. is_static_at_file s f d.node) ds ≡ some_such s g (λ d. is_static_at_file s g d.node) ds
  such_same [] h = refl
  such_same (d ∷ ds) h = ap (λ (b : Bool). b || some_such s f (λ x. is_static_at_file s f x.node) ds) (static_same d.node h.0) ∙ ap (λ (b : Bool). is_static_at_file s g d.node || b) (such_same ds h.1)

  pub internal_same : (leaf : ℕ) → Settled leaf → AllSettled (linked_before s (ordinary_at s leaf)) → is_internal s f leaf ≡ is_internal s g leaf
  internal_same leaf h all =
      ap (λ (b : Bool). is_linked s f leaf && (b || (takes_over s f leaf && some_such s f (λ d. is_static_at_file s f d.node) (linked_before s (ordinary_at s leaf))))) (static_same leaf h)
      ∙ (ap (λ (b : Bool). is_linked s f leaf && (is_static_at_file s g leaf || (b && some_such s f (λ d. is_static_at_file s f d.node) (linked_before s (ordinary_at s leaf))))) (takes_same leaf h)
      ∙ ap (λ (b : Bool). is_linked s f leaf && (is_static_at_file s g leaf || (takes_over s g leaf && b))) (such_same (linked_before s (ordinary_at s leaf)) all))

  -- ---- those that are seen

  settled_of : (d : Declared) (h : HasOrigin s.text s.tokens (nodes s) d) → h.node < at → has_linkage d ≡ true → Settled d.node
  settled_of d h lt linked c e = let small = settles d h linked c e in omega (arith, small, lt)

  filter_before : (test : Declared → Bool) (ds : List Declared) → Before ds → Before (filter test ds)
  filter_before test [] h = tt
  filter_before test (d ∷ ds) h = by (test d) (filter_before test ds h.2)
    where
      by : (b : Bool) → Before (filter test ds) → Before (cond b (d ∷ filter test ds) (filter test ds))
      by true more = (h.0, h.1, more)
      by false more = more

  both : (a b : Bool) → (a && b) ≡ true → (a ≡ true) × (b ≡ true)
  both true true e = (refl, refl)
  both true false e = cc
  both false b e = cc

  linked_settled : (ds : List Declared) → all_linked ds ≡ true → Before ds → AllSettled ds
  linked_settled [] e h = tt
  linked_settled (d ∷ ds) e h = let b = both (has_linkage d) (all_linked ds) e in (settled_of d h.0 h.1 b.0, linked_settled ds b.1 h.2)

  append_settled : (xs ys : List Declared) → AllSettled xs → AllSettled ys → AllSettled (xs ++ ys)
  append_settled [] ys h k = k
  append_settled (x ∷ xs) ys h k = (h.0, append_settled xs ys h.1 k)

  pub along_settled : (scopes : List ℕ) (symbol : ℕ) (ds : List Declared) → Before ds → AllSettled (linked_along scopes symbol ds)
  along_settled [] symbol ds h = tt
  along_settled (scope ∷ scopes) symbol ds h = by (all_linked (those_at scope symbol ds)) refl (along_settled scopes symbol ds h)
    where
      by : (b : Bool) → all_linked (those_at scope symbol ds) ≡ b → AllSettled (linked_along scopes symbol ds) → AllSettled (if b then linked_along scopes symbol ds ++ those_at scope symbol ds else [])
      by true e more = append_settled (linked_along scopes symbol ds) (those_at scope symbol ds) more (linked_settled (those_at scope symbol ds) e (filter_before (is_at scope symbol) ds h))
      by false e more = tt

  -- what is made before an earlier leaf
  pub earlier_before : (leaf first : ℕ) (ds : List Declared) → Has first (made_before leaf ds) → Before (made_before leaf ds) → Before (made_before first ds)
  earlier_before leaf first [] h k = tt
  earlier_before leaf first (d ∷ ds) h k = by (nat_eq d.node leaf) (nat_eq d.node first) refl h k (λ x y. earlier_before leaf first ds x y)
    where
      by : (a b : Bool) → nat_eq d.node first ≡ b → Has first (if a then [] else d ∷ made_before leaf ds) → Before (if a then [] else d ∷ made_before leaf ds)
          → (Has first (made_before leaf ds) → Before (made_before leaf ds) → Before (made_before first ds)) → Before (if b then [] else d ∷ made_before first ds)
      by true b e h k later = absurd h
      by false true e h k later = tt
      by false false e (inl same) k later = absurd (let bad : true ≡ false = sym (eq-eqb d.node first same) ∙ e in cc)
      by false false e (inr more) k later = (k.0, k.1, later more k.2)

  pub found_before : (leaf first : ℕ) (ds : List Declared) (y : Declared) → Has first (made_before leaf ds) → Before (made_before leaf ds) → find (λ (d : Declared). d.node == first) ds ≡ Some y → (h : HasOrigin s.text s.tokens (nodes s) y) × (h.node < at) × (y.node ≡ first)
  found_before leaf first [] y h k e = cc
  found_before leaf first (d ∷ ds) y h k e = by (nat_eq d.node leaf) (nat_eq d.node first) refl h k e (λ a b c. found_before leaf first ds y a b c)
    where
      by : (a b : Bool) → nat_eq d.node first ≡ b → Has first (if a then [] else d ∷ made_before leaf ds) → Before (if a then [] else d ∷ made_before leaf ds) → cond b (Some d) (find (λ (x : Declared). x.node == first) ds) ≡ Some y
          → (Has first (made_before leaf ds) → Before (made_before leaf ds) → find (λ (x : Declared). x.node == first) ds ≡ Some y → (h : HasOrigin s.text s.tokens (nodes s) y) × (h.node < at) × (y.node ≡ first))
          → (h : HasOrigin s.text s.tokens (nodes s) y) × (h.node < at) × (y.node ≡ first)
      by true b e h k f later = absurd h
      by false true e h k f later = let same : d ≡ y = cc in subst (λ (z : Declared). (h : HasOrigin s.text s.tokens (nodes s) z) × (h.node < at) × (z.node ≡ first)) same (k.0, k.1, eqb-true d.node first e)
      by false false e (inl same) k f later = absurd (let bad : true ≡ false = sym (eq-eqb d.node first same) ∙ e in cc)
      by false false e (inr more) k f later = later more k.2 f
