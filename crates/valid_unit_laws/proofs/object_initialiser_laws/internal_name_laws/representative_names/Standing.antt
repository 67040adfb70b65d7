-- What stands for an internal name.
use Rattle.std.proofs.Common.{◌≡◌, ◌==◌, ◌&&◌, ℕ, nat_eq, Bool, true, false, cond, List, [], ◌∷◌, All, Option, Some, None, eq-eqb, refl, sym, ap, ◌∙◌, subst}
use Rattle.std.specs.Prelude.{⊤, if◌then◌else◌}
use Rattle.std.specs.List.{find}
use Rattle.std.proofs.lemmas.Bool.{eqb-true}
use Rattle.std.proofs.lemmas.List.Elements.{All-head, All-tail}
use Rattle.core_tree.specs.declared.node.Linkage.{Linkage}
use Rattle.core_tree.specs.declared.node.Linkage.TheVariants.{External, Internal, Local}
use Rattle.c_mentions.specs.Syntax as syntax
use Rattle.c_mentions.specs.Symbols.{symbol_of}
use Rattle.c_scope.specs.declared.kinds.Declared.{Declared}
use Rattle.c_scope.specs.Resolves.{bindings}
use Rattle.c_senses.specs.Tree.{Source}
use Rattle.c_senses.specs.Names.{source_of, numbered, ordinary_at, has_linkage}
use Rattle.c_senses.specs.Entities.{is_linked, is_internal, is_internal_of, internal_among, keep, first_of, entity_of, linkage_of}
use Rattle.c_senses.specs.Right.{of_internal, is_definition_at, is_tentative, is_declaring, representative}
use Rattle.c_senses.specs.Sense.{Sense, sense_in}
use Rattle.declaration_laws.proofs.function_laws.passed.definition_laws.function_definitions.PassedOn.{HasOrigin, origin, origins}
use Rattle.declaration_laws.proofs.function_laws.passed.definition_laws.function_definitions.PassedOn.{nodes}
use Rattle.declaration_laws.proofs.function_laws.passed.definition_laws.function_definitions.PassedOn.{Tree}
use Rattle.declaration_laws.proofs.function_laws.passed.definition_laws.function_definitions.PassedOn.{tree_is}
use Rattle.declaration_laws.proofs.function_laws.passed.definition_laws.function_definitions.Declaring.{sign_is}
use Rattle.parsed_tree_laws.proofs.grown_parts.Reading.{units_bring}
use Rattle.declaration_laws.proofs.name_order.Ordered.{units_ordered}
use Rattle.declaration_laws.proofs.function_laws.body_returns.Built.{grown}
use Rattle.valid_unit_laws.specs.object_initialiser_laws.internal_name_laws.representative_names.Representatives.{IsKnown, RepresentativesKnown}
use Rattle.valid_unit_laws.proofs.object_initialiser_laws.internal_name_laws.representative_names.Declaring.{linked_declares}

both : (a b : Bool) → (a && b) ≡ true → (a ≡ true) × (b ≡ true)
both true true e = (refl, refl)
both true false e = cc
both false b e = cc

and_of : (a b : Bool) → a ≡ true → b ≡ true → (a && b) ≡ true
and_of true true e f = refl
and_of true false e f = cc
and_of false b e f = cc

module _ (s : Source) (tree : Tree s) (senses : List Sense) (declares : (leaf : ℕ) (y : Declared) → ordinary_at s leaf ≡ Some y → has_linkage y ≡ true → is_declaring s senses leaf ≡ true) where
  abbrev f : ℕ → Sense
  f i = sense_in senses i

  abbrev ordinary : List Declared
  ordinary = s.declared.ordinary

  -- ---- symbols

  abbrev symbol : ℕ → ℕ
  symbol leaf = symbol_of s.text s.tokens (syntax.token_at (nodes s) leaf)

  signed : (x : Declared) → HasOrigin s.text s.tokens (nodes s) x → symbol x.node ≡ x.symbol
  signed x h =
      let sign = sign_is s.tokens (nodes s) s.text (symbol_of s.text s.tokens) h.node h.standing.role h.leaf h.symbol h.linkage h.derivation h.type_name (_) h.mentions in
      let node : x.node ≡ h.leaf = ap (λ (z : Declared). z.node) h.is in
      let own : x.symbol ≡ h.symbol = ap (λ (z : Declared). z.symbol) h.is in
      ap symbol node ∙ (sym sign ∙ sym own)

  abbrev AllSigned : List Declared → Type 0
  AllSigned [] = ⊤
  AllSigned (x ∷ xs) = (symbol x.node ≡ x.symbol) × AllSigned xs

  all_signed : (ds : List Declared) → All (HasOrigin s.text s.tokens (nodes s)) ds → AllSigned ds
  all_signed [] h = tt
  all_signed (x ∷ xs) h = (signed x (All-head (HasOrigin s.text s.tokens (nodes s)) x xs h), all_signed xs (All-tail (HasOrigin s.text s.tokens (nodes s)) x xs h))

  ordinary_signed : AllSigned ordinary
  ordinary_signed = subst AllSigned (sym tree.names) (all_signed (bindings s.text s.tokens (nodes s)).names (origins s.text s.tokens (nodes s)))

  -- what declares a leaf has its symbol
  declared_signed : (leaf : ℕ) (y : Declared) → ordinary_at s leaf ≡ Some y → (y.node ≡ leaf) × (y.symbol ≡ symbol leaf)
  declared_signed leaf y at =
      let there = origin s.text s.tokens (nodes s) leaf y (subst (λ (ds : List Declared). find (λ (x : Declared). x.node == leaf) ds ≡ Some y) tree.names at) in
      (there.1, sym (signed y there.0) ∙ ap symbol there.1)

  declared : (leaf : ℕ) → is_internal s f leaf ≡ true → (y : Declared) × (ordinary_at s leaf ≡ Some y) × (has_linkage y ≡ true)
  declared leaf h = by (ordinary_at s leaf) refl (both (is_linked s f leaf) _ h).0
    where
      by : (o : Option Declared) → ordinary_at s leaf ≡ o → (elim o as (λ _. Bool) [ None ↦ false | Some z ↦ has_linkage z ]) ≡ true → (y : Declared) × (ordinary_at s leaf ≡ Some y) × (has_linkage y ≡ true)
      by None e k = cc
      by (Some y) e k = (y, e, k)

  -- ---- one internal name

  module _ (leaf : ℕ) (internal : is_internal s f leaf ≡ true) where
    abbrev test : Declared → Bool
    test = is_internal_of s f (symbol leaf)

    -- a declaration of the name
    record IsOne (k : ℕ) : Type 0 where
      is : is_internal s f k ≡ true
      sign : symbol k ≡ symbol leaf

    abbrev AllOne : List Declared → Type 0
    AllOne [] = ⊤
    AllOne (x ∷ xs) = IsOne x.node × AllOne xs

    all_one : (ds : List Declared) → AllSigned ds → AllOne (keep s f test ds)
    all_one [] h = tt
    all_one (x ∷ xs) h = by (test x) refl (all_one xs h.1)
      where
        by : (b : Bool) → test x ≡ b → AllOne (keep s f test xs) → AllOne (if b then x ∷ keep s f test xs else keep s f test xs)
        by true e later = let t = both (nat_eq x.symbol (symbol leaf)) (is_internal s f x.node) e in (record { is = t.1; sign = h.0 ∙ eqb-true x.symbol (symbol leaf) t.0 }, later)
        by false e later = later

    kept_one : (next : Declared → Bool) (ds : List Declared) → AllOne ds → AllOne (keep s f next ds)
    kept_one next [] h = tt
    kept_one next (x ∷ xs) h = by (next x) (kept_one next xs h.1)
      where
        by : (b : Bool) → AllOne (keep s f next xs) → AllOne (if b then x ∷ keep s f next xs else keep s f next xs)
        by true later = (h.0, later)
        by false later = later

    first_one : (k : ℕ) (ds : List Declared) → IsOne k → AllOne ds → IsOne (first_of s f k ds)
    first_one k [] own h = own
    first_one k (x ∷ xs) own h = h.0

    -- the declarations of each of them are the same
    same_list : (k : ℕ) → IsOne k → of_internal s senses k ≡ keep s f test ordinary
    same_list k one =
        let (y, at, linked) = declared k one.is in
        let sign : y.symbol ≡ symbol leaf = (declared_signed k y at).1 ∙ one.sign in
        ap (internal_among s f ordinary) at ∙ ap (λ (n : ℕ). keep s f (is_internal_of s f n) ordinary) sign

    itself : IsOne leaf
    itself = record { is = internal; sign = refl }

    -- which has one
    some_kept : (y : Declared) (ds : List Declared) → find (λ (x : Declared). x.node == leaf) ds ≡ Some y → test y ≡ true → (j k : ℕ) → first_of s f j (keep s f test ds) ≡ first_of s f k (keep s f test ds)
    some_kept y [] e t j k = cc
    some_kept y (x ∷ xs) e t j k = by (nat_eq x.node leaf) e (some_kept y xs) (test x) refl
      where
        by : (b : Bool) → cond b (Some x) (find (λ (z : Declared). z.node == leaf) xs) ≡ Some y → (find (λ (z : Declared). z.node == leaf) xs ≡ Some y → test y ≡ true → (j k : ℕ) → first_of s f j (keep s f test xs) ≡ first_of s f k (keep s f test xs))
            → (c : Bool) → test x ≡ c → first_of s f j (if c then x ∷ keep s f test xs else keep s f test xs) ≡ first_of s f k (if c then x ∷ keep s f test xs else keep s f test xs)
        by b e later true is = refl
        by true e later false is = absurd (let same : x ≡ y = cc in let bad : true ≡ false = sym t ∙ (ap test (sym same) ∙ is) in cc)
        by false e later false is = later e t j k

    entity_is : (k : ℕ) → IsOne k → entity_of s f k ≡ first_of s f k (keep s f test ordinary)
    entity_is k one = ap (λ (b : Bool). if b then first_of s f k (of_internal s senses k) else k) one.is ∙ ap (first_of s f k) (same_list k one)

    same_entity : (k : ℕ) → IsOne k → entity_of s f k ≡ entity_of s f leaf
    same_entity k one =
        let (y, at, linked) = declared leaf internal in
        let sign = declared_signed leaf y at in
        let passes : test y ≡ true = and_of (nat_eq y.symbol (symbol leaf)) (is_internal s f y.node) (eq-eqb y.symbol (symbol leaf) sign.1) (ap (is_internal s f) sign.0 ∙ internal) in
        entity_is k one ∙ (some_kept y ordinary at passes k leaf ∙ sym (entity_is leaf itself))

    list_one : AllOne (of_internal s senses leaf)
    list_one = subst AllOne (sym (same_list leaf itself)) (all_one ordinary ordinary_signed)

    representative_one : IsOne (representative s senses leaf)
    representative_one =
        let linkage : linkage_of s f leaf ≡ Internal = ap (λ (b : Bool). if b then Internal else (if is_linked s f leaf then External else Local)) internal in
        let tentative : ℕ = first_of s f leaf (keep s f (is_tentative s senses) (of_internal s senses leaf)) in
        let same : representative s senses leaf ≡ first_of s f tentative (keep s f (is_definition_at s senses) (of_internal s senses leaf)) =
        ap (λ (l : Linkage). elim l as (λ _. ℕ) [ Internal ↦ first_of s f tentative (keep s f (is_definition_at s senses) (of_internal s senses leaf)) | _ ↦ leaf ]) linkage in
        subst IsOne (sym same)
        (first_one tentative (keep s f (is_definition_at s senses) (of_internal s senses leaf)) (first_one leaf (keep s f (is_tentative s senses) (of_internal s senses leaf)) itself (kept_one (is_tentative s senses) (of_internal s senses leaf) list_one))
        (kept_one (is_definition_at s senses) (of_internal s senses leaf) list_one))

    pub stands : IsKnown s senses leaf
    stands =
        let (y, at, linked) = declared (representative s senses leaf) representative_one.is in
        record { declares = declares (representative s senses leaf) y at linked; entity = same_entity (representative s senses leaf) representative_one }

pub representatives_known : RepresentativesKnown
unfolding source_of
representatives_known tokens unit tree tag_number senses cut is are whole leaf internal =
    let s = numbered tag_number (source_of tokens tree) in
    let linked = tree_is tokens unit tree is tag_number in
    stands s linked senses (linked_declares s senses are whole (grown tokens unit tree tag_number cut is) linked.grown (units_bring tokens unit tree tag_number is) (units_ordered tokens unit tree tag_number cut is)) leaf internal
