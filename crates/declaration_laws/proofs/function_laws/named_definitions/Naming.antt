-- The function around the block of a definition.
use Rattle.std.proofs.Common.{arith, ◌≡◌, ◌<◌, ℕ, zero, suc, ◌||◌, ◌&&◌, ◌==◌, nat_eq, not, Bool, true, false, List, [], ◌∷◌, All, Option, Some, None, length, eq-eqb, refl, sym, ap, ◌∙◌, subst, ◌⊎◌, inl, inr}
use Rattle.std.specs.Prelude.{⊤, is_some, option_and_then, option_map, if◌then◌else◌}
use Rattle.std.specs.List.{find}
use Rattle.std.proofs.lemmas.Bool.{eqb-true}
use Rattle.std.proofs.lemmas.List.Elements.{All-head, All-tail}
use Rattle.c_grammar.specs.Productions.{p_external, p_block}
use Rattle.c_grammar.specs.Terminals.{contains}
use Rattle.c_mentions.specs.Syntax as syntax
use Rattle.c_mentions.specs.Symbols.{symbol_of}
use Rattle.core_tree.specs.declared.node.Linkage.{Linkage}
use Rattle.core_tree.specs.declared.node.Linkage.TheVariants.{External, Internal, Local}
use Rattle.c_scope.specs.declared.kinds.Declared.{Declared}
use Rattle.c_scope.specs.Resolves.{bindings}
use Rattle.c_senses.specs.Tree.{Source, children_at, is_a, child_of, first_where, parent_of, above_within, nearest_above}
use Rattle.c_senses.specs.Names.{source_of, numbered, ordinary_at, has_linkage}
use Rattle.c_senses.specs.Entities.{declaration_of, entity_of, function_around, defined_name, is_linked, is_internal, is_internal_of, internal_among, keep, first_of, linkage_of, is_typedef}
use Rattle.c_senses.specs.Right.{is_declaring, stands_in_declaration, representative, of_internal, is_tentative, is_definition_at}
use Rattle.c_senses.specs.Sense.{Sense, sense_in}
use Rattle.declaration_laws.specs.definition_laws.Definitions.{is_definition}
use Rattle.declaration_laws.specs.definition_laws.linkage_laws.Linked.{StandsLinked}
use Rattle.declaration_laws.proofs.definition_laws.linkage_laws.Origins.{HasOrigin, origin, origins}
use Rattle.declaration_laws.proofs.definition_laws.linkage_laws.Seen.{nodes, some_same, none_some, parent_is}
use Rattle.declaration_laws.proofs.definition_laws.linkage_laws.Linked.{Tree, stands_linked}
use Rattle.declaration_laws.proofs.definition_laws.linkage_laws.Reading.{tree_is}
use Rattle.declaration_laws.specs.definition_laws.function_definitions.Defined.{Defines}
use Rattle.declaration_laws.proofs.definition_laws.function_definitions.Declaring.{sign_is}
use Rattle.declaration_laws.proofs.definition_laws.function_definitions.Reading.{definitions_declare}
use Rattle.declaration_laws.proofs.function_laws.function_bodies.Standing.{named_by}
use Rattle.declaration_laws.proofs.function_laws.function_bodies.Reading.{parts_of, declarators_of}
use Rattle.declaration_laws.specs.function_laws.named_definitions.Named.{BlocksNamed, DefinitionsAreNamed}

both : (a b : Bool) → (a && b) ≡ true → (a ≡ true) × (b ≡ true)
both true true e = (refl, refl)
both true false e = cc
both false b e = cc

first_in : (test : ℕ → Bool) (ks : List ℕ) (x : ℕ) → first_where test ks ≡ Some x → contains ks x ≡ true
first_in test [] x e = absurd (none_some e)
first_in test (k ∷ ks) x e = by (test k) e (λ f. first_in test ks x f)
  where
    by : (b : Bool) → (if b then Some k else first_where test ks) ≡ Some x → (first_where test ks ≡ Some x → contains ks x ≡ true) → (nat_eq k x || contains ks x) ≡ true
    by true f later = ap (λ (b : Bool). b || contains ks x) (eq-eqb k x (some_same f))
    by false f later = or_then (nat_eq k x) (contains ks x) (later f)
      where
        or_then : (a b : Bool) → b ≡ true → (a || b) ≡ true
        or_then true b e = refl
        or_then false b e = e

ends : (a b c d : Bool) → (a && (b && (c && d))) ≡ true → (a ≡ true) × (d ≡ true)
ends a b c d e = let x = both a (b && (c && d)) e in let y = both b (c && d) x.1 in (x.0, (both c d y.1).1)

module _ (s : Source) (tree : Tree s) (senses : List Sense) (defines : (q : ℕ) → is_definition s q ≡ true → Defines s senses q)
    (each : (leaf : ℕ) → is_linked s (sense_in senses) leaf ≡ true → StandsLinked s (sense_in senses) leaf)
    (name_of : (r q : ℕ) (is : is_definition s q ≡ true) → declaration_of s (sense_in senses) r ≡ Some q → (is_declaring s senses r ≡ true) ⊎ (is_linked s (sense_in senses) r ≡ true) → r ≡ (defines q is).name) where
  abbrev f : ℕ → Sense
  f i = sense_in senses i

  abbrev ordinary : List Declared
  ordinary = s.declared.ordinary

  abbrev symbol : ℕ → ℕ
  symbol leaf = symbol_of s.text s.tokens (syntax.token_at (nodes s) leaf)

  signed : (x : Declared) → HasOrigin s.text s.tokens (nodes s) x → symbol x.node ≡ x.symbol
  signed x h =
      let sign = sign_is s.tokens (nodes s) s.text (symbol_of s.text s.tokens) h.node h.standing.role h.leaf h.symbol h.linkage h.derivation h.type_name (_) h.mentions in
      ap symbol (ap (λ (z : Declared). z.node) h.is) ∙ (sym sign ∙ sym (ap (λ (z : Declared). z.symbol) h.is))

  abbrev AllSigned : List Declared → Type 0
  AllSigned [] = ⊤
  AllSigned (x ∷ xs) = (symbol x.node ≡ x.symbol) × AllSigned xs

  all_signed : (ds : List Declared) → All (HasOrigin s.text s.tokens (nodes s)) ds → AllSigned ds
  all_signed [] h = tt
  all_signed (x ∷ xs) h = (signed x (All-head (HasOrigin s.text s.tokens (nodes s)) x xs h), all_signed xs (All-tail (HasOrigin s.text s.tokens (nodes s)) x xs h))

  ordinary_signed : AllSigned ordinary
  ordinary_signed = subst AllSigned (sym tree.names) (all_signed (bindings s.text s.tokens (nodes s)).names (origins s.text s.tokens (nodes s)))

  entry : (r : ℕ) (y : Declared) → ordinary_at s r ≡ Some y → symbol r ≡ y.symbol
  entry r y e =
      let there = origin s.text s.tokens (nodes s) r y (subst (λ (ds : List Declared). find (λ (d : Declared). d.node == r) ds ≡ Some y) tree.names e) in
      ap symbol (sym there.1) ∙ signed y there.0

  -- an internal name of a symbol
  abbrev IsOf : ℕ → ℕ → Type 0
  IsOf k r = (is_internal s f r ≡ true) × (symbol r ≡ k)

  abbrev AllOf : ℕ → List Declared → Type 0
  AllOf k [] = ⊤
  AllOf k (x ∷ xs) = IsOf k x.node × AllOf k xs

  kept_of : (k : ℕ) (ds : List Declared) → AllSigned ds → AllOf k (keep s f (is_internal_of s f k) ds)
  kept_of k [] h = tt
  kept_of k (x ∷ xs) h = by (is_internal_of s f k x) refl (kept_of k xs h.1)
    where
      by : (b : Bool) → is_internal_of s f k x ≡ b → AllOf k (keep s f (is_internal_of s f k) xs) → AllOf k (if b then x ∷ keep s f (is_internal_of s f k) xs else keep s f (is_internal_of s f k) xs)
      by true e later = let t = both (nat_eq x.symbol k) (is_internal s f x.node) e in ((t.1, h.0 ∙ eqb-true x.symbol k t.0), later)
      by false e later = later

  fewer : (k : ℕ) (test : Declared → Bool) (ds : List Declared) → AllOf k ds → AllOf k (keep s f test ds)
  fewer k test [] h = tt
  fewer k test (x ∷ xs) h = by (test x) (fewer k test xs h.1)
    where
      by : (b : Bool) → AllOf k (keep s f test xs) → AllOf k (if b then x ∷ keep s f test xs else keep s f test xs)
      by true later = (h.0, later)
      by false later = later

  first_of_all : (k r : ℕ) (ds : List Declared) → AllOf k ds → IsOf k r → IsOf k (first_of s f r ds)
  first_of_all k r [] h own = own
  first_of_all k r (x ∷ xs) h own = h.0

  -- the declarations of the name of a symbol
  listed : (k r : ℕ) → IsOf k r → internal_among s f ordinary (ordinary_at s r) ≡ keep s f (is_internal_of s f k) ordinary
  listed k r h = by (ordinary_at s r) refl (both (is_linked s f r) _ h.0).0
    where
      by : (o : Option Declared) → ordinary_at s r ≡ o → (elim o as (λ _. Bool) [ None ↦ false | Some z ↦ has_linkage z ]) ≡ true → internal_among s f ordinary o ≡ keep s f (is_internal_of s f k) ordinary
      by None e l = cc
      by (Some y) e l = ap (λ (j : ℕ). keep s f (is_internal_of s f j) ordinary) (sym (entry r y e) ∙ h.1)

  abbrev listing : ℕ → List Declared
  listing k = keep s f (is_internal_of s f k) ordinary

  entity_first : (k r : ℕ) → IsOf k r → entity_of s f r ≡ first_of s f r (listing k)
  entity_first k r h = ap (λ (b : Bool). if b then first_of s f r (internal_among s f ordinary (ordinary_at s r)) else r) h.0 ∙ ap (first_of s f r) (listed k r h)

  -- all of them have one entity
  one_first : (r d : ℕ) (ds : List Declared) → (ds ≡ [] → r ≡ d) → first_of s f r ds ≡ first_of s f d ds
  one_first r d [] h = h refl
  one_first r d (x ∷ xs) h = refl

  internal_case : (d : ℕ) → linkage_of s f d ≡ Internal → (is_linked s f (representative s senses d) ≡ true) × (entity_of s f (representative s senses d) ≡ entity_of s f d)
  internal_case d e =
      let own = internal_one (is_internal s f d) (is_linked s f d) e in
      let k = symbol d in
      let is : IsOf (symbol d) d = (own, refl) in
      let of_list : of_internal s senses d ≡ listing (symbol d) = listed (symbol d) d is in
      let all = kept_of (symbol d) ordinary ordinary_signed in
      let told : representative s senses d ≡ first_of s f (first_of s f d (keep s f (is_tentative s senses) (listing (symbol d)))) (keep s f (is_definition_at s senses) (listing (symbol d)))
      = ap (λ (l : Linkage). elim l as (λ _. ℕ) [ Internal ↦ first_of s f (first_of s f d (keep s f (is_tentative s senses) (of_internal s senses d))) (keep s f (is_definition_at s senses) (of_internal s senses d)) | _ ↦ d ]) e
      ∙ ap (λ (ds : List Declared). first_of s f (first_of s f d (keep s f (is_tentative s senses) ds)) (keep s f (is_definition_at s senses) ds)) of_list in
      let rep : IsOf (symbol d) (representative s senses d) = subst (IsOf (symbol d)) (sym told)
      (first_of_all (symbol d) (first_of s f d (keep s f (is_tentative s senses) (listing (symbol d)))) (keep s f (is_definition_at s senses) (listing (symbol d))) (fewer (symbol d) (is_definition_at s senses) (listing (symbol d)) all)
      (first_of_all (symbol d) d (keep s f (is_tentative s senses) (listing (symbol d))) (fewer (symbol d) (is_tentative s senses) (listing (symbol d)) all) is)) in (
        (both (is_linked s f (representative s senses d)) _ rep.0).0,
        entity_first (symbol d) (representative s senses d) rep ∙ (one_first (representative s senses d) d (listing (symbol d)) (λ none. told ∙ ap (λ (ds : List Declared). first_of s f (first_of s f d (keep s f (is_tentative s senses) ds)) (keep s f (is_definition_at s senses) ds)) none) ∙ sym (entity_first (symbol d) d is)),
      )
    where
      internal_one : (a b : Bool) → (if a then Internal else (if b then External else Local)) ≡ Internal → a ≡ true
      internal_one true b e = refl
      internal_one false true e = cc
      internal_one false false e = cc

  abbrev chosen : ℕ → Linkage → ℕ
  chosen d linkage =
      elim linkage [
        | Internal ↦ first_of s f (first_of s f d (keep s f (is_tentative s senses) (of_internal s senses d))) (keep s f (is_definition_at s senses) (of_internal s senses d))
        | _ ↦ d
      ]

  -- a part of a definition has it around
  around : (q x : ℕ) → is_definition s q ≡ true → contains (children_at s q) x ≡ true → nearest_above s (is_definition s) x ≡ Some q
  around q x is child = ap (above_within s (is_definition s) (length s.nodes)) (parent_is s tree.grown q x child) ∙ by (length s.nodes) (tree.grown.within q x child)
    where
      by : (n : ℕ) → q < n → above_within s (is_definition s) n (Some q) ≡ Some q
      by zero lt = absurd (omega (arith, lt))
      by (suc n) lt = ap (λ (b : Bool). if b then Some q else above_within s (is_definition s) n (parent_of s q)) is

  pub named : BlocksNamed s senses
  named d block entity defined found = by (declaration_of s f (representative s senses d)) refl defined found
    where
      parts : (is_declaring s senses d ≡ true) × ((entity_of s f d == d) ≡ true)
      parts = ends (is_declaring s senses d) (stands_in_declaration s senses d) (not (is_typedef s f d)) (entity_of s f d == d) entity

      own : entity_of s f d ≡ d
      own = eqb-true (entity_of s f d) d parts.1

      which : (l : Linkage) → linkage_of s f d ≡ l → ((is_declaring s senses (representative s senses d) ≡ true) ⊎ (is_linked s f (representative s senses d) ≡ true)) × (entity_of s f (representative s senses d) ≡ d)
      which Internal e = let c = internal_case d e in (inr c.0, c.1 ∙ own)
      which External e = let same : representative s senses d ≡ d = ap (chosen d) e in (inl (ap (is_declaring s senses) same ∙ parts.0), ap (entity_of s f) same ∙ own)
      which Local e = let same : representative s senses d ≡ d = ap (chosen d) e in (inl (ap (is_declaring s senses) same ∙ parts.0), ap (entity_of s f) same ∙ own)

      by : (o : Option ℕ) → declaration_of s f (representative s senses d) ≡ o → (elim o as (λ _. Bool) [ None ↦ false | Some p ↦ is_a s p_external p && is_some (child_of s p_block p) ]) ≡ true → option_and_then (child_of s p_block) o ≡ Some block
          → option_map (entity_of s f) (function_around s f block) ≡ Some d
      by None at h b = cc
      by (Some q) at h b =
          let w = which (linkage_of s f d) refl in
          let name = name_of (representative s senses d) q h at w.0 in
          let near = around q block h (first_in (is_a s p_block) (children_at s q) block b) in
          ap (λ (o : Option ℕ). option_map (entity_of s f) (option_and_then (defined_name s f) o)) near ∙ (ap (option_map (entity_of s f)) (defines q h).named ∙ ap (λ (k : ℕ). Some k) (ap (entity_of s f) (sym name) ∙ w.1))

pub definitions_named : DefinitionsAreNamed
definitions_named tokens unit tree tag_number senses cut is are whole =
    let s = numbered tag_number (source_of tokens tree) in
    let t = tree_is tokens unit tree is tag_number in
    let defines = λ (q : ℕ) (h : is_definition (numbered tag_number (source_of tokens tree)) q ≡ true). definitions_declare tokens unit tree tag_number senses q cut is are whole h in
    named s t senses defines (λ leaf h. stands_linked s t senses are whole leaf h) (λ r q h e which. named_by s t senses are whole (parts_of tokens unit tree tag_number is) defines (declarators_of tokens unit tree tag_number senses cut is are whole) r q h e which)
