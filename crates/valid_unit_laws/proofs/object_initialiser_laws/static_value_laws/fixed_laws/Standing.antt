-- What isn't automatic by its leaf is no local of the unit.
use Rattle.std.proofs.Common.{◌≡◌, ℕ, Bool, true, false, List, Option, Some, None, length, refl, sym, ap, ◌∙◌, subst, inl, inr}
use Rattle.std.specs.Prelude.{option_map, if◌then◌else◌}
use Rattle.std.proofs.lemmas.Bool.{and_parts, both_ways}
use Rattle.c_types.specs.Trees.{Ctype}
use Rattle.core_tree.specs.declared.node.Unit.{Unit}
use Rattle.core_tree.specs.declared.node.Entity.{Entity}
use Rattle.core_tree.specs.declared.node.Linkage.{Linkage}
use Rattle.core_tree.specs.declared.node.Linkage.TheVariants.{Internal, Local}
use Rattle.core_tree.specs.declared.node.Storage.{Storage}
use Rattle.core_tree.specs.declared.node.Storage.TheVariants.{Static, Automatic, FunctionBody, Parameter, Declared}
use Rattle.core_tree.specs.Typed.{trees_of}
use Rattle.core_tree.specs.Range.{entity_at}
use Rattle.core_tree.specs.Valid.{IsLocal, IsStaticIn, IsStaticEntity}
use Rattle.c_senses.specs.Tree.{Source, is_name}
use Rattle.c_senses.specs.Sense.{Sense, sense_in}
use Rattle.c_senses.specs.Entities.{is_linked, linkage_of, storage_of, is_automatic_storage, declares_function}
use Rattle.c_senses.specs.Initialised.{is_in_body}
use Rattle.c_senses.specs.Rows.{world_at}
use Rattle.c_senses.specs.Right.{declared_name, declared_as, declares_entity, is_declaring, entity_type, storage_at, representative, literal_storage, literal_as, IsDeclaredAt}
use Rattle.c_senses.specs.Right as right
use Rattle.declaration_laws.specs.declared_type_laws.passed.built_unit_laws.built_units.Built.{IsBuilt}
use Rattle.declaration_laws.specs.function_laws.passed.definition_laws.linkage_laws.Linked.{StandsLinked}
use Rattle.declaration_laws.proofs.function_laws.passed.definition_laws.linkage_laws.Unlinked.{lives, declared_local, Made, made}
use Rattle.valid_unit_laws.specs.object_initialiser_laws.static_value_laws.fixed_laws.Fixed.{automatic_by, LiteralsStatic}

some_one : {X : Type 0} → {x y : X} → ◌≡◌ {A = Option X} (Some x) (Some y) → x ≡ y
some_one h = cc

none_some : {X : Type 0} → {x : X} → ◌≡◌ {A = Option X} None (Some x) → ⊥
none_some h = cc

no_local : (x : Storage) → lives x ≡ false → IsLocal x → ⊥
no_local Automatic h l = cc
no_local Parameter h l = cc
no_local x h l = l

lives_as : (s : Source) (f : ℕ → Sense) (x : Storage) → is_automatic_storage s f x ≡ false → lives x ≡ false
lives_as s f Automatic h = cc
lives_as s f Parameter h = cc
lives_as s f Static h = refl
lives_as s f FunctionBody h = refl
lives_as s f Declared h = refl

module _ (s : Source) (senses : List Sense) (each : (leaf : ℕ) → is_linked s (sense_in senses) leaf ≡ true → StandsLinked s (sense_in senses) leaf) where
  abbrev sense : ℕ → Sense
  sense i = sense_in senses i

  -- what a leaf declares that is a name, by its linkage
  stored : (leaf : ℕ) → linkage_of s sense leaf ≡ Local → storage_at s senses leaf ≡ storage_of s sense leaf
  stored leaf e =
      ap (λ (l : Linkage). elim l as (λ _. Storage) [
        | Internal ↦ (elim (storage_of s sense (representative s senses leaf)) as (λ _. Storage) [ Declared ↦ if declares_function s sense leaf then Declared else Static | other ↦ other ])
        | _ ↦ storage_of s sense leaf
      ]) e

  -- a name's test
  by_name : (leaf : ℕ) → is_name s leaf ≡ true → automatic_by s senses leaf ≡ false → is_automatic_storage s sense (storage_of s sense leaf) ≡ false
  by_name leaf named h = sym (ap (λ (b : Bool). if b then is_automatic_storage s sense (storage_of s sense leaf) else is_in_body (world_at s senses (length senses)) s sense leaf) named) ∙ h

  storage_stays : (leaf : ℕ) (what : right.Declared) → declared_name s senses leaf ≡ Some what → (is_name s leaf ≡ true) × (what.storage ≡ storage_at s senses leaf) × (what.linkage ≡ linkage_of s sense leaf)
  storage_stays leaf what e = by (declares_entity s senses leaf) (entity_type s senses leaf) refl e
    where
      by : (b : Bool) (o : Option Ctype) → declares_entity s senses leaf ≡ b → (if b then option_map (declared_as s senses leaf) o else None) ≡ Some what
          → (is_name s leaf ≡ true) × (what.storage ≡ storage_at s senses leaf) × (what.linkage ≡ linkage_of s sense leaf)
      by false o d e = absurd (none_some e)
      by true None d e = absurd (none_some e)
      by true (Some t) d e =
          let same : declared_as s senses leaf t ≡ what = some_one e in
          ((and_parts (is_name s leaf) _ (and_parts (is_declaring s senses leaf) _ d).0).0, sym (ap (λ (x : right.Declared). x.storage) same), sym (ap (λ (x : right.Declared). x.linkage) same))

  -- what is declared and isn't automatic by its leaf lives in no function
  pub lives_not : LiteralsStatic s senses → (leaf : ℕ) (what : right.Declared) → IsDeclaredAt s senses leaf what → automatic_by s senses leaf ≡ false → lives what.storage ≡ false
  lives_not literals leaf what (inr (c, literal, is)) h = ap (λ (x : right.Declared). lives x.storage) is ∙ ap lives (literals leaf c literal h)
  lives_not literals leaf what (inl is) h = by (lives what.storage) refl
    where
      there : (is_name s leaf ≡ true) × (what.storage ≡ storage_at s senses leaf) × (what.linkage ≡ linkage_of s sense leaf)
      there = storage_stays leaf what is

      by : (b : Bool) → lives what.storage ≡ b → b ≡ false
      by false e = refl
      by true e =
          let local : linkage_of s sense leaf ≡ Local = sym there.2 ∙ declared_local s senses each leaf what (inl is) e in
          absurd (both_ways (lives what.storage) (ap lives (there.1 ∙ stored leaf local) ∙ lives_as s sense (storage_of s sense leaf) (by_name leaf there.0 h)) e)

module _ (s : Source) (name : List ℕ) (u : Unit) (b : IsBuilt s name u) (each : (leaf : ℕ) → is_linked s (sense_in b.senses) leaf ≡ true → StandsLinked s (sense_in b.senses) leaf) (literals : LiteralsStatic s b.senses) where
  pub is_static : (d e : ℕ) → b.numbering d ≡ Some e → automatic_by s b.senses d ≡ false → IsStaticEntity (trees_of u) e
  is_static d e number h = by (entity_at (trees_of u) e) refl
    where
      by : (o : Option Entity) → entity_at (trees_of u) e ≡ o → IsStaticIn o
      by (Some entity) at =
          let m : Made s name u b e entity = made s name u b e entity at in
          let same : d ≡ m.leaf = b.entity_once d m.leaf e number m.number in
          let none : lives m.what.storage ≡ false = lives_not s b.senses each literals m.leaf m.what m.declared (subst (λ (i : ℕ). automatic_by s b.senses i ≡ false) same h) in
          no_local entity.storage (ap lives m.is.storage ∙ none)
      by None at =
          let (declared, what, is, numbered) = b.no_other_entity e (b.numbered d e number) in
          let (f, entity, same, there, like) = b.each_declared declared what is in
          let one : f ≡ e = some_one (sym same ∙ numbered) in
          absurd (none_some (sym at ∙ (ap (λ (i : ℕ). entity_at (trees_of u) i) (sym one) ∙ there)))
