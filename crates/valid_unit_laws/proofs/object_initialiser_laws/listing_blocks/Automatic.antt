-- An automatic name is so at each row, and has a declarator and a declaration.
use Rattle.std.proofs.Common.{◌≡◌, ℕ, not, Bool, true, false, ◌&&◌, ◌||◌, List, Option, Some, None, take, refl, ap, ◌∙◌, ◌⊎◌, inl, inr}
use Rattle.std.specs.Prelude.{is_none, option_and_then, if◌then◌else◌}
use Rattle.std.proofs.lemmas.Bool.{eqb-true}
use Rattle.c_grammar.specs.Productions.{p_external, p_declaration, p_parameter}
use Rattle.c_grammar.specs.Terminals.{contains}
use Rattle.c_grammar.specs.Words.{word_extern, word_static}
use Rattle.core_tree.specs.declared.node.Storage.{Storage}
use Rattle.core_tree.specs.declared.node.Storage.TheVariants.{Static, Automatic, FunctionBody, Parameter, Declared}
use Rattle.c_senses.specs.Tree.{Source, is_a, is_name}
use Rattle.c_senses.specs.World.{World, same_length}
use Rattle.c_senses.specs.Sense.{Sense, Nothing, Derivation, IsDeclarator, IsSpecified, Specified, sense_in}
use Rattle.c_senses.specs.Declarators.{outermost_of, specs_of}
use Rattle.c_senses.specs.Entities.{initialiser_for, declaration_of, is_typedef, is_parameter, is_at_file, is_defined, declares_function, has_storage, specified, is_static_object, storage_of}
use Rattle.c_senses.specs.Right.{is_declaring, is_defined_parameter, stands_in_declaration, declares_entity}
use Rattle.c_senses.specs.Statements.{is_automatic_object}
use Rattle.core_node_laws.proofs.marked_trees.Earlier.{earlier}

both : (a b : Bool) → (a && b) ≡ true → (a ≡ true) × (b ≡ true)
both true b e = (refl, e)
both false b e = cc

storage_parts : (p f d e t : Bool) → (if p then Parameter else if f then (if d then FunctionBody else Declared) else if e then Declared else if t then Static else Automatic) ≡ Automatic → (p ≡ false) × (f ≡ false) × (t ≡ false)
storage_parts true f d e t h = cc
storage_parts false true true e t h = cc
storage_parts false true false e t h = cc
storage_parts false false d true t h = cc
storage_parts false false d false true h = cc
storage_parts false false d false false h = (refl, refl, refl)

storage_made : (p f d x i t : Bool) → p ≡ false → f ≡ false → x ≡ false → t ≡ false → (if p then Parameter else if f then (if d then FunctionBody else Declared) else if x && i then Declared else if t then Static else Automatic) ≡ Automatic
storage_made false false d false i false ep ef ex et = refl
storage_made true f d x i t ep ef ex et = cc
storage_made false true d x i t ep ef ex et = cc
storage_made false false d true i t ep ef ex et = cc
storage_made false false d false i true ep ef ex et = cc

none_of : (a b c : Bool) → (a || (b || c)) ≡ false → (a ≡ false) × (b ≡ false) × (c ≡ false)
none_of false false false e = (refl, refl, refl)
none_of true b c e = cc
none_of false true c e = cc
none_of false false true e = cc

all_off : (a b c : Bool) → a ≡ false → b ≡ false → c ≡ false → (a || (b || c)) ≡ false
all_off false false false x y z = refl
all_off true b c x y z = cc
all_off false true c x y z = cc
all_off false false true x y z = cc

module _ (s : Source) (senses : List Sense) (leaf : ℕ) where
  abbrev g : ℕ → Sense
  g = sense_in senses

  abbrev told : ℕ → Sense → Bool
  told word y = elim (elim y as (λ _. Option Specified) [ IsSpecified x ↦ Some x | _ ↦ None ]) as (λ _. Bool) [ None ↦ false | Some x ↦ contains x.storage word ]

  -- what the first senses say of storage, all say
  word_off : (i word : ℕ) (o : Option ℕ) → (elim (specified s g o) as (λ _. Bool) [ None ↦ false | Some x ↦ contains x.storage word ]) ≡ false
      → (elim (specified s (sense_in (take i senses)) o) as (λ _. Bool) [ None ↦ false | Some x ↦ contains x.storage word ]) ≡ false
  word_off i word None e = refl
  word_off i word (Some c) e = by (earlier senses i c)
    where
      by : (sense_in (take i senses) c ≡ g c) ⊎ (sense_in (take i senses) c ≡ Nothing) → told word (sense_in (take i senses) c) ≡ false
      by (inl same) = ap (told word) same ∙ e
      by (inr none) = ap (told word) none

  has_off : (i word : ℕ) → has_storage s g word leaf ≡ false → has_storage s (sense_in (take i senses)) word leaf ≡ false
  has_off i word e = word_off i word (option_and_then (specs_of s) (outermost_of s leaf)) e

  automatic_before : (w : World) (i : ℕ) → is_typedef s g leaf ≡ false → storage_of s g leaf ≡ Automatic → is_automatic_object w s (sense_in (take i senses)) leaf ≡ true
  automatic_before w i off h = both_are (is_typedef s g leaf) (storage_of s (sense_in (take i senses)) leaf) off before
    where
      parts : (is_parameter s g leaf ≡ false) × (declares_function s g leaf ≡ false) × (is_static_object s g leaf ≡ false)
      parts = storage_parts (is_parameter s g leaf) (declares_function s g leaf) (is_defined s g leaf) (has_storage s g word_extern leaf && is_none (initialiser_for s g leaf)) (is_static_object s g leaf) h

      words : (is_at_file s g leaf ≡ false) × (has_storage s g word_static leaf ≡ false) × (has_storage s g word_extern leaf ≡ false)
      words = none_of (is_at_file s g leaf) (has_storage s g word_static leaf) (has_storage s g word_extern leaf) parts.2

      before : storage_of s (sense_in (take i senses)) leaf ≡ Automatic
      before =
          storage_made (is_parameter s g leaf) (declares_function s g leaf) (is_defined s g leaf) (has_storage s (sense_in (take i senses)) word_extern leaf) (is_none (initialiser_for s g leaf)) (is_static_object s (sense_in (take i senses)) leaf) parts.0 parts.1
          (has_off i word_extern words.2)
          (all_off (is_at_file s g leaf) (has_storage s (sense_in (take i senses)) word_static leaf) (has_storage s (sense_in (take i senses)) word_extern leaf) words.0 (has_off i word_static words.1) (has_off i word_extern words.2))

      both_are : (t : Bool) (y : Storage) → t ≡ false → y ≡ Automatic → (not t && elim y as (λ _. Bool) [ Automatic ↦ true | _ ↦ false ]) ≡ true
      both_are false Automatic a b = refl
      both_are true y a b = cc
      both_are false Static a b = cc
      both_are false FunctionBody a b = cc
      both_are false Parameter a b = cc
      both_are false Declared a b = cc

  -- the outermost declarator is the name's
  declarator_of : is_declaring s senses leaf ≡ true → (o : ℕ) × (outermost_of s leaf ≡ Some o) × ((ds : List Derivation) × (g o ≡ IsDeclarator (Some leaf) ds))
  declarator_of e = by (outermost_of s leaf) refl (both (is_name s leaf) _ e).1
    where
      named : (name : Option ℕ) → same_length name (Some leaf) ≡ true → name ≡ Some leaf
      named None e = cc
      named (Some a) e = ap (λ (x : ℕ). Some x) (eqb-true a leaf e)

      told : (y : Sense) → (elim y as (λ _. Bool) [ IsDeclarator name ds ↦ same_length name (Some leaf) | _ ↦ false ]) ≡ true → (ds : List Derivation) × (y ≡ IsDeclarator (Some leaf) ds)
      told (IsDeclarator name ds) e = (ds, ap (λ (n : Option ℕ). IsDeclarator n ds) (named name e))
      told y e = cc

      by : (q : Option ℕ) → outermost_of s leaf ≡ q → (elim q as (λ _. Bool) [ None ↦ false | Some d ↦ elim (g d) as (λ _. Bool) [ IsDeclarator name ds ↦ same_length name (Some leaf) | _ ↦ false ] ]) ≡ true
          → (o : ℕ) × (outermost_of s leaf ≡ Some o) × ((ds : List Derivation) × (g o ≡ IsDeclarator (Some leaf) ds))
      by None at e = cc
      by (Some o) at e = (o, at, told (g o) e)

  declaration_is : stands_in_declaration s senses leaf ≡ true → is_at_file s g leaf ≡ false → is_parameter s g leaf ≡ false → (d : ℕ) × (declaration_of s g leaf ≡ Some d) × (is_a s p_declaration d ≡ true)
  declaration_is stands file parameter = by (declaration_of s g leaf) refl stands file parameter
    where
      pick : (a b c e : Bool) → a ≡ false → c ≡ false → (a || (b || (c && e))) ≡ true → b ≡ true
      pick false true c e x y h = refl
      pick false false false e x y h = cc
      pick true b c e x y h = cc
      pick false false true e x y h = cc

      by : (o : Option ℕ) → declaration_of s g leaf ≡ o → (elim o as (λ _. Bool) [ None ↦ false | Some p ↦ is_a s p_external p || (is_a s p_declaration p || (is_a s p_parameter p && is_defined_parameter s senses leaf)) ]) ≡ true
          → (elim o as (λ _. Bool) [ None ↦ false | Some p ↦ is_a s p_external p ]) ≡ false → (elim o as (λ _. Bool) [ None ↦ false | Some p ↦ is_a s p_parameter p ]) ≡ false
          → (d : ℕ) × (declaration_of s g leaf ≡ Some d) × (is_a s p_declaration d ≡ true)
      by None e h file parameter = cc
      by (Some d) e h file parameter = (d, e, pick (is_a s p_external d) (is_a s p_declaration d) (is_a s p_parameter d) (is_defined_parameter s senses leaf) file parameter h)

  negated : (b : Bool) → not b ≡ true → b ≡ false
  negated true e = cc
  negated false e = refl

  -- what is known of an automatic name that is declared
  pub record IsAutomatic : Type 0 where
    pub name : is_name s leaf ≡ true
    pub declarator : ℕ
    pub outermost : outermost_of s leaf ≡ Some declarator
    pub derives : List Derivation
    pub sensed : sense_in senses declarator ≡ IsDeclarator (Some leaf) derives
    pub declaration : ℕ
    pub around : declaration_of s (sense_in senses) leaf ≡ Some declaration
    pub declares : is_a s p_declaration declaration ≡ true
    pub always : (w : World) (i : ℕ) → is_automatic_object w s (sense_in (take i senses)) leaf ≡ true

  pub automatic_name : declares_entity s senses leaf ≡ true → storage_of s g leaf ≡ Automatic → IsAutomatic
  automatic_name declares auto =
      let a = both (is_declaring s senses leaf) _ declares in
      let b = both (stands_in_declaration s senses leaf) _ a.1 in
      let off = negated (is_typedef s g leaf) (both (not (is_typedef s g leaf)) _ b.1).0 in
      let o = declarator_of a.0 in
      let parts = storage_parts (is_parameter s g leaf) (declares_function s g leaf) (is_defined s g leaf) (has_storage s g word_extern leaf && is_none (initialiser_for s g leaf)) (is_static_object s g leaf) auto in
      let file = (none_of (is_at_file s g leaf) (has_storage s g word_static leaf) (has_storage s g word_extern leaf) parts.2).0 in
      let d = declaration_is b.0 file parts.0 in
      record {
        name = (both (is_name s leaf) _ a.0).0;
        declarator = o.0;
        outermost = o.1;
        derives = o.2.0;
        sensed = o.2.1;
        declaration = d.0;
        around = d.1;
        declares = d.2;
        always = λ w i. automatic_before w i off auto;
      }
