-- Objects that live with their block.
use Rattle.std.proofs.Common.{◌≡◌, ◌≤◌, ℕ, Bool, true, false, ◌&&◌, ◌||◌, not, List, Option, Some, None, refl, sym, ap, ◌∙◌}
use Rattle.std.specs.Prelude.{is_none, option_and_then, if◌then◌else◌}
use Rattle.core_tree.specs.declared.node.Storage.{Storage}
use Rattle.core_tree.specs.declared.node.Storage.TheVariants.{Static, Automatic, FunctionBody, Parameter as ParameterStorage, Declared}
use Rattle.c_grammar.specs.Words.{word_extern, word_static}
use Rattle.c_grammar.specs.Terminals.{contains}
use Rattle.c_senses.specs.Tree.{Source}
use Rattle.c_senses.specs.Names.{ordinary_at, linked_before}
use Rattle.c_senses.specs.World.{World}
use Rattle.c_senses.specs.Declarators.{outermost_of, specs_of}
use Rattle.c_senses.specs.Entities.{is_typedef, is_parameter, is_at_file, is_defined, declares_function, has_storage, specified, specified_of, initialiser_for, is_linked, is_without_storage, is_static_at_file, some_such, is_internal, entity_of, first_of, internal_among}
use Rattle.c_senses.specs.Statements.{is_automatic_object}
use Rattle.c_senses.specs.Sense.{Sense, IsSpecified, Specified}
use Rattle.core_node_laws.proofs.built_unit_laws.run_laws.Times.{known_at, told_later}

-- what an automatic object's name isn't
pub record IsLocal (s : Source) (sense : ℕ → Sense) (leaf : ℕ) : Type 0 where
  pub typedef : is_typedef s sense leaf ≡ false
  pub parameter : is_parameter s sense leaf ≡ false
  pub function : declares_function s sense leaf ≡ false
  pub file : is_at_file s sense leaf ≡ false
  pub static : has_storage s sense word_static leaf ≡ false
  pub extern : has_storage s sense word_extern leaf ≡ false

abbrev chosen : (parameter function defined extern none file static : Bool) → Storage
chosen parameter function defined extern none file static =
    if parameter then ParameterStorage else if function then (if defined then FunctionBody else Declared) else if extern && none then Declared else if file || (static || extern) then Static else Automatic

abbrev is_chosen : Bool → Storage → Bool
is_chosen typedef storage = not typedef && elim storage as (λ _. Bool) [ Automatic ↦ true | _ ↦ false ]

flags : (typedef parameter function defined extern none file static : Bool) → is_chosen typedef (chosen parameter function defined extern none file static) ≡ true
    → (typedef ≡ false) × (parameter ≡ false) × (function ≡ false) × (file ≡ false) × (static ≡ false) × (extern ≡ false)
flags true p f d x n a t h = cc
flags false true f d x n a t h = cc
flags false false true true x n a t h = cc
flags false false true false x n a t h = cc
flags false false false d true true a t h = cc
flags false false false d true false true t h = cc
flags false false false d true false false true h = cc
flags false false false d true false false false h = cc
flags false false false d false n true t h = cc
flags false false false d false n false true h = cc
flags false false false d false n false false h = (refl, refl, refl, refl, refl, refl)

back : (typedef parameter function defined extern none file static : Bool) → typedef ≡ false → parameter ≡ false → function ≡ false → file ≡ false → static ≡ false → extern ≡ false
    → is_chosen typedef (chosen parameter function defined extern none file static) ≡ true
back true p f d x n a t h i j k l m = cc
back false true f d x n a t h i j k l m = cc
back false false true d x n a t h i j k l m = cc
back false false false d true n a t h i j k l m = cc
back false false false d false n true t h i j k l m = cc
back false false false d false n false true h i j k l m = cc
back false false false d false n false false h i j k l m = refl

not_internal : (linked file static extern function without such : Bool) → file ≡ false → extern ≡ false → function ≡ false → (linked && ((file && static) || ((extern || (function && without)) && such))) ≡ false
not_internal false a t x f o e h i j = refl
not_internal true true t x f o e h i j = cc
not_internal true false t true f o e h i j = cc
not_internal true false t false true o e h i j = cc
not_internal true false t false false o e h i j = refl

module _ (s : Source) where
  pub local_of : (w : World) (sense : ℕ → Sense) (leaf : ℕ) → is_automatic_object w s sense leaf ≡ true → IsLocal s sense leaf
  local_of w sense leaf h =
      let k = flags (is_typedef s sense leaf) (is_parameter s sense leaf) (declares_function s sense leaf) (is_defined s sense leaf) (has_storage s sense word_extern leaf) (is_none (initialiser_for s sense leaf)) (is_at_file s sense leaf)
      (has_storage s sense word_static leaf) h in
      record { typedef = k.0; parameter = k.1; function = k.2; file = k.3; static = k.4; extern = k.5 }

  pub of_local : (w : World) (sense : ℕ → Sense) (leaf : ℕ) → IsLocal s sense leaf → is_automatic_object w s sense leaf ≡ true
  of_local w sense leaf h =
      back (is_typedef s sense leaf) (is_parameter s sense leaf) (declares_function s sense leaf) (is_defined s sense leaf) (has_storage s sense word_extern leaf) (is_none (initialiser_for s sense leaf)) (is_at_file s sense leaf)
      (has_storage s sense word_static leaf) h.typedef h.parameter h.function h.file h.static h.extern

  -- it is known by its own leaf
  pub local_entity : (sense : ℕ → Sense) (leaf : ℕ) → IsLocal s sense leaf → entity_of s sense leaf ≡ leaf
  local_entity sense leaf h =
      let none : is_internal s sense leaf ≡ false =
      not_internal (is_linked s sense leaf) (is_at_file s sense leaf) (has_storage s sense word_static leaf) (has_storage s sense word_extern leaf) (declares_function s sense leaf) (is_without_storage s sense leaf)
      (some_such s sense (λ d. is_static_at_file s sense d.node) (linked_before s (ordinary_at s leaf))) h.file h.extern h.function in
      ap (λ (b : Bool). if b then first_of s sense leaf (internal_among s sense s.declared.ordinary (ordinary_at s leaf)) else leaf) none

  -- where the specifiers are the same
  pub local_as : (f g : ℕ → Sense) (leaf : ℕ) (z : Specified) → specified_of s f leaf ≡ Some z → specified_of s g leaf ≡ Some z → IsLocal s f leaf → IsLocal s g leaf
  local_as f g leaf z e k h =
      let same : specified_of s f leaf ≡ specified_of s g leaf = e ∙ sym k in
      record {
        typedef = h.typedef;
        parameter = h.parameter;
        function = h.function;
        file = h.file;
        static = sym (words word_static same) ∙ h.static;
        extern = sym (words word_extern same) ∙ h.extern;
      }
    where
      words : (word : ℕ) → specified_of s f leaf ≡ specified_of s g leaf → has_storage s f word leaf ≡ has_storage s g word leaf
      words word same = ap (λ (o : Option Specified). elim o as (λ _. Bool) [ None ↦ false | Some x ↦ contains x.storage word ]) same

  module _ (senses : List Sense) where
    -- specifiers that are known stay known
    pub specified_later : (n m leaf : ℕ) (z : Specified) → specified_of s (known_at s senses n) leaf ≡ Some z → n ≤ m → specified_of s (known_at s senses m) leaf ≡ Some z
    specified_later n m leaf z e le = by (option_and_then (specs_of s) (outermost_of s leaf)) e
      where
        of_sense : (y : Sense) → (elim y as (λ _. Option Specified) [ IsSpecified x ↦ Some x | _ ↦ None ]) ≡ Some z → y ≡ IsSpecified z
        of_sense (IsSpecified x) h = ap IsSpecified (let same : x ≡ z = cc in same)
        of_sense y h = cc

        by : (o : Option ℕ) → specified s (known_at s senses n) o ≡ Some z → specified s (known_at s senses m) o ≡ Some z
        by None h = cc
        by (Some i) h =
            let told : known_at s senses n i ≡ IsSpecified z = of_sense (known_at s senses n i) h in
            ap (λ (y : Sense). elim y as (λ _. Option Specified) [ IsSpecified x ↦ Some x | _ ↦ None ]) (told_later s senses n m i (IsSpecified z) told (λ no. cc) le)
