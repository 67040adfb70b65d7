-- Which storage is automatic.
use Rattle.std.proofs.Common.{◌≡◌, ℕ, Bool, true, false, ◌&&◌, not, refl, if◌then◌else◌}
use Rattle.std.specs.Prelude.{◌||◌, is_none}
use Rattle.core_tree.specs.declared.node.Storage.{Storage}
use Rattle.core_tree.specs.declared.node.Storage.TheVariants.{Static, Automatic, FunctionBody, Parameter as ParameterStorage, Declared}
use Rattle.c_grammar.specs.Words.{word_extern, word_static}
use Rattle.c_senses.specs.Tree.{Source}
use Rattle.c_senses.specs.Sense.{Sense}
use Rattle.c_senses.specs.Entities.{is_parameter, declares_function, is_defined, has_storage, initialiser_for, is_at_file, is_static_object, storage_of, is_automatic_storage}

pub or_first : (a b : Bool) → true ≡ a → true ≡ (a || b)
or_first true b e = refl
or_first false b e = cc

pub or_second : (a b : Bool) → false ≡ a → (a || b) ≡ b
or_second true b e = cc
or_second false b e = refl

module _ (s : Source) (sense : ℕ → Sense) where
  abbrev storage_by : Bool → Bool → Bool → Bool → Bool → Storage
  storage_by p f d x st = if p then ParameterStorage else (if f then (if d then FunctionBody else Declared) else (if x then Declared else (if st then Static else Automatic)))

  abbrev automatic : Bool → Bool → Bool → Bool → Bool → Bool
  automatic p f d x st = is_automatic_storage s sense (storage_by p f d x st)

  a_parameter : (p f d x st : Bool) → true ≡ p → true ≡ automatic p f d x st
  a_parameter true f d x st e = refl
  a_parameter false f d x st e = cc

  a_function : (p f d x st : Bool) → false ≡ p → true ≡ f → false ≡ automatic p f d x st
  a_function true f d x st e h = cc
  a_function false false d x st e h = cc
  a_function false true true x st e h = refl
  a_function false true false x st e h = refl

  an_object : (p f d x n a q : Bool) → false ≡ p → false ≡ f → not (a || (q || x)) ≡ automatic p f d (x && n) (a || (q || x))
  an_object true f d x n a q e h = cc
  an_object false true d x n a q e h = cc
  an_object false false d true true true true e h = refl
  an_object false false d true true true false e h = refl
  an_object false false d true true false true e h = refl
  an_object false false d true true false false e h = refl
  an_object false false d true false true true e h = refl
  an_object false false d true false true false e h = refl
  an_object false false d true false false true e h = refl
  an_object false false d true false false false e h = refl
  an_object false false d false n true true e h = refl
  an_object false false d false n true false e h = refl
  an_object false false d false n false true e h = refl
  an_object false false d false n false false e h = refl

  module _ (leaf : ℕ) where
    abbrev x : Bool
    x = has_storage s sense word_extern leaf

    abbrev n : Bool
    n = is_none (initialiser_for s sense leaf)

    pub parameter_is : true ≡ is_parameter s sense leaf → true ≡ is_automatic_storage s sense (storage_of s sense leaf)
    parameter_is e = a_parameter (is_parameter s sense leaf) (declares_function s sense leaf) (is_defined s sense leaf) (x && n) (is_static_object s sense leaf) e

    pub function_isnt : false ≡ is_parameter s sense leaf → true ≡ declares_function s sense leaf → false ≡ is_automatic_storage s sense (storage_of s sense leaf)
    function_isnt e h = a_function (is_parameter s sense leaf) (declares_function s sense leaf) (is_defined s sense leaf) (x && n) (is_static_object s sense leaf) e h

    pub object_is : false ≡ is_parameter s sense leaf → false ≡ declares_function s sense leaf → not (is_static_object s sense leaf) ≡ is_automatic_storage s sense (storage_of s sense leaf)
    object_is e h = an_object (is_parameter s sense leaf) (declares_function s sense leaf) (is_defined s sense leaf) x n (is_at_file s sense leaf) (has_storage s sense word_static leaf) e h
