-- What is fixed by what is known at a row is fixed by all senses.
use Rattle.std.proofs.Common.{◌≡◌, ℕ, Bool, true, false, ◌&&◌, ◌||◌, not, Option, Some, None, refl, ap, ◌∙◌}
use Rattle.std.specs.Prelude.{is_none, option_and_then, if◌then◌else◌}
use Rattle.std.proofs.lemmas.Bool.{and_parts}
use Rattle.c_grammar.specs.Terminals.{contains}
use Rattle.c_grammar.specs.Words.{word_extern, word_static}
use Rattle.core_tree.specs.declared.node.Storage.TheVariants.{Static, Automatic, FunctionBody, Parameter, Declared}
use Rattle.c_consts.specs.Core.{Core, Cores, Of, NoCores, MoreCores}
use Rattle.c_senses.specs.Tree.{Source, is_name}
use Rattle.c_senses.specs.World.{World}
use Rattle.c_senses.specs.Sense.{Sense, Specified}
use Rattle.c_senses.specs.Declarators.{outermost_of, specs_of}
use Rattle.c_senses.specs.Entities.{specified_of, has_storage, is_parameter, is_at_file, declares_function, is_defined, initialiser_for, storage_of, is_automatic_storage}
use Rattle.c_senses.specs.Initialised.{FixedForm, Always, OfNumbers, OfEntity, OfPlace, OfPointer, OfMoved, Never, place_form, pointer_form, is_pointer_type, is_fixed_number, are_fixed_numbers, is_fixed_place, is_fixed_pointer, first_place, first_pointer, first_moved, is_fixed, is_automatic, is_in_body}
use Rattle.declaration_laws.proofs.declared_type_laws.plain_names.Later.{Later, told, initialiser_for_same}
use Rattle.valid_unit_laws.specs.object_initialiser_laws.static_value_laws.fixed_laws.Fixed.{all_fixed}

-- of two tests of entities, where the one fails the other does
module _ (a b : ℕ → Bool) (less : (e : ℕ) → a e ≡ false → b e ≡ false) where
  entity_later : (e : ℕ) → not (a e) ≡ true → not (b e) ≡ true
  entity_later e h = by (a e) refl h
    where
      by : (x : Bool) → a e ≡ x → not x ≡ true → not (b e) ≡ true
      by false is k = ap not (less e is)
      by true is k = cc

  left : (x y z : Bool) → (x ≡ true → y ≡ true) → (x && z) ≡ true → (y && z) ≡ true
  left true y z f h = ap (λ (v : Bool). v && z) (f refl) ∙ h
  left false y z f h = cc

  mutual
    place_later : (c : Core) → is_fixed_place a c ≡ true → is_fixed_place b c ≡ true
    place_later (Of kind place type under) h = by (place_form kind) (first_place_later under) (first_pointer_later under) h
      where
        by : (form : FixedForm) → (first_place a under ≡ true → first_place b under ≡ true) → (first_pointer a under ≡ true → first_pointer b under ≡ true)
            → (elim form as (λ _. Bool) [ Always ↦ true | OfEntity e ↦ not (a e) | OfPlace ↦ first_place a under | OfPointer ↦ first_pointer a under | _ ↦ false ]) ≡ true
            → (elim form as (λ _. Bool) [ Always ↦ true | OfEntity e ↦ not (b e) | OfPlace ↦ first_place b under | OfPointer ↦ first_pointer b under | _ ↦ false ]) ≡ true
        by Always p q k = refl
        by (OfEntity e) p q k = entity_later e k
        by OfPlace p q k = p k
        by OfPointer p q k = q k
        by OfNumbers p q k = cc
        by OfMoved p q k = cc
        by Never p q k = cc

    pointer_later : (c : Core) → is_fixed_pointer a c ≡ true → is_fixed_pointer b c ≡ true
    pointer_later (Of kind place type under) h = by (pointer_form kind) (first_place_later under) (first_pointer_later under) (first_moved_later under) h
      where
        both : (x y z : Bool) → (y ≡ true → z ≡ true) → (x && y) ≡ true → (x && z) ≡ true
        both true y z f k = f k
        both false y z f k = k

        by : (form : FixedForm) → (first_place a under ≡ true → first_place b under ≡ true) → (first_pointer a under ≡ true → first_pointer b under ≡ true) → (first_moved a under ≡ true → first_moved b under ≡ true)
            → (elim form as (λ _. Bool) [ Always ↦ true | OfPlace ↦ first_place a under | OfPointer ↦ is_pointer_type type && first_pointer a under | OfMoved ↦ first_moved a under | _ ↦ false ]) ≡ true
            → (elim form as (λ _. Bool) [ Always ↦ true | OfPlace ↦ first_place b under | OfPointer ↦ is_pointer_type type && first_pointer b under | OfMoved ↦ first_moved b under | _ ↦ false ]) ≡ true
        by Always p q m k = refl
        by OfPlace p q m k = p k
        by OfPointer p q m k = both (is_pointer_type type) (first_pointer a under) (first_pointer b under) q k
        by OfMoved p q m k = m k
        by OfNumbers p q m k = cc
        by (OfEntity e) p q m k = cc
        by Never p q m k = cc

    first_place_later : (cs : Cores) → first_place a cs ≡ true → first_place b cs ≡ true
    first_place_later NoCores h = h
    first_place_later (MoreCores c rest) h = place_later c h

    first_pointer_later : (cs : Cores) → first_pointer a cs ≡ true → first_pointer b cs ≡ true
    first_pointer_later NoCores h = h
    first_pointer_later (MoreCores c rest) h = pointer_later c h

    first_moved_later : (cs : Cores) → first_moved a cs ≡ true → first_moved b cs ≡ true
    first_moved_later NoCores h = h
    first_moved_later (MoreCores c rest) h = left (is_fixed_pointer a c) (is_fixed_pointer b c) (are_fixed_numbers rest) (pointer_later c) h

  pub fixed_later : (c : Core) → is_fixed a c ≡ true → is_fixed b c ≡ true
  fixed_later c h = by (is_fixed_number c) (is_fixed_pointer a c) (is_fixed_pointer b c) (pointer_later c) h
    where
      by : (x y z : Bool) → (y ≡ true → z ≡ true) → (x || y) ≡ true → (x || z) ≡ true
      by true y z f k = refl
      by false y z f k = f k

  pub all_later : (cs : Cores) → all_fixed a cs ≡ true → all_fixed b cs ≡ true
  all_later NoCores h = refl
  all_later (MoreCores c rest) h =
      let two = and_parts (is_fixed a c) (all_fixed a rest) h in
      ap (λ (v : Bool). v && all_fixed b rest) (fixed_later c two.0) ∙ all_later rest two.1

-- what isn't automatic isn't later
module _ (s : Source) (f g : ℕ → Sense) (later : Later f g) where
  word_later : (word leaf : ℕ) → has_storage s f word leaf ≡ true → has_storage s g word leaf ≡ true
  word_later word leaf h = by (specified_of s f leaf) refl h
    where
      by : (o : Option Specified) → specified_of s f leaf ≡ o → (elim o as (λ _. Bool) [ None ↦ false | Some x ↦ contains x.storage word ]) ≡ true → has_storage s g word leaf ≡ true
      by None e k = cc
      by (Some z) e k = ap (λ (o : Option Specified). elim o as (λ _. Bool) [ None ↦ false | Some x ↦ contains x.storage word ]) (told s f g later (option_and_then (specs_of s) (outermost_of s leaf)) z e) ∙ k

  bits : (p fn d x y n m a t v : Bool) → (x ≡ true → y ≡ true) → n ≡ m → (t ≡ true → v ≡ true)
      → is_automatic_storage s f (if p then Parameter else if fn then (if d then FunctionBody else Declared) else if x && n then Declared else if a || (t || x) then Static else Automatic) ≡ false
      → is_automatic_storage s g (if p then Parameter else if fn then (if d then FunctionBody else Declared) else if y && m then Declared else if a || (v || y) then Static else Automatic) ≡ false
  bits true fn d x y n m a t v xy nm tv h = cc
  bits false true true x y n m a t v xy nm tv h = refl
  bits false true false x y n m a t v xy nm tv h = refl
  bits false false d x true n true a t v xy nm tv h = refl
  bits false false d x true n false true t v xy nm tv h = refl
  bits false false d x true n false false t true xy nm tv h = refl
  bits false false d x true n false false t false xy nm tv h = refl
  bits false false d true false n m a t v xy nm tv h = let no : false ≡ true = xy refl in cc
  bits false false d false false n m true t v xy nm tv h = refl
  bits false false d false false n m false t true xy nm tv h = refl
  bits false false d false false n m false true false xy nm tv h = let no : false ≡ true = tv refl in cc
  bits false false d false false n m false false false xy nm tv h = cc

  pub storage_later : (leaf : ℕ) → is_automatic_storage s f (storage_of s f leaf) ≡ false → is_automatic_storage s g (storage_of s g leaf) ≡ false
  storage_later leaf h =
      bits (is_parameter s f leaf) (declares_function s f leaf) (is_defined s f leaf) (has_storage s f word_extern leaf) (has_storage s g word_extern leaf) (is_none (initialiser_for s f leaf)) (is_none (initialiser_for s g leaf)) (is_at_file s f leaf)
      (has_storage s f word_static leaf) (has_storage s g word_static leaf) (word_later word_extern leaf) (ap is_none (initialiser_for_same s f g leaf)) (word_later word_static leaf) h

  pub automatic_later : (w v : World) (leaf : ℕ) → is_automatic w s f leaf ≡ false → is_automatic v s g leaf ≡ false
  automatic_later w v leaf h = by (is_name s leaf) h
    where
      by : (b : Bool) → (if b then is_automatic_storage s f (storage_of s f leaf) else is_in_body w s f leaf) ≡ false → (if b then is_automatic_storage s g (storage_of s g leaf) else is_in_body v s g leaf) ≡ false
      by true k = storage_later leaf k
      by false k = k
