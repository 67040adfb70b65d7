-- Rows that pass on what they are given, or refuse.
use Rattle.std.proofs.Common.{◌≡◌, ℕ, Bool, true, false, cond, ◌&&◌, ◌||◌, not, List, Option, Some, None, Result, Ok, Err, IfSome, ◌<◌, refl, sym, ap, subst, ◌∙◌}
use Rattle.std.specs.Prelude.{is_some}
use Rattle.pta_base.specs.declared.kind.Kind.{Kind}
use Rattle.pta_base.specs.declared.kind.Kind.TheVariants.{Operand, InlineDefinition}
use Rattle.c_types.specs.Trees.{Ctype}
use Rattle.c_senses.specs.Tree.{Source}
use Rattle.c_senses.specs.Given.{Given, Fits, Refuses, ◌>>=◌, given_if}
use Rattle.c_senses.specs.World.{World, has_size}
use Rattle.c_grammar.specs.Productions.{p_field, p_parameter}
use Rattle.c_grammar.specs.Words.{word_inline, word_static, word_extern}
use Rattle.c_senses.specs.Tree.{is_a, parent_of}
use Rattle.c_senses.specs.Sense.{Sense, Nothing, IsCore, IsType, IsSpecified, IsDeclarator, IsDerivation, IsParameter, IsMembers, IsValue, IsRun, IsInitial, Derivation}
use Rattle.c_results.specs.Parts.{declarator_in}
use Rattle.c_senses.specs.Declarators.{plain_declarator_row, name_in, derivations, derives_well, derived, adjusted, base_type, is_outermost}
use Rattle.c_senses.specs.Rows.{at_its_name, declarator_row}
use Rattle.core_tree.specs.declared.node.Unit.{Unit}
use Rattle.c_results.specs.declared.made.Made.{Made}
use Rattle.c_results.specs.Standing.{sense_made, Rowed}
use Rattle.name_places.specs.Named.{name_within, IsNamedIn}
use Rattle.name_places.proofs.Naming.{named_from_sense}
use Rattle.c_named.specs.declared.words.Wording.{Wording}
use Rattle.c_named.specs.declared.completeness.Completion.{Completion}
use Rattle.c_named.specs.Words.{go_well}
use Rattle.c_named.specs.Completed.{is_enough}
use Rattle.c_senses.specs.Entities.{words_go, is_same_again, has_one_linkage, internal_fits, is_name_complete, is_defined, initialiser_of, definition_row, named_row, result_of, is_void_type, has_function_word, has_storage, parameter_named, by_place, is_typedef, is_linked, declares_function, is_internal, is_at_file, is_in_for, has_function_words, is_without_storage, all_same, agrees_with, all_together, types_of, some_such, defines, internal_before, element_has_size, will_have_size, may_stay_open}
use Rattle.c_senses.specs.Names.{before_in_scope, ordinary_at}
use Rattle.core_nodes.specs.declared.fault.CheckFault.{CheckFault}
use Rattle.core_nodes.specs.declared.fault.CheckFault.TheVariants.{BadOperand, Unsupported, OutOfMemory}
use Rattle.c_named.specs.Passing.{Passes}
use Rattle.c_named.specs.Named.{agrees_before}

pub passes_same : {A : Type 0} (r : Result A CheckFault) (f h : Given Sense → Given Sense) → ((g : Given Sense) → h g ≡ f g) → Passes r f → Passes r h
passes_same (Ok x) f h e p = λ g. e g ∙ p g
passes_same (Err (BadOperand node)) f h e p = λ g. e g ∙ p g
passes_same (Err (Unsupported kind node)) f h e p = λ g. e g ∙ p g
passes_same (Err OutOfMemory) f h e p = tt

pub given_true : {A : Type 0} (b : Bool) (kind : Kind) (node : ℕ) (g : Given A) → b ≡ true → given_if b kind node g ≡ g
given_true true kind node g e = refl
given_true false kind node g e = absurd (cc)

pub given_false : {A : Type 0} (b : Bool) (kind : Kind) (node : ℕ) (g : Given A) → b ≡ false → given_if b kind node g ≡ Refuses kind node
given_false true kind node g e = absurd (cc)
given_false false kind node g e = refl

given_three : {A : Type 0} (a b c : Bool) (kind : Kind) (node : ℕ) (g : Given A) → given_if a kind node (given_if b kind node (given_if c kind node g)) ≡ given_if (a && (b && c)) kind node g
given_three true true c kind node g = refl
given_three true false c kind node g = refl
given_three false b c kind node g = refl

-- the three things that are asked of a name
abbrev pub asked : Bool → Bool → Bool → ℕ → Given Sense → Given Sense
asked words agrees complete leaf g = given_if words Operand leaf (given_if agrees Operand leaf (given_if complete Operand leaf g))

pub named_is : (w : World) (s : Source) (sense : ℕ → Sense) (at leaf : ℕ) (t : Ctype) (g : Given Sense)
    → named_row w s sense at leaf t g ≡ asked (words_go w s sense (is_some (initialiser_of s sense at)) leaf) (agrees_before w s sense (is_some (initialiser_of s sense at) || is_defined s sense leaf) t leaf) (is_name_complete w s sense (is_some (initialiser_of s sense at)) t leaf) leaf (definition_row w s sense t leaf g)
named_is w s sense at leaf t g =
    let i = is_some (initialiser_of s sense at) in
    ap (λ (x : Given Sense). given_if (words_go w s sense i leaf) Operand leaf x)
    (given_three (is_same_again w s sense t leaf) (has_one_linkage w s sense leaf) (internal_fits w s sense (i || is_defined s sense leaf) t leaf) Operand leaf
    (given_if (is_name_complete w s sense i t leaf) Operand leaf (definition_row w s sense t leaf g)))

-- what is refused, by the first of the three that isn't so, and what is passed on
pub words_refused : (words agrees complete : Bool) (leaf : ℕ) (g : Given Sense) → words ≡ false → asked words agrees complete leaf g ≡ Refuses Operand leaf
words_refused words agrees complete leaf g e = given_false words Operand leaf _ e

pub agrees_refused : (words agrees complete : Bool) (leaf : ℕ) (g : Given Sense) → words ≡ true → agrees ≡ false → asked words agrees complete leaf g ≡ Refuses Operand leaf
agrees_refused words agrees complete leaf g e f = given_true words Operand leaf _ e ∙ given_false agrees Operand leaf _ f

pub complete_refused : (words agrees complete : Bool) (leaf : ℕ) (g : Given Sense) → words ≡ true → agrees ≡ true → complete ≡ false → asked words agrees complete leaf g ≡ Refuses Operand leaf
complete_refused words agrees complete leaf g e f h = given_true words Operand leaf _ e ∙ (given_true agrees Operand leaf _ f ∙ given_false complete Operand leaf _ h)

pub asked_passed : (words agrees complete : Bool) (leaf : ℕ) (g : Given Sense) → words ≡ true → agrees ≡ true → complete ≡ true → asked words agrees complete leaf g ≡ g
asked_passed words agrees complete leaf g e f h = given_true words Operand leaf _ e ∙ (given_true agrees Operand leaf _ f ∙ given_true complete Operand leaf _ h)

-- what a declarator's own row fits with is its name and its derivations
pub plain_fits : (w : World) (s : Source) (sense : ℕ → Sense) (at : ℕ) (children : List ℕ) (x : Sense) → plain_declarator_row w s sense at children ≡ Fits x → x ≡ IsDeclarator (name_in w s sense children) (derivations w s sense children)
plain_fits w s sense at children x e = by_test (derives_well w s sense at (derivations w s sense children)) e
  where
    by_test : (b : Bool) → given_if b Operand at (Fits (IsDeclarator (name_in w s sense children) (derivations w s sense children))) ≡ Fits x → x ≡ IsDeclarator (name_in w s sense children) (derivations w s sense children)
    by_test true h = cc
    by_test false h = absurd (cc)

-- words
abbrev pub formula : Bool → Bool → Bool → Bool → Bool → Bool → Bool → Bool → Bool → Bool → Bool
formula i t f file inn d words st ex without =
    not (words && (t || not f))
    && (not (i && (t || (f || (not file && ex))))
    && (not (f && (not file && not (without || ex)))
    && (not (t && d)
    && not (inn && (t || (f || (st || ex)))))))

pub words_are : (w : World) (s : Source) (sense : ℕ → Sense) (i : Bool) (leaf : ℕ) (a : Wording)
    → a.initialised ≡ i → a.is_typedef ≡ is_typedef s sense leaf → a.is_function ≡ declares_function s sense leaf → a.at_file ≡ is_at_file s sense leaf
    → a.in_for ≡ is_in_for w s sense leaf → a.defined ≡ is_defined s sense leaf → a.for_function ≡ has_function_words w s sense leaf
    → a.is_static ≡ has_storage s sense word_static leaf → a.is_extern ≡ has_storage s sense word_extern leaf → a.without ≡ is_without_storage s sense leaf
    → go_well a ≡ words_go w s sense i leaf
words_are w s sense i leaf a e0 e1 e2 e3 e4 e5 e6 e7 e8 e9 =
    let t = is_typedef s sense leaf in
    let f = declares_function s sense leaf in
    let file = is_at_file s sense leaf in
    let inn = is_in_for w s sense leaf in
    let d = is_defined s sense leaf in
    let words = has_function_words w s sense leaf in
    let st = has_storage s sense word_static leaf in
    let ex = has_storage s sense word_extern leaf in
    ap (λ (x : Bool). formula x a.is_typedef a.is_function a.at_file a.in_for a.defined a.for_function a.is_static a.is_extern a.without) e0
    ∙ (ap (λ (x : Bool). formula i x a.is_function a.at_file a.in_for a.defined a.for_function a.is_static a.is_extern a.without) e1
    ∙ (ap (λ (x : Bool). formula i t x a.at_file a.in_for a.defined a.for_function a.is_static a.is_extern a.without) e2
    ∙ (ap (λ (x : Bool). formula i t f x a.in_for a.defined a.for_function a.is_static a.is_extern a.without) e3
    ∙ (ap (λ (x : Bool). formula i t f file x a.defined a.for_function a.is_static a.is_extern a.without) e4
    ∙ (ap (λ (x : Bool). formula i t f file inn x a.for_function a.is_static a.is_extern a.without) e5
    ∙ (ap (λ (x : Bool). formula i t f file inn d x a.is_static a.is_extern a.without) e6
    ∙ (ap (λ (x : Bool). formula i t f file inn d words x a.is_extern a.without) e7
    ∙ (ap (λ (x : Bool). formula i t f file inn d words st x a.without) e8
    ∙ ap (λ (x : Bool). formula i t f file inn d words st ex x) e9))))))))

-- completeness
abbrev pub enough : Bool → Bool → Bool → Bool → Bool → Bool → Bool → Bool → Bool → Bool
enough t f linked ex i sized element later stays = t || (f || (sized || ((element && (i || linked)) || (later || (stays && (ex && not i))))))

pub enough_is : (w : World) (s : Source) (sense : ℕ → Sense) (i : Bool) (type : Ctype) (leaf : ℕ) (a : Completion)
    → a.is_typedef ≡ is_typedef s sense leaf → a.is_function ≡ declares_function s sense leaf → a.is_linked ≡ is_linked s sense leaf → a.is_extern ≡ has_storage s sense word_extern leaf
    → a.initialised ≡ i → a.sized ≡ has_size w type → a.element_sized ≡ element_has_size w s sense type → a.later ≡ will_have_size w s sense type → a.may_stay ≡ may_stay_open w s sense type
    → is_enough a ≡ is_name_complete w s sense i type leaf
enough_is w s sense i type leaf a e0 e1 e2 e3 e4 e5 e6 e7 e8 =
    let t = is_typedef s sense leaf in
    let f = declares_function s sense leaf in
    let linked = is_linked s sense leaf in
    let ex = has_storage s sense word_extern leaf in
    let sized = has_size w type in
    let element = element_has_size w s sense type in
    let later = will_have_size w s sense type in
    ap (λ (x : Bool). enough x a.is_function a.is_linked a.is_extern a.initialised a.sized a.element_sized a.later a.may_stay) e0
    ∙ (ap (λ (x : Bool). enough t x a.is_linked a.is_extern a.initialised a.sized a.element_sized a.later a.may_stay) e1
    ∙ (ap (λ (x : Bool). enough t f x a.is_extern a.initialised a.sized a.element_sized a.later a.may_stay) e2
    ∙ (ap (λ (x : Bool). enough t f linked x a.initialised a.sized a.element_sized a.later a.may_stay) e3
    ∙ (ap (λ (x : Bool). enough t f linked ex x a.sized a.element_sized a.later a.may_stay) e4
    ∙ (ap (λ (x : Bool). enough t f linked ex i x a.element_sized a.later a.may_stay) e5
    ∙ (ap (λ (x : Bool). enough t f linked ex i sized x a.later a.may_stay) e6
    ∙ (ap (λ (x : Bool). enough t f linked ex i sized element x a.may_stay) e7
    ∙ ap (λ (x : Bool). enough t f linked ex i sized element later x) e8)))))))

module _ (w : World) (s : Source) (sense : ℕ → Sense) (leaf : ℕ) (t : Ctype) where
  -- typedef names that stand there again
  pub same_not : false ≡ is_typedef s sense leaf → true ≡ is_same_again w s sense t leaf
  same_not e = ap (λ (b : Bool). not b || all_same w s sense t (before_in_scope s (ordinary_at s leaf))) e

  pub same_is : true ≡ is_typedef s sense leaf → all_same w s sense t (before_in_scope s (ordinary_at s leaf)) ≡ is_same_again w s sense t leaf
  same_is e = ap (λ (b : Bool). not b || all_same w s sense t (before_in_scope s (ordinary_at s leaf))) e

  -- internal names
  abbrev pub internal_by : Bool → Bool → Bool → Bool → Bool
  internal_by internal agrees defined again = (not internal || agrees) && (not internal || not (defined && again))

  abbrev pub agreed : Bool
  agreed = agrees_with w s sense t (all_together None (types_of s sense (internal_before w s sense leaf)))

  abbrev pub again : Bool
  again = some_such s sense (λ d. defines w s sense d.node) (internal_before w s sense leaf)

  pub internal_not : (defined : Bool) → false ≡ is_internal s sense leaf → true ≡ internal_fits w s sense defined t leaf
  internal_not defined e = ap (λ (b : Bool). internal_by b agreed defined again) e

  pub internal_apart : (defined : Bool) → true ≡ is_internal s sense leaf → false ≡ agreed → false ≡ internal_fits w s sense defined t leaf
  internal_apart defined e f =
      ap (λ (b : Bool). internal_by true b defined again) f ∙ ap (λ (b : Bool). internal_by b agreed defined again) e

  pub internal_is : (defined : Bool) → true ≡ is_internal s sense leaf → true ≡ agreed → not (defined && again) ≡ internal_fits w s sense defined t leaf
  internal_is defined e f =
      ap (λ (b : Bool). internal_by true b defined again) f ∙ ap (λ (b : Bool). internal_by b agreed defined again) e

  -- definitions of functions
  abbrev pub result_fits : Bool
  result_fits = is_void_type w s sense (result_of w s sense t) || has_size w (result_of w s sense t)

  abbrev pub inline_alone : Bool
  inline_alone = has_function_word s sense word_inline leaf && not (has_storage s sense word_static leaf)

  abbrev pub definition_by : Bool → Bool → Bool → Given Sense → Given Sense
  definition_by defined fit alone g =
      cond defined (given_if fit Operand leaf (given_if (not alone) InlineDefinition leaf g)) g

  pub definition_not : false ≡ is_defined s sense leaf → (g : Given Sense) → definition_row w s sense t leaf g ≡ g
  definition_not e g = sym (ap (λ (b : Bool). definition_by b result_fits inline_alone g) e)

  pub definition_unfit : true ≡ is_defined s sense leaf → false ≡ result_fits → (g : Given Sense) → definition_row w s sense t leaf g ≡ Refuses Operand leaf
  definition_unfit e f g =
      sym (ap (λ (b : Bool). definition_by true b inline_alone g) f ∙ ap (λ (b : Bool). definition_by b result_fits inline_alone g) e)

  pub definition_inline : true ≡ is_defined s sense leaf → true ≡ result_fits → true ≡ inline_alone → (g : Given Sense) → definition_row w s sense t leaf g ≡ Refuses InlineDefinition leaf
  definition_inline e f h g =
      sym (ap (λ (b : Bool). definition_by true true b g) h
      ∙ (ap (λ (b : Bool). definition_by true b inline_alone g) f ∙ ap (λ (b : Bool). definition_by b result_fits inline_alone g) e))

  pub definition_passed : true ≡ is_defined s sense leaf → true ≡ result_fits → false ≡ inline_alone → (g : Given Sense) → definition_row w s sense t leaf g ≡ g
  definition_passed e f h g =
      sym (ap (λ (b : Bool). definition_by true true b g) h
      ∙ (ap (λ (b : Bool). definition_by true b inline_alone g) f ∙ ap (λ (b : Bool). definition_by b result_fits inline_alone g) e))

  -- by the place of a declarator
  abbrev pub place_by : Ctype → ℕ → Option ℕ → Given Sense → Given Sense
  place_by adjusted at parent g =
      elim parent as (λ q. Given Sense) [ None ↦ g | Some p ↦ cond (is_a s p_field p) g (cond (is_a s p_parameter p) (parameter_named w s sense at leaf adjusted g) (named_row w s sense at leaf t g)) ]

  pub place_none : (adjusted : Ctype) (at : ℕ) → ◌≡◌ {A = Option ℕ} None (parent_of s at) → (g : Given Sense) → by_place w s sense at leaf t adjusted g ≡ g
  place_none adjusted at up g = sym (ap (λ (o : Option ℕ). place_by adjusted at o g) up)

  pub place_field : (adjusted : Ctype) (at p : ℕ) → Some p ≡ parent_of s at → true ≡ is_a s p_field p → (g : Given Sense) → by_place w s sense at leaf t adjusted g ≡ g
  place_field adjusted at p up field g =
      sym (ap (λ (b : Bool). cond b g (cond (is_a s p_parameter p) (parameter_named w s sense at leaf adjusted g) (named_row w s sense at leaf t g))) field ∙ ap (λ (o : Option ℕ). place_by adjusted at o g) up)

  pub place_parameter : (adjusted : Ctype) (at p : ℕ) → Some p ≡ parent_of s at → false ≡ is_a s p_field p → true ≡ is_a s p_parameter p → (g : Given Sense) → by_place w s sense at leaf t adjusted g ≡ parameter_named w s sense at leaf adjusted g
  place_parameter adjusted at p up field parameter g =
      sym (ap (λ (b : Bool). cond b (parameter_named w s sense at leaf adjusted g) (named_row w s sense at leaf t g)) parameter
      ∙ (ap (λ (b : Bool). cond b g (cond (is_a s p_parameter p) (parameter_named w s sense at leaf adjusted g) (named_row w s sense at leaf t g))) field ∙ ap (λ (o : Option ℕ). place_by adjusted at o g) up))

  pub place_name : (adjusted : Ctype) (at p : ℕ) → Some p ≡ parent_of s at → false ≡ is_a s p_field p → false ≡ is_a s p_parameter p → (g : Given Sense) → by_place w s sense at leaf t adjusted g ≡ named_row w s sense at leaf t g
  place_name adjusted at p up field parameter g =
      sym (ap (λ (b : Bool). cond b (parameter_named w s sense at leaf adjusted g) (named_row w s sense at leaf t g)) parameter
      ∙ (ap (λ (b : Bool). cond b g (cond (is_a s p_parameter p) (parameter_named w s sense at leaf adjusted g) (named_row w s sense at leaf t g))) field ∙ ap (λ (o : Option ℕ). place_by adjusted at o g) up))

-- a declarator, at its name
module _ (w : World) (s : Source) (sense : ℕ → Sense) (at leaf : ℕ) (ds : List Derivation) where
  pub name_within_another : (base : Option Ctype) → false ≡ is_outermost s at → (g : Given Sense) → at_its_name w s sense at g base (IsDeclarator (Some leaf) ds) ≡ g
  name_within_another None e g = refl
  name_within_another (Some b) e g = sym (ap (λ (x : Bool). cond x (by_place w s sense at leaf (derived ds b) (adjusted (derived ds b)) g) g) e)

  pub name_untyped : (base : Option Ctype) → base ≡ None → (g : Given Sense) → at_its_name w s sense at g base (IsDeclarator (Some leaf) ds) ≡ g
  name_untyped base e g = ap (λ (o : Option Ctype). at_its_name w s sense at g o (IsDeclarator (Some leaf) ds)) e

  pub name_typed : (base : Option Ctype) (b : Ctype) → base ≡ Some b → true ≡ is_outermost s at → (g : Given Sense) → at_its_name w s sense at g base (IsDeclarator (Some leaf) ds) ≡ by_place w s sense at leaf (derived ds b) (adjusted (derived ds b)) g
  name_typed base b e outermost g =
      ap (λ (o : Option Ctype). at_its_name w s sense at g o (IsDeclarator (Some leaf) ds)) e
      ∙ sym (ap (λ (x : Bool). cond x (by_place w s sense at leaf (derived ds b) (adjusted (derived ds b)) g) g) outermost)

pub name_missing : (w : World) (s : Source) (sense : ℕ → Sense) (at : ℕ) (ds : List Derivation) (base : Option Ctype) (g : Given Sense) → at_its_name w s sense at g base (IsDeclarator None ds) ≡ g
name_missing w s sense at ds None g = refl
name_missing w s sense at ds (Some b) g = refl

-- the row of a declarator, over its own row and what is asked of its name
module _ (w : World) (s : Source) (sense : ℕ → Sense) (at : ℕ) (children : List ℕ) where
  abbrev pub at_name : Sense → Given Sense
  at_name x = at_its_name w s sense at (Fits x) (base_type w s sense at) x

  pub row_refused : (u v : Unit) (e : CheckFault) → Rowed u (Err e) (plain_declarator_row w s sense at children) → Rowed v (Err e) (declarator_row w s sense at children)
  row_refused u v (BadOperand node) h = ap (λ (g : Given Sense). g >>= at_name) h
  row_refused u v (Unsupported kind node) h = ap (λ (g : Given Sense). g >>= at_name) h
  row_refused u v OutOfMemory h = tt

  pub row_passed : (x : Sense) → plain_declarator_row w s sense at children ≡ Fits x → ((g : Given Sense) → at_its_name w s sense at g (base_type w s sense at) x ≡ g) → declarator_row w s sense at children ≡ Fits x
  row_passed x fits passes = ap (λ (g : Given Sense). g >>= at_name) fits ∙ passes (Fits x)

  pub row_stopped : (v : Unit) (e : CheckFault) (x : Sense) (f : Given Sense → Given Sense) → plain_declarator_row w s sense at children ≡ Fits x
      → ((g : Given Sense) → at_its_name w s sense at g (base_type w s sense at) x ≡ f g) → Passes {A = ℕ} (Err e) f → Rowed v (Err e) (declarator_row w s sense at children)
  row_stopped v (BadOperand node) x f fits here p = ap (λ (g : Given Sense). g >>= at_name) fits ∙ (here (Fits x) ∙ p (Fits x))
  row_stopped v (Unsupported kind node) x f fits here p = ap (λ (g : Given Sense). g >>= at_name) fits ∙ (here (Fits x) ∙ p (Fits x))
  row_stopped v OutOfMemory x f fits here p = tt

-- of what is no declarator, and of one without a name, nothing is asked
pub unasked : (w : World) (s : Source) (sense : ℕ → Sense) (at : ℕ) (x : Sense) (base : Option Ctype) (g : Given Sense) → declarator_in x ≡ None → at_its_name w s sense at g base x ≡ g
unasked w s sense at x None g e = refl
unasked w s sense at Nothing (Some b) g e = refl
unasked w s sense at (IsCore a) (Some b) g e = refl
unasked w s sense at (IsType a) (Some b) g e = refl
unasked w s sense at (IsSpecified a) (Some b) g e = refl
unasked w s sense at (IsDeclarator n ds) (Some b) g e = absurd (cc)
unasked w s sense at (IsDerivation a) (Some b) g e = refl
unasked w s sense at (IsParameter a) (Some b) g e = refl
unasked w s sense at (IsMembers a) (Some b) g e = refl
unasked w s sense at (IsValue a) (Some b) g e = refl
unasked w s sense at (IsRun a) (Some b) g e = refl
unasked w s sense at (IsInitial a n) (Some b) g e = refl

pub unnamed : (w : World) (s : Source) (sense : ℕ → Sense) (at : ℕ) (children : List ℕ) (x : Sense) (g : Given Sense) → plain_declarator_row w s sense at children ≡ Fits x → None ≡ name_in w s sense children → at_its_name w s sense at g (base_type w s sense at) x ≡ g
unnamed w s sense at children x g fits none =
    let ds = derivations w s sense children in
    let is : x ≡ IsDeclarator None ds = plain_fits w s sense at children x fits ∙ sym (ap (λ (o : Option ℕ). IsDeclarator o ds) none) in
    ap (λ (y : Sense). at_its_name w s sense at g (base_type w s sense at) y) is ∙ name_missing w s sense at ds (base_type w s sense at) g

-- a declarator by its name and its derivations
by_parts : (x : Sense) (name : Option ℕ) (ds : List Derivation) → declarator_in x ≡ Some (name, ds) → x ≡ IsDeclarator name ds
by_parts Nothing name ds e = absurd (cc)
by_parts (IsCore a) name ds e = absurd (cc)
by_parts (IsType a) name ds e = absurd (cc)
by_parts (IsSpecified a) name ds e = absurd (cc)
by_parts (IsDeclarator n es) name ds e = ap (λ (o : Option (Option ℕ × List Derivation)). elim o as (λ q. Sense) [ None ↦ IsDeclarator n es | Some p ↦ IsDeclarator p.0 p.1 ]) e
by_parts (IsDerivation a) name ds e = absurd (cc)
by_parts (IsParameter a) name ds e = absurd (cc)
by_parts (IsMembers a) name ds e = absurd (cc)
by_parts (IsValue a) name ds e = absurd (cc)
by_parts (IsRun a) name ds e = absurd (cc)
by_parts (IsInitial a b) name ds e = absurd (cc)

pub named_so : (w : World) (s : Source) (sense : ℕ → Sense) (at : ℕ) (children : List ℕ) (x : Sense) (leaf : ℕ) (name : Option ℕ) (ds : List Derivation)
    → plain_declarator_row w s sense at children ≡ Fits x → Some leaf ≡ name_in w s sense children → declarator_in x ≡ Some (name, ds) → x ≡ IsDeclarator (Some leaf) ds
named_so w s sense at children x leaf name ds fits named parts =
    let is : x ≡ IsDeclarator name ds = by_parts x name ds parts in
    let so : x ≡ IsDeclarator (name_in w s sense children) (derivations w s sense children) = plain_fits w s sense at children x fits in
    let same : name ≡ name_in w s sense children = ap (λ (y : Sense). elim y as (λ q. Option ℕ) [ IsDeclarator n es ↦ n | _ ↦ None ]) (sym is ∙ so) in
    is ∙ ap (λ (o : Option ℕ). IsDeclarator o ds) (same ∙ sym named)

-- what is asked of a name, one after another
module _ (w : World) (s : Source) (sense : ℕ → Sense) (at leaf : ℕ) (t : Ctype) (i defined : Bool) (is : i ≡ is_some (initialiser_of s sense at)) (either : defined ≡ (i || is_defined s sense leaf)) where
  asked_is : (g : Given Sense) → named_row w s sense at leaf t g ≡ asked (words_go w s sense i leaf) (agrees_before w s sense defined t leaf) (is_name_complete w s sense i t leaf) leaf (definition_row w s sense t leaf g)
  asked_is g =
      named_is w s sense at leaf t g
      ∙ (sym (ap (λ (b : Bool). asked (words_go w s sense b leaf) (agrees_before w s sense (b || is_defined s sense leaf) t leaf) (is_name_complete w s sense b t leaf) leaf (definition_row w s sense t leaf g)) is)
      ∙ sym (ap (λ (b : Bool). asked (words_go w s sense i leaf) (agrees_before w s sense b t leaf) (is_name_complete w s sense i t leaf) leaf (definition_row w s sense t leaf g)) either))

  pub named_words : false ≡ words_go w s sense i leaf → (g : Given Sense) → named_row w s sense at leaf t g ≡ Refuses Operand leaf
  named_words e g = asked_is g ∙ words_refused (words_go w s sense i leaf) (agrees_before w s sense defined t leaf) (is_name_complete w s sense i t leaf) leaf (definition_row w s sense t leaf g) (sym e)

  pub named_apart : true ≡ words_go w s sense i leaf → false ≡ agrees_before w s sense defined t leaf → (g : Given Sense) → named_row w s sense at leaf t g ≡ Refuses Operand leaf
  named_apart e f g = asked_is g ∙ agrees_refused (words_go w s sense i leaf) (agrees_before w s sense defined t leaf) (is_name_complete w s sense i t leaf) leaf (definition_row w s sense t leaf g) (sym e) (sym f)

  pub named_incomplete : true ≡ words_go w s sense i leaf → true ≡ agrees_before w s sense defined t leaf → false ≡ is_name_complete w s sense i t leaf → (g : Given Sense) → named_row w s sense at leaf t g ≡ Refuses Operand leaf
  named_incomplete e f h g = asked_is g ∙ complete_refused (words_go w s sense i leaf) (agrees_before w s sense defined t leaf) (is_name_complete w s sense i t leaf) leaf (definition_row w s sense t leaf g) (sym e) (sym f) (sym h)

  pub named_passed : true ≡ words_go w s sense i leaf → true ≡ agrees_before w s sense defined t leaf → true ≡ is_name_complete w s sense i t leaf → (g : Given Sense) → named_row w s sense at leaf t g ≡ definition_row w s sense t leaf g
  named_passed e f h g = asked_is g ∙ asked_passed (words_go w s sense i leaf) (agrees_before w s sense defined t leaf) (is_name_complete w s sense i t leaf) leaf (definition_row w s sense t leaf g) (sym e) (sym f) (sym h)

-- the three things that are asked by the declarations before
module _ (w : World) (s : Source) (sense : ℕ → Sense) (defined : Bool) (t : Ctype) (leaf : ℕ) where
  pub agrees_not : false ≡ is_same_again w s sense t leaf → false ≡ agrees_before w s sense defined t leaf
  agrees_not e = ap (λ (b : Bool). b && (has_one_linkage w s sense leaf && internal_fits w s sense defined t leaf)) e

  pub agrees_so : true ≡ is_same_again w s sense t leaf → true ≡ has_one_linkage w s sense leaf → internal_fits w s sense defined t leaf ≡ agrees_before w s sense defined t leaf
  agrees_so e f =
      ap (λ (b : Bool). b && internal_fits w s sense defined t leaf) f
      ∙ ap (λ (b : Bool). b && (has_one_linkage w s sense leaf && internal_fits w s sense defined t leaf)) e

-- the name of a declarator that fits is a node of the tree
pub named_below : (w : World) (s : Source) (sense : ℕ → Sense) (at : ℕ) (children : List ℕ) (u : Unit) (count : ℕ) (m : Made) → plain_declarator_row w s sense at children ≡ Fits (sense_made u m)
    → IfSome (name_in w s sense children) (λ leaf. leaf < count) → IsNamedIn count m
named_below w s sense at children u count m fits below =
    named_from_sense u count m (subst (λ (x : Sense). IfSome (name_within x) (λ leaf. leaf < count)) (sym (plain_fits w s sense at children (sense_made u m) fits)) below)
