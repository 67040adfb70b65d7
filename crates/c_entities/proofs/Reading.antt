-- What is read of words, of what is found, and of one of two.
use Rattle.std.proofs.Common.{◌≡◌, ℕ, Bool, true, false, Option, Some, None, List, [], ◌∷◌, length, eqb, get_or, cond, refl, sym, ap, ◌∙◌}
use Rattle.c_types.specs.Trees.{Ctype}
use Rattle.c_grammar.specs.Productions.{p_rest}
use Rattle.core_nodes.specs.passed.c_senses.Tree.{Source, is_a, children_at}
use Rattle.core_nodes.specs.passed.c_senses.Sense.{Sense, Nothing, IsCore, IsType, IsSpecified, IsDeclarator, IsDerivation, IsParameter, IsMembers, IsValue, IsRun, IsInitial, Specified, Parameter}
use Rattle.core_nodes.specs.passed.c_senses.Sense as senses
use Rattle.core_nodes.specs.passed.c_senses.Declarators.{derived}
use Rattle.core_nodes.specs.passed.c_senses.Entities.{initialiser_in, in_rest, specified, derived_type}
use Rattle.c_results.specs.Parts.{specified_in, declarator_in, parameter_in}
use Rattle.c_entities.specs.Words.{storage_in, functions_in}

pub chosen : {X : Type 0} (b : Bool) (x y : X) → b ≡ true → x ≡ cond b x y
chosen true x y e = refl
chosen false x y e = absurd (cc)

pub other : {X : Type 0} (b : Bool) (x y : X) → b ≡ false → y ≡ cond b x y
other true x y e = absurd (cc)
other false x y e = refl

-- a question about the words for storage, or for functions, and its answer where there are no specifiers
pub storage_seen : {X : Type 0} (f : List ℕ → X) (z : X) (o : Option Specified) (words : List ℕ) → storage_in o ≡ Some words → f words ≡ elim o [ None ↦ z | Some x ↦ f x.storage ]
storage_seen f z None words e = absurd (cc)
storage_seen f z (Some x) words e = let i : x.storage ≡ words = cc in ap f (sym i)

pub storage_missing : {X : Type 0} (f : List ℕ → X) (z : X) (o : Option Specified) → storage_in o ≡ None → z ≡ elim o [ None ↦ z | Some x ↦ f x.storage ]
storage_missing f z None e = refl
storage_missing f z (Some x) e = absurd (cc)

pub functions_seen : {X : Type 0} (f : List ℕ → X) (z : X) (o : Option Specified) (words : List ℕ) → functions_in o ≡ Some words → f words ≡ elim o [ None ↦ z | Some x ↦ f x.functions ]
functions_seen f z None words e = absurd (cc)
functions_seen f z (Some x) words e = let i : x.functions ≡ words = cc in ap f (sym i)

pub functions_missing : {X : Type 0} (f : List ℕ → X) (z : X) (o : Option Specified) → functions_in o ≡ None → z ≡ elim o [ None ↦ z | Some x ↦ f x.functions ]
functions_missing f z None e = refl
functions_missing f z (Some x) e = absurd (cc)

-- the rest of a declaration is the first of some nodes, if they have one
pub rest_first : (s : Source) (sense : ℕ → Sense) (list : List ℕ) (r : Option ℕ) → eqb (length list) 0 ≡ false
    → r ≡ cond (is_a s p_rest (get_or list 0 0)) (initialiser_in s sense (children_at s (get_or list 0 0))) None → r ≡ in_rest s sense list
rest_first s sense [] r e f = absurd (cc)
rest_first s sense (c ∷ rest) r e f = f

-- the type of a parameter
pub param_seen : (x : Sense) (p : Parameter) → parameter_in x ≡ Some p → Some p.type ≡ elim x as (λ y. Option Ctype) [ IsParameter q ↦ Some q.type | _ ↦ None ]
param_seen Nothing p e = absurd (cc)
param_seen (IsCore a) p e = absurd (cc)
param_seen (IsType a) p e = absurd (cc)
param_seen (IsSpecified a) p e = absurd (cc)
param_seen (IsDeclarator a b) p e = absurd (cc)
param_seen (IsDerivation a) p e = absurd (cc)
param_seen (IsParameter q) p e = let i : q ≡ p = cc in ap (λ (x : Parameter). Some x.type) (sym i)
param_seen (IsMembers a) p e = absurd (cc)
param_seen (IsValue a) p e = absurd (cc)
param_seen (IsRun a) p e = absurd (cc)
param_seen (IsInitial a b) p e = absurd (cc)

pub param_missing : (x : Sense) → parameter_in x ≡ None → ◌≡◌ {A = Option Ctype} None (elim x as (λ y. Option Ctype) [ IsParameter q ↦ Some q.type | _ ↦ None ])
param_missing Nothing e = refl
param_missing (IsCore a) e = refl
param_missing (IsType a) e = refl
param_missing (IsSpecified a) e = refl
param_missing (IsDeclarator a b) e = refl
param_missing (IsDerivation a) e = refl
param_missing (IsParameter q) e = absurd (cc)
param_missing (IsMembers a) e = refl
param_missing (IsValue a) e = refl
param_missing (IsRun a) e = refl
param_missing (IsInitial a b) e = refl

-- specifiers, and what they are with a declarator
abbrev pub specs_in : Sense → Option Specified
specs_in x = elim x [ IsSpecified y ↦ Some y | _ ↦ None ]

pub specs_seen : (x : Sense) (t : Ctype) → specified_in x ≡ Some t → (y : Specified) × (specs_in x ≡ Some y) × (y.type ≡ t)
specs_seen Nothing t e = absurd (cc)
specs_seen (IsCore a) t e = absurd (cc)
specs_seen (IsType a) t e = absurd (cc)
specs_seen (IsSpecified y) t e = (y, refl, cc)
specs_seen (IsDeclarator a b) t e = absurd (cc)
specs_seen (IsDerivation a) t e = absurd (cc)
specs_seen (IsParameter a) t e = absurd (cc)
specs_seen (IsMembers a) t e = absurd (cc)
specs_seen (IsValue a) t e = absurd (cc)
specs_seen (IsRun a) t e = absurd (cc)
specs_seen (IsInitial a b) t e = absurd (cc)

pub specs_missing : (x : Sense) → specified_in x ≡ None → specs_in x ≡ None
specs_missing Nothing e = refl
specs_missing (IsCore a) e = refl
specs_missing (IsType a) e = refl
specs_missing (IsSpecified y) e = absurd (cc)
specs_missing (IsDeclarator a b) e = refl
specs_missing (IsDerivation a) e = refl
specs_missing (IsParameter a) e = refl
specs_missing (IsMembers a) e = refl
specs_missing (IsValue a) e = refl
specs_missing (IsRun a) e = refl
specs_missing (IsInitial a b) e = refl

abbrev pub type_by : Ctype → Sense → Option Ctype
type_by t y = elim y [ IsDeclarator name ds ↦ Some (derived ds t) | _ ↦ None ]

pub by_declarator : (y : Sense) (t : Ctype) (name : Option ℕ) (ds : List senses.Derivation) → declarator_in y ≡ Some (name, ds) → Some (derived ds t) ≡ type_by t y
by_declarator Nothing t name ds e = absurd (cc)
by_declarator (IsCore a) t name ds e = absurd (cc)
by_declarator (IsType a) t name ds e = absurd (cc)
by_declarator (IsSpecified a) t name ds e = absurd (cc)
by_declarator (IsDeclarator n es) t name ds e = sym (ap (λ (o : Option (Option ℕ × List senses.Derivation)). elim o as (λ x. Option Ctype) [ None ↦ None | Some p ↦ Some (derived p.1 t) ]) e)
by_declarator (IsDerivation a) t name ds e = absurd (cc)
by_declarator (IsParameter a) t name ds e = absurd (cc)
by_declarator (IsMembers a) t name ds e = absurd (cc)
by_declarator (IsValue a) t name ds e = absurd (cc)
by_declarator (IsRun a) t name ds e = absurd (cc)
by_declarator (IsInitial a b) t name ds e = absurd (cc)

pub by_no_declarator : (y : Sense) (t : Ctype) → declarator_in y ≡ None → ◌≡◌ {A = Option Ctype} None (type_by t y)
by_no_declarator Nothing t e = refl
by_no_declarator (IsCore a) t e = refl
by_no_declarator (IsType a) t e = refl
by_no_declarator (IsSpecified a) t e = refl
by_no_declarator (IsDeclarator n es) t e = absurd (cc)
by_no_declarator (IsDerivation a) t e = refl
by_no_declarator (IsParameter a) t e = refl
by_no_declarator (IsMembers a) t e = refl
by_no_declarator (IsValue a) t e = refl
by_no_declarator (IsRun a) t e = refl
by_no_declarator (IsInitial a b) t e = refl

module _ (s : Source) (sense : ℕ → Sense) (o : Option Specified) (d : Option ℕ) (i j : ℕ) (t : Ctype) (at : o ≡ specified s sense (Some i)) (of : d ≡ Some j) (base : specified_in (sense i) ≡ Some t) where
  found : derived_type s sense o d ≡ type_by t (sense j)
  found =
      let y = specs_seen (sense i) t base in
      ap (λ (x : Option Specified). derived_type s sense x d) (at ∙ y.1)
      ∙ (ap (λ (x : Option ℕ). derived_type s sense (Some y.0) x) of ∙ ap (λ (x : Ctype). type_by x (sense j)) y.2)

  pub type_seen : (name : Option ℕ) (ds : List senses.Derivation) → declarator_in (sense j) ≡ Some (name, ds) → Some (derived ds t) ≡ derived_type s sense o d
  type_seen name ds e = by_declarator (sense j) t name ds e ∙ sym found

  pub type_missing : declarator_in (sense j) ≡ None → ◌≡◌ {A = Option Ctype} None (derived_type s sense o d)
  type_missing e = by_no_declarator (sense j) t e ∙ sym found
