-- Each node of a unit stands in the tree of one body.
use Rattle.std.proofs.Common.{◌≡◌, ◌==◌, ℕ, suc, ◌&&◌, Bool, true, false, List, [], ◌∷◌, Option, Some, None, refl, sym, ap, subst, ◌⊎◌, inl, inr}
use Rattle.std.specs.Prelude.{is_some, option_map, option_and_then, if◌then◌else◌}
use Rattle.std.proofs.lemmas.Bool.{and_parts}
use Rattle.c_types.specs.Trees.{Ctype}
use Rattle.core_tree.specs.declared.node.NodeKind.{NodeKind}
use Rattle.core_tree.specs.declared.node.NodeKind.TheVariants.{Initialise}
use Rattle.c_grammar.specs.Productions.{p_external, p_rest, p_block, p_asm_name}
use Rattle.c_grammar.specs.Words.{sign_assign}
use Rattle.c_consts.specs.Core.{Core}
use Rattle.c_senses.specs.Tree.{Source, is_a, has_sign, child_of, children_at, parent_of, first_where}
use Rattle.c_senses.specs.Sense.{Sense, sense_in}
use Rattle.c_senses.specs.Declarators.{outermost_of}
use Rattle.c_senses.specs.Entities.{behind, without_asm, in_rest, initialiser_in, initialiser_of, initialiser_for, is_defined, declaration_of}
use Rattle.c_senses.specs.Right.{Numbering, SameKind, Declared, declared_name, declares_entity, declared_as, entity_type, representative, core_of_sense, block_for, body_at}
use Rattle.core_node_laws.specs.count_laws.count_rows.Covers.{IsIn}
use Rattle.core_node_laws.proofs.count_laws.once_nodes.Found.{some_one}

pub none_some : {X : Type 0} → {x : X} → ◌≡◌ {A = Option X} None (Some x) → ⊥
none_some h = cc

-- ---- the initialiser of a declarator

module _ (s : Source) (sense : ℕ → Sense) where
  behind_in : (d : ℕ) (list : List ℕ) (y : ℕ) → IsIn (behind d list) y → IsIn list y
  behind_in d [] y h = h
  behind_in d (c ∷ rest) y h = by (c == d) h (λ g. behind_in d rest y g)
    where
      by : (b : Bool) → IsIn (if b then rest else behind d rest) y → (IsIn (behind d rest) y → IsIn rest y) → IsIn (c ∷ rest) y
      by true h k = (suc h.0, h.1)
      by false h k = let g = k h in (suc g.0, g.1)

  without_in : (list : List ℕ) (y : ℕ) → IsIn (without_asm s sense list) y → IsIn list y
  without_in [] y h = h
  without_in (c ∷ rest) y h = by (is_a s p_asm_name c) h
    where
      by : (b : Bool) → IsIn (if b then rest else c ∷ rest) y → IsIn (c ∷ rest) y
      by true h = (suc h.0, h.1)
      by false h = h

  initial_in : (list : List ℕ) (init : ℕ) → initialiser_in s sense list ≡ Some init → IsIn list init
  initial_in [] init e = cc
  initial_in (c ∷ []) init e = cc
  initial_in (c ∷ d ∷ rest) init e = by (has_sign s sign_assign c) e
    where
      by : (b : Bool) → (if b then Some d else None) ≡ Some init → IsIn (c ∷ d ∷ rest) init
      by true e = let same : d ≡ init = cc in (1, ap Some same)
      by false e = cc

  abbrev pub IsRestInit : ℕ → Type 0
  IsRestInit init = (q : ℕ) × (is_a s p_rest q ≡ true) × IsIn (children_at s q) init

  rest_in : (list : List ℕ) (init : ℕ) → in_rest s sense list ≡ Some init → IsRestInit init
  rest_in [] init e = cc
  rest_in (c ∷ rest) init e = by (is_a s p_rest c) refl e
    where
      by : (b : Bool) → is_a s p_rest c ≡ b → (if b then initialiser_in s sense (children_at s c) else None) ≡ Some init → IsRestInit init
      by true is e = (c, is, initial_in (children_at s c) init e)
      by false is e = cc

  of_declarator : (d init : ℕ) → initialiser_of s sense d ≡ Some init → IsRestInit init
  of_declarator d init e = by (parent_of s d) e
    where
      by_rest : (p : ℕ) (b : Bool) → is_a s p_rest p ≡ b → (if b then initialiser_in s sense (without_asm s sense (behind d (children_at s p))) else in_rest s sense (without_asm s sense (behind d (children_at s p)))) ≡ Some init → IsRestInit init
      by_rest p true is e = (p, is, behind_in d (children_at s p) init (without_in (behind d (children_at s p)) init (initial_in (without_asm s sense (behind d (children_at s p))) init e)))
      by_rest p false is e = rest_in (without_asm s sense (behind d (children_at s p))) init e

      by : (o : Option ℕ)
          → (elim o as (λ _. Option ℕ) [ None ↦ None | Some p ↦ let list = without_asm s sense (behind d (children_at s p)) in if is_a s p_rest p then initialiser_in s sense list else in_rest s sense list ]) ≡ Some init
          → IsRestInit init
      by None e = cc
      by (Some p) e = by_rest p (is_a s p_rest p) refl e

  pub initial_of : (d init : ℕ) → initialiser_for s sense d ≡ Some init → IsRestInit init
  initial_of d init e = by (outermost_of s d) e
    where
      by : (o : Option ℕ) → option_and_then (initialiser_of s sense) o ≡ Some init → IsRestInit init
      by None e = cc
      by (Some c) e = of_declarator c init e

pub found_where : (test : ℕ → Bool) (ks : List ℕ) (x : ℕ) → first_where test ks ≡ Some x → (test x ≡ true) × IsIn ks x
found_where test [] x e = cc
found_where test (k ∷ ks) x e = by (test k) refl e (found_where test ks x)
  where
    by : (b : Bool) → test k ≡ b → (if b then Some k else first_where test ks) ≡ Some x → (first_where test ks ≡ Some x → (test x ≡ true) × IsIn ks x) → (test x ≡ true) × IsIn (k ∷ ks) x
    by true is e f = let same : k ≡ x = cc in (subst (λ (y : ℕ). test y ≡ true) same is, (0, ap Some same))
    by false is e f = let g = f e in (g.0, (suc g.1.0, g.1.1))

-- ---- bodies

module _ (s : Source) (senses : List Sense) where
  abbrev pub F : ℕ → Sense
  F i = sense_in senses i

  pub body_is : (d : ℕ) (what : Declared) → declared_name s senses d ≡ Some what → what.body ≡ body_at s senses (representative s senses d)
  body_is d what e = by (declares_entity s senses d) (entity_type s senses d) e
    where
      by : (b : Bool) (o : Option Ctype) → (if b then option_map (declared_as s senses d) o else None) ≡ Some what → what.body ≡ body_at s senses (representative s senses d)
      by true (Some t) e = sym (ap (λ (x : Declared). x.body) (some_one e))
      by true None e = cc
      by false o e = cc

  -- a body is a block's or an initialiser's
  abbrev pub OfBlock : ℕ → Core → Type 0
  OfBlock r c = (is_defined s F r ≡ true) × ((b : ℕ) × (block_for s senses r ≡ Some b) × (core_of_sense s senses (F b) ≡ Some c))

  abbrev pub OfInitial : ℕ → Core → Type 0
  OfInitial r c = (init : ℕ) × (initialiser_for s F r ≡ Some init) × (core_of_sense s senses (F init) ≡ Some c)

  pub body_by : (r : ℕ) (c : Core) → body_at s senses r ≡ Some c → OfBlock r c ⊎ OfInitial r c
  body_by r c e = by (is_defined s F r) refl e
    where
      of_blocks : (o : Option ℕ) → block_for s senses r ≡ o → option_and_then (λ b. core_of_sense s senses (F b)) o ≡ Some c → (b : ℕ) × (block_for s senses r ≡ Some b) × (core_of_sense s senses (F b) ≡ Some c)
      of_blocks None is e = cc
      of_blocks (Some b) is e = (b, is, e)

      of_initials : (o : Option ℕ) → initialiser_for s F r ≡ o → option_and_then (λ i. core_of_sense s senses (F i)) o ≡ Some c → OfInitial r c
      of_initials None is e = cc
      of_initials (Some i) is e = (i, is, e)

      by : (b : Bool) → is_defined s F r ≡ b → (if b then option_and_then (λ b. core_of_sense s senses (F b)) (block_for s senses r) else option_and_then (λ init. core_of_sense s senses (F init)) (initialiser_for s F r)) ≡ Some c → OfBlock r c ⊎ OfInitial r c
      by true is e = inl (is, of_blocks (block_for s senses r) refl e)
      by false is e = inr (of_initials (initialiser_for s F r) refl e)

  -- a definition's block is a part of an external declaration
  pub block_in : (r b : ℕ) → is_defined s F r ≡ true → block_for s senses r ≡ Some b → (p : ℕ) × (is_a s p_external p ≡ true) × (child_of s p_block p ≡ Some b)
  block_in r b is e = by (declaration_of s F r) is e
    where
      by : (o : Option ℕ) → (elim o as (λ _. Bool) [ None ↦ false | Some p ↦ is_a s p_external p && is_some (child_of s p_block p) ]) ≡ true → option_and_then (child_of s p_block) o ≡ Some b → (p : ℕ) × (is_a s p_external p ≡ true) × (child_of s p_block p ≡ Some b)
      by None is e = cc
      by (Some p) is e = (p, (and_parts (is_a s p_external p) (is_some (child_of s p_block p)) is).0, e)

-- ---- kinds

pub same_initialise : (m : Numbering) (kind : NodeKind) (e : ℕ) (paths : _) → SameKind m kind (Initialise e paths) → (d : ℕ) × (own : _) × (kind ≡ Initialise d own) × (m d ≡ Some e)
same_initialise m (Initialise d own) e paths h = (d, own, refl, h.0)
same_initialise m kind e paths h = absurd (cc)
