-- The declaration at which an internal name has its place.
use Rattle.std.proofs.Common.{◌≡◌, ℕ, ◌+◌, ◌<◌, Bool, true, false, cond, List, [], ◌∷◌, length, drop, get_or, refl, sym, ap, ◌∙◌}
use Rattle.std.proofs.lemmas.List.{drop_more}
use Rattle.core_tree.specs.declared.node.Linkage.{Linkage}
use Rattle.core_tree.specs.declared.node.Linkage.TheVariants.{External, Internal, Local}
use Rattle.c_scope.specs.declared.kinds.Declared.{Declared}
use Rattle.c_senses.specs.Tree.{Source}
use Rattle.c_senses.specs.Sense.{Sense, sense_in}
use Rattle.c_senses.specs.Entities.{keep, first_of, is_internal, is_linked, linkage_of}
use Rattle.c_senses.specs.Right.{of_internal, representative, is_definition_at}
use Rattle.c_senses.specs.Right as right
use Rattle.c_named.specs.Lists.{leaves_of}
use Rattle.unit_names.specs.Choosing.{first_such, is_definition, is_tentative, chosen}

-- the first of some leaves that passes a test
pub first_more : (test : ℕ → Bool) (other : ℕ) (list : List ℕ) (i : ℕ) → i < length list → test (get_or list i 0) ≡ false → first_such test other (drop (i + 1) list) ≡ first_such test other (drop i list)
first_more test other list i lt e =
    let x = get_or list i 0 in
    let rest = drop (i + 1) list in
    sym (ap (λ (b : Bool). cond b x (first_such test other rest)) e) ∙ sym (ap (first_such test other) (drop_more list i 0 lt))

pub first_here : (test : ℕ → Bool) (other : ℕ) (list : List ℕ) (i : ℕ) → i < length list → test (get_or list i 0) ≡ true → get_or list i 0 ≡ first_such test other (drop i list)
first_here test other list i lt e =
    let x = get_or list i 0 in
    let rest = drop (i + 1) list in
    sym (ap (λ (b : Bool). cond b x (first_such test other rest)) e) ∙ sym (ap (first_such test other) (drop_more list i 0 lt))

-- whatever depends on the linkage of a name
abbrev by_linkage : Bool → Bool → Linkage
by_linkage internal linked = cond internal Internal (cond linked External Local)

by_linked : {X : Type 0} (f : Linkage → X) (x : X) (b : Bool) → f External ≡ x → f Local ≡ x → f (by_linkage false b) ≡ x
by_linked f x true external local = external
by_linked f x false external local = local

module _ (s : Source) (sense : ℕ → Sense) (leaf : ℕ) where
  pub of_internal_name : {X : Type 0} (f : Linkage → X) → is_internal s sense leaf ≡ true → f (linkage_of s sense leaf) ≡ f Internal
  of_internal_name f e = ap (λ (b : Bool). f (by_linkage b (is_linked s sense leaf))) e

  pub of_other_name : {X : Type 0} (f : Linkage → X) (x : X) → f External ≡ x → f Local ≡ x → is_internal s sense leaf ≡ false → f (linkage_of s sense leaf) ≡ x
  of_other_name f x external local e = ap (λ (b : Bool). f (by_linkage b (is_linked s sense leaf))) e ∙ by_linked f x (is_linked s sense leaf) external local

module _ (s : Source) (senses : List Sense) where
  abbrev sense : ℕ → Sense
  sense = sense_in senses

  first_of_leaves : (test : ℕ → Bool) (leaf : ℕ) (ds : List Declared) → first_of s sense leaf (keep s sense (λ d. test d.node) ds) ≡ first_such test leaf (leaves_of ds)
  first_of_leaves test leaf [] = refl
  first_of_leaves test leaf (d ∷ rest) = by_test (test d.node) (first_of_leaves test leaf rest)
    where
      by_test : (b : Bool) → first_of s sense leaf (keep s sense (λ x. test x.node) rest) ≡ first_such test leaf (leaves_of rest)
          → first_of s sense leaf (cond b (d ∷ keep s sense (λ x. test x.node) rest) (keep s sense (λ x. test x.node) rest)) ≡ cond b d.node (first_such test leaf (leaves_of rest))
      by_test true h = refl
      by_test false h = h

  abbrev pub place_by : ℕ → Linkage → ℕ
  place_by leaf l =
      elim l as (λ q. ℕ) [
        | Internal ↦ first_of s sense (first_of s sense leaf (keep s sense (right.is_tentative s senses) (of_internal s senses leaf))) (keep s sense (is_definition_at s senses) (of_internal s senses leaf))
        | _ ↦ leaf
      ]

  pub place_internal : (leaf : ℕ) → is_internal s sense leaf ≡ true → chosen s sense leaf (leaves_of (of_internal s senses leaf)) ≡ representative s senses leaf
  place_internal leaf e =
      let ds = of_internal s senses leaf in
      sym (of_internal_name s sense leaf (place_by leaf) e
      ∙ (first_of_leaves (is_definition s sense) (first_of s sense leaf (keep s sense (right.is_tentative s senses) ds)) ds
      ∙ ap (λ (n : ℕ). first_such (is_definition s sense) n (leaves_of ds)) (first_of_leaves (is_tentative s sense) leaf ds)))

  pub place_own : (leaf : ℕ) → is_internal s sense leaf ≡ false → leaf ≡ representative s senses leaf
  place_own leaf e = sym (of_other_name s sense leaf (place_by leaf) leaf refl refl e)
