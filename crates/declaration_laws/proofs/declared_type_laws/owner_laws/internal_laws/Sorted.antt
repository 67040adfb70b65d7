-- Declarations stand in the order of the nodes that make them.
use Rattle.std.proofs.Common.{arith, ◌≡◌, ◌<◌, ◌≤◌, ◌+◌, ℕ, suc, ◌==◌, nat_eq, Bool, true, false, cond, List, [], ◌∷◌, ◌++◌, Option, Some, None, length, slice_get, refl, sym, subst}
use Rattle.std.specs.Prelude.{⊤, if◌then◌else◌}
use Rattle.std.specs.List.{find}
use Rattle.c_lexer.specs.declared.Token.{Token}
use Rattle.c_grammar.specs.Reads.{Node}
use Rattle.c_mentions.specs.declared.mentions.Mention.{Mention}
use Rattle.c_mentions.specs.declared.mentions.Mention.TheVariants as mention
use Rattle.c_mentions.specs.declared.roles.TagUse.{TagUse}
use Rattle.c_mentions.specs.declared.roles.TagUse.TheVariants as tag
use Rattle.c_mentions.specs.Settings.{Standing, standings}
use Rattle.c_scope.specs.declared.kinds.Declared.{Declared}
use Rattle.c_scope.specs.declared.kinds.NameFault.TheVariants as fault
use Rattle.c_scope.specs.Known.{Happening, Known, known, nothing_known, after, after_use, after_tag, after_tag_use, after_tag_reference, after_label, after_goto, innermost, tag_declared, first_scope, declared_by, first_label, is_first, with_fault}
use Rattle.c_scope.specs.Resolves.{bindings, happenings, happenings_from}
use Rattle.c_senses.specs.Names.{made_before}
use Rattle.declaration_laws.proofs.definition_laws.linkage_laws.Origins.{HasOrigin, mentioned}

module _ (text : List ℕ) (tokens : List Token) (nodes : List Node) where
  abbrev pub Origin : Declared → Type 0
  Origin d = HasOrigin text tokens nodes d

  abbrev all : List Standing
  all = standings tokens nodes 0 nodes

  -- in order, from one node on and up to another
  unfoldable pub Sorted : ℕ → List Declared → ℕ → Type 0
  Sorted low [] high = low ≤ high
  Sorted low (d ∷ ds) high = (h : Origin d) × (low ≤ h.node) × Sorted (suc h.node) ds high

  up : (low : ℕ) (ds : List Declared) (high more : ℕ) → high ≤ more → Sorted low ds high → Sorted low ds more
  unfolding Sorted
  up low [] high more le h = omega (arith, le, h)
  up low (d ∷ ds) high more le h = (h.0, h.1, up (suc h.0.node) ds high more le h.2)

  push : (low : ℕ) (ds : List Declared) (high : ℕ) (d : Declared) (h : Origin d) → high ≤ h.node → Sorted low ds high → Sorted low (ds ++ d ∷ []) (suc h.node)
  unfolding Sorted
  push low [] high d h le s = (h, omega (arith, le, s), omega arith)
  push low (x ∷ ds) high d h le s = (s.0, s.1, push (suc s.0.node) ds high d h le s.2)

  module _ (file : ℕ) (labels : ℕ → ℕ → Option ℕ) (high : ℕ) where
    used : (n : ℕ) (exempt : Bool) (o : Option Declared) (k : Known) → Sorted 0 k.names high → Sorted 0 (after_use n exempt o k).names high
    used n true None k h = h
    used n false None k h = h
    used n exempt (Some d) k h = h

    tagged : (n symbol : ℕ) (scopes : List ℕ) (how : TagUse) (k : Known) → Sorted 0 k.names high → Sorted 0 (after_tag file n symbol scopes how k).names high
    tagged n symbol scopes tag.Declares k h = h
    tagged n symbol scopes tag.Refers k h = by (innermost scopes symbol k.tags)
      where
        by : (o : Option Declared) → Sorted 0 (after_tag_reference n (tag_declared n symbol (first_scope file scopes)) o k).names high
        by None = h
        by (Some d) = h
    tagged n symbol scopes tag.Uses k h = by (innermost scopes symbol k.tags)
      where
        by : (o : Option Declared) → Sorted 0 (after_tag_use n o k).names high
        by None = h
        by (Some d) = h

    labelled : (n : ℕ) (first : Option ℕ) (k : Known) → Sorted 0 k.names high → Sorted 0 (after_label n first k).names high
    labelled n first k h = by (is_first n first)
      where
        by : (b : Bool) → Sorted 0 (if b then k else with_fault (fault.Redeclared n) k).names high
        by true = h
        by false = h

    gone : (n : ℕ) (first : Option ℕ) (k : Known) → Sorted 0 k.names high → Sorted 0 (after_goto n first k).names high
    gone n None k h = h
    gone n (Some first) k h = h

  step : (labels : ℕ → ℕ → Option ℕ) (n : ℕ) (st : Standing) (k : Known) → slice_get all n ≡ Some st → (m : Mention) → mentioned text tokens nodes n st ≡ m → Sorted 0 k.names n → Sorted 0 (after (length nodes) labels n st.scopes st.body m k).names (suc n)
  step labels n st k at mention.Nothing e h = up 0 k.names n (suc n) (omega arith) h
  step labels n st k at (mention.Use symbol exempt) e h = up 0 _ n (suc n) (omega arith) (used (length nodes) labels n n exempt (innermost st.scopes symbol k.names) k h)
  step labels n st k at (mention.Tag symbol how) e h = up 0 _ n (suc n) (omega arith) (tagged (length nodes) labels n n symbol st.scopes how k h)
  step labels n st k at (mention.Label symbol) e h = up 0 _ n (suc n) (omega arith) (labelled (length nodes) labels n n (labels st.body symbol) k h)
  step labels n st k at (mention.Goto symbol) e h = up 0 _ n (suc n) (omega arith) (gone (length nodes) labels n n (labels st.body symbol) k h)
  step labels n st k at (mention.Declares leaf symbol linkage derivation type_name) e h =
      push 0 k.names n (declared_by (length nodes) leaf symbol linkage derivation type_name (first_scope (length nodes) st.scopes) k)
      (record { node = n; standing = st; stands = at; leaf = leaf; symbol = symbol; linkage = linkage; derivation = derivation; type_name = type_name; before = k; mentions = e; is = refl }) (omega arith) h

  steps : (labels : ℕ → ℕ → Option ℕ) (n : ℕ) (k : Known) (ss : List Standing) → ((j : ℕ) (st : Standing) → slice_get ss j ≡ Some st → slice_get all (n + j) ≡ Some st) → Sorted 0 k.names n
      → (high : ℕ) × Sorted 0 (known (length nodes) labels n k (happenings_from text tokens nodes n ss)).names high
  steps labels n k [] at h = (n, h)
  steps labels n k (st ∷ ss) at h =
      let own = step labels n st k (let plain : n + 0 ≡ n = omega arith in subst (λ (x : ℕ). slice_get all x ≡ Some st) plain (at 0 st refl)) (mentioned text tokens nodes n st) refl h in
      let one : suc n ≡ n + 1 = omega arith in
      steps labels (n + 1) _ ss (λ j x e. let plus : n + suc j ≡ n + 1 + j = omega arith in subst (λ (y : ℕ). slice_get all y ≡ Some x) plus (at (suc j) x e)) (subst (λ (x : ℕ). Sorted 0 (after (length nodes) labels n st.scopes st.body (mentioned text tokens nodes n st) k).names x) one own)

  pub all_sorted : (high : ℕ) × Sorted 0 (bindings text tokens nodes).names high
  unfolding bindings happenings Sorted
  all_sorted =
      let hs : List Happening = happenings_from text tokens nodes 0 all in
      steps (first_label 0 hs) 0 nothing_known all (λ j st e. let plain : 0 + j ≡ j = omega arith in subst (λ (x : ℕ). slice_get all x ≡ Some st) (sym plain) e) (omega arith)

  -- each of a list comes from a node before one
  abbrev pub BeforeAll : ℕ → List Declared → Type 0
  BeforeAll n [] = ⊤
  BeforeAll n (d ∷ ds) = (h : Origin d) × (h.node < n) × BeforeAll n ds

  -- where the first declaration of a leaf comes from that node alone
  pub before_leaf : (leaf n low high : ℕ) (ds : List Declared) (y : Declared) → Sorted low ds high → find (λ (d : Declared). d.node == leaf) ds ≡ Some y → ((h : Origin y) → h.node ≡ n) → BeforeAll n (made_before leaf ds) × (low ≤ n)
  unfolding Sorted
  before_leaf leaf n low high [] y s e own = cc
  before_leaf leaf n low high (d ∷ ds) y s e own = by (nat_eq d.node leaf) e (λ f. before_leaf leaf n (suc s.0.node) high ds y s.2 f own)
    where
      by : (b : Bool) → cond b (Some d) (find (λ (x : Declared). x.node == leaf) ds) ≡ Some y → (find (λ (x : Declared). x.node == leaf) ds ≡ Some y → BeforeAll n (made_before leaf ds) × (suc s.0.node ≤ n))
          → BeforeAll n (if b then [] else d ∷ made_before leaf ds) × (low ≤ n)
      by true f later = let same : d ≡ y = cc in (tt, at_own (subst (λ (z : Declared). (h : Origin z) × (low ≤ h.node)) same (s.0, s.1)))
        where
          at_own : (h : Origin y) × (low ≤ h.node) → low ≤ n
          at_own h = let at = own h.0 in let le = h.1 in omega (arith, at, le)
      by false f later = let more = later f in (((s.0, (let le = more.1 in omega (arith, le)), more.0)), (let le = more.1 in let low_le = s.1 in omega (arith, le, low_le)))
