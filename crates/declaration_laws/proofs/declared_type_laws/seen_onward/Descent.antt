-- A fact of where nodes stand, from the root down, with where the node above stands.
use Rattle.std.proofs.Common.{arith, ◌≡◌, ◌<◌, ◌≤◌, ◌+◌, ℕ, zero, suc, Bool, true, false, List, [], ◌∷◌, Option, Some, None, length, slice_get, refl, sym, ap, ◌∙◌, subst, ◌⊎◌, inl, inr}
use Rattle.std.proofs.lemmas.Option.{slice_get_within}
use Rattle.c_lexer.specs.declared.Token.{Token}
use Rattle.c_grammar.specs.Reads.{Node}
use Rattle.c_grammar.specs.Terminals.{contains}
use Rattle.c_mentions.specs.Syntax as syntax
use Rattle.c_mentions.specs.Settings.{Standing, outermost, handed_down, standings}
use Rattle.declaration_laws.proofs.declared_type_laws.owner_laws.passed.definition_laws.scope_laws.Scopes.{Part, children_are}
use Rattle.declaration_laws.proofs.declared_type_laws.owner_laws.passed.definition_laws.linkage_laws.Standings.{HasParent, parents}

count : (tokens : List Token) (nodes : List Node) (i : ℕ) (ns : List Node) → length (standings tokens nodes i ns) ≡ length ns
count tokens nodes i [] = refl
count tokens nodes i (n ∷ ns) = ap suc (count tokens nodes (i + 1) ns)

no_both : (b : Bool) → b ≡ true → b ≡ false → ⊥
no_both b e f = let both : true ≡ false = sym e ∙ f in cc

module _ (tokens : List Token) (nodes : List Node) where
  abbrev pub StandsAt : ℕ → Standing → Type 0
  StandsAt i st = slice_get (standings tokens nodes 0 nodes) i ≡ Some st

  pub stands_within : (i : ℕ) (st : Standing) → StandsAt i st → i < length nodes
  stands_within i st at = let lt = slice_get_within (standings tokens nodes 0 nodes) i st at in let same = count tokens nodes 0 nodes in omega (arith, lt, same)

  pub stands_once : (i : ℕ) (a b : Standing) → StandsAt i a → StandsAt i b → a ≡ b
  stands_once i a b x y = let same : ◌≡◌ {A = Option Standing} (Some a) (Some b) = sym x ∙ y in cc

  there : (list : List Standing) (i : ℕ) → i < length list → (st : Standing) × (slice_get list i ≡ Some st)
  there [] i lt = absurd (omega (arith, lt))
  there (x ∷ list) zero lt = (x, refl)
  there (x ∷ list) (suc i) lt = there list i (omega (arith, lt))

  pub stands : (i : ℕ) → i < length nodes → (st : Standing) × StandsAt i st
  stands i lt = there (standings tokens nodes 0 nodes) i (let same = count tokens nodes 0 nodes in omega (arith, lt, same))

  -- a part is one of a node that is there
  pub part_node : (m i : ℕ) → Part tokens nodes m i → (n : Node) × (slice_get nodes m ≡ Some n) × (contains n.children i ≡ true)
  part_node m i h = by (slice_get nodes m) refl h
    where
      by : (o : Option Node) → slice_get nodes m ≡ o → contains (syntax.children_of o) i ≡ true → (n : Node) × (slice_get nodes m ≡ Some n) × (contains n.children i ≡ true)
      by None at h = cc
      by (Some n) at h = (n, at, h)

  pub part_within : (m i : ℕ) → Part tokens nodes m i → m < length nodes
  part_within m i h = let n = part_node m i h in slice_get_within nodes m n.0 n.1

  module _ (before : (i c : ℕ) → Part tokens nodes i c → c < i) (P : ℕ → Standing → Type 0)
      (top : (i : ℕ) (st : Standing) → st ≡ outermost (length nodes) → ((m : ℕ) → Part tokens nodes m i → ⊥) → P i st)
      (step : (m i : ℕ) (above : Standing) → StandsAt m above → Part tokens nodes m i → P m above → P i (handed_down tokens nodes m above))
    where
      from : (fuel i : ℕ) (st : Standing) → length nodes ≤ i + fuel → StandsAt i st → P i st
      from zero i st enough at = absurd (let lt = stands_within i st at in omega (arith, lt, enough))
      from (suc fuel) i st enough at = by (parents tokens nodes i st at) (λ m above less there. from fuel m above less there)
        where
          by : ((st ≡ outermost (length nodes)) × ((k : ℕ) (n : Node) → i < k → slice_get nodes k ≡ Some n → contains n.children i ≡ false)) ⊎ HasParent tokens nodes i st
              → ((m : ℕ) (above : Standing) → length nodes ≤ m + fuel → StandsAt m above → P m above) → P i st
          by (inl none) later = top i st none.0 (λ m child. let n = part_node m i child in no_both (contains n.0.children i) n.2 (none.1 m n.0 (before m i child) n.1))
          by (inr h) later =
              let child : Part tokens nodes h.parent i = children_are tokens nodes h.parent h.node i h.there h.child in
              let lt = before h.parent i child in
              subst (P i) (sym h.is) (step h.parent i h.above h.stands child (later h.parent h.above (omega (arith, lt, enough)) h.stands))

      pub each : (i : ℕ) (st : Standing) → StandsAt i st → P i st
      each i st at = from (length nodes) i st (omega arith) at
