-- What is found for a leaf, and that something is found.
use Rattle.std.proofs.Common.{arith, ◌≡◌, ◌∙◌, ◌==◌, ℕ, zero, suc, ◌+◌, ◌<◌, Bool, true, false, List, [], ◌∷◌, ◌++◌, map, Option, Some, None, slice_get, refl, sym, ap, subst, All}
use Rattle.std.specs.Prelude.{if◌then◌else◌}
use Rattle.std.proofs.lemmas.Bool.{eqb-true, eq-eqb, false≢true}
use Rattle.std.proofs.lemmas.List.Elements.{All-cons}
use Rattle.core_tree.specs.declared.node.Node.{Node}
use Rattle.core_tree.specs.declared.node.NodeKind.{NodeKind}
use Rattle.core_tree.specs.declared.node.NodeKind.TheVariants.{Initialise}
use Rattle.c_inits.specs.Shapes.{Path}
use Rattle.c_senses.specs.Tree.{paired}
use Rattle.core_nodes.specs.kept_nodes.Marked.{marked}
use Rattle.unit_finish.specs.declared.unit_parts.declared.Declared.{Declared}
use Rattle.unit_finish.specs.unit_parts.Entities.{with_body, bodies_of}
use Rattle.unit_finish.specs.own_bodies.Own.{is_automatic, initialised_at, initialises_from, with_own_body}

-- what is found for a leaf is a marked node that initialises it
pub record IsFoundAt (k : ℕ) (marks : List Bool) (nodes : List Node) (leaf m : ℕ) : Type 0 where
  pub place : ℕ
  pub node : Node
  pub paths : List Path
  pub number : m ≡ k + place
  pub mark : marked marks place
  pub there : slice_get nodes place ≡ Some node
  pub kind : node.kind ≡ Initialise leaf paths

later : (k leaf m : ℕ) (mark : Bool) (marks : List Bool) (n : Node) (nodes : List Node) → IsFoundAt (suc k) marks nodes leaf m → IsFoundAt k (mark ∷ marks) (n ∷ nodes) leaf m
later k leaf m mark marks n nodes f = record { place = suc f.place; node = f.node; paths = f.paths; number = omega (arith, f.number); mark = f.mark; there = f.there; kind = f.kind }

pub found_at : (k : ℕ) (marks : List Bool) (nodes : List Node) (leaf m : ℕ) → paired (initialises_from k marks nodes) leaf ≡ Some m → IsFoundAt k marks nodes leaf m
found_at k marks [] leaf m e = cc
found_at k [] (n ∷ nodes) leaf m e = cc
found_at k (false ∷ marks) (n ∷ nodes) leaf m e = later k leaf m false marks n nodes (found_at (suc k) marks nodes leaf m e)
found_at k (true ∷ marks) (n ∷ nodes) leaf m e = by (λ f. later k leaf m true marks n nodes (found_at (suc k) marks nodes leaf m f)) n.kind refl e
  where
    here : (paired (initialises_from (suc k) marks nodes) leaf ≡ Some m → IsFoundAt k (true ∷ marks) (n ∷ nodes) leaf m) → (d : ℕ) (paths : List Path) (b : Bool) → n.kind ≡ Initialise d paths → (d == leaf) ≡ b → (if b then Some k else paired (initialises_from (suc k) marks nodes) leaf) ≡ Some m → IsFoundAt k (true ∷ marks) (n ∷ nodes) leaf m
    here rest d paths true kind same f =
        let number : k ≡ m = cc in
        record { place = 0; node = n; paths = paths; number = omega (arith, number); mark = refl; there = refl; kind = kind ∙ ap (λ (l : ℕ). Initialise l paths) (eqb-true d leaf same) }
    here rest d paths false kind same f = rest f

    by : (paired (initialises_from (suc k) marks nodes) leaf ≡ Some m → IsFoundAt k (true ∷ marks) (n ∷ nodes) leaf m) → (kind : NodeKind) → n.kind ≡ kind → paired (initialised_at k true kind ++ initialises_from (suc k) marks nodes) leaf ≡ Some m → IsFoundAt k (true ∷ marks) (n ∷ nodes) leaf m
    by rest (Initialise d paths) kind f = here rest d paths (d == leaf) kind refl f
    by rest other kind f = rest f

-- where a marked node initialises a leaf, something is found for it
pub found_for : (k : ℕ) (marks : List Bool) (nodes : List Node) (leaf j : ℕ) (x : Node) (paths : List Path) → marked marks j → slice_get nodes j ≡ Some x → x.kind ≡ Initialise leaf paths → (m : ℕ) × (paired (initialises_from k marks nodes) leaf ≡ Some m)
found_for k marks [] leaf zero x paths on at kind = cc
found_for k marks [] leaf (suc j) x paths on at kind = cc
found_for k [] (n ∷ nodes) leaf j x paths on at kind = absurd (false≢true on)
found_for k (mark ∷ marks) (n ∷ nodes) leaf zero x paths on at kind =
    let same : n ≡ x = cc in
    let own : initialised_at k mark n.kind ≡ (leaf, k) ∷ [] = ap (λ (b : Bool). initialised_at k b n.kind) on ∙ ap (initialised_at k true) (ap (λ (y : Node). y.kind) same ∙ kind) in
    (k, ap (λ (l : List (ℕ × ℕ)). paired (l ++ initialises_from (suc k) marks nodes) leaf) own ∙ ap (λ (b : Bool). if b then Some k else paired (initialises_from (suc k) marks nodes) leaf) (eq-eqb leaf leaf refl))
found_for k (mark ∷ marks) (n ∷ nodes) leaf (suc j) x paths on at kind = by (initialised_at k mark n.kind) (found_for (suc k) marks nodes leaf j x paths on at kind)
  where
    by : (own : List (ℕ × ℕ)) → (m : ℕ) × (paired (initialises_from (suc k) marks nodes) leaf ≡ Some m) → (m : ℕ) × (paired (own ++ initialises_from (suc k) marks nodes) leaf ≡ Some m)
    by [] f = f
    by (p ∷ own) f = choose (p.0 == leaf) (by own f)
      where
        choose : (b : Bool) → (m : ℕ) × (paired (own ++ initialises_from (suc k) marks nodes) leaf ≡ Some m) → (m : ℕ) × ((if b then Some p.1 else paired (own ++ initialises_from (suc k) marks nodes) leaf) ≡ Some m)
        choose true g = (p.1, refl)
        choose false g = g

-- new bodies are nodes, where those before are
pub owned_within : (n : ℕ) (at : ℕ → Option ℕ) → ((leaf m : ℕ) → at leaf ≡ Some m → m < n) → (list : List Declared) → All (λ b. b < n) (bodies_of list) → All (λ b. b < n) (bodies_of (map (with_own_body at) list))
owned_within n at few [] all = all
owned_within n at few (x ∷ list) all = by (owned_within n at few list) all
  where
    with_all : (o : Option ℕ) → ((b : ℕ) → o ≡ Some b → b < n) → All (λ b. b < n) (bodies_of (map (with_own_body at) list)) → All (λ b. b < n) (with_body o (bodies_of (map (with_own_body at) list)))
    with_all None h rest = rest
    with_all (Some b) h rest = All-cons (λ b. b < n) b (bodies_of (map (with_own_body at) list)) (h b refl) rest

    rest_of : (o : Option ℕ) → All (λ b. b < n) (with_body o (bodies_of list)) → All (λ b. b < n) (bodies_of list)
    rest_of None h = h
    rest_of (Some b) h = λ k d lt. h (suc k) d (omega (arith, lt))

    first_of : (o : Option ℕ) → All (λ b. b < n) (with_body o (bodies_of list)) → (b : ℕ) → o ≡ Some b → b < n
    first_of None h b e = cc
    first_of (Some c) h b e = let same : c ≡ b = cc in subst (λ (d : ℕ). d < n) same (h 0 c (omega arith))

    by : (All (λ b. b < n) (bodies_of list) → All (λ b. b < n) (bodies_of (map (with_own_body at) list)))
        → All (λ b. b < n) (with_body x.body (bodies_of list)) → All (λ b. b < n) (with_body (with_own_body at x).body (bodies_of (map (with_own_body at) list)))
    by rest h = with_all (with_own_body at x).body (λ b e. small b e (is_automatic x.storage) refl) (rest (rest_of x.body h))
      where
        small : (b : ℕ) → (with_own_body at x).body ≡ Some b → (a : Bool) → is_automatic x.storage ≡ a → b < n
        small b e true it = few x.leaf b (sym (ap (λ (c : Bool). (if c then record x { body = at x.leaf } else x).body) it) ∙ e)
        small b e false it = first_of x.body h b (sym (ap (λ (c : Bool). (if c then record x { body = at x.leaf } else x).body) it) ∙ e)
