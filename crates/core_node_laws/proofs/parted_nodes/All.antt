-- The trees of all near nodes, one after another, where the parts of suffixes need not be near.
use Rattle.std.proofs.Common.{arith, ◌≡◌, ◌==◌, Bool, true, false, ℕ, zero, suc, ◌<◌, ◌≤◌, List, [], ◌∷◌, ◌++◌, take, length, Option, Some, None, slice_get, refl, sym, ap, ◌∙◌, subst}
use Rattle.std.proofs.lemmas.Option.{slice_get-get_or}
use Rattle.std.proofs.lemmas.Bool.{eqb-true}
use Rattle.c_grammar.specs.declared.trees.SyntaxNode.{SyntaxNode}
use Rattle.c_grammar.specs.Productions.{p_post, p_suffix}
use Rattle.core_nodes.specs.passed.c_senses.Tree.{Source, is_a, production_of, production_at, children_of, children_at, left_of}
use Rattle.core_nodes.specs.passed.c_senses.Given.{Given}
use Rattle.core_nodes.specs.passed.c_senses.Sense.{Sense, Nothing, sense_in}
use Rattle.core_nodes.specs.passed.c_senses.Rows.{AreSenses, world_at, row_of}
use Rattle.c_consts.specs.Core.{Core}
use Rattle.core_node_laws.specs.near_nodes.Holding.{OfSense, RowGives}
use Rattle.core_node_laws.proofs.near_nodes.Nearness.{AllNear, all_near}
use Rattle.core_node_laws.proofs.near_nodes.Giving.{Gives}
use Rattle.core_node_laws.proofs.near_nodes.Types.{suffix_kept}
use Rattle.core_node_laws.specs.parted_nodes.Parted.{Parted}
use Rattle.core_node_laws.proofs.parted_nodes.Rows.{row_kept}

-- a fact of each sense by its number, where one sense is added
one_more : (Q : ℕ → Sense → Type 0) (xs : List Sense) (x : Sense) → ((i : ℕ) → Q i (sense_in xs i)) → Q (length xs) x → ((i : ℕ) → Q i Nothing) → (i : ℕ) → Q i (sense_in (xs ++ x ∷ []) i)
one_more Q [] x each h n zero = h
one_more Q [] x each h n (suc i) = n (suc i)
one_more Q (y ∷ ys) x each h n zero = each 0
one_more Q (y ∷ ys) x each h n (suc i) = one_more (λ k z. Q (suc k) z) ys x (λ k. each (suc k)) h (λ k. n (suc k)) i

take_long : (xs : List Sense) (n : ℕ) → n ≤ length xs → length (take n xs) ≡ n
take_long xs zero le = refl
take_long [] (suc n) le = absurd (omega (arith, le))
take_long (x ∷ xs) (suc n) le = ap suc (take_long xs n (omega (arith, le)))

take_one : (xs : List Sense) (n : ℕ) (x : Sense) → slice_get xs n ≡ Some x → take (suc n) xs ≡ take n xs ++ x ∷ []
take_one [] n x e = cc
take_one (y ∷ ys) zero x e = let same : y ≡ x = cc in ap (λ (z : Sense). z ∷ []) same
take_one (y ∷ ys) (suc n) x e = ap (λ (zs : List Sense). y ∷ zs) (take_one ys n x e)

no_past : (xs : List SyntaxNode) (n : ℕ) → slice_get xs n ≡ None → n < length xs → ⊥
no_past [] n e lt = omega arith
no_past (x ∷ xs) zero e lt = cc
no_past (x ∷ xs) (suc n) e lt = no_past xs n e (omega arith)

take_whole : (xs : List Sense) → take (length xs) xs ≡ xs
take_whole [] = refl
take_whole (x ∷ xs) = ap (λ (zs : List Sense). x ∷ zs) (take_whole xs)

node_found : (s : Source) (o : Option SyntaxNode) (n : ℕ) → slice_get s.nodes n ≡ o → n < length s.nodes → (node : SyntaxNode) × (slice_get s.nodes n ≡ Some node)
node_found s (Some node) n e lt = (node, e)
node_found s None n e lt = absurd (no_past s.nodes n e lt)

module _
    (asks : Core → Type 0) (s : Source) (senses : List Sense) (near : ℕ → Type 0) (are : AreSenses s senses) (closed : Parted s near)
    (gives : (n : ℕ) → n < length senses → is_a s p_suffix n ≡ false → near n → ((c : ℕ) → near c → OfSense s near asks (sense_in (take n senses) c)) → RowGives asks (world_at s (take n senses) n) s (sense_in (take n senses)) n (children_at s n))
  where
    abbrev Q : ℕ → Sense → Type 0
    Q i x = near i → OfSense s near asks x

    own : (n : ℕ) → n < length senses → ((c : ℕ) → Q c (sense_in (take n senses) c)) → Q n (sense_in senses n)
    own n lt before here =
        let x : Sense = sense_in senses n in
        let is : slice_get senses n ≡ Some x = slice_get-get_or senses n Nothing lt in
        let node = node_found s (slice_get s.nodes n) n refl (omega (arith, lt, are.within)) in
        let parts : children_at s n ≡ node.0.children.items = ap children_of node.1 in
        let left = λ (post : (node.0.production == p_post) ≡ true) (first : ℕ) (rest : List ℕ) (e : node.0.children.items ≡ first ∷ rest).
        closed.lefts n first rest (subst (λ (o : Option SyntaxNode). (production_of o == p_post) ≡ true) (sym node.1) post) (parts ∙ e) here in
        let production : production_at s n ≡ node.0.production = ap production_of node.1 in
        subst (λ (g : Given Sense). Gives (OfSense s near asks) g) (are.each n node.0 x node.1 is)
        (by node.0.production node.0.children.items (sym production) parts left (node.0.production == p_suffix) refl)
      where
        by : (q : ℕ) (children : List ℕ) → q ≡ production_at s n → children_at s n ≡ children → ((q == p_post) ≡ true → (first : ℕ) (rest : List ℕ) → children ≡ first ∷ rest → near (left_of s first))
            → (b : Bool) → (q == p_suffix) ≡ b → Gives (OfSense s near asks) (row_of (world_at s (take n senses) n) s (sense_in (take n senses)) q n children)
        by q children own parts left true is =
            subst (λ (p : ℕ). Gives (OfSense s near asks) (row_of (world_at s (take n senses) n) s (sense_in (take n senses)) p n children)) (sym (eqb-true q p_suffix is))
            (suffix_kept asks (world_at s (take n senses) n) s (sense_in (take n senses)) near before n children)
        by q children own parts left false is =
            let off : is_a s p_suffix n ≡ false = subst (λ (p : ℕ). (p == p_suffix) ≡ false) own is in
            let all : AllNear near children = subst (λ (l : List ℕ). AllNear near l) parts (all_near near (children_at s n) (λ c h. closed.parts n c h off here)) in
            let made : RowGives asks (world_at s (take n senses) n) s (sense_in (take n senses)) n children =
            subst (λ (l : List ℕ). RowGives asks (world_at s (take n senses) n) s (sense_in (take n senses)) n l) parts (gives n lt off here before) in
            row_kept asks (world_at s (take n senses) n) s (sense_in (take n senses)) near closed.parts before q n children made own here all left

    up_to : (n : ℕ) → n ≤ length senses → (i : ℕ) → Q i (sense_in (take n senses) i)
    up_to zero le i = λ here. tt
    up_to (suc n) le i =
        let lt : n < length senses = omega (arith, le) in
        let before : (k : ℕ) → Q k (sense_in (take n senses) k) = up_to n (omega (arith, le)) in
        let x : Sense = sense_in senses n in
        let is : slice_get senses n ≡ Some x = slice_get-get_or senses n Nothing lt in
        let same : length (take n senses) ≡ n = take_long senses n (omega (arith, le)) in
        let here : Q (length (take n senses)) x = subst (λ (k : ℕ). Q k x) (sym same) (own n lt before) in
        subst (λ (xs : List Sense). Q i (sense_in xs i)) (sym (take_one senses n x is)) (one_more Q (take n senses) x before here (λ k m. tt) i)

    -- each node in the trees of near nodes is so
    pub near_kept : (i : ℕ) → near i → OfSense s near asks (sense_in senses i)
    near_kept i = subst (λ (xs : List Sense). Q i (sense_in xs i)) (take_whole senses) (up_to (length senses) (omega arith) i)
