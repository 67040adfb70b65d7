-- A tree has its senses or one first refusal.
use Rattle.std.proofs.Common.{arith, ◌≡◌, ℕ, zero, suc, ◌+◌, ◌<◌, ◌≤◌, List, [], ◌∷◌, ◌++◌, Some, length, get_or, take, slice_get, ◌⊎◌, inl, inr, refl, sym, ap, ◌∙◌, subst}
use Rattle.std.proofs.lemmas.Bool.{cases_lt}
use Rattle.std.proofs.lemmas.Bool.Decides.{eqb_tells}
use Rattle.std.proofs.lemmas.Option.{slice_get_within, slice_get_cases, get_or_from_slice_get, slice_get-get_or}
use Rattle.std.proofs.lemmas.List.{take-append-le, take_all, take_more_same, get_or_append_left, length-append}
use Rattle.std.proofs.Math.Seq.{take-append_seam, get_or-append_seam}
use Rattle.pta_base.specs.declared.kind.Kind.{Kind}
use Rattle.c_grammar.specs.declared.trees.SyntaxNode.{SyntaxNode}
use Rattle.c_senses.specs.Given.{Given, Fits, Refuses}
use Rattle.c_senses.specs.Tree.{Source}
use Rattle.c_senses.specs.Sense.{Sense, Nothing}
use Rattle.c_senses.specs.Rows.{row, AreSenses, RefusedAt}

abbrev pub Whole : Source → Type 0
Whole s = (senses : List Sense) × AreSenses s senses × (length senses ≡ length s.nodes)

abbrev pub Stopped : Source → Type 0
Stopped s = (kind : Kind) × (named : ℕ) × RefusedAt s kind named

-- one node more
module _ (s : Source) (senses : List Sense) (n : SyntaxNode) (x : Sense) (before : AreSenses s senses) (there : slice_get s.nodes (length senses) ≡ Some n) (fits : row s senses (length senses) n ≡ Fits x) where
  abbrev IsRow : List Sense → SyntaxNode → ℕ → Sense → Type 0
  IsRow t m i y = row s t i m ≡ Fits y

  last_row : (i : ℕ) (m : SyntaxNode) (y : Sense) → i ≡ length senses → slice_get s.nodes i ≡ Some m → slice_get (senses ++ x ∷ []) i ≡ Some y → IsRow (take i (senses ++ x ∷ [])) m i y
  last_row i m y e em ey =
      let e1 : get_or (senses ++ x ∷ []) i Nothing ≡ y = get_or_from_slice_get (senses ++ x ∷ []) i y Nothing ey in
      let e2 : x ≡ y = sym (get_or-append_seam senses x [] Nothing) ∙ (ap (λ (j : ℕ). get_or (senses ++ x ∷ []) j Nothing) (sym e) ∙ e1) in
      let both : Some n ≡ Some m = sym there ∙ (ap (λ (j : ℕ). slice_get s.nodes j) (sym e) ∙ em) in
      let e3 : n ≡ m = cc in
      let e4 : senses ≡ take i (senses ++ x ∷ []) = sym (take-append_seam senses (x ∷ [])) ∙ ap (λ (j : ℕ). take j (senses ++ x ∷ [])) (sym e) in
      subst (λ (t : List Sense). IsRow t m i y) e4 (subst (λ (k : SyntaxNode). IsRow senses k i y) e3 (subst (λ (j : ℕ). IsRow senses n j y) (sym e) (subst (λ (z : Sense). IsRow senses n (length senses) z) e2 fits)))

  earlier_row : (i : ℕ) (m : SyntaxNode) (y : Sense) → i < length senses → slice_get s.nodes i ≡ Some m → slice_get (senses ++ x ∷ []) i ≡ Some y → IsRow (take i (senses ++ x ∷ [])) m i y
  earlier_row i m y lt em ey =
      let e1 : get_or (senses ++ x ∷ []) i Nothing ≡ y = get_or_from_slice_get (senses ++ x ∷ []) i y Nothing ey in
      let e2 : slice_get senses i ≡ Some y = slice_get-get_or senses i Nothing lt ∙ ap Some (sym (get_or_append_left senses (x ∷ []) Nothing i lt) ∙ e1) in
      subst (λ (t : List Sense). IsRow t m i y) (sym (take-append-le i senses (x ∷ []) (omega (arith, lt)))) (before.each i m y em e2)

  longer : length (senses ++ x ∷ []) ≡ length senses + 1
  longer = length-append senses (x ∷ [])

  pub one_more : AreSenses s (senses ++ x ∷ [])
  one_more = record {
    within = omega (arith, longer, slice_get_within s.nodes (length senses) n there);
    each = λ i m y em ey. elim (eqb_tells i (length senses)) [
      | inl p ↦ last_row i m y p.1 em ey
      | inr p ↦ earlier_row i m y (omega (arith, p.1, slice_get_within (senses ++ x ∷ []) i y ey, longer)) em ey
    ];
  }

-- so many nodes are left
module _ (s : Source) where
  abbrev AtEnd : Type 0
  AtEnd = Whole s ⊎ Stopped s

  abbrev Ahead : ℕ → Type 0
  Ahead left = (senses : List Sense) → AreSenses s senses → length senses + left ≡ length s.nodes → AtEnd

  by_row : (left : ℕ) (senses : List Sense) (n : SyntaxNode) → AreSenses s senses → slice_get s.nodes (length senses) ≡ Some n → length senses + suc left ≡ length s.nodes → Ahead left → (g : Given Sense) → row s senses (length senses) n ≡ g → AtEnd
  by_row left senses n before there e ahead (Fits x) r =
      let longer : length (senses ++ x ∷ []) ≡ length senses + 1 = length-append senses (x ∷ []) in
      ahead (senses ++ x ∷ []) (one_more s senses n x before there r) (omega (arith, longer, e))
  by_row left senses n before there e ahead (Refuses kind named) r =
      inr (kind, named, record { senses = senses; before = before; node = n; stands = there; refuses = r })

  by_node : (left : ℕ) (senses : List Sense) → AreSenses s senses → length senses + suc left ≡ length s.nodes → Ahead left → AtEnd
  by_node left senses before e ahead = elim ((slice_get_cases s.nodes (length senses)).1) [
    | inl n ↦ by_row left senses n.0 before n.2 e ahead (row s senses (length senses) n.0) refl
    | inr past ↦ let p = past.0 in absurd (omega (arith, p, e))
  ]

  pub decided_on : (left : ℕ) → Ahead left
  decided_on zero senses before e = inl (senses, before, omega (arith, e))
  decided_on (suc left) senses before e = by_node left senses before e (decided_on left)

  nothing_at : (i : ℕ) (m : SyntaxNode) (y : Sense) → slice_get {X = Sense} [] i ≡ Some y → row s (take i []) i m ≡ Fits y
  nothing_at i m y e = cc

  pub nothing_yet : AreSenses s []
  nothing_yet = record { within = omega arith; each = λ i m y em ey. nothing_at i m y ey }

  pub decided : AtEnd
  decided = decided_on (length s.nodes) [] nothing_yet (omega arith)

-- two lists of senses are the same as far as both go
module _ (s : Source) (one other : List Sense) (a : AreSenses s one) (b : AreSenses s other) where
  fits_same : (g : Given Sense) (x y : Sense) → g ≡ Fits x → g ≡ Fits y → x ≡ y
  fits_same g x y e f = cc

  next_same : (k : ℕ) (n : SyntaxNode) (x y : Sense) → slice_get s.nodes k ≡ Some n → slice_get one k ≡ Some x → slice_get other k ≡ Some y → take k one ≡ take k other → x ≡ y
  next_same k n x y there ex ey e =
      fits_same (row s (take k one) k n) x y (a.each k n x there ex) (subst (λ (t : List Sense). row s t k n ≡ Fits y) (sym e) (b.each k n y there ey))

  at_node : (k : ℕ) → k < length one → k < length other → take k one ≡ take k other → get_or one k Nothing ≡ get_or other k Nothing
  at_node k p q e = elim ((slice_get_cases s.nodes k).1) [
    | inl n ↦ next_same k n.0 (get_or one k Nothing) (get_or other k Nothing) n.2 (slice_get-get_or one k Nothing p) (slice_get-get_or other k Nothing q) e
    | inr past ↦ let w = a.within in absurd (omega (arith, past.0, w, p))
  ]

  pub prefix_same : (k : ℕ) → k ≤ length one → k ≤ length other → take k one ≡ take k other
  prefix_same zero p q = refl
  prefix_same (suc k) p q =
      let e : take k one ≡ take k other = prefix_same k (omega (arith, p)) (omega (arith, q)) in
      let f : get_or one k Nothing ≡ get_or other k Nothing = at_node k (omega (arith, p)) (omega (arith, q)) e in
      let last : k + 1 ≡ suc k = omega arith in
      subst (λ (j : ℕ). take j one ≡ take j other) last (take_more_same one other k Nothing (omega (arith, p)) (omega (arith, q)) e f)

  pub same_length : length one ≡ length other → one ≡ other
  same_length e = sym (take_all (length one) one (omega arith)) ∙ (prefix_same (length one) (omega arith) (omega (arith, e)) ∙ take_all (length one) other (omega (arith, e)))

-- a list of senses doesn't go past a refusal
module _ (s : Source) (senses : List Sense) (a : AreSenses s senses) (kind : Kind) (named : ℕ) (r : RefusedAt s kind named) where
  clash : (g : Given Sense) (x : Sense) → g ≡ Fits x → g ≡ Refuses kind named → ⊥
  clash g x e f = cc

  pub no_farther : length r.senses < length senses → ⊥
  no_farther lt =
      let m : ℕ = length r.senses in
      let e : take m senses ≡ take m r.senses = prefix_same s senses r.senses a r.before m (omega (arith, lt)) (omega arith) in
      let f : take m senses ≡ r.senses = e ∙ take_all m r.senses (omega arith) in
      let x : Sense = get_or senses m Nothing in
      let g : row s (take m senses) m r.node ≡ Fits x = a.each m r.node x r.stands (slice_get-get_or senses m Nothing lt) in
      clash (row s r.senses m r.node) x (subst (λ (t : List Sense). row s t m r.node ≡ Fits x) f g) r.refuses

-- two refusals
module _ (s : Source) (k l : Kind) (m n : ℕ) (a : RefusedAt s k m) (b : RefusedAt s l n) where
  same_refusal : (g : Given Sense) → g ≡ Refuses k m → g ≡ Refuses l n → (k ≡ l) × (m ≡ n)
  same_refusal g e f = (cc, cc)

  at_one_node : (c d : SyntaxNode) → slice_get s.nodes (length a.senses) ≡ Some c → slice_get s.nodes (length a.senses) ≡ Some d → c ≡ d
  at_one_node c d e f = cc

  at_one_length : length a.senses ≡ length b.senses → (k ≡ l) × (m ≡ n)
  at_one_length e =
      let same : b.senses ≡ a.senses = sym (same_length s a.senses b.senses a.before b.before e) in
      let there : slice_get s.nodes (length a.senses) ≡ Some b.node = subst (λ (i : ℕ). slice_get s.nodes i ≡ Some b.node) (sym e) b.stands in
      let c : b.node ≡ a.node = at_one_node b.node a.node there a.stands in
      let f : row s b.senses (length a.senses) b.node ≡ Refuses l n = subst (λ (i : ℕ). row s b.senses i b.node ≡ Refuses l n) (sym e) b.refuses in
      let g : row s a.senses (length a.senses) b.node ≡ Refuses l n = subst (λ (t : List Sense). row s t (length a.senses) b.node ≡ Refuses l n) same f in
      same_refusal (row s a.senses (length a.senses) a.node) a.refuses (subst (λ (c : SyntaxNode). row s a.senses (length a.senses) c ≡ Refuses l n) c g)

  pub one_refusal : (k ≡ l) × (m ≡ n)
  one_refusal = elim (eqb_tells (length a.senses) (length b.senses)) [
    | inl p ↦ at_one_length p.1
    | inr p ↦ elim (cases_lt (length a.senses) (length b.senses)) [
      | inl lt ↦ absurd (no_farther s b.senses b.before k m a (omega (arith, lt)))
      | inr ge ↦ absurd (no_farther s a.senses a.before l n b (omega (arith, ge, p.1)))
    ]
  ]
