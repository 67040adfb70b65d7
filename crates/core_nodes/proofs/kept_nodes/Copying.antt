-- Copies, one after another.
use Rattle.std.proofs.Common.{arith, ◌≡◌, ◌∙◌, ℕ, zero, suc, ◌+◌, ◌-◌, ◌<◌, ◌≤◌, Bool, false, cond, inl, inr, List, [], ◌∷◌, ◌++◌, length, length-append, get_or, drop, map, slice_get, Some, refl, sym, ap, subst}
use Rattle.std.proofs.lemmas.Bool.{false≢true}
use Rattle.std.proofs.lemmas.Bool.Decides.{eqb_tells, leb_tells}
use Rattle.std.proofs.lemmas.List.{get_or_append_left}
use Rattle.std.proofs.Math.Seq.{get_or-append_seam}
use Rattle.std.proofs.lemmas.Option.{slice_get_within, slice_get-map, get_or_from_slice_get}
use Rattle.std.proofs.lemmas.List.{length-map, get_or-map}
use Rattle.std.specs.Option.{option_map}
use Rattle.std.proofs.Common.{Option, None}
use Rattle.c_types.specs.Trees.{Ctype}
use Rattle.c_types.specs.Table.{Table, type_of}
use Rattle.core_tree.specs.declared.node.Node.{Node}
use Rattle.core_tree.specs.declared.node.Unit.{Unit}
use Rattle.core_tree.specs.Range.{child_in}
use Rattle.core_nodes.specs.PassedOn.{Of, InOrder}
use Rattle.core_nodes.specs.Standing.{no_core, cores_among, cores_grown, core_at, cores_at, Builds}
use Rattle.core_nodes.proofs.Reading.{tree_is, before_same}
use Rattle.core_nodes.specs.kept_nodes.Marked.{ChildIn, marked, IsClosed}
use Rattle.core_nodes.specs.kept_nodes.Copied.{number_of, tree_of, AreCopied}

number_old : (from : ℕ) (numbers : List ℕ) (c : ℕ) → c < from → number_of from numbers c ≡ c
number_old from numbers c lt =
    elim (leb_tells (suc c) from) [
      | inl p ↦ ap (λ (b : Bool). cond b c (get_or numbers (c - from) 0)) p.0
      | inr p ↦ absurd (omega (arith, p.1))
    ]

number_new : (from : ℕ) (numbers : List ℕ) (c : ℕ) → from ≤ c → number_of from numbers c ≡ get_or numbers (c - from) 0
number_new from numbers c le =
    elim (leb_tells (suc c) from) [
      | inl p ↦ absurd (omega (arith, p.1))
      | inr p ↦ ap (λ (b : Bool). cond b c (get_or numbers (c - from) 0)) p.0
    ]

slice_get_left : {A : Type 0} (xs ys : List A) (k : ℕ) → k < length xs → slice_get (xs ++ ys) k ≡ slice_get xs k
slice_get_left [] ys k lt = absurd (omega arith)
slice_get_left (x ∷ xs) ys zero lt = refl
slice_get_left (x ∷ xs) ys (suc k) lt = slice_get_left xs ys k (omega arith)

slice_get_here : {A : Type 0} (xs : List A) (y : A) (ys : List A) (k : ℕ) → k ≡ length xs → slice_get (xs ++ y ∷ ys) k ≡ Some y
slice_get_here [] y ys zero e = refl
slice_get_here [] y ys (suc k) e = absurd (omega arith)
slice_get_here (x ∷ xs) y ys zero e = absurd (omega arith)
slice_get_here (x ∷ xs) y ys (suc k) e = slice_get_here xs y ys k (omega arith)

-- the node that is taken next
slice_get_drop : {A : Type 0} (xs : List A) (k : ℕ) (x : A) (rest : List A) → drop k xs ≡ x ∷ rest → (slice_get xs k ≡ Some x) × (drop (suc k) xs ≡ rest)
slice_get_drop [] zero x rest e = cc
slice_get_drop [] (suc k) x rest e = cc
slice_get_drop (y ∷ xs) zero x rest e = (cc, cc)
slice_get_drop (y ∷ xs) (suc k) x rest e = slice_get_drop xs k x rest e

slice_get_right : {A : Type 0} (xs ys : List A) (k : ℕ) → slice_get (xs ++ ys) (length xs + k) ≡ slice_get ys k
slice_get_right {A} [] ys k =
    let e : length {A = A} [] + k ≡ k = omega arith in
    ap (λ (n : ℕ). slice_get ys n) e
slice_get_right (x ∷ xs) ys k =
    let e : length (x ∷ xs) + k ≡ suc (length xs + k) = omega arith in
    ap (λ (n : ℕ). slice_get (x ∷ (xs ++ ys)) n) e ∙ slice_get_right xs ys k

pub next_node : (before cut now rest : List Node) (k from : ℕ) (x : Node) → from ≡ length before → now ≡ drop k cut → now ≡ x ∷ rest → (slice_get (before ++ cut) (from + k) ≡ Some x) × (rest ≡ drop (k + 1) cut) × (k < length cut)
next_node before cut now rest k from x ef en e =
    let both = slice_get_drop cut k x rest (sym en ∙ e) in
    let step : suc k ≡ k + 1 = omega arith in (
      ap (λ (n : ℕ). slice_get (before ++ cut) (n + k)) ef ∙ (slice_get_right before cut k ∙ both.0),
      sym both.1 ∙ ap (λ (n : ℕ). drop n cut) step,
      slice_get_within cut k x both.0,
    )

cores_same : (u : Unit) (types : Table) (nodes : List Node) (number : ℕ → ℕ) (is : List ℕ) → ((j : ℕ) → j < length is → core_at u (number (get_or is j 0)) ≡ tree_of types nodes (get_or is j 0)) → cores_at u (map number is) ≡ cores_among (cores_grown types [] nodes) is
unfolding tree_of
cores_same u types nodes number [] h = refl
cores_same u types nodes number (i ∷ is) h =
    let first : core_at u (number i) ≡ get_or (cores_grown types [] nodes) i no_core = h 0 (omega arith) in
    let rest = cores_same u types nodes number is (λ j lt. h (suc j) (omega arith)) in
    cc

tree_here : (types : Table) (nodes : List Node) → InOrder types nodes → (i : ℕ) (n : Node) → slice_get nodes i ≡ Some n → tree_of types nodes i ≡ Of n.kind n.place (type_of types n.ty.0) (cores_among (cores_grown types [] nodes) n.children)
unfolding tree_of
tree_here types nodes order i n at = tree_is types nodes order i n at

pub tree_before : (u : Unit) (more : List Node) (i : ℕ) → i < length u.nodes.items → core_at u i ≡ tree_of u.types (u.nodes.items ++ more) i
unfolding tree_of
tree_before u more i lt = before_same u more i lt

-- a child stands before its parent
child_of : (types : Table) (nodes : List Node) → InOrder types nodes → (p c q : ℕ) (o : Option Node) → slice_get nodes p ≡ o → child_in o q ≡ Some c → c < p
child_of types nodes order p c q None e h = cc
child_of types nodes order p c q (Some n) e h =
    subst (λ (x : ℕ). x < p) (get_or_from_slice_get n.children q c 0 h) (order.children p n e q 0 (slice_get_within n.children q c h))

pub child_before : (types : Table) (nodes : List Node) → InOrder types nodes → (p c : ℕ) → ChildIn nodes p c → c < p
child_before types nodes order p c h = child_of types nodes order p c h.0 (slice_get nodes p) refl h.1

-- the node that is copied next
module _ (u0 u : Unit) (cut : List Node) (from k : ℕ) (marks : List Bool) (numbers : List ℕ) (x : Node) (ef : from ≡ length u0.nodes.items) (order : InOrder u0.types (u0.nodes.items ++ cut)) (closed : IsClosed (u0.nodes.items ++ cut) from marks) (b : Builds u0 u) (copied : AreCopied u0.types (u0.nodes.items ++ cut) from marks k numbers u) (at : slice_get (u0.nodes.items ++ cut) (from + k) ≡ Some x) (lt : k < length marks) where
  abbrev all : List Node
  all = u0.nodes.items ++ cut

  abbrev number : ℕ → ℕ
  number c = number_of from numbers c

  child_copied : (c : ℕ) → c < from + k → (from ≤ c → marked marks (c - from)) → (number c < length u.nodes.items) × (core_at u (number c) ≡ tree_of u0.types all c)
  child_copied c below on =
      elim (leb_tells (suc c) from) [
        | inl p ↦
            let old : number c ≡ c = number_old from numbers c (omega (arith, p.1)) in
            let there : c < length u0.nodes.items = omega (arith, p.1, ef) in
            let more : length u0.nodes.items ≤ length u.nodes.items = b.more in
            (omega (arith, old, there, more), ap (core_at u) old ∙ (b.cores c there ∙ tree_before u0 cut c there))
        | inr p ↦
            let le : from ≤ c = omega (arith, p.1) in
            let new : number c ≡ get_or numbers (c - from) 0 = number_new from numbers c le in
            let few : c - from < k = omega (arith, below, le) in
            let same : from + (c - from) ≡ c = omega (arith, le) in
            (subst (λ (n : ℕ). n < length u.nodes.items) (sym new) (copied.within (c - from) few (on le)), ap (core_at u) new ∙ (copied.trees (c - from) few (on le) ∙ ap (tree_of u0.types all) same))
      ]

  pub type_within : x.ty.0 < length u.types.terms
  type_within =
      let h : x.ty.0 < length u0.types.terms = order.types (from + k) x at in let more : length u0.types.terms ≤ length u.types.terms = b.terms in omega (arith, h, more)

  module _ (on : marked marks k) where
    nth_child : (j : ℕ) → j < length x.children → (number (get_or x.children j 0) < length u.nodes.items) × (core_at u (number (get_or x.children j 0)) ≡ tree_of u0.types all (get_or x.children j 0))
    nth_child j h = child_copied (get_or x.children j 0) (order.children (from + k) x at j 0 h) (λ le. closed.closed k lt x at on j h le)

    pub children_within : (j d : ℕ) → j < length (map number x.children) → get_or (map number x.children) j d < length u.nodes.items
    children_within j d h =
        let long : length (map number x.children) ≡ length x.children = length-map x.children number in
        let there : j < length x.children = omega (arith, h, long) in
        subst (λ (n : ℕ). n < length u.nodes.items) (sym (get_or-map number x.children j 0 d there)) (nth_child j there).0

    module _ (u' : Unit) (m : ℕ) (more : List ℕ) (em : m ≡ length u.nodes.items) (en : u'.nodes.items ≡ u.nodes.items ++ record x { children = map number x.children } ∷ []) (made : core_at u' m ≡ Of x.kind x.place (type_of u.types x.ty.0) (cores_at u (map number x.children))) (bu : Builds u u') (e : more ≡ numbers ++ m ∷ []) where
      tree_k : core_at u' m ≡ tree_of u0.types all (from + k)
      tree_k =
          made
          ∙ (ap (λ (t : Ctype). Of x.kind x.place t (cores_at u (map number x.children))) (b.types x.ty.0 (order.types (from + k) x at))
          ∙ (ap (Of x.kind x.place (type_of u0.types x.ty.0)) (cores_same u u0.types all number x.children (λ j h. (nth_child j h).1))
          ∙ sym (tree_here u0.types all order (from + k) x at)))

      number_kept : (j : ℕ) → j < k → get_or more j 0 ≡ get_or numbers j 0
      number_kept j h = ap (λ (l : List ℕ). get_or l j 0) e ∙ get_or_append_left numbers (m ∷ []) 0 j (omega (arith, h, copied.long))

      number_last : get_or more k 0 ≡ m
      number_last = ap (λ (l : List ℕ). get_or l k 0) e ∙ (ap (λ (j : ℕ). get_or (numbers ++ m ∷ []) j 0) (sym copied.long) ∙ get_or-append_seam numbers m [] 0)

      longer : length u'.nodes.items ≡ length u.nodes.items + 1
      longer = ap length en ∙ length-append u.nodes.items (record x { children = map number x.children } ∷ [])

      old_link : (p c : ℕ) → p < length u.nodes.items → ChildIn u.nodes.items p c → ChildIn u'.nodes.items p c
      old_link p c h link =
          (link.0, ap (λ (o : Option Node). child_in o link.0) (ap (λ (l : List Node). slice_get l p) en ∙ slice_get_left u.nodes.items (record x { children = map number x.children } ∷ []) p h) ∙ link.1)

      new_link : (c : ℕ) → from ≤ c → ChildIn all (from + k) c → ChildIn u'.nodes.items m (get_or more (c - from) 0)
      new_link c le link =
          let before : c < from + k = child_before u0.types all order (from + k) c link in
          let child : slice_get x.children link.0 ≡ Some c = ap (λ (o : Option Node). child_in o link.0) (sym at) ∙ link.1 in
          let here : slice_get u'.nodes.items m ≡ Some (record x { children = map number x.children }) = ap (λ (l : List Node). slice_get l m) en ∙ slice_get_here u.nodes.items (record x { children = map number x.children }) [] m em in
          let mapped : slice_get (map number x.children) link.0 ≡ Some (number c) = slice_get-map number x.children link.0 ∙ ap (option_map number) child in
          let same : number c ≡ get_or more (c - from) 0 = number_new from numbers c le ∙ sym (number_kept (c - from) (omega (arith, before, le))) in
          (link.0, ap (λ (o : Option Node). child_in o link.0) here ∙ (mapped ∙ ap Some same))

      pub one_copied : AreCopied u0.types all from marks (k + 1) more u'
      one_copied = record {
        long = let l : length (numbers ++ m ∷ []) ≡ length numbers + 1 = length-append numbers (m ∷ []) in ap length e ∙ omega (arith, l, copied.long);
        within = λ j h o. elim (eqb_tells j k) [
          | inl p ↦ let n : get_or more j 0 ≡ m = ap (λ (i : ℕ). get_or more i 0) p.1 ∙ number_last in omega (arith, n, em, longer)
          | inr p ↦ let n = number_kept j (omega (arith, h, p.1)) in let w = copied.within j (omega (arith, h, p.1)) o in omega (arith, n, w, longer)
        ];
        trees = λ j h o. elim (eqb_tells j k) [
          | inl p ↦ ap (λ (i : ℕ). core_at u' (get_or more i 0)) p.1 ∙ (ap (core_at u') number_last ∙ (tree_k ∙ ap (λ (i : ℕ). tree_of u0.types all (from + i)) (sym p.1)))
          | inr p ↦
              let few : j < k = omega (arith, h, p.1) in
              ap (core_at u') (number_kept j few) ∙ (bu.cores (get_or numbers j 0) (copied.within j few o) ∙ copied.trees j few o)
        ];
        links = λ j c h o le link. elim (eqb_tells j k) [
          | inl p ↦
              let there = subst (λ (i : ℕ). ChildIn all (from + i) c) p.1 link in
              subst (λ (i : ℕ). ChildIn u'.nodes.items i (get_or more (c - from) 0)) (sym (ap (λ (i : ℕ). get_or more i 0) p.1 ∙ number_last)) (new_link c le there)
          | inr p ↦
              let few : j < k = omega (arith, h, p.1) in
              let before : c < from + j = child_before u0.types all order (from + j) c link in
              let old = old_link (get_or numbers j 0) (get_or numbers (c - from) 0) (copied.within j few o) (copied.links j c few o le link) in
              subst (λ (i : ℕ). ChildIn u'.nodes.items i (get_or more (c - from) 0)) (sym (number_kept j few))
              (subst (λ (i : ℕ). ChildIn u'.nodes.items (get_or numbers j 0) i) (sym (number_kept (c - from) (omega (arith, before, few, le)))) old)
        ];
        sources = λ n le h. elim (eqb_tells n m) [
          | inl p ↦ (k, omega arith, on, number_last ∙ sym p.1)
          | inr p ↦
              let s = copied.sources n le (omega (arith, h, longer, em, p.1)) in
              (s.0, omega (arith, s.1), s.2, number_kept s.0 s.1 ∙ s.3)
        ];
      }

  pub one_skipped : (more : List ℕ) → get_or marks k false ≡ false → more ≡ numbers ++ 0 ∷ [] → AreCopied u0.types all from marks (k + 1) more u
  one_skipped more off e = record {
    long = let l : length (numbers ++ 0 ∷ []) ≡ length numbers + 1 = length-append numbers (0 ∷ []) in ap length e ∙ omega (arith, l, copied.long);
    within = λ j h o. subst (λ (n : ℕ). n < length u.nodes.items) (sym (same j (other j h o))) (copied.within j (other j h o) o);
    trees = λ j h o. ap (core_at u) (same j (other j h o)) ∙ copied.trees j (other j h o) o;
    links = λ j c h o le link.
        let few = other j h o in
        let before : c < from + j = child_before u0.types all order (from + j) c link in
        subst (λ (i : ℕ). ChildIn u.nodes.items i (get_or more (c - from) 0)) (sym (same j few))
        (subst (λ (i : ℕ). ChildIn u.nodes.items (get_or numbers j 0) i) (sym (same (c - from) (omega (arith, before, few, le)))) (copied.links j c few o le link));
    sources = λ n le h. let s = copied.sources n le h in (s.0, omega (arith, s.1), s.2, same s.0 s.1 ∙ s.3);
  }
    where
      other : (j : ℕ) → j < k + 1 → marked marks j → j < k
      other j h o =
          elim (eqb_tells j k) [ inl p ↦ absurd (false≢true (sym off ∙ (ap (λ (i : ℕ). get_or marks i false) (sym p.1) ∙ o))) | inr p ↦ omega (arith, h, p.1) ]

      same : (j : ℕ) → j < k → get_or more j 0 ≡ get_or numbers j 0
      same j h = ap (λ (l : List ℕ). get_or l j 0) e ∙ get_or_append_left numbers (0 ∷ []) 0 j (omega (arith, h, copied.long))

-- a mark that was read with any value in its place past the end
pub mark_is : (marks : List Bool) (i : ℕ) (d : Bool) → i < length marks → get_or marks i d ≡ get_or marks i false
mark_is [] i d lt = absurd (omega arith)
mark_is (x ∷ marks) zero d lt = refl
mark_is (x ∷ marks) (suc i) d lt = mark_is marks i d (omega arith)

pub none_copied : (types : Table) (nodes : List Node) (from : ℕ) (marks : List Bool) (u : Unit) → from ≡ length u.nodes.items → AreCopied types nodes from marks 0 [] u
none_copied types nodes from marks u e = record {
  long = refl;
  within = λ j h o. absurd (omega arith);
  trees = λ j h o. absurd (omega arith);
  links = λ j c h o le link. absurd (omega arith);
  sources = λ m le h. absurd (omega arith);
}
