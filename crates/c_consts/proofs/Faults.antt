-- What is wrong is a part of the tree.
use Rattle.std.proofs.Common.{◌≡◌, ℕ, ℤ, Bool, true, false, not, ◌&&◌, if◌then◌else◌, List, [], ◌∷◌, Some, ◌⊎◌, inl, inr, refl, sym, ap, ◌∙◌}
use Rattle.c_types.specs.Trees.{Ctype}
use Rattle.c_types.specs.Table.{Table}
use Rattle.core_tree.specs.declared.node.Node.{Node}
use Rattle.core_tree.specs.declared.node.Op.{Op}
use Rattle.c_consts.specs.Core.{Core, Cores, Of, NoCores, MoreCores, Stands, core_in, part_in, part_at, number_at}
use Rattle.c_consts.specs.Operators.{Wrong, Step, Gives, Breaks}
use Rattle.c_consts.specs.Wrapped.{converted}
use Rattle.c_consts.specs.Answer.{Found, Value, Fails, Form, Written, Operated, Chosen, Converted, Formless, form_of, after, asked, is_zero, unary_in, binary_in, rest_of, answer_of, answer, answers}
use Rattle.c_consts.proofs.Trees.{part_stands}

-- a way that ends at the node itself, or goes on at one of its operands
abbrev LiesIn : Cores → List ℕ → Type 0
LiesIn under path = (path ≡ []) ⊎ ((k : ℕ) × (p : List ℕ) × (path ≡ k ∷ p) × (d : Core) × (part_in (core_in under k) p ≡ Some d))

after_cases : (k : ℕ) (found : Found) (rest : ℤ → Found) (w : Wrong) (path : List ℕ) → after k found rest ≡ Fails w path → ((p : List ℕ) × (found ≡ Fails w p) × (path ≡ k ∷ p)) ⊎ ((x : ℤ) × (found ≡ Value x) × (rest x ≡ Fails w path))
after_cases k (Value x) rest w path e = inr (x, refl, e)
after_cases k (Fails v p) rest w path e =
    let same : v ≡ w = cc in
    let way : k ∷ p ≡ path = cc in
    inl (p, ap (λ (q : Wrong). Fails q p) same, sym way)

asked_here : (live : Bool) (step : Step) (w : Wrong) (path : List ℕ) → asked live step ≡ Fails w path → path ≡ []
asked_here true (Gives v) w path e = cc
asked_here true (Breaks v) w path e = cc
asked_here false step w path e = cc

found_at : (c : Core) (under : Cores) (path : List ℕ) → part_in (Some c) [] ≡ Some c → ((k : ℕ) (p : List ℕ) → part_at c (k ∷ p) ≡ part_in (core_in under k) p) → LiesIn under path → (d : Core) × (part_at c path ≡ Some d)
found_at c under path here there (inl e) = (c, rw e refl)
found_at c under path here there (inr (k, p, e, d, f)) = (d, rw e (there k p ∙ f))

mutual
  pub part_of_fault : (c : Core) (live : Bool) (w : Wrong) (path : List ℕ) → answer c live ≡ Fails w path → (d : Core) × (part_at c path ≡ Some d)
  part_of_fault (Of kind place type under) live w path e =
      found_at (Of kind place type under) under path refl (λ k p. refl) (lies under (form_of kind type) type live w path e)

  lies : (under : Cores) (form : Form) (type : Ctype) (live : Bool) (w : Wrong) (path : List ℕ) → answer_of form type live (answers under) ≡ Fails w path → LiesIn under path
  lies NoCores (Written n) type live w path e = cc
  lies NoCores Formless type live w path e = inl cc
  lies NoCores (Operated op) type live w path e = inl cc
  lies NoCores Chosen type live w path e = inl cc
  lies NoCores Converted type live w path e = inl cc
  lies (MoreCores a rest) (Written n) type live w path e = cc
  lies (MoreCores a rest) Formless type live w path e = inl cc
  lies (MoreCores a rest) (Operated op) type live w path e = elim (after_cases 0 (answer a live) (λ x. rest_of (Operated op) type live x (answers rest)) w path e) [
    | inl q ↦ let part = part_of_fault a live w q.0 q.1 in inr (0, q.0, q.2, part.0, part.1)
    | inr q ↦ operated_rest a rest op type live q.0 w path q.2
  ]
  lies (MoreCores a rest) Chosen type live w path e = elim (after_cases 0 (answer a live) (λ x. rest_of Chosen type live x (answers rest)) w path e) [
    | inl q ↦ let part = part_of_fault a live w q.0 q.1 in inr (0, q.0, q.2, part.0, part.1)
    | inr q ↦ chosen_rest a rest type live q.0 w path q.2
  ]
  lies (MoreCores a rest) Converted type live w path e = elim (after_cases 0 (answer a live) (λ x. rest_of Converted type live x (answers rest)) w path e) [
    | inl q ↦ let part = part_of_fault a live w q.0 q.1 in inr (0, q.0, q.2, part.0, part.1)
    | inr q ↦ inl (converted_rest rest type live q.0 w path q.2)
  ]

  converted_rest : (rest : Cores) (type : Ctype) (live : Bool) (x : ℤ) (w : Wrong) (path : List ℕ) → rest_of Converted type live x (answers rest) ≡ Fails w path → path ≡ []
  converted_rest NoCores type live x w path e = asked_here live (Gives (converted type x)) w path e
  converted_rest (MoreCores b rest) type live x w path e = cc

  operated_rest : (a : Core) (rest : Cores) (op : Op) (type : Ctype) (live : Bool) (x : ℤ) (w : Wrong) (path : List ℕ) → rest_of (Operated op) type live x (answers rest) ≡ Fails w path → LiesIn (MoreCores a rest) path
  operated_rest a NoCores op type live x w path e = inl (asked_here live (unary_in op type x) w path e)
  operated_rest a (MoreCores b NoCores) op type live x w path e = elim (after_cases 1 (answer b live) (λ y. asked live (binary_in op type x y)) w path e) [
    | inl q ↦ let part = part_of_fault b live w q.0 q.1 in inr (1, q.0, q.2, part.0, part.1)
    | inr q ↦ inl (asked_here live (binary_in op type x q.0) w path q.2)
  ]
  operated_rest a (MoreCores b (MoreCores c rest)) op type live x w path e = inl cc

  chosen_rest : (a : Core) (rest : Cores) (type : Ctype) (live : Bool) (x : ℤ) (w : Wrong) (path : List ℕ) → rest_of Chosen type live x (answers rest) ≡ Fails w path → LiesIn (MoreCores a rest) path
  chosen_rest a NoCores type live x w path e = inl cc
  chosen_rest a (MoreCores b NoCores) type live x w path e = inl cc
  chosen_rest a (MoreCores b (MoreCores c NoCores)) type live x w path e = elim (after_cases 1 (answer b (live && not (is_zero x))) (λ y. after 2 (answer c (live && is_zero x)) (λ z. Value (if is_zero x then z else y))) w path e) [
    | inl q ↦ let part = part_of_fault b (live && not (is_zero x)) w q.0 q.1 in inr (1, q.0, q.2, part.0, part.1)
    | inr q ↦ elim (after_cases 2 (answer c (live && is_zero x)) (λ z. Value (if is_zero x then z else q.0)) w path q.2) [
      | inl r ↦ let part = part_of_fault c (live && is_zero x) w r.0 r.1 in inr (2, r.0, r.2, part.0, part.1)
      | inr r ↦ absurd (let no : ⊥ = cc in no)
    ]
  ]
  chosen_rest a (MoreCores b (MoreCores c (MoreCores d rest))) type live x w path e = inl cc

-- the node that a fault names is that part
pub fault_stands : (types : Table) (nodes : List Node) (i : ℕ) (c : Core) (live : Bool) (w : Wrong) (path : List ℕ) → Stands types nodes i c → answer c live ≡ Fails w path → (d : Core) × (part_at c path ≡ Some d) × Stands types nodes (number_at nodes i path) d
fault_stands types nodes i c live w path s e =
    let (d, part) = part_of_fault c live w path e in
    (d, part, part_stands types nodes path c i d s part)
