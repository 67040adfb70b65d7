-- The nodes above a node, one step further up.
use Rattle.std.proofs.Common.{arith, ◌≡◌, ℕ, zero, suc, ◌+◌, ◌-◌, ◌<◌, ◌≤◌, nat_lt, ◌&&◌, Bool, true, false, List, [], ◌∷◌, ◌++◌, length, Option, Some, None, refl, ap, sym, ◌∙◌, append_assoc, if◌then◌else◌, inl, inr, ◌⊎◌}
use Rattle.std.proofs.lemmas.Bool.Decides.{nat_tests}
use Rattle.std.proofs.lemmas.List.{append-nil}
use Rattle.core_tree.specs.declared.node.Node.{Node}
use Rattle.core_tree.specs.declared.node.NodeKind.{NodeKind}
use Rattle.ref_blocks.specs.declared.ways.Link.{Link}
use Rattle.ref_blocks.specs.Ways.{is_child, parent_from, parent_of, above_in, above, top_of, root_of, kind_at, nearest}

-- a choice of two
chosen : (b : Bool) (i p : ℕ) (other : Option ℕ) → (if b then Some i else other) ≡ Some p → ((b ≡ true) × (i ≡ p)) ⊎ (other ≡ Some p)
chosen true i p other h = inl (refl, cc)
chosen false i p other h = inr h

and_first : (a b : Bool) → (a && b) ≡ true → a ≡ true
and_first true b h = refl
and_first false b h = h

-- a node above has a greater number, and is there
found : (n i : ℕ) (nodes : List Node) (p : ℕ) → parent_from n i nodes ≡ Some p → (n < p) × (i ≤ p) × (p < i + length nodes)
found n i [] p h = cc
found n i (node ∷ rest) p h =
    elim (chosen (nat_lt n i && is_child n node.children) i p (parent_from n (i + 1) rest) h) [
      | inl e ↦ let t = and_first (nat_lt n i) (is_child n node.children) e.0 in
          let q = e.1 in
          (grind (arith, nat_tests), omega arith, omega arith)
      | inr e ↦ let r = found n (i + 1) rest p e in (omega arith, omega arith, omega arith)
    ]

pub parent_after : (nodes : List Node) (n p : ℕ) → parent_of nodes n ≡ Some p → (n < p) × (p < length nodes)
parent_after nodes n p h = let r = found n 0 nodes p h in (omega arith, omega arith)

-- so a node beyond the list has none above
pub parent_beyond : (nodes : List Node) (n : ℕ) (o : Option ℕ) → length nodes ≤ n → parent_of nodes n ≡ o → o ≡ None
parent_beyond nodes n None l h = refl
parent_beyond nodes n (Some p) l h = let r = parent_after nodes n p h in absurd (omega arith)

above_found : (nodes : List Node) (f n p : ℕ) → parent_of nodes n ≡ Some p → above_in nodes (suc f) n ≡ record { node = p; child = n } ∷ above_in nodes f p
above_found nodes f n p h = rw (h, above_in)

above_none : (nodes : List Node) (f n : ℕ) → parent_of nodes n ≡ None → above_in nodes f n ≡ []
above_none nodes zero n h = refl
above_none nodes (suc f) n h = rw (h, above_in)

-- a way is no longer than the numbers that are left
more_in : (nodes : List Node) (f n : ℕ) (o : Option ℕ) → parent_of nodes n ≡ o → ((p : ℕ) → n < p → above_in nodes (suc f) p ≡ above_in nodes f p) → above_in nodes (suc (suc f)) n ≡ above_in nodes (suc f) n
more_in nodes f n None h more = above_none nodes (suc (suc f)) n h ∙ sym (above_none nodes (suc f) n h)
more_in nodes f n (Some p) h more = let r = parent_after nodes n p h in
    above_found nodes (suc f) n p h ∙ ap (λ (w : List Link). record { node = p; child = n } ∷ w) (more p r.0) ∙ sym (above_found nodes f n p h)

more_above : (nodes : List Node) (f n : ℕ) → length nodes ≤ n + f → above_in nodes (suc f) n ≡ above_in nodes f n
more_above nodes zero n l = above_none nodes (suc zero) n (parent_beyond nodes n (parent_of nodes n) (omega arith) refl)
more_above nodes (suc f) n l = more_in nodes f n (parent_of nodes n) refl (λ p h. more_above nodes f p (omega arith))

above_some_in : (nodes : List Node) (m n p : ℕ) → length nodes ≡ m → parent_of nodes n ≡ Some p → above_in nodes m n ≡ record { node = p; child = n } ∷ above_in nodes m p
above_some_in nodes zero n p e h = let r = parent_after nodes n p h in absurd (omega arith)
above_some_in nodes (suc m) n p e h = let r = parent_after nodes n p h in
    above_found nodes m n p h ∙ ap (λ (w : List Link). record { node = p; child = n } ∷ w) (sym (more_above nodes m p (omega arith)))

-- the way up begins with the node above
pub above_some : (nodes : List Node) (n p : ℕ) → parent_of nodes n ≡ Some p → above nodes n ≡ record { node = p; child = n } ∷ above nodes p
unfolding above
above_some nodes n p h = above_some_in nodes (length nodes) n p refl h

-- or it is over
pub above_end : (nodes : List Node) (n : ℕ) → parent_of nodes n ≡ None → above nodes n ≡ []
unfolding above
above_end nodes n h = above_none nodes (length nodes) n h

pub root_step : (nodes : List Node) (n p : ℕ) → parent_of nodes n ≡ Some p → root_of nodes p ≡ root_of nodes n
root_step nodes n p h = sym (ap (top_of n) (above_some nodes n p h))

pub root_end : (nodes : List Node) (n : ℕ) → parent_of nodes n ≡ None → n ≡ root_of nodes n
root_end nodes n h = sym (ap (top_of n) (above_end nodes n h))

pub nearest_there : (nodes : List Node) (is : NodeKind → Bool) (n p : ℕ) → parent_of nodes n ≡ Some p → is (kind_at nodes p) ≡ true → Some p ≡ nearest nodes is (above nodes n)
nearest_there nodes is n p h t = sym (ap (nearest nodes is) (above_some nodes n p h) ∙ ap (λ (b : Bool). if b then Some p else nearest nodes is (above nodes p)) t)

pub nearest_step : (nodes : List Node) (is : NodeKind → Bool) (n p : ℕ) → parent_of nodes n ≡ Some p → is (kind_at nodes p) ≡ false → nearest nodes is (above nodes p) ≡ nearest nodes is (above nodes n)
nearest_step nodes is n p h t = sym (ap (nearest nodes is) (above_some nodes n p h) ∙ ap (λ (b : Bool). if b then Some p else nearest nodes is (above nodes p)) t)

pub nearest_end : (nodes : List Node) (is : NodeKind → Bool) (n : ℕ) → parent_of nodes n ≡ None → None ≡ nearest nodes is (above nodes n)
nearest_end nodes is n h = sym (ap (nearest nodes is) (above_end nodes n h))

pub way_step : (nodes : List Node) (links : List Link) (n p : ℕ) (whole : List Link) → parent_of nodes n ≡ Some p → links ++ above nodes n ≡ whole → (links ++ record { node = p; child = n } ∷ []) ++ above nodes p ≡ whole
way_step nodes links n p whole h w = append_assoc links (record { node = p; child = n } ∷ []) (above nodes p) ∙ ap (λ (k : List Link). links ++ k) (sym (above_some nodes n p h)) ∙ w

pub way_end : (nodes : List Node) (links : List Link) (n : ℕ) (whole : List Link) → parent_of nodes n ≡ None → links ++ above nodes n ≡ whole → links ≡ whole
way_end nodes links n whole h w = sym (append-nil links) ∙ ap (λ (k : List Link). links ++ k) (sym (above_end nodes n h)) ∙ w
