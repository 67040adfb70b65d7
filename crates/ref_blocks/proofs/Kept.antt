-- The list of the nodes above, as it is found and read.
use Rattle.std.proofs.Common.{arith, ◌≡◌, ℕ, zero, suc, ◌+◌, ◌^◌, ◌<◌, ◌≤◌, nat_lt, ◌&&◌, Bool, true, false, List, [], ◌∷◌, ◌++◌, length, get_or, take, replicate, Option, Some, None, IfSome, refl, ap, sym, ◌∙◌, if◌then◌else◌}
use Rattle.std.proofs.lemmas.List.{take_more, get_or-replicate}
use Rattle.std.proofs.lemmas.List.FromFn.{length-map-range_with_len, get_or-map-range_with_len, fill_by_all}
use Rattle.core_tree.specs.declared.node.Node.{Node}
use Rattle.ref_blocks.specs.Ways.{is_child, parent_from, parent_of}
use Rattle.ref_blocks.specs.Parents.{AreParents, noted}
use Rattle.ref_blocks.proofs.Above.{parent_after, parent_beyond}

pub kept_count : (nodes : List Node) (parents : List (Option ℕ)) → AreParents nodes parents → length parents ≡ length nodes
kept_count nodes parents a = ap length a.list ∙ length-map-range_with_len (parent_of nodes) 0 (length nodes)

-- what is read there
pub kept_parent : (nodes : List Node) (parents : List (Option ℕ)) (n : ℕ) (d : Option ℕ) → AreParents nodes parents → n < length parents → get_or parents n d ≡ parent_of nodes n
kept_parent nodes parents n d a l =
    let e = kept_count nodes parents a in
    ap (λ (w : List (Option ℕ)). get_or w n d) a.list ∙ get_or-map-range_with_len (parent_of nodes) 0 (length nodes) n n d (omega arith) (omega arith)

pub kept_beyond : (nodes : List Node) (parents : List (Option ℕ)) (n : ℕ) → AreParents nodes parents → length parents ≤ n → None ≡ parent_of nodes n
kept_beyond nodes parents n a l =
    let e = kept_count nodes parents a in
    sym (parent_beyond nodes n (parent_of nodes n) (omega arith) refl)

pub above_it : (nodes : List Node) (n : ℕ) (o : Option ℕ) → o ≡ parent_of nodes n → IfSome o (λ p. n < p)
above_it nodes n None h = tt
above_it nodes n (Some p) h = (parent_after nodes n p (sym h)).0

pub within_it : (nodes : List Node) (n : ℕ) (o : Option ℕ) → o ≡ parent_of nodes n → IfSome o (λ p. p < length nodes)
within_it nodes n None h = tt
within_it nodes n (Some p) h = (parent_after nodes n p (sym h)).1

-- One node more is looked at.

pushed : (b : Bool) (i p : ℕ) (all some : Option ℕ) (n : ℕ) (children : List ℕ) → all ≡ noted p children n some → (if b then Some i else all) ≡ noted p children n (if b then Some i else some)
pushed true i p all some n children h = refl
pushed false i p all some n children h = h

parent_from-push : (n i : ℕ) (nodes : List Node) (node : Node) (p : ℕ) → i + length nodes ≡ p → parent_from n i (nodes ++ node ∷ []) ≡ noted p node.children n (parent_from n i nodes)
parent_from-push n i [] node p e = ap (λ (k : ℕ). if nat_lt n k && is_child n node.children then Some k else None) (omega arith)
parent_from-push n i (first ∷ nodes) node p e = pushed (nat_lt n i && is_child n first.children) i p (parent_from n (i + 1) (nodes ++ node ∷ [])) (parent_from n (i + 1) nodes) n node.children (parent_from-push n (i + 1) nodes node p (omega arith))

length_front : (nodes : List Node) (p : ℕ) → p < length nodes → length (take p nodes) ≡ p
length_front [] p l = absurd (omega arith)
length_front (node ∷ nodes) zero l = refl
length_front (node ∷ nodes) (suc p) l = ap suc (length_front nodes p (omega arith))

pub parent_more : (n p : ℕ) (nodes : List Node) (d : Node) → p < length nodes → noted p (get_or nodes p d).children n (parent_from n 0 (take p nodes)) ≡ parent_from n 0 (take (p + 1) nodes)
parent_more n p nodes d l = sym (ap (parent_from n 0) (take_more nodes p d l) ∙ parent_from-push n 0 (take p nodes) (get_or nodes p d) p (omega (arith, length_front nodes p l)))

pub none_yet : (n k : ℕ) → n < k → get_or (replicate k None) n None ≡ parent_from n 0 []
none_yet n k l = get_or-replicate k n None None l

pub parents_found : (nodes : List Node) (parents : List (Option ℕ)) → length nodes < 2 ^ 32 → length parents ≡ length nodes → ((n : ℕ) → n < length nodes → get_or parents n None ≡ parent_of nodes n) → AreParents nodes parents
parents_found nodes parents c l each = record { list = fill_by_all (parent_of nodes) parents (length nodes) None l each; count = c }
