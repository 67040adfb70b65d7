-- The innermost block in which a node stands, and blocks that no node is in.
use Rattle.std.proofs.Common.{arith, ◌≡◌, ℕ, zero, suc, ◌<◌, ◌≤◌, Bool, true, false, List, [], ◌∷◌, ◌++◌, length, Option, Some, None, slice_get, All, refl, ap, sym, ◌∙◌, if◌then◌else◌}
use Rattle.std.proofs.lemmas.Bool.{ne_eqb}
use Rattle.std.proofs.lemmas.List.Elements.{All-append, All-cons, All-nil, All-head}
use Rattle.core_tree.specs.declared.node.Node.{Node}
use Rattle.core_tree.specs.Typed.{CoreTrees}
use Rattle.ref_blocks.specs.declared.block.Block.{Block}
use Rattle.ref_blocks.specs.declared.block.Block.TheVariants.{Own, Part}
use Rattle.ref_blocks.specs.declared.ways.Link.{Link}
use Rattle.ref_blocks.specs.Ways.{parent_of, above_in, above, kind_at, is_block}
use Rattle.ref_blocks.specs.Around.{same_block, opens_part, part_on, own_on, blocks_in, blocks_around, is_innermost}
use Rattle.ref_blocks.proofs.Above.{parent_after, above_some, above_end}

-- One step further up.

pub part_there : (nodes : List Node) (n p : ℕ) → parent_of nodes n ≡ Some p → opens_part nodes (record { node = p; child = n }) ≡ true → Some (Part n) ≡ slice_get (blocks_in nodes (above nodes n)) 0
part_there nodes n p h t = sym (ap (λ (w : List Link). slice_get (blocks_in nodes w) 0) (above_some nodes n p h)
    ∙ ap (λ (b : Bool). slice_get ((if b then Part n ∷ [] else []) ++ (own_on nodes (record { node = p; child = n }) ++ blocks_in nodes (above nodes p))) 0) t)

own_there_in : (nodes : List Node) (n p : ℕ) → parent_of nodes n ≡ Some p → opens_part nodes (record { node = p; child = n }) ≡ false → slice_get (blocks_in nodes (above nodes n)) 0 ≡ slice_get (own_on nodes (record { node = p; child = n }) ++ blocks_in nodes (above nodes p)) 0
own_there_in nodes n p h t = ap (λ (w : List Link). slice_get (blocks_in nodes w) 0) (above_some nodes n p h)
    ∙ ap (λ (b : Bool). slice_get ((if b then Part n ∷ [] else []) ++ (own_on nodes (record { node = p; child = n }) ++ blocks_in nodes (above nodes p))) 0) t

pub own_there : (nodes : List Node) (n p : ℕ) → parent_of nodes n ≡ Some p → opens_part nodes (record { node = p; child = n }) ≡ false → is_block (kind_at nodes p) ≡ true → Some (Own p) ≡ slice_get (blocks_in nodes (above nodes n)) 0
own_there nodes n p h t b = sym (own_there_in nodes n p h t ∙ ap (λ (k : Bool). slice_get ((if k then Own p ∷ [] else []) ++ blocks_in nodes (above nodes p)) 0) b)

pub none_there : (nodes : List Node) (n p : ℕ) → parent_of nodes n ≡ Some p → opens_part nodes (record { node = p; child = n }) ≡ false → is_block (kind_at nodes p) ≡ false → slice_get (blocks_in nodes (above nodes p)) 0 ≡ slice_get (blocks_in nodes (above nodes n)) 0
none_there nodes n p h t b = sym (own_there_in nodes n p h t ∙ ap (λ (k : Bool). slice_get ((if k then Own p ∷ [] else []) ++ blocks_in nodes (above nodes p)) 0) b)

pub none_around : (nodes : List Node) (n : ℕ) → parent_of nodes n ≡ None → None ≡ slice_get (blocks_in nodes (above nodes n)) 0
none_around nodes n h = sym (ap (λ (w : List Link). slice_get (blocks_in nodes w) 0) (above_end nodes n h))

-- Blocks are blocks of nodes.

abbrev pub node_of : Block → ℕ
node_of (Own n) = n
node_of (Part n) = n

part_below : (nodes : List Node) (b : Bool) (n : ℕ) → n < length nodes → All (λ k. node_of k < length nodes) (if b then Part n ∷ [] else [])
part_below nodes true n l = All-cons (λ (k : Block). node_of k < length nodes) (Part n) [] l (All-nil (λ (k : Block). node_of k < length nodes))
part_below nodes false n l = All-nil (λ (k : Block). node_of k < length nodes)

own_below : (nodes : List Node) (b : Bool) (n : ℕ) → n < length nodes → All (λ k. node_of k < length nodes) (if b then Own n ∷ [] else [])
own_below nodes true n l = All-cons (λ (k : Block). node_of k < length nodes) (Own n) [] l (All-nil (λ (k : Block). node_of k < length nodes))
own_below nodes false n l = All-nil (λ (k : Block). node_of k < length nodes)

link_below : (nodes : List Node) (n p : ℕ) (rest : List Link) → n < p → p < length nodes → All (λ k. node_of k < length nodes) (blocks_in nodes rest) → All (λ k. node_of k < length nodes) (blocks_in nodes (record { node = p; child = n } ∷ rest))
link_below nodes n p rest l m h =
    All-append (λ (k : Block). node_of k < length nodes) (part_on nodes (record { node = p; child = n })) (own_on nodes (record { node = p; child = n }) ++ blocks_in nodes rest)
    (part_below nodes (opens_part nodes (record { node = p; child = n })) n (omega arith))
    (All-append (λ (k : Block). node_of k < length nodes) (own_on nodes (record { node = p; child = n })) (blocks_in nodes rest) (own_below nodes (is_block (kind_at nodes p)) p m) h)

way_below : (nodes : List Node) (f n : ℕ) (o : Option ℕ) → parent_of nodes n ≡ o → ((p : ℕ) → All (λ k. node_of k < length nodes) (blocks_in nodes (above_in nodes f p))) → All (λ k. node_of k < length nodes) (blocks_in nodes (above_in nodes (suc f) n))
way_below nodes f n None h more = rw (h, above_in) (All-nil (λ (k : Block). node_of k < length nodes))
way_below nodes f n (Some p) h more = let r = parent_after nodes n p h in rw (h, above_in) (link_below nodes n p (above_in nodes f p) r.0 r.1 (more p))

below_in : (nodes : List Node) (f n : ℕ) → All (λ k. node_of k < length nodes) (blocks_in nodes (above_in nodes f n))
below_in nodes zero n = All-nil (λ (k : Block). node_of k < length nodes)
below_in nodes (suc f) n = way_below nodes f n (parent_of nodes n) refl (λ p. below_in nodes f p)

pub around_below : (u : CoreTrees) (n : ℕ) → All (λ k. node_of k < length u.nodes) (blocks_around u n)
unfolding above
around_below u n = below_in u.nodes (length u.nodes) n

other_block : (b c : Block) (n : ℕ) → node_of c < n → n ≤ node_of b → same_block c b ≡ false
other_block (Own m) (Own k) n l h = ne_eqb k m (λ e. omega arith)
other_block (Part m) (Part k) n l h = ne_eqb k m (λ e. omega arith)
other_block (Own m) (Part k) n l h = refl
other_block (Part m) (Own k) n l h = refl

not_innermost_in : (b : Block) (n : ℕ) (blocks : List Block) → n ≤ node_of b → All (λ k. node_of k < n) blocks → is_innermost b blocks ≡ false
not_innermost_in b n [] h all = refl
not_innermost_in b n (c ∷ rest) h all = other_block b c n (All-head (λ (k : Block). node_of k < n) c rest all) h

-- a block of a number that is beyond the nodes has nothing in it
pub not_innermost : (u : CoreTrees) (b : Block) (n : ℕ) → length u.nodes ≤ node_of b → is_innermost b (blocks_around u n) ≡ false
not_innermost u b n h = not_innermost_in b (length u.nodes) (blocks_around u n) h (around_below u n)
