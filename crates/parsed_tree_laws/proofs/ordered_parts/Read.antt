-- From the nodes that are read to the tree.
use Rattle.std.proofs.Common.{arith, ◌<◌, ◌≤◌, ℕ, zero, suc, List, [], ◌∷◌, map, slice_get, refl, subst}
use Rattle.c_grammar.specs.declared.trees.SyntaxNode.{SyntaxNode}
use Rattle.c_grammar.specs.Names.{no_names}
use Rattle.c_grammar.specs.Productions.{p_unit}
use Rattle.c_grammar.specs.Reads.{node_of}
use Rattle.c_parser.specs.Parse.{begin}
use Rattle.c_senses.specs.Names.{source_of, numbered}
use Rattle.c_senses.specs.Tree.{Source, children_of}
use Rattle.parsed_tree_laws.proofs.sense_laws.parsed_laws.InOrder.{children_first}
use Rattle.parsed_tree_laws.specs.ordered_parts.Ordered.{IsPart, Beneath, itself, under, PartsFollow}
use Rattle.parsed_tree_laws.proofs.ordered_parts.Cuts.{IsIn, Part, Cut, AllGood, all_good}

-- the nodes of the code's tree as the grammar sees them
part_is : (items : List SyntaxNode) (i c : ℕ) → IsIn (children_of (slice_get items i)) c → Part (map node_of items) i c
part_is [] i c h = cc
part_is (n ∷ items) zero c h = h
part_is (n ∷ items) (suc i) c h = part_is items i c h

module _ (s : Source) (good : AllGood (map node_of s.nodes)) (first : (i c : ℕ) → IsPart s i c → c < i) where
  small : (y e : ℕ) → Beneath s y e → e ≤ y
  small y e itself = omega arith
  small y e (under {q = q} part above) = let lt = first q e part in let le = small y q above in omega (arith, lt, le)

  -- all under the second stands from the cut on
  from_cut : (x y : ℕ) (k : Cut (map node_of s.nodes) x y) (e : ℕ) → Beneath s y e → k.at ≤ e
  from_cut x y k e itself = k.below
  from_cut x y k e (under {q = q} part above) = k.closed_in q e (part_is s.nodes q e part) (from_cut x y k q above) (small y q above)

  behind : (i x y e : ℕ) → IsPart s i x → IsPart s i y → x < y → Beneath s y e → x < e
  behind i x y e px py lt beneath =
      let k = good.cuts i x y (part_is s.nodes i x px) (part_is s.nodes i y py) lt in
      let from = from_cut x y k e beneath in
      let up = k.above in
      omega (arith, from, up)

pub parts_follow : PartsFollow
unfolding source_of
parts_follow tokens unit tree tag_number is =
    let read = is.0 in
    let good : AllGood (map node_of tree.nodes.items) = subst AllGood read.2 (all_good tokens.text.now tokens.list.items p_unit 0 (begin 0 no_names []) read.0 refl read.1) in
    let s = numbered tag_number (source_of tokens tree) in
    record { follows = λ i x y e px py lt beneath. behind s good (λ i c h. children_first tokens unit tree tag_number is i h.0 c h.1) i x y e px py lt beneath }
