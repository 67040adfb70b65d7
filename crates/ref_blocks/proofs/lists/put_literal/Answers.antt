-- Its block's list gets the literal, and the others stay.
use Rattle.std.proofs.Common.{◌≡◌, Some, None, slice_get, ap, sym, ◌∙◌}
use Rattle.std.proofs.lemmas.Result.{on_ok_weaker}
use Rattle.core_tree.specs.declared.node.Node.{Node}
use Rattle.core_tree.specs.Seen.{core_of}
use Rattle.ref_blocks.specs.declared.block.Block.TheVariants.{Own, Part}
use Rattle.ref_blocks.specs.Around.{blocks_around, literal_of}
use Rattle.ref_blocks.proofs.Objects.{no_literal_own, no_literal_part, other_own, other_part, put_own, put_part}
use Rattle.ref_blocks.proofs.lists.put_literal.Goals as goal

pub returns-in_default-clause-own : goal.returns-in_default-clause-own
returns-in_default-clause-own c = no_literal_own (core_of c.args.trees.now) c.args.n c.index-trees-n.result c.args.own.now.items c.requires.node c.index-trees-n.is (ap (λ (x : Node). literal_of (core_of c.args.trees.now) x.kind) c.index-trees-n.is ∙ sym c.literal_of.ensures ∙ c.in_default.is) c.requires.own

pub returns-in_default-clause-parts : goal.returns-in_default-clause-parts
returns-in_default-clause-parts c = no_literal_part (core_of c.args.trees.now) c.args.n c.index-trees-n.result c.args.parts.now.items c.requires.node c.index-trees-n.is (ap (λ (x : Node). literal_of (core_of c.args.trees.now) x.kind) c.index-trees-n.is ∙ sym c.literal_of.ensures ∙ c.in_default.is) c.requires.parts

pub returns-in-Some-Own-clause-own : goal.returns-in-Some-Own-clause-own
returns-in-Some-Own-clause-own c =
    let h : Some (Own c.in-Some-Own.b) ≡ slice_get (blocks_around (core_of c.args.trees.now) c.args.n) 0 = cc in
    on_ok_weaker c.put_into.result (λ r. r ∙ put_own (core_of c.args.trees.now) c.args.n c.index-trees-n.result c.in-Some-Own.b c.in-Some.e c.args.own.now.items c.requires.node c.index-trees-n.is h (ap (λ (x : Node). literal_of (core_of c.args.trees.now) x.kind) c.index-trees-n.is ∙ sym c.literal_of.ensures ∙ c.in-Some.is) c.requires.own) c.put_into.ensures

pub returns-in-Some-Own-clause-parts : goal.returns-in-Some-Own-clause-parts
returns-in-Some-Own-clause-parts c =
    let h : Some (Own c.in-Some-Own.b) ≡ slice_get (blocks_around (core_of c.args.trees.now) c.args.n) 0 = cc in
    on_ok_weaker c.put_into.result (λ r. other_part (core_of c.args.trees.now) c.args.n c.index-trees-n.result (Some (Own c.in-Some-Own.b)) c.args.parts.now.items c.requires.node c.index-trees-n.is h (λ k q. cc) c.requires.parts) c.put_into.ensures

pub returns-in-Some-Part-clause-own : goal.returns-in-Some-Part-clause-own
returns-in-Some-Part-clause-own c =
    let h : Some (Part c.in-Some-Part.b) ≡ slice_get (blocks_around (core_of c.args.trees.now) c.args.n) 0 = cc in
    on_ok_weaker c.put_into-in-Some-Part.result (λ r. other_own (core_of c.args.trees.now) c.args.n c.index-trees-n.result (Some (Part c.in-Some-Part.b)) c.args.own.now.items c.requires.node c.index-trees-n.is h (λ k q. cc) c.requires.own) c.put_into-in-Some-Part.ensures

pub returns-in-Some-Part-clause-parts : goal.returns-in-Some-Part-clause-parts
returns-in-Some-Part-clause-parts c =
    let h : Some (Part c.in-Some-Part.b) ≡ slice_get (blocks_around (core_of c.args.trees.now) c.args.n) 0 = cc in
    on_ok_weaker c.put_into-in-Some-Part.result (λ r. r ∙ put_part (core_of c.args.trees.now) c.args.n c.index-trees-n.result c.in-Some-Part.b c.in-Some.e c.args.parts.now.items c.requires.node c.index-trees-n.is h (ap (λ (x : Node). literal_of (core_of c.args.trees.now) x.kind) c.index-trees-n.is ∙ sym c.literal_of.ensures ∙ c.in-Some.is) c.requires.parts) c.put_into-in-Some-Part.ensures

pub returns-in-None-clause-own : goal.returns-in-None-clause-own
returns-in-None-clause-own c = other_own (core_of c.args.trees.now) c.args.n c.index-trees-n.result None c.args.own.now.items c.requires.node c.index-trees-n.is (sym c.in-None.is ∙ c.block_around.ensures) (λ k q. cc) c.requires.own

pub returns-in-None-clause-parts : goal.returns-in-None-clause-parts
returns-in-None-clause-parts c = other_part (core_of c.args.trees.now) c.args.n c.index-trees-n.result None c.args.parts.now.items c.requires.node c.index-trees-n.is (sym c.in-None.is ∙ c.block_around.ensures) (λ k q. cc) c.requires.parts
