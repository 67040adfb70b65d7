use Rattle.std.proofs.Common.{refl}
use Rattle.c_senses.specs.Names.{source_of}
use Rattle.text_units.proofs.Refused.{alone_in}
use Rattle.text_units.proofs.Lowering.{node_refused, lowered_right, cut_tokens}
use Rattle.text_units.proofs.lowered.lowered.Goals as goal

pub returns-in-Err-clause-refused : goal.returns-in-Err-clause-refused
returns-in-Err-clause-refused g c = alone_in c.args.number (c.args.name.now, c.args.text.now) c.in-Err.fault c.in-Err.ensures.refused

pub lower_unit-requires-clause-first : goal.lower_unit-requires-clause-first
lower_unit-requires-clause-first g c = c.children_first.ensures c.in-Ok.read.tokens c.args.number c.in-Ok.read.tree (source_of c.in-Ok.read.tokens c.in-Ok.read.tree).tag_number c.in-Ok.ensures.parsed.tree_is

pub returns-in-Ok-lower_unit : goal.returns-in-Ok-lower_unit
returns-in-Ok-lower_unit g c = record {
  right = lowered_right c.args.number (c.args.name.now, c.args.text.now) c.in-Ok.read.tokens c.in-Ok.read.tree c.in-Ok.ensures.parsed c.in_ok-title.title c.in-Ok-lower_unit.unit c.in_ok-title.ensures
      c.in-Ok-lower_unit.ensures.lowered;
  refused = tt;
}

pub returns-clause-refused : goal.returns-clause-refused
returns-clause-refused g c =
    node_refused c.args.number (c.args.name.now, c.args.text.now) c.in-Ok.read.tokens c.in-Ok.read.tree c.in-Ok.ensures.parsed c.in-Err-lower_unit.fault _ c.in-Err-lower_unit.ensures.lowered
    c.in_ok-row_refusal-in-Err-lower_unit.ensures

pub lower_unit-requires-clause-tokens : goal.lower_unit-requires-clause-tokens
lower_unit-requires-clause-tokens g c = cut_tokens c.args.number (c.args.name.now, c.args.text.now) c.in-Ok.read.tokens c.in-Ok.read.tree c.in-Ok.ensures.parsed

pub lower_unit-requires-clause-read : goal.lower_unit-requires-clause-read
lower_unit-requires-clause-read g c = let parsed = c.in-Ok.ensures.parsed.tree_is in (parsed.0, refl, parsed.2)
