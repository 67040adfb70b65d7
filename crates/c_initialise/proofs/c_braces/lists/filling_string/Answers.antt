use Rattle.std.proofs.Common.{◌∙◌}
use Rattle.c_types.specs.Table.{type_of}
use Rattle.c_inits.specs.Tables.{type_shape}
use Rattle.c_initialise.proofs.c_braces.Putting.{only_string_is, text_none, text_some, text_fills, text_unfit, text_scalar}
use Rattle.c_initialise.proofs.c_braces.lists.filling_string.Goals as goal

pub fits_whole-requires-clause-value : goal.fits_whole-requires-clause-value
fits_whole-requires-clause-value c =
    (only_string_is c.args.types.now c.args.inits.now c.args.items.now c.in-Some.string c.requires.inits c.requires.items (c.only_string.ensures ∙ c.in-Some.is)).1

pub returns-in-None : goal.returns-in-None
returns-in-None c = λ list. text_none c.args.types.now c.args.inits.now c.args.items.now c.requires.inits c.requires.items (type_shape c.args.types.now c.args.limit c.args.id.0) list (c.only_string.ensures ∙ c.in-None.is)

pub returns-then-not-fits_whole : goal.returns-then-not-fits_whole
returns-then-not-fits_whole c = λ list.
    text_some c.args.types.now c.args.inits.now c.args.items.now c.requires.inits c.requires.items (type_shape c.args.types.now c.args.limit c.args.id.0) list c.in-Some.string (c.only_string.ensures ∙ c.in-Some.is)
    ∙ text_unfit (type_shape c.args.types.now c.args.limit c.args.id.0) c.in-Some.string.0 (type_of c.args.types.now c.in-Some.string.1.ty.0) c.in-Some.string.1.text c.fits_whole.result list
    (only_string_is c.args.types.now c.args.inits.now c.args.items.now c.in-Some.string c.requires.inits c.requires.items (c.only_string.ensures ∙ c.in-Some.is)).0
    c.fits_whole.ensures c.if-not-fits_whole.true

pub returns-then-is_scalar_type : goal.returns-then-is_scalar_type
returns-then-is_scalar_type c = λ list.
    text_some c.args.types.now c.args.inits.now c.args.items.now c.requires.inits c.requires.items (type_shape c.args.types.now c.args.limit c.args.id.0) list c.in-Some.string (c.only_string.ensures ∙ c.in-Some.is)
    ∙ text_scalar (type_shape c.args.types.now c.args.limit c.args.id.0) c.in-Some.string.0 (type_of c.args.types.now c.in-Some.string.1.ty.0) c.is_scalar_type.result list
    c.is_scalar_type.ensures c.if-is_scalar_type.true

pub returns-else-is_scalar_type : goal.returns-else-is_scalar_type
returns-else-is_scalar_type c = λ list. (
  (only_string_is c.args.types.now c.args.inits.now c.args.items.now c.in-Some.string c.requires.inits c.requires.items (c.only_string.ensures ∙ c.in-Some.is)).1,
  text_some c.args.types.now c.args.inits.now c.args.items.now c.requires.inits c.requires.items (type_shape c.args.types.now c.args.limit c.args.id.0) list c.in-Some.string (c.only_string.ensures ∙ c.in-Some.is)
      ∙ text_fills (type_shape c.args.types.now c.args.limit c.args.id.0) c.in-Some.string.0 (type_of c.args.types.now c.in-Some.string.1.ty.0) c.in-Some.string.1.text c.fits_whole.result c.is_scalar_type.result list
      (only_string_is c.args.types.now c.args.inits.now c.args.items.now c.in-Some.string c.requires.inits c.requires.items (c.only_string.ensures ∙ c.in-Some.is)).0
      c.fits_whole.ensures c.if-not-fits_whole.false c.is_scalar_type.ensures c.if-is_scalar_type.false,
)
