use Rattle.std.proofs.Common.{◌∙◌, ap}
use Rattle.c_types.specs.Table.{type_of}
use Rattle.ref_elements.specs.Outcomes.{Effect}
use Rattle.ref_lib.specs.declared.rows.Plain.{Plain}
use Rattle.ref_lib.specs.Effects.{answers}
use Rattle.ref_lib.proofs.effect.answers.Goals as goal

pub returns-in_ok-number_row-in-AnyNumber : goal.returns-in_ok-number_row-in-AnyNumber
returns-in_ok-number_row-in-AnyNumber c memory =
    let at = λ (row : Plain). let e : Effect = answers memory row (type_of c.args.types.now c.args.result_type.0) c.args.arguments.now c.args.word in e in
    ap at c.in-AnyNumber.is ∙ c.in_ok-number_row-in-AnyNumber.ensures memory

pub returns-in_ok-byte_row-in-Byte : goal.returns-in_ok-byte_row-in-Byte
returns-in_ok-byte_row-in-Byte c memory =
    let at = λ (row : Plain). let e : Effect = answers memory row (type_of c.args.types.now c.args.result_type.0) c.args.arguments.now c.args.word in e in
    ap at c.in-Byte.is ∙ c.in_ok-byte_row-in-Byte.ensures memory

pub returns-in_ok-class_row-in-InClass : goal.returns-in_ok-class_row-in-InClass
returns-in_ok-class_row-in-InClass c memory =
    let at = λ (row : Plain). let e : Effect = answers memory row (type_of c.args.types.now c.args.result_type.0) c.args.arguments.now c.args.word in e in
    ap at c.in-InClass.is ∙ c.in_ok-class_row-in-InClass.ensures memory

pub returns-in_ok-upper_row-in-ToUpper : goal.returns-in_ok-upper_row-in-ToUpper
returns-in_ok-upper_row-in-ToUpper c memory =
    let at = λ (row : Plain). let e : Effect = answers memory row (type_of c.args.types.now c.args.result_type.0) c.args.arguments.now c.args.word in e in
    ap at c.in-ToUpper.is ∙ c.in_ok-upper_row-in-ToUpper.ensures memory

pub returns-in_ok-lower_row-in-ToLower : goal.returns-in_ok-lower_row-in-ToLower
returns-in_ok-lower_row-in-ToLower c memory =
    let at = λ (row : Plain). let e : Effect = answers memory row (type_of c.args.types.now c.args.result_type.0) c.args.arguments.now c.args.word in e in
    ap at c.in-ToLower.is ∙ c.in_ok-lower_row-in-ToLower.ensures memory

pub returns-in-Exit : goal.returns-in-Exit
returns-in-Exit c memory =
    let at = λ (row : Plain). let e : Effect = answers memory row (type_of c.args.types.now c.args.result_type.0) c.args.arguments.now c.args.word in e in
    ap at c.in-Exit.is ∙ c.exit_row.ensures memory

pub returns-in-Abort : goal.returns-in-Abort
returns-in-Abort c memory =
    let at = λ (row : Plain). let e : Effect = answers memory row (type_of c.args.types.now c.args.result_type.0) c.args.arguments.now c.args.word in e in
    ap at c.in-Abort.is ∙ c.abort_row.ensures memory
