-- What is seen in the units that are read.
use Rattle.std.proofs.Common.{refl}
use Rattle.c_senses.specs.Names.{source_of, names_of, numbered}
use Rattle.core_node_laws.proofs.count_laws.passed.parsed_tree_laws.span_laws.Whole.{units_are_spanned}
use Rattle.declaration_laws.proofs.declared_type_laws.owner_laws.passed.definition_laws.scope_laws.Whole.{names_declared_once}
use Rattle.core_node_laws.proofs.count_laws.passed.parsed_tree_laws.sign_parts.Reading.{units_bring}
use Rattle.declaration_laws.proofs.declared_type_laws.owner_laws.passed.definition_laws.linkage_laws.Reading.{tree_is}
use Rattle.declaration_laws.proofs.declared_type_laws.seen_onward.Reading.{shape}
use Rattle.declaration_laws.specs.declared_type_laws.linked_scopes.Scoped.{LinkedScoped}
use Rattle.declaration_laws.proofs.declared_type_laws.linked_scopes.Whole.{scoped}

pub linked_scoped : LinkedScoped
unfolding source_of names_of
linked_scoped tokens unit tree tag_number cut is =
    let s = numbered tag_number (source_of tokens tree) in
    let t = tree_is tokens unit tree is tag_number in
    scoped s t (shape s t (units_are_spanned tokens unit tree tag_number is) (units_bring tokens unit tree tag_number is))
    (names_declared_once tokens tree tag_number (record { before = t.grown.before; single = t.grown.once; externals = t.nested.externals; units = t.nested.units })) refl
