pub use Rattle.c_senses.specs.Tags.{laid, is_union, aggregate_type, members_in_sense, named_tag, tag_fits, bits_in}
pub use Rattle.c_senses.specs.Tags.{width_fits, members_among, struct_type, struct_row, enum_row, unnamed_member}
pub use Rattle.c_senses.specs.Tags.{member_specs, member_declaration, field_name, is_new_name, named_field}
pub use Rattle.c_senses.specs.Tags.{bit_field, field_typed, field_of, field_row, before_enumerator, value_before}
pub use Rattle.c_senses.specs.Tags.{enumerator_of, enumerator_named, enumerator_row}
