pub use Rattle.c_senses.specs.Objects.{is_returned, name_row, index_row, member_row, arrow_row, assign_row}
pub use Rattle.c_senses.specs.Objects.{assigned_op, update_row, call_row, cast_row, size_row, align_row}
pub use Rattle.c_senses.specs.Objects.{named_width, sized_expression, text_core, object_name, address_row}
pub use Rattle.c_senses.specs.Objects.{target_row, indirection_row, element_row, lacks_length, is_array}
pub use Rattle.c_senses.specs.Objects.{is_place_sort, member_node, member_step, part_at, along, is_assigned}
pub use Rattle.c_senses.specs.Objects.{moves_pointer, updated, update_sorts, count_of, takes_so_many, further}
pub use Rattle.c_senses.specs.Objects.{one_more, arguments, call_of, callee_row, size_number, align_in}
pub use Rattle.c_senses.specs.Objects.{further_value, start_row, copy_row, next_row, end_row, start_named, started}
pub use Rattle.c_senses.specs.Objects.{dropped, copied, is_list_place, last_named}
