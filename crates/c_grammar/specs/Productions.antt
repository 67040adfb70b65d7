-- The productions of the grammar by name. The first 48 are the productions of C11's phrase structure that make a
-- node; the others are parts of their rows.
use Rattle.std.specs.Prelude.{ℕ}

abbrev pub p_unit : ℕ
p_unit = 0

abbrev pub p_external : ℕ
p_external = 1

abbrev pub p_rest : ℕ
p_rest = 2

abbrev pub p_declaration : ℕ
p_declaration = 3

abbrev pub p_assert : ℕ
p_assert = 4

abbrev pub p_asm_name : ℕ
p_asm_name = 5

abbrev pub p_specs : ℕ
p_specs = 6

abbrev pub p_storage : ℕ
p_storage = 7

abbrev pub p_function : ℕ
p_function = 8

abbrev pub p_qualifier : ℕ
p_qualifier = 9

abbrev pub p_align : ℕ
p_align = 10

abbrev pub p_type : ℕ
p_type = 11

abbrev pub p_struct : ℕ
p_struct = 12

abbrev pub p_members : ℕ
p_members = 13

abbrev pub p_member : ℕ
p_member = 14

abbrev pub p_field : ℕ
p_field = 15

abbrev pub p_enum : ℕ
p_enum = 16

abbrev pub p_enumerators : ℕ
p_enumerators = 17

abbrev pub p_enumerator : ℕ
p_enumerator = 18

abbrev pub p_declarator : ℕ
p_declarator = 19

abbrev pub p_abstract : ℕ
p_abstract = 20

abbrev pub p_either : ℕ
p_either = 21

abbrev pub p_suffix : ℕ
p_suffix = 22

abbrev pub p_parameter : ℕ
p_parameter = 23

abbrev pub p_type_name : ℕ
p_type_name = 24

abbrev pub p_init : ℕ
p_init = 25

abbrev pub p_items : ℕ
p_items = 26

abbrev pub p_item : ℕ
p_item = 27

abbrev pub p_designator : ℕ
p_designator = 28

abbrev pub p_block : ℕ
p_block = 29

abbrev pub p_statement : ℕ
p_statement = 30

abbrev pub p_expression : ℕ
p_expression = 31

abbrev pub p_assignment : ℕ
p_assignment = 32

abbrev pub p_conditional : ℕ
p_conditional = 33

abbrev pub p_logical_or : ℕ
p_logical_or = 34

abbrev pub p_logical_and : ℕ
p_logical_and = 35

abbrev pub p_inclusive_or : ℕ
p_inclusive_or = 36

abbrev pub p_exclusive_or : ℕ
p_exclusive_or = 37

abbrev pub p_and : ℕ
p_and = 38

abbrev pub p_equality : ℕ
p_equality = 39

abbrev pub p_relational : ℕ
p_relational = 40

abbrev pub p_shift : ℕ
p_shift = 41

abbrev pub p_additive : ℕ
p_additive = 42

abbrev pub p_multiplicative : ℕ
p_multiplicative = 43

abbrev pub p_cast : ℕ
p_cast = 44

abbrev pub p_unary : ℕ
p_unary = 45

abbrev pub p_post : ℕ
p_post = 46

abbrev pub p_primary : ℕ
p_primary = 47

abbrev pub p_nothing : ℕ
p_nothing = 48

abbrev pub p_just_semicolon : ℕ
p_just_semicolon = 49

abbrev pub p_unit_item_1 : ℕ
p_unit_item_1 = 50

abbrev pub p_unit_item : ℕ
p_unit_item = 51

abbrev pub p_external_names : ℕ
p_external_names = 52

abbrev pub p_body : ℕ
p_body = 53

abbrev pub p_initialised : ℕ
p_initialised = 54

abbrev pub p_more_names : ℕ
p_more_names = 55

abbrev pub p_declaration_names : ℕ
p_declaration_names = 56

abbrev pub p_declared_names : ℕ
p_declared_names = 57

abbrev pub p_just_text : ℕ
p_just_text = 58

abbrev pub p_early_2 : ℕ
p_early_2 = 59

abbrev pub p_early_1 : ℕ
p_early_1 = 60

abbrev pub p_early : ℕ
p_early = 61

abbrev pub p_more_type : ℕ
p_more_type = 62

abbrev pub p_later : ℕ
p_later = 63

abbrev pub p_just_typedef : ℕ
p_just_typedef = 64

abbrev pub p_just_extern : ℕ
p_just_extern = 65

abbrev pub p_just_static : ℕ
p_just_static = 66

abbrev pub p_just_auto : ℕ
p_just_auto = 67

abbrev pub p_just_register : ℕ
p_just_register = 68

abbrev pub p_storage_3 : ℕ
p_storage_3 = 69

abbrev pub p_storage_2 : ℕ
p_storage_2 = 70

abbrev pub p_storage_1 : ℕ
p_storage_1 = 71

abbrev pub p_just_inline : ℕ
p_just_inline = 72

abbrev pub p_just_noreturn : ℕ
p_just_noreturn = 73

abbrev pub p_just_const : ℕ
p_just_const = 74

abbrev pub p_just_volatile : ℕ
p_just_volatile = 75

abbrev pub p_just_restrict : ℕ
p_just_restrict = 76

abbrev pub p_qualifier_1 : ℕ
p_qualifier_1 = 77

abbrev pub p_floating_name : ℕ
p_floating_name = 78

abbrev pub p_typedef_name : ℕ
p_typedef_name = 79

abbrev pub p_just_void : ℕ
p_just_void = 80

abbrev pub p_just_char : ℕ
p_just_char = 81

abbrev pub p_just_short : ℕ
p_just_short = 82

abbrev pub p_just_int : ℕ
p_just_int = 83

abbrev pub p_just_long : ℕ
p_just_long = 84

abbrev pub p_just_float : ℕ
p_just_float = 85

abbrev pub p_just_double : ℕ
p_just_double = 86

abbrev pub p_just_signed : ℕ
p_just_signed = 87

abbrev pub p_just_unsigned : ℕ
p_just_unsigned = 88

abbrev pub p_just_bool : ℕ
p_just_bool = 89

abbrev pub p_type_12 : ℕ
p_type_12 = 90

abbrev pub p_type_11 : ℕ
p_type_11 = 91

abbrev pub p_type_10 : ℕ
p_type_10 = 92

abbrev pub p_type_9 : ℕ
p_type_9 = 93

abbrev pub p_type_8 : ℕ
p_type_8 = 94

abbrev pub p_type_7 : ℕ
p_type_7 = 95

abbrev pub p_type_6 : ℕ
p_type_6 = 96

abbrev pub p_type_5 : ℕ
p_type_5 = 97

abbrev pub p_type_4 : ℕ
p_type_4 = 98

abbrev pub p_type_3 : ℕ
p_type_3 = 99

abbrev pub p_type_2 : ℕ
p_type_2 = 100

abbrev pub p_type_1 : ℕ
p_type_1 = 101

abbrev pub p_just_struct : ℕ
p_just_struct = 102

abbrev pub p_just_union : ℕ
p_just_union = 103

abbrev pub p_struct_tag : ℕ
p_struct_tag = 104

abbrev pub p_member_1 : ℕ
p_member_1 = 105

abbrev pub p_member_fields : ℕ
p_member_fields = 106

abbrev pub p_fields : ℕ
p_fields = 107

abbrev pub p_more_fields : ℕ
p_more_fields = 108

abbrev pub p_width : ℕ
p_width = 109

abbrev pub p_field_name : ℕ
p_field_name = 110

abbrev pub p_enum_tag : ℕ
p_enum_tag = 111

abbrev pub p_just_comma : ℕ
p_just_comma = 112

abbrev pub p_more_enumerators : ℕ
p_more_enumerators = 113

abbrev pub p_enumerator_value : ℕ
p_enumerator_value = 114

abbrev pub p_star : ℕ
p_star = 115

abbrev pub p_just_ident : ℕ
p_just_ident = 116

abbrev pub p_inner_declarator : ℕ
p_inner_declarator = 117

abbrev pub p_inner_abstract : ℕ
p_inner_abstract = 118

abbrev pub p_inner_either : ℕ
p_inner_either = 119

abbrev pub p_either_1 : ℕ
p_either_1 = 120

abbrev pub p_array_suffix : ℕ
p_array_suffix = 121

abbrev pub p_array_word : ℕ
p_array_word = 122

abbrev pub p_any_length : ℕ
p_any_length = 123

abbrev pub p_array_length : ℕ
p_array_length = 124

abbrev pub p_list_suffix : ℕ
p_list_suffix = 125

abbrev pub p_parameters : ℕ
p_parameters = 126

abbrev pub p_more_parameters : ℕ
p_more_parameters = 127

abbrev pub p_further : ℕ
p_further = 128

abbrev pub p_braced_items : ℕ
p_braced_items = 129

abbrev pub p_some_items : ℕ
p_some_items = 130

abbrev pub p_more_items : ℕ
p_more_items = 131

abbrev pub p_designators : ℕ
p_designators = 132

abbrev pub p_member_designator : ℕ
p_member_designator = 133

abbrev pub p_index_designator : ℕ
p_index_designator = 134

abbrev pub p_range_end : ℕ
p_range_end = 135

abbrev pub p_block_item : ℕ
p_block_item = 136

abbrev pub p_block_declaration : ℕ
p_block_declaration = 137

abbrev pub p_label : ℕ
p_label = 138

abbrev pub p_case : ℕ
p_case = 139

abbrev pub p_case_end : ℕ
p_case_end = 140

abbrev pub p_default_case : ℕ
p_default_case = 141

abbrev pub p_inner_statement : ℕ
p_inner_statement = 142

abbrev pub p_if_statement : ℕ
p_if_statement = 143

abbrev pub p_else_part : ℕ
p_else_part = 144

abbrev pub p_switch_statement : ℕ
p_switch_statement = 145

abbrev pub p_while_statement : ℕ
p_while_statement = 146

abbrev pub p_do_statement : ℕ
p_do_statement = 147

abbrev pub p_for_statement : ℕ
p_for_statement = 148

abbrev pub p_goto_statement : ℕ
p_goto_statement = 149

abbrev pub p_continue_statement : ℕ
p_continue_statement = 150

abbrev pub p_break_statement : ℕ
p_break_statement = 151

abbrev pub p_return_statement : ℕ
p_return_statement = 152

abbrev pub p_expression_statement : ℕ
p_expression_statement = 153

abbrev pub p_statement_12 : ℕ
p_statement_12 = 154

abbrev pub p_statement_11 : ℕ
p_statement_11 = 155

abbrev pub p_statement_10 : ℕ
p_statement_10 = 156

abbrev pub p_statement_9 : ℕ
p_statement_9 = 157

abbrev pub p_statement_8 : ℕ
p_statement_8 = 158

abbrev pub p_statement_7 : ℕ
p_statement_7 = 159

abbrev pub p_statement_6 : ℕ
p_statement_6 = 160

abbrev pub p_statement_5 : ℕ
p_statement_5 = 161

abbrev pub p_statement_4 : ℕ
p_statement_4 = 162

abbrev pub p_statement_3 : ℕ
p_statement_3 = 163

abbrev pub p_statement_2 : ℕ
p_statement_2 = 164

abbrev pub p_statement_1 : ℕ
p_statement_1 = 165

abbrev pub p_more_expressions : ℕ
p_more_expressions = 166

abbrev pub p_assigned : ℕ
p_assigned = 167

abbrev pub p_just_assign : ℕ
p_just_assign = 168

abbrev pub p_just_multiply_assign : ℕ
p_just_multiply_assign = 169

abbrev pub p_just_divide_assign : ℕ
p_just_divide_assign = 170

abbrev pub p_just_remainder_assign : ℕ
p_just_remainder_assign = 171

abbrev pub p_just_add_assign : ℕ
p_just_add_assign = 172

abbrev pub p_just_subtract_assign : ℕ
p_just_subtract_assign = 173

abbrev pub p_just_shift_left_assign : ℕ
p_just_shift_left_assign = 174

abbrev pub p_just_shift_right_assign : ℕ
p_just_shift_right_assign = 175

abbrev pub p_just_and_assign : ℕ
p_just_and_assign = 176

abbrev pub p_just_xor_assign : ℕ
p_just_xor_assign = 177

abbrev pub p_just_or_assign : ℕ
p_just_or_assign = 178

abbrev pub p_assign_op_9 : ℕ
p_assign_op_9 = 179

abbrev pub p_assign_op_8 : ℕ
p_assign_op_8 = 180

abbrev pub p_assign_op_7 : ℕ
p_assign_op_7 = 181

abbrev pub p_assign_op_6 : ℕ
p_assign_op_6 = 182

abbrev pub p_assign_op_5 : ℕ
p_assign_op_5 = 183

abbrev pub p_assign_op_4 : ℕ
p_assign_op_4 = 184

abbrev pub p_assign_op_3 : ℕ
p_assign_op_3 = 185

abbrev pub p_assign_op_2 : ℕ
p_assign_op_2 = 186

abbrev pub p_assign_op_1 : ℕ
p_assign_op_1 = 187

abbrev pub p_assign_op : ℕ
p_assign_op = 188

abbrev pub p_arms : ℕ
p_arms = 189

abbrev pub p_more_logical_or : ℕ
p_more_logical_or = 190

abbrev pub p_more_logical_and : ℕ
p_more_logical_and = 191

abbrev pub p_more_inclusive_or : ℕ
p_more_inclusive_or = 192

abbrev pub p_more_exclusive_or : ℕ
p_more_exclusive_or = 193

abbrev pub p_more_and : ℕ
p_more_and = 194

abbrev pub p_just_equal : ℕ
p_just_equal = 195

abbrev pub p_just_not_equal : ℕ
p_just_not_equal = 196

abbrev pub p_more_equality : ℕ
p_more_equality = 197

abbrev pub p_just_less : ℕ
p_just_less = 198

abbrev pub p_just_greater : ℕ
p_just_greater = 199

abbrev pub p_just_less_equal : ℕ
p_just_less_equal = 200

abbrev pub p_just_greater_equal : ℕ
p_just_greater_equal = 201

abbrev pub p_op_relational_2 : ℕ
p_op_relational_2 = 202

abbrev pub p_op_relational_1 : ℕ
p_op_relational_1 = 203

abbrev pub p_more_relational : ℕ
p_more_relational = 204

abbrev pub p_just_shift_left : ℕ
p_just_shift_left = 205

abbrev pub p_just_shift_right : ℕ
p_just_shift_right = 206

abbrev pub p_more_shift : ℕ
p_more_shift = 207

abbrev pub p_just_plus : ℕ
p_just_plus = 208

abbrev pub p_just_minus : ℕ
p_just_minus = 209

abbrev pub p_more_additive : ℕ
p_more_additive = 210

abbrev pub p_just_star : ℕ
p_just_star = 211

abbrev pub p_just_slash : ℕ
p_just_slash = 212

abbrev pub p_just_percent : ℕ
p_just_percent = 213

abbrev pub p_op_multiplicative_1 : ℕ
p_op_multiplicative_1 = 214

abbrev pub p_more_multiplicative : ℕ
p_more_multiplicative = 215

abbrev pub p_typed_cast : ℕ
p_typed_cast = 216

abbrev pub p_literal_rest : ℕ
p_literal_rest = 217

abbrev pub p_just_increment : ℕ
p_just_increment = 218

abbrev pub p_just_decrement : ℕ
p_just_decrement = 219

abbrev pub p_just_ampersand : ℕ
p_just_ampersand = 220

abbrev pub p_just_tilde : ℕ
p_just_tilde = 221

abbrev pub p_just_exclamation : ℕ
p_just_exclamation = 222

abbrev pub p_prefix_6 : ℕ
p_prefix_6 = 223

abbrev pub p_prefix_5 : ℕ
p_prefix_5 = 224

abbrev pub p_prefix_4 : ℕ
p_prefix_4 = 225

abbrev pub p_prefix_3 : ℕ
p_prefix_3 = 226

abbrev pub p_prefix_2 : ℕ
p_prefix_2 = 227

abbrev pub p_prefix_1 : ℕ
p_prefix_1 = 228

abbrev pub p_prefixed : ℕ
p_prefixed = 229

abbrev pub p_sized : ℕ
p_sized = 230

abbrev pub p_typed_size : ℕ
p_typed_size = 231

abbrev pub p_aligned : ℕ
p_aligned = 232

abbrev pub p_postfixed : ℕ
p_postfixed = 233

abbrev pub p_unary_2 : ℕ
p_unary_2 = 234

abbrev pub p_unary_1 : ℕ
p_unary_1 = 235

abbrev pub p_index : ℕ
p_index = 236

abbrev pub p_call : ℕ
p_call = 237

abbrev pub p_arguments : ℕ
p_arguments = 238

abbrev pub p_dot : ℕ
p_dot = 239

abbrev pub p_arrow : ℕ
p_arrow = 240

abbrev pub p_post_4 : ℕ
p_post_4 = 241

abbrev pub p_post_3 : ℕ
p_post_3 = 242

abbrev pub p_post_2 : ℕ
p_post_2 = 243

abbrev pub p_post_1 : ℕ
p_post_1 = 244

abbrev pub p_texts : ℕ
p_texts = 245

abbrev pub p_enclosed : ℕ
p_enclosed = 246

abbrev pub p_just_integer : ℕ
p_just_integer = 247

abbrev pub p_just_character : ℕ
p_just_character = 248

abbrev pub p_primary_3 : ℕ
p_primary_3 = 249

abbrev pub p_primary_2 : ℕ
p_primary_2 = 250

abbrev pub p_primary_1 : ℕ
p_primary_1 = 251

abbrev pub p_list_call : ℕ
p_list_call = 252

abbrev pub p_list_pair_call : ℕ
p_list_pair_call = 253

abbrev pub p_list_argument_call : ℕ
p_list_argument_call = 254

abbrev pub p_list_end_call : ℕ
p_list_end_call = 255

abbrev pub p_list_call_1 : ℕ
p_list_call_1 = 256

abbrev pub p_named_primary : ℕ
p_named_primary = 257
