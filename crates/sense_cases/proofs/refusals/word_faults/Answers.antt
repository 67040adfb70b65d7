use Rattle.std.proofs.Common.{refl}
use Rattle.sense_cases.proofs.Computing.{computing}
use Rattle.sense_cases.proofs.refusals.word_faults.Goals as goal

pub returns : goal.returns
unfolding computing
returns c = record {
  two_storages = refl;
  auto_at_file = refl;
  static_parameter = refl;
  inline_object = refl;
  typedef_initialised = refl;
  block_extern_initialised = refl;
  block_static_function = refl;
  for_static = refl;
  storage_in_member = refl;
  storage_in_type_name = refl;
  inline_alone = refl;
  external_then_static = refl;
  function_then_static = refl;
  extern_inline = refl;
  typedef_defined = refl;
  incomplete_result = refl;
  incomplete_parameter = refl;
}
