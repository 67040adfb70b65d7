-- Each example, computed.
use Rattle.std.specs.Prelude.{refl}
use Rattle.c_inits.specs.Examples.{ScalarExamples, ArrayExamples, StructureExamples, ReplacementExamples, UnionExamples, TextExamples}

pub scalar_examples : ScalarExamples
scalar_examples = record { plain = refl; in_braces = refl; empty = refl; braced_twice = refl; one_too_many = refl; no_member = refl }

pub array_examples : ArrayExamples
array_examples = record { omitted_braces = refl; one_too_many = refl; goes_on = refl; replaced = refl; greatest = refl; deep_designator = refl; braces_for_a_scalar = refl; past_the_end = refl; empty_elements = refl; empty = refl; expression = refl }

pub structure_examples : StructureExamples
structure_examples = record { omitted_braces = refl; whole_member = refl; goes_on = refl; unnamed = refl; second_of_union = refl; too_many_inside = refl; other_type = refl; passes_empty = refl; takes_empty = refl }

pub replacement_examples : ReplacementExamples
replacement_examples = record { by_braces = refl; by_whole = refl; by_part = refl }

pub union_examples : UnionExamples
union_examples = record { second_member = refl; one_too_many = refl }

pub text_examples : TextExamples
text_examples = record { alone = refl; in_braces = refl; without_zero = refl; too_long = refl; not_alone = refl; character_replaced = refl; string_replaced = refl; member = refl; characters = refl }
