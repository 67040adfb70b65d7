use Rattle.parsed_tree_laws.proofs.sense_laws.row_trees.Expressions.{primary_rows, post_rows, prefixed_rows, sized_of, cast_row_rows, conditional_rows, assignment_rows, binary_rows}
use Rattle.parsed_tree_laws.proofs.sense_laws.row_trees.laws.rows_kept.Goals as goal

pub returns : goal.returns
returns c = λ w s sense rows. record {
  primaries = primary_rows w s sense rows;
  posts = post_rows w s sense rows;
  prefixes = prefixed_rows w s sense rows;
  sizes = sized_of w s sense rows;
  casts = cast_row_rows w s sense rows;
  choices = conditional_rows w s sense rows;
  assignments = assignment_rows w s sense rows;
  chains = binary_rows w s sense rows;
}
