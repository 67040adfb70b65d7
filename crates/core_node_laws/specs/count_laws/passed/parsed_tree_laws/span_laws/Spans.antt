pub use Rattle.parsed_tree_laws.specs.span_laws.Spans.{Spans, Runs, over, no_more, one_more, Spanned}
