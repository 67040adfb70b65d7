use Rattle.std.proofs.Common.{◌++◌, length, ap, ◌∙◌}
use Rattle.c_types.specs.Table.{Table, extent_in}
use Rattle.ref_state.specs.ref_types.Types.{types_with, library_terms}
use Rattle.ref_state.proofs.ref_types.types.with_library_types.Goals as goal

pub returns-clause-table : goal.returns-clause-table
unfolding types_with
returns-clause-table c =
    c.in_ok-ids.ensures.longer.table
    ∙ ap (λ (x : Table). record x { terms = x.terms ++ library_terms (length x.terms) }) c.in_ok-table.ensures

pub returns-clause-extents : goal.returns-clause-extents
returns-clause-extents c =
    λ t. c.in_ok-ids.ensures.longer.extents t ∙ ap (λ (x : Table). extent_in x t) c.in_ok-table.ensures
