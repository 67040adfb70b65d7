-- A row of the code as a row of the table.
use Rattle.lib_summaries.specs.declared.table.Row.{Row as CodeRow}
use Rattle.lib_summaries.specs.Table.{Row, row}

abbrev pub shown : CodeRow → Row
shown r = row r.name.now r.shape.now r.effects.now
