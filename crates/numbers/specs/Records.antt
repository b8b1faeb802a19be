-- What a cell record holds.
use Rattle.numbers.specs.declared.records.CellRecord.{CellRecord}
use Rattle.numbers.specs.declared.rows.Row.{Row}

abbrev pub row_of : CellRecord → Row
row_of r = r.row
