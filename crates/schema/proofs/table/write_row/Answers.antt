use Rattle.std.proofs.Common.{◌*◌}
use Rattle.schema.proofs.Rows.{four_set, row_written}
use Rattle.schema.proofs.table.write_row.Goals as goal

pub returns : goal.returns
returns c = row_written c.args.table.now _ _ c.args.index _ _ _ c.requires (four_set c.args.table.now (4 * c.args.index) _ _ _ _ c.requires) c.from.ensures c.row_of.ensures
