use Rattle.da_passdb.proofs.Standings.{cursor_tells}
use Rattle.da_passdb.proofs.cursor.Cursor.at.Goals as goal

pub returns : goal.returns
returns c = cursor_tells c.tell.result c.args.dbs.now c.args.self.now c.tell.ensures
